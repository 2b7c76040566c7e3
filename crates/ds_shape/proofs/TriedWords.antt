-- Indices, the first words of globals and places, tried on small modules by hand.
use Rattle.std.proofs.Common.{◌≡◌, ◌+◌, ◌*◌, ℕ, List, [], ◌∷◌, Some, None, refl}
use Rattle.std.specs.Prelude.{codes, option_map}
use Rattle.ds_ast.specs.declared.name.Name.TheVariants.{Number, Text}
use Rattle.ds_ast.specs.declared.ty.Scalar.{Scalar}
use Rattle.ds_ast.specs.declared.ty.Scalar.TheVariants.{I8, I16, I32, I64, Ptr}
use Rattle.ds_ast.specs.declared.ty.Ty.{Ty}
use Rattle.ds_ast.specs.declared.ty.Ty as ty
use Rattle.ds_ast.specs.declared.ty.Ty.TheBlock.{hidden-the_row-Ty-0}
use Rattle.ds_ast.specs.declared.init.Init.TheBlock.{hidden-the_row-Init-0}
use denote.Hole.Carrier.{hidden}
use Rattle.ds_ast.specs.declared.value.Value.{Value}
use Rattle.ds_ast.specs.declared.value.Value.TheVariants.{Int, Undef, Local, Global}
use Rattle.ds_ast.specs.declared.operand.Operand.{Operand}
use Rattle.ds_ast.specs.declared.init.Init.{Init}
use Rattle.ds_ast.specs.declared.init.Init as init
use Rattle.ds_ast.specs.declared.module.GlobalDef.{GlobalDef}
use Rattle.ds_shape.specs.Sizes.{extent_of, offset_of}
use Rattle.ds_shape.specs.Address.{Step, address_steps, type_behind, bytes_added}
use Rattle.ds_shape.specs.Image.{zeros, location_of, image_of}
use Rattle.ds_shape.specs.Site.{Site, function_number, global_number, instruction_at, instruction_number, front_phis}
use Rattle.ds_shape.proofs.Tried.{named, extent, table}
use Rattle.ds_shape.proofs.TriedModule.{whole, main, join, left, show}

-- SIZES: %5 = { i8, %4, i1 }, %4 = { %1, ptr, [2 x %3] }, %3 = { i8, i16 }, %1 = { i32, i8 }

its_extent : extent_of table (named 5) ≡ Some (extent 40 8)
unfolding hidden-the_row-Ty-0 hidden
its_extent = refl

its_offset : offset_of table (Number 5) 2 ≡ Some 32
unfolding hidden-the_row-Ty-0 hidden
its_offset = refl

no_line : extent_of table (named 7) ≡ None
no_line = refl

-- INDICES

abbrev index : Scalar → Value → Operand
index s v = record { ty = s; value = v }

-- the third %5, its field 1 at 8, the field 2 of that at 16, there the element 1 of 4 bytes, and of it the field 1 at
-- 2
abbrev into_the_array : List Operand
into_the_array = index I64 (Local (Number 0)) ∷ index I32 (Int 1) ∷ index I32 (Int 2) ∷ index I8 (Local (Number 1)) ∷
    index I32 (Int 1) ∷ []

leads_to : option_map (type_behind (named 5)) (address_steps table (named 5) into_the_array) ≡ Some (ty.One I16)
unfolding hidden-the_row-Ty-0 hidden
leads_to = refl

adds : option_map (λ (ss : List Step). bytes_added ss (3 ∷ 1 ∷ 2 ∷ 1 ∷ 1 ∷ []))
    (address_steps table (named 5) into_the_array) ≡ Some 150
unfolding hidden-the_row-Ty-0 hidden
adds = refl

-- a field is named by a literal of i32 alone, and there is none behind the last
field_by_long : address_steps table (named 3) (index I64 (Int 0) ∷ index I64 (Int 1) ∷ []) ≡ None
field_by_long = refl

no_third_field : address_steps table (named 3) (index I64 (Int 0) ∷ index I32 (Int 2) ∷ []) ≡ None
no_third_field = refl

-- GLOBALS

abbrev global : ℕ → Ty → Init → GlobalDef
global n t i = record { name = Number n; ty = t; init = i }

abbrev word : ℕ → Init
word n = init.Word (Int n)

-- { i8 1, i16 513 } is 01 00 01 02, and { i32 -1, i8 7 } is ff ff ff ff 07 00 00 00
abbrev small : Init
small = init.Fields (word 1 ∷ word 513 ∷ [])

abbrev globals : List GlobalDef
globals =
    global 0 (named 3) small
    ∷ global 1 (ty.One I8) (word 255)
    ∷ global 2 (ty.Array 3 (named 3)) (init.Array (init.Zero ∷ small ∷ small ∷ []))
    ∷ global 3 (named 2) init.Zero
    ∷ global 4 (named 1) (init.Fields (word 4294967295 ∷ word 7 ∷ []))
    ∷ global 5 (ty.One Ptr) (init.Word (Global (Number 2)))
    ∷ global 6 (ty.One I64) (init.Word Undef)
    ∷ []

-- the address of a location
abbrev address : ℕ → ℕ
address location = 4096 + 8 * location

-- the struct of no bytes takes no word
seventh_is_at : location_of table globals (Number 6) ≡ Some 6
unfolding hidden-the_row-Ty-0 hidden
seventh_is_at = refl

their_words : image_of address (record { structs = table; globals = globals; functions = [] })
    ≡ 0x02010001 ∷ 255 ∷ 0x0201000100000000 ∷ 0x02010001 ∷ 0x7ffffffff ∷ 4112 ∷ 0 ∷ []
unfolding hidden-the_row-Ty-0 hidden-the_row-Init-0 hidden zeros
their_words = refl

-- PLACES

abbrev the_call : Site
the_call = record { function = 0; block = 2; index = 1 }

prints : instruction_at whole the_call ≡ Some show
prints = refl

seventh : instruction_number main the_call ≡ 7
seventh = refl

declared_too : function_number whole (Text (codes "print_i64")) ≡ Some 1
declared_too = refl

no_function : function_number whole (Text (codes "g")) ≡ None
no_function = refl

first_global : global_number whole (Text (codes "g")) ≡ Some 0
first_global = refl

one_phi : front_phis join ≡ 1
one_phi = refl

no_phi : front_phis left ≡ 0
no_phi = refl
