-- The definition of the bounds, tried on small modules: which are within them and which are not.
use Rattle.std.proofs.Common.{◌≡◌, ◌^◌, ◌<◌, ◌≤◌, ℕ, zero, suc, List, [], ◌∷◌, Some, None, refl, sym, lit<, lit≤}
use Rattle.std.proofs.Common.{true≢false, arith}
use Rattle.std.specs.Prelude.{All}
use Rattle.std.proofs.lemmas.List.Elements.{All-cons, All-head}
use Rattle.ds_ast.specs.declared.name.Name.TheVariants.{Number}
use Rattle.ds_ast.specs.declared.ty.Scalar.{Scalar}
use Rattle.ds_ast.specs.declared.ty.Scalar.TheVariants.{I1, I8, I32}
use Rattle.ds_ast.specs.declared.ty.Ty.{Ty}
use Rattle.ds_ast.specs.declared.ty.Ty as ty
use Rattle.ds_ast.specs.declared.value.Value.{Value}
use Rattle.ds_ast.specs.declared.value.Value.TheVariants.{Int, Null, Undef, Local}
use Rattle.ds_ast.specs.declared.operand.Operand.{Operand}
use Rattle.ds_ast.specs.declared.instr.Op.{Op}
use Rattle.ds_ast.specs.declared.words.BinOp.TheVariants.{Add}
use Rattle.ds_ast.specs.declared.instr.Op.TheVariants.{Bin, Call, Phi, Extract, Store, Fence, Ret, Switch, Unreachable}
use Rattle.ds_ast.specs.declared.instr.Instr.{Instr}
use Rattle.ds_ast.specs.declared.init.Init.{Init}
use Rattle.ds_ast.specs.declared.init.Init as init
use Rattle.ds_ast.specs.declared.module.Module.{Module}
use Rattle.ds_ast.specs.declared.module.StructDef.{StructDef}
use Rattle.ds_ast.specs.declared.module.GlobalDef.{GlobalDef}
use Rattle.ds_ast.specs.declared.module.Function.{Function}
use Rattle.ds_ast.specs.declared.module.Param.{Param}
use Rattle.ds_ast.specs.declared.module.Block.{Block}
use Rattle.ds_ast.specs.declared.ty.Ty.TheBlock.{hidden-the_row-Ty-0}
use Rattle.ds_ast.specs.declared.init.Init.TheBlock.{hidden-the_row-Init-0}
use denote.Hole.Carrier.{hidden}
use Rattle.ds_ast.specs.Bounds.{IsName, IsType, counts, innermost, IsNamed, IsCase, IsOp, IsInstr, IsBlock, IsCounted}
use Rattle.ds_ast.specs.Bounds.{IsFunction, brackets, Fits, IsStruct, IsGlobal, Bounds}

none : {X : Type 0} (P : X → Type 0) → All P []
none P k d h = grind arith

one : {X : Type 0} (P : X → Type 0) (x : X) → P x → All P (x ∷ [])
one P x p = All-cons P x [] p (none P)

two : {X : Type 0} (P : X → Type 0) (x y : X) → P x → P y → All P (x ∷ y ∷ [])
two P x y p q = All-cons P x (y ∷ []) p (one P y q)

abbrev IsParameter : Param → Type 0
IsParameter parameter = IsName parameter.name

abbrev IsCount : ℕ → Type 0
IsCount count = count ≤ 2 ^ 31

-- instructions and blocks named by numbers
abbrev named : ℕ → Op → Instr
named n op = record { result = Some (Number n); op = op }

abbrev unnamed : Op → Instr
unnamed op = record { result = None; op = op }

abbrev block : ℕ → List Instr → Block
block n code = record { name = Number n; code = code }

abbrev operand : Scalar → Value → Operand
operand s v = record { ty = s; value = v }

abbrev parameter : ℕ → Param
parameter n = record { name = Number n; ty = I32 }

-- %1: %2 = add i32 %0, 4294967295, then ret i32 %2
abbrev sum : Instr
sum = named 2 (Bin Add I32 (Local (Number 0)) (Int 4294967295))

abbrev return : Instr
return = unnamed (Ret (Some (operand I32 (Local (Number 2)))))

abbrev body : Block
body = block 1 (sum ∷ return ∷ [])

abbrev function : List Param → List Block → Function
function params blocks = record { name = Number 0; result = ty.One I32; params = params; blocks = blocks }

abbrev increment : Function
increment = function (parameter 0 ∷ []) (body ∷ [])

sum_is : IsInstr sum
sum_is = record { given = (lit< tt, lit< tt); has_name = refl; name = lit< tt }

return_is : IsInstr return
return_is = record { given = lit< tt; has_name = refl; name = tt }

body_is : IsBlock body
body_is = record { name = lit< tt; instructions = two IsInstr sum return sum_is return_is; ended = (refl, refl) }

scalar_is : (s : Scalar) → IsType (ty.One s)
scalar_is s = record { depth = lit≤ tt; elements = none IsCount; name = tt }

array_is : (n : ℕ) (s : Scalar) → n ≤ 2 ^ 31 → IsType (ty.Array n (ty.One s))
unfolding hidden-the_row-Ty-0 hidden-the_row-Init-0 hidden
array_is n s h = record { depth = lit≤ tt; elements = one IsCount n h; name = tt }

increment_is : IsFunction increment
increment_is = record {
  name = lit< tt;
  result = scalar_is I32;
  parameters = one IsParameter (parameter 0) (lit< tt);
  blocks = one IsBlock body body_is;
  counted = (lit≤ tt, (lit≤ tt, (lit≤ tt, tt)));
  declared = λ e. cc;
}

-- a declaration of two parameters
abbrev declaration : Function
declaration = function (parameter 0 ∷ parameter 1 ∷ []) []

declaration_is : IsFunction declaration
declaration_is = record {
  name = lit< tt;
  result = scalar_is I32;
  parameters = two IsParameter (parameter 0) (parameter 1) (lit< tt) (lit< tt);
  blocks = none IsBlock;
  counted = (lit≤ tt, (lit≤ tt, tt));
  declared = λ e. (refl, (refl, tt));
}

-- a struct of a byte and an array, and a global of it: { i8 255, [3 x i8] [i8 1, i8 2] }
abbrev bytes : Ty
bytes = ty.Array 3 (ty.One I8)

abbrev pair : StructDef
pair = record { name = Number 0; fields = ty.One I8 ∷ bytes ∷ [] }

abbrev words : Init
words = init.Array (init.Word (Int 1) ∷ init.Word (Int 2) ∷ [])

abbrev filled : GlobalDef
filled = record { name = Number 0; ty = ty.Struct (Number 0); init = init.Fields (init.Word (Int 255) ∷ words ∷ []) }

pair_is : IsStruct pair
unfolding hidden-the_row-Ty-0 hidden-the_row-Init-0 hidden
pair_is = record { name = lit< tt; fields = two IsType (ty.One I8) bytes (scalar_is I8) (array_is 3 I8 (lit≤ tt)) }

filled_is : IsGlobal (pair ∷ []) filled
unfolding hidden-the_row-Ty-0 hidden-the_row-Init-0 hidden
filled_is = record {
  name = lit< tt;
  of_type = record { depth = lit≤ tt; elements = none IsCount; name = lit< tt };
  depth = lit≤ tt;
  fits = ((tt, lit< tt), (((tt, lit< tt), ((tt, lit< tt), tt)), tt));
}

abbrev whole : Module
whole = record { structs = pair ∷ []; globals = filled ∷ []; functions = increment ∷ declaration ∷ [] }

whole_is : Bounds whole
unfolding hidden-the_row-Ty-0 hidden-the_row-Init-0 hidden
whole_is = record {
  structs = one IsStruct pair pair_is;
  globals = one (IsGlobal (pair ∷ [])) filled filled_is;
  functions = two IsFunction increment declaration increment_is declaration_is;
}

-- numbers that do not rise: the result is %1 behind the label %1
not_risen : IsFunction (function (parameter 0 ∷ [])
    (block 1 (named 1 (Bin Add I32 Undef Undef) ∷ unnamed Unreachable ∷ []) ∷ [])) → ⊥
not_risen is = let h : 2 ≤ 1 = is.counted.1.1.0 in omega (arith, h)

-- a parameter numbered behind the label: parameters come first
label_first : IsFunction (function (parameter 1 ∷ []) (block 0 (unnamed Unreachable ∷ []) ∷ [])) → ⊥
label_first is = let h : 2 ≤ 0 = is.counted.1.0 in omega (arith, h)

-- a gap between numbers is fine
with_a_gap : IsCounted 0 (0 ∷ 7 ∷ 8 ∷ [])
with_a_gap = (lit≤ tt, (lit≤ tt, (lit≤ tt, tt)))

-- a declaration that begins with the number 1
declared_late : IsFunction (function (parameter 1 ∷ []) []) → ⊥
declared_late is = let h : Number 1 ≡ Number 0 = (is.declared refl).0 in cc

-- blocks: none may be empty, go on behind a terminator or end without one
empty_block : IsBlock (block 0 []) → ⊥
empty_block is = is.ended

goes_on : IsBlock (block 0 (unnamed (Ret None) ∷ unnamed Unreachable ∷ [])) → ⊥
goes_on is = true≢false is.ended.0

no_end : IsBlock (block 0 (unnamed Fence ∷ [])) → ⊥
no_end is = true≢false (sym is.ended)

-- results: an add has one, a store and a void call have none
no_result : IsInstr (unnamed (Bin Add I32 Undef Undef)) → ⊥
no_result is = true≢false (sym is.has_name)

store_with_result : IsInstr (named 0 (Store I32 Undef Null)) → ⊥
store_with_result is = true≢false is.has_name

void_with_result : IsInstr (named 0 (Call ty.Void (Number 0) [])) → ⊥
void_with_result is = true≢false is.has_name

call_without : IsInstr (unnamed (Call (ty.One I1) (Number 0) [])) → ⊥
call_without is = true≢false (sym is.has_name)

-- literals, counts and depths
big_byte : IsOp (Store I8 (Int 256) Null) → ⊥
big_byte is = let h : 256 < 2 ^ 8 = is.0 in omega (arith, h)

big_truth : IsOp (Bin Add I1 (Int 2) Undef) → ⊥
big_truth is = let h : 2 < 2 ^ 1 = is.0 in omega (arith, h)

big_case : IsOp (Switch I8 Undef (Number 0) ((256, Number 1) ∷ [])) → ⊥
big_case is = let h : 256 < 2 ^ 8 = (All-head (IsCase I8) (256, Number 1) [] is.2).0 in omega (arith, h)

no_arms : IsOp (Phi I32 []) → ⊥
no_arms is = let h : 0 < 0 = is.0 in omega (arith, h)

third_part : IsOp (Extract I32 (Number 0) 2) → ⊥
third_part is = let h : 2 ≤ 1 = is.1 in omega (arith, h)

long_array : IsType (ty.Array 2147483649 (ty.One I8)) → ⊥
unfolding hidden-the_row-Ty-0 hidden-the_row-Init-0 hidden
long_array is = let h : 2147483649 ≤ 2 ^ 31 = All-head IsCount 2147483649 [] is.elements in omega (arith, h)

longest_array : IsType (ty.Array 2147483648 (ty.One I8))
unfolding hidden-the_row-Ty-0 hidden-the_row-Init-0 hidden
longest_array = array_is 2147483648 I8 (lit≤ tt)

-- that many arrays round void
abbrev nested : ℕ → Ty
nested zero = ty.Void
nested (suc n) = ty.Array 1 (nested n)

nested_counts : (n : ℕ) → All IsCount (counts (nested n))
unfolding hidden-the_row-Ty-0 hidden-the_row-Init-0 hidden
nested_counts zero = none IsCount
nested_counts (suc n) = All-cons IsCount 1 (counts (nested n)) (lit≤ tt) (nested_counts n)

nested_names : (n : ℕ) → IsNamed (innermost (nested n))
unfolding hidden-the_row-Ty-0 hidden-the_row-Init-0 hidden
nested_names zero = tt
nested_names (suc n) = nested_names n

deepest_type : IsType (nested 32)
unfolding hidden-the_row-Ty-0 hidden-the_row-Init-0 hidden
deepest_type = record { depth = lit≤ tt; elements = nested_counts 32; name = nested_names 32 }

too_deep_type : IsType (nested 33) → ⊥
unfolding hidden-the_row-Ty-0 hidden-the_row-Init-0 hidden
too_deep_type is = let h : 33 ≤ 32 = is.depth in omega (arith, h)

-- that many brackets round a zero
abbrev bracketed : ℕ → Init
bracketed zero = init.Zero
bracketed (suc n) = init.Array (bracketed n ∷ [])

deepest_init : brackets (bracketed 64) ≤ 64
unfolding hidden-the_row-Ty-0 hidden-the_row-Init-0 hidden
deepest_init = lit≤ tt

too_deep_init : brackets (bracketed 65) ≤ 64 → ⊥
unfolding hidden-the_row-Ty-0 hidden-the_row-Init-0 hidden
too_deep_init is = let h : 65 ≤ 64 = is in omega (arith, h)

-- an array may have too few elements and too many, and a number may have empty brackets
too_few : Fits [] bytes (init.Array [])
unfolding hidden-the_row-Ty-0 hidden-the_row-Init-0 hidden
too_few = tt

too_many : Fits [] (ty.Array 1 (ty.One I8)) words
unfolding hidden-the_row-Ty-0 hidden-the_row-Init-0 hidden
too_many = ((tt, lit< tt), ((tt, lit< tt), tt))

empty_brackets : Fits [] (ty.One I8) (init.Array [])
unfolding hidden-the_row-Ty-0 hidden-the_row-Init-0 hidden
empty_brackets = tt

-- a struct may have too few and not too many, and has a line
few_fields : Fits (pair ∷ []) (ty.Struct (Number 0)) (init.Fields [])
unfolding hidden-the_row-Ty-0 hidden-the_row-Init-0 hidden
few_fields = tt

many_fields : Fits (pair ∷ []) (ty.Struct (Number 0)) (init.Fields (init.Zero ∷ init.Zero ∷ init.Zero ∷ [])) → ⊥
unfolding hidden-the_row-Ty-0 hidden-the_row-Init-0 hidden
many_fields is = is.1.1

no_line : Fits (pair ∷ []) (ty.Struct (Number 1)) (init.Fields []) → ⊥
unfolding hidden-the_row-Ty-0 hidden-the_row-Init-0 hidden
no_line is = is

-- curly brackets with elements behind an array, a local value, and a literal that is too big for its place
curly_array : Fits [] bytes (init.Fields (init.Zero ∷ [])) → ⊥
unfolding hidden-the_row-Ty-0 hidden-the_row-Init-0 hidden
curly_array is = is

local_value : Fits [] (ty.One I8) (init.Word (Local (Number 0))) → ⊥
unfolding hidden-the_row-Ty-0 hidden-the_row-Init-0 hidden
local_value is = is.0

big_element : Fits [] bytes (init.Array (init.Word (Int 256) ∷ [])) → ⊥
unfolding hidden-the_row-Ty-0 hidden-the_row-Init-0 hidden
big_element is = let h : 256 < 2 ^ 8 = is.0.1 in omega (arith, h)
