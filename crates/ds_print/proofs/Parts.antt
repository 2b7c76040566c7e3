-- What is written of a type or an initialiser that is made of its parts, with lists for the elements.
use Rattle.std.proofs.Common.{◌≡◌, ℕ, suc, ◌+◌, ◌<◌, List, [], ◌∷◌, ◌++◌, length, take, get_or, slice_get, map, refl}
use Rattle.std.proofs.Common.{ap, sym, ◌∙◌, arith}
use Rattle.std.proofs.lemmas.List.{take_more, length-take-le}
use Rattle.std.specs.Prelude.{Option, Some}
use Rattle.ds_ast.specs.declared.ty.Ty.{Ty}
use Rattle.ds_ast.specs.declared.ty.Ty as ty
use Rattle.ds_ast.specs.declared.ty.Ty.TheBlock.{hidden-the_row-Ty-0}
use Rattle.ds_ast.specs.declared.init.Init.{Init}
use Rattle.ds_ast.specs.declared.init.Init as init
use Rattle.ds_ast.specs.declared.init.Init.TheBlock.{hidden-the_row-Init-0}
use Rattle.ds_ast.specs.declared.module.StructDef.{StructDef}
use denote.Hole.Carrier.{hidden}
use denote.Ref.{Bor}
use Rattle.std.specs.Option.{option_copied}
use Rattle.ds_lex.specs.Written.{Piece, written}
use Rattle.ds_ast.specs.Bounds.{element_type, field_types}
use Rattle.ds_ast.specs.Equations.{element_type-array}
use Rattle.ds_print.specs.Names.{space, word, punct, number}
use Rattle.ds_print.specs.Canonical.{type_pieces, element_front, or_void, or_none, first_type, more_types}
use Rattle.ds_print.specs.Canonical.{init_pieces, elements, more_elements, fields, more_fields, listed_behind_space}
use Rattle.ds_print.specs.Canonical.{more_listed}
use Rattle.ds_print.specs.Parts.{part_pieces, parts_in_order}

pub type_pieces_array : (n : ℕ) (of : Ty) → type_pieces (ty.Array n of)
    ≡ punct "[" ∷ number n ∷ space ∷ word "x" ∷ space ∷ type_pieces of ++ punct "]" ∷ []
unfolding hidden-the_row-Ty-0 hidden
type_pieces_array n of = refl

-- an array's text is that of its type
pub array_is_written : (n : ℕ) (of inside : Ty) (whole : Ty) (old new : List ℕ) → of ≡ inside
    → whole ≡ ty.Array n inside
    → new ≡ old ++ written (punct "[" ∷ number n ∷ space ∷ word "x" ∷ space ∷ type_pieces of ++ punct "]" ∷ [])
    → new ≡ old ++ written (type_pieces whole)
array_is_written n of inside whole old new same is e =
    e ∙ ap (λ (l : List Piece). old ++ written l)
    (sym (type_pieces_array n of) ∙ ap (λ (t : Ty). type_pieces (ty.Array n t)) same ∙ ap type_pieces (sym is))

-- the type of an array's elements
pub element_of : (n : ℕ) (of inside : Ty) (whole : Bor Ty) (given : Option (Bor Ty)) → of ≡ inside
    → whole.now ≡ ty.Array n inside → given ≡ Some whole → Some of ≡ element_type (or_void (option_copied given))
element_of n of inside whole given same is e =
    ap Some same ∙ sym (element_type-array n inside) ∙ ap element_type (sym is)
    ∙ ap (λ (o : Option (Bor Ty)). element_type (or_void (option_copied o))) (sym e)

-- the type in front of an element
pub front_is_written : (whole : Bor Ty) (given : Option (Bor Ty)) (old new : List ℕ) → given ≡ Some whole
    → new ≡ old ++ written (type_pieces whole.now ++ space ∷ [])
    → new ≡ old ++ written (element_front (option_copied given))
front_is_written whole given old new e p =
    p ∙ ap (λ (o : Option (Bor Ty)). old ++ written (element_front (option_copied o))) (sym e)

module _ (structs : List StructDef) where
  more-elements : (t : Option Ty) (parts : List Init)
      → more_elements structs t (hidden-the_row-Init-0 parts) ≡ more_listed (map (part_pieces structs t) parts)
  unfolding hidden-the_row-Init-0 hidden
  more-elements t [] = refl
  more-elements t (part ∷ parts) =
      ap (λ (l : List Piece). punct "," ∷ space ∷ element_front t ++ init_pieces structs (or_void t) part ++ l)
      (more-elements t parts)

  all-elements : (t : Option Ty) (parts : List Init)
      → elements structs t (hidden-the_row-Init-0 parts) ≡ listed_behind_space (map (part_pieces structs t) parts)
  unfolding hidden-the_row-Init-0 hidden
  all-elements t [] = refl
  all-elements t (part ∷ parts) =
      ap (λ (l : List Piece). space ∷ element_front t ++ init_pieces structs (or_void t) part ++ l)
      (more-elements t parts)

  more-fields : (ts : List Ty) (parts : List Init)
      → more_fields structs ts (hidden-the_row-Init-0 parts) ≡ more_listed (parts_in_order structs ts parts)
  unfolding hidden-the_row-Init-0 hidden
  more-fields ts [] = refl
  more-fields ts (part ∷ parts) =
      ap (λ (l : List Piece). punct "," ∷ space ∷ element_front (first_type ts)
      ++ init_pieces structs (or_void (first_type ts)) part ++ l) (more-fields (more_types ts) parts)

  all-fields : (ts : List Ty) (parts : List Init)
      → fields structs ts (hidden-the_row-Init-0 parts) ≡ listed_behind_space (parts_in_order structs ts parts)
  unfolding hidden-the_row-Init-0 hidden
  all-fields ts [] = refl
  all-fields ts (part ∷ parts) =
      ap (λ (l : List Piece). space ∷ element_front (first_type ts)
      ++ init_pieces structs (or_void (first_type ts)) part ++ l) (more-fields (more_types ts) parts)

  -- square brackets round the elements
  pub init_pieces_array : (t : Ty) (parts : List Init)
      → init_pieces structs t (init.Array parts) ≡ punct "[" ∷ listed_behind_space
      (map (part_pieces structs (element_type t)) parts) ++ space ∷ punct "]" ∷ []
  init_pieces_array t parts =
      ap (λ (l : List Piece). punct "[" ∷ l ++ space ∷ punct "]" ∷ []) (all-elements (element_type t) parts)

  -- curly brackets round the fields
  pub init_pieces_fields : (t : Ty) (parts : List Init)
      → init_pieces structs t (init.Fields parts) ≡ punct "{" ∷ listed_behind_space
      (parts_in_order structs (or_none (field_types structs t)) parts) ++ space ∷ punct "}" ∷ []
  init_pieces_fields t parts = ap (λ (l : List Piece). punct "{" ∷ l ++ space ∷ punct "}" ∷ [])
      (all-fields (or_none (field_types structs t)) parts)

  -- what is written in square brackets
  pub array_init : (t : Ty) (o : Option Ty) (parts inside : List Init) (whole : Init) (old new : List ℕ)
      → o ≡ element_type t → parts ≡ inside → whole ≡ init.Array inside
      → new ≡ old ++ written (punct "[" ∷ listed_behind_space (map (part_pieces structs o) parts)
      ++ space ∷ punct "]" ∷ []) → new ≡ old ++ written (init_pieces structs t whole)
  array_init t o parts inside whole old new same shown is e =
      e ∙ ap (λ (l : List Piece). old ++ written l)
      (ap (λ (q : Option Ty). punct "[" ∷ listed_behind_space (map (part_pieces structs q) parts)
      ++ space ∷ punct "]" ∷ []) same
      ∙ ap (λ (ps : List Init). punct "[" ∷ listed_behind_space (map (part_pieces structs (element_type t)) ps)
      ++ space ∷ punct "]" ∷ []) shown
      ∙ sym (init_pieces_array t inside) ∙ ap (init_pieces structs t) (sym is))

  -- what is written in curly brackets
  pub fields_init : (t : Ty) (types : List Ty) (parts inside : List Init) (whole : Init) (old new : List ℕ)
      → types ≡ or_none (field_types structs t) → parts ≡ inside → whole ≡ init.Fields inside
      → new ≡ old ++ written (punct "{" ∷ listed_behind_space (parts_in_order structs types parts)
      ++ space ∷ punct "}" ∷ []) → new ≡ old ++ written (init_pieces structs t whole)
  fields_init t types parts inside whole old new same shown is e =
      e ∙ ap (λ (l : List Piece). old ++ written l)
      (ap (λ (ts : List Ty). punct "{" ∷ listed_behind_space (parts_in_order structs ts parts)
      ++ space ∷ punct "}" ∷ []) same
      ∙ ap (λ (ps : List Init). punct "{" ∷ listed_behind_space
      (parts_in_order structs (or_none (field_types structs t)) ps) ++ space ∷ punct "}" ∷ []) shown
      ∙ sym (init_pieces_fields t inside) ∙ ap (init_pieces structs t) (sym is))

  first-get : (types : List Ty) → first_type types ≡ slice_get types 0
  first-get [] = refl
  first-get (t ∷ ts) = refl

  more-get : (types : List Ty) (n : ℕ) → slice_get (more_types types) n ≡ slice_get types (suc n)
  more-get [] n = refl
  more-get (t ∷ ts) n = refl

  order-more : (types : List Ty) (xs : List Init) (x : Init)
      → parts_in_order structs types (xs ++ x ∷ []) ≡ parts_in_order structs types xs
      ++ part_pieces structs (slice_get types (length xs)) x ∷ []
  order-more types [] x = ap (λ (o : Option Ty). part_pieces structs o x ∷ []) (first-get types)
  order-more types (y ∷ ys) x =
      ap (λ (l : List (List Piece)). part_pieces structs (first_type types) y ∷ l)
      (order-more (more_types types) ys x ∙ ap (λ (o : Option Ty). parts_in_order structs (more_types types) ys
      ++ part_pieces structs o x ∷ []) (more-get types (length ys)))

  -- one field more
  pub field_more : (types : List Ty) (parts : List Init) (i : ℕ) (x : Init) (o : Option Ty) → i < length parts
      → x ≡ get_or parts i x → o ≡ slice_get types i
      → parts_in_order structs types (take (i + 1) parts) ≡ parts_in_order structs types (take i parts)
      ++ part_pieces structs o x ∷ []
  field_more types parts i x o inside is given =
      ap (parts_in_order structs types) (take_more parts i x inside
      ∙ ap (λ (y : Init). take i parts ++ y ∷ []) (sym is)) ∙ order-more types (take i parts) x
      ∙ ap (λ (q : Option Ty). parts_in_order structs types (take i parts) ++ part_pieces structs q x ∷ [])
      (ap (slice_get types) (length-take-le i parts (omega (arith, inside))) ∙ sym given)

  order-count : (types : List Ty) (parts : List Init) → length (parts_in_order structs types parts) ≡ length parts
  order-count types [] = refl
  order-count types (part ∷ parts) = ap suc (order-count (more_types types) parts)

  -- so many fields
  pub field_count : (types : List Ty) (parts : List Init) (i : ℕ) → i < length parts
      → length (parts_in_order structs types (take i parts)) ≡ i
  field_count types parts i inside = order-count types (take i parts) ∙ length-take-le i parts (omega (arith, inside))
