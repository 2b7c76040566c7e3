-- What the bounds say of a type or an initialiser that is made of its parts, with lists for the elements.
use Rattle.std.specs.Prelude.{◌≡◌, ◌+◌, ◌↔◌, ℕ, max, List, [], ◌∷◌, map, refl, Option, Some, None}
use Rattle.std.proofs.Common.{ap}
use Rattle.ds_ast.specs.declared.ty.Ty.{Ty}
use Rattle.ds_ast.specs.declared.ty.Ty as ty
use Rattle.ds_ast.specs.declared.ty.Ty.TheBlock.{hidden-the_row-Ty-0}
use Rattle.ds_ast.specs.declared.init.Init.{Init}
use Rattle.ds_ast.specs.declared.init.Init as init
use Rattle.ds_ast.specs.declared.init.Init.TheBlock.{hidden-the_row-Init-0}
use Rattle.ds_ast.specs.declared.module.StructDef.{StructDef}
use denote.Hole.Carrier.{hidden}
use Rattle.ds_ast.specs.Bounds.{counts, innermost, element_type, field_types, brackets, most_brackets, Fits, FitAll}
use Rattle.ds_ast.specs.Bounds.{FitInOrder}

-- an array's counts are its own and those inside
pub counts-array : (n : ℕ) (of : Ty) → counts (ty.Array n of) ≡ n ∷ counts of
unfolding hidden-the_row-Ty-0 hidden
counts-array n of = refl

pub innermost-array : (n : ℕ) (of : Ty) → innermost (ty.Array n of) ≡ innermost of
unfolding hidden-the_row-Ty-0 hidden
innermost-array n of = refl

pub element_type-array : (n : ℕ) (of : Ty) → element_type (ty.Array n of) ≡ Some of
unfolding hidden-the_row-Ty-0 hidden
element_type-array n of = refl

-- the greatest of the numbers, or 0
abbrev pub greatest : List ℕ → ℕ
greatest [] = 0
greatest (n ∷ rest) = max n (greatest rest)

most-list : (parts : List Init) → most_brackets (hidden-the_row-Init-0 parts) ≡ greatest (map brackets parts)
unfolding hidden-the_row-Init-0 hidden
most-list [] = refl
most-list (part ∷ parts) = ap (max (brackets part)) (most-list parts)

-- the brackets open at once are one more than in the deepest element
pub brackets-array : (parts : List Init) → brackets (init.Array parts) ≡ greatest (map brackets parts) + 1
brackets-array parts = ap (λ n. n + 1) (most-list parts)

pub brackets-fields : (parts : List Init) → brackets (init.Fields parts) ≡ greatest (map brackets parts) + 1
brackets-fields parts = ap (λ n. n + 1) (most-list parts)

module _ (structs : List StructDef) where
  -- each element of the list fits the one type
  abbrev pub AllFit : Option Ty → List Init → Type 0
  AllFit of [] = Unit {0}
  AllFit None (part ∷ parts) = ⊥
  AllFit (Some of) (part ∷ parts) = Fits structs of part × AllFit (Some of) parts

  -- there are types, and each element of the list fits the one at its place
  abbrev pub FitTypes : Option (List Ty) → List Init → Type 0
  FitTypes None parts = ⊥
  FitTypes (Some types) [] = Unit {0}
  FitTypes (Some []) (part ∷ parts) = ⊥
  FitTypes (Some (ty ∷ types)) (part ∷ parts) = Fits structs ty part × FitTypes (Some types) parts

  all_fit : (of : Option Ty) (parts : List Init) → FitAll structs of (hidden-the_row-Init-0 parts) ↔ AllFit of parts
  unfolding hidden-the_row-Init-0 hidden
  all_fit of [] = (λ f. tt, λ f. tt)
  all_fit None (part ∷ parts) = (λ f. f, λ f. f)
  all_fit (Some of) (part ∷ parts) =
      (λ f. (f.0, (all_fit (Some of) parts).0 f.1), λ f. (f.0, (all_fit (Some of) parts).1 f.1))

  fit_types : (types : Option (List Ty)) (parts : List Init) → FitInOrder structs types (hidden-the_row-Init-0 parts)
      ↔ FitTypes types parts
  unfolding hidden-the_row-Init-0 hidden
  fit_types None parts = (λ f. f, λ f. f)
  fit_types (Some types) [] = (λ f. tt, λ f. tt)
  fit_types (Some []) (part ∷ parts) = (λ f. f, λ f. f)
  fit_types (Some (ty ∷ types)) (part ∷ parts) =
      (λ f. (f.0, (fit_types (Some types) parts).0 f.1), λ f. (f.0, (fit_types (Some types) parts).1 f.1))

  -- square brackets fit where each element fits the type of the array's elements
  pub fits-array : (ty : Ty) (parts : List Init) → Fits structs ty (init.Array parts) ↔ AllFit (element_type ty) parts
  fits-array ty parts = all_fit (element_type ty) parts

  -- curly brackets fit where each element fits the type of the struct's field
  pub fits-fields : (ty : Ty) (parts : List Init) → Fits structs ty (init.Fields parts)
      ↔ FitTypes (field_types structs ty) parts
  fits-fields ty parts = fit_types (field_types structs ty) parts
