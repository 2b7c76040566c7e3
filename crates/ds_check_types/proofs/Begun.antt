-- Initialisers by their parts, with lists for the elements.
use Rattle.std.proofs.Common.{◌≡◌, ◌↔◌, IsTrue, Bool, false, true≢false, ℕ, zero, suc, List, [], ◌∷◌, length, All}
use Rattle.std.proofs.Common.{Some, None, refl, sym, ◌∙◌, subst, ap, arith}
use Rattle.ds_ast.specs.declared.ty.Ty.{Ty, Void, One, Struct, Array', more_of-Ty, end_of-Ty}
use Rattle.ds_ast.specs.declared.ty.Ty as ty
use Rattle.ds_ast.specs.declared.ty.Ty.TheBlock.{hidden-the_row-Ty-0}
use Rattle.ds_ast.specs.declared.init.Init.{Init}
use Rattle.ds_ast.specs.declared.init.Init as init
use Rattle.ds_ast.specs.declared.init.Init.TheBlock.{hidden-the_row-Init-0}
use Rattle.ds_ast.specs.declared.module.Module.{Module}
use Rattle.ds_shape.specs.Types.{IsInitial, AreElements, AreFields, array_of, struct_fields}
use Rattle.std.specs.List.{AllZip}
use denote.Hole.Carrier.{hidden}

array_of-array : (n : ℕ) (of : Ty) → array_of (ty.Array n of) ≡ Some (n, of)
unfolding hidden-the_row-Ty-0 hidden
array_of-array n of = refl

both : (P : Init → Type 0) (x : Init) (xs : List Init) → P x → All P xs → All P (x ∷ xs)
both P x xs first later zero d below = first
both P x xs first later (suc k) d below = later k d (omega (arith, below))

module _ (m : Module) where
  elements : (n : ℕ) (of : Ty) (parts : List Init) → length parts ≡ n → All (IsInitial m of) parts
      → AreElements m (Some (n, of)) (hidden-the_row-Init-0 parts)
  unfolding hidden-the_row-Init-0 hidden
  elements n of [] same each = sym same
  elements n of (x ∷ xs) same each = (
    length xs,
    sym same,
    each 0 x (omega arith),
    elements (length xs) of xs refl (λ k d below. each (suc k) d (omega (arith, below))),
  )

  elements_fit : (n : ℕ) (of : Ty) (parts : List Init) → AreElements m (Some (n, of)) (hidden-the_row-Init-0 parts)
      → All (IsInitial m of) parts
  unfolding hidden-the_row-Init-0 hidden
  elements_fit n of [] e = λ k d below. absurd (omega (arith, below))
  elements_fit n of (x ∷ xs) e = both (IsInitial m of) x xs e.2 (elements_fit e.0 of xs e.3)

  elements_count : (n : ℕ) (of : Ty) (parts : List Init) → AreElements m (Some (n, of)) (hidden-the_row-Init-0 parts)
      → length parts ≡ n
  unfolding hidden-the_row-Init-0 hidden
  elements_count n of [] e = sym e
  elements_count n of (x ∷ xs) e = ap (λ k. suc k) (elements_count e.0 of xs e.3) ∙ sym e.1

  fields : (types : List Ty) (parts : List Init)
      → AreFields m (Some types) (hidden-the_row-Init-0 parts) ↔ AllZip (IsInitial m) types parts
  unfolding hidden-the_row-Init-0 hidden
  fields [] [] = (λ f. f, λ f. f)
  fields [] (x ∷ xs) = (λ f. f, λ f. f)
  fields (t ∷ ts) [] = (λ f. f, λ f. f)
  fields (t ∷ ts) (x ∷ xs) = (λ f. (f.0, (fields ts xs).0 f.1), λ f. (f.0, (fields ts xs).1 f.1))

  none_are : (parts : List Init) → AreElements m None (hidden-the_row-Init-0 parts) → ⊥
  unfolding hidden-the_row-Init-0 hidden
  none_are [] e = e
  none_are (x ∷ xs) e = e

  no_fields : (parts : List Init) → AreFields m None (hidden-the_row-Init-0 parts) → ⊥
  unfolding hidden-the_row-Init-0 hidden
  no_fields [] e = e
  no_fields (x ∷ xs) e = e

  never : (P : Type 0) → (P → ⊥) → IsTrue false ↔ P
  never P no_p = (λ t. absurd (true≢false (sym t)), λ p. absurd (no_p p))

  -- an array with as many elements as it says
  pub array_fits : (t of : Ty) (n : ℕ) (parts : List Init) (b : Bool) → t ≡ ty.Array n of → length parts ≡ n
      → (IsTrue b ↔ All (IsInitial m of) parts) → IsTrue b ↔ IsInitial m t (init.Array parts)
  array_fits t of n parts b t_is same fits =
      let of_is = ap array_of t_is ∙ array_of-array n of in (
        λ b_yes. subst (λ o. AreElements m o (hidden-the_row-Init-0 parts)) (sym of_is)
            (elements n of parts same (fits.0 b_yes)),
        λ e. fits.1 (elements_fit n of parts (subst (λ o. AreElements m o (hidden-the_row-Init-0 parts)) of_is e)),
      )

  -- and one with others
  pub array_apart : (t of : Ty) (n : ℕ) (parts : List Init) → t ≡ ty.Array n of → (length parts ≡ n → ⊥)
      → IsTrue false ↔ IsInitial m t (init.Array parts)
  array_apart t of n parts t_is other =
      never (IsInitial m t (init.Array parts))
      (λ e. other (elements_count n of parts
      (subst (λ o. AreElements m o (hidden-the_row-Init-0 parts)) (ap array_of t_is ∙ array_of-array n of) e)))

  pub no_array : (t : Ty) (parts : List Init) → array_of t ≡ None → IsTrue false ↔ IsInitial m t (init.Array parts)
  no_array t parts none =
      never (IsInitial m t (init.Array parts))
      (λ e. none_are parts (subst (λ o. AreElements m o (hidden-the_row-Init-0 parts)) none e))

  pub struct_fits : (t : Ty) (types : List Ty) (parts : List Init) (b : Bool) → struct_fields m t ≡ Some types
      → (IsTrue b ↔ AllZip (IsInitial m) types parts) → IsTrue b ↔ IsInitial m t (init.Fields parts)
  struct_fits t types parts b of_is fits = (
    λ b_yes. subst (λ o. AreFields m o (hidden-the_row-Init-0 parts)) (sym of_is)
        ((fields types parts).1 (fits.0 b_yes)),
    λ e. fits.1 ((fields types parts).0 (subst (λ o. AreFields m o (hidden-the_row-Init-0 parts)) of_is e)),
  )

  pub no_struct : (t : Ty) (parts : List Init) → struct_fields m t ≡ None
      → IsTrue false ↔ IsInitial m t (init.Fields parts)
  no_struct t parts none =
      never (IsInitial m t (init.Fields parts))
      (λ e. no_fields parts (subst (λ o. AreFields m o (hidden-the_row-Init-0 parts)) none e))
