-- Whether operands are defined, one by one.
use Rattle.std.proofs.Common.{◌≡◌, ◌↔◌, ◌<◌, ◌≤◌, ◌+◌, ◌++◌, IsTrue, ℕ, Bool, true, false, List, length, take}
use Rattle.std.proofs.Common.{slice_index_or, Option, Some, None, refl, sym, ◌∙◌, subst, true≢false, inl, inr, arith}
use Rattle.std.specs.Prelude.{All, is_some, map, slice_get}
use Rattle.std.proofs.lemmas.Option.{slice_get_within, get_or_from_slice_get, slice_get_cases}
use Rattle.std.proofs.Math.ListN.{get_or-map}
use Rattle.std.proofs.lemmas.List.{get_or-append-add, length-append, length-map}
use Rattle.std.proofs.lemmas.List.Elements.{All-append, All-map}
use Rattle.ds_ast.specs.declared.name.Name.{Name}
use Rattle.ds_ast.specs.declared.module.Function.{Function}
use Rattle.ds_shape.specs.declared.local.LocalType.{LocalType}
use Rattle.ds_shape.specs.Types.{Defines}
use Rattle.ds_shape.specs.Breaches.{kept_more, kept_all}

-- a name is that of a local value exactly if it has a type
pub local_defined : (f : Function) (name : Name) (r : Option (Option LocalType)) (b : Bool)
    → ((t : Option LocalType) → (r ≡ Some t ↔ Defines f name t)) → b ≡ is_some r
    → IsTrue b ↔ ((t : Option LocalType) × Defines f name t)
local_defined f name None b known is =
    (λ t. absurd (true≢false (sym t ∙ is)), λ d. absurd (let e : None ≡ Some d.0 = (known d.0).1 d.1 in cc))
local_defined f name (Some t) b known is = (λ _. (t, (known t).0 refl), λ _. is)

module _ {X : Type 0} (P : X → Type 0) (xs : List X) where
  -- what is known of the item at a place of the list
  abbrev pub IsJudged : ℕ → Bool → Type 0
  IsJudged n b = (x : X) → slice_get xs n ≡ Some x → (IsTrue b ↔ P x)

  there : (n count : ℕ) → count ≡ length xs → n < count → (x : X) × (slice_get xs n ≡ Some x)
  there n count many h = elim (slice_get_cases xs n).1 [
    | inl y ↦ (y.0, y.2)
    | inr z ↦ absurd (let l : length xs ≤ n = z.0 in omega (arith, l, h, many))
  ]

  -- one more item has the property
  pub judged_more : (n count : ℕ) (b : Bool) → count ≡ length xs → n < count → IsJudged n b → All P (take n xs)
      → IsTrue b → All P (take (n + 1) xs)
  judged_more n count b many h judged kept is =
      let x = there n count many h in
      kept_more P xs n x.0 (slice_get_within xs n x.0 x.1) (sym (get_or_from_slice_get xs n x.0 x.0 x.1)) kept
      ((judged x.0 x.1).0 is)

  -- an item lacks it
  pub judged_not : (n count : ℕ) (b : Bool) → count ≡ length xs → n < count → IsJudged n b → b ≡ false
      → IsTrue false ↔ All P xs
  judged_not n count b many h judged is =
      let x = there n count many h in (
        (λ t. absurd (true≢false (sym t))),
        λ all. absurd (true≢false
            (sym ((judged x.0 x.1).1
            (subst P (get_or_from_slice_get xs n x.0 x.0 x.1) (all n x.0 (slice_get_within xs n x.0 x.1)))) ∙ is)),
      )

  -- no item is left
  pub judged_all : (n count : ℕ) → count ≡ length xs → count ≤ n → All P (take n xs) → IsTrue true ↔ All P xs
  judged_all n count many h kept = (λ t. kept_all P xs n (omega (arith, many, h)) kept, λ all. refl)

-- operands are uses and then the values of arms
pub all_operands : {V A : Type 0} (P : V → Type 0) (value : A → V) (uses : List V) (arms : List A) (b : Bool)
    → All P uses → (IsTrue b ↔ All (λ a. P (value a)) arms)
    → IsTrue b ↔ All P (uses ++ map value arms)
all_operands P value uses arms b used armed = (
  (λ t. All-append P uses (map value arms) used (All-map P value arms (armed.0 t))),
  λ all. armed.1 (λ k d h.
      let many : length (map value arms) ≡ length arms = length-map arms value in
      let within : length uses + k < length (uses ++ map value arms) =
      subst (λ n. length uses + k < n) (sym (length-append uses (map value arms))) (omega (arith, h, many)) in
      let e : slice_index_or (uses ++ map value arms) (length uses + k) (value d) ≡ value (slice_index_or arms k d) =
      get_or-append-add uses (map value arms) k (value d) ∙ get_or-map value arms k d in
      subst P e (all (length uses + k) (value d) within)),
)
