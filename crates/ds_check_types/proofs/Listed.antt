-- The rule of a list of operands by the first of them and the others.
use Rattle.std.proofs.Common.{◌≡◌, ◌↔◌, IsTrue, Bool, true, false, true≢false, sym, refl, List, [], ◌∷◌}
use Rattle.std.specs.Prelude.{All, map}
use Rattle.std.proofs.lemmas.List.Elements.{All-nil, All-cons, All-head, All-tail, All-map}

module _ {X : Type 0} (P : X → Type 0) where
  pub none_left : IsTrue true ↔ All P []
  none_left = (λ t. All-nil P, λ all. refl)

  -- the first has the property, and so the list has it where the others do
  pub first_and : (x : X) (xs : List X) (b : Bool) → P x → (IsTrue b ↔ All P xs) → IsTrue b ↔ All P (x ∷ xs)
  first_and x xs b has others = (λ t. All-cons P x xs has (others.0 t), λ all. others.1 (All-tail P x xs all))

  pub not_first : (x : X) (xs : List X) → (P x → ⊥) → IsTrue false ↔ All P (x ∷ xs)
  not_first x xs other = (λ t. absurd (true≢false (sym t)), λ all. absurd (other (All-head P x xs all)))

  by_images : {Y : Type 0} (f : Y → X) (ys : List Y) → All P (map f ys) → All (λ y. P (f y)) ys
  by_images f [] all = All-nil (λ y. P (f y))
  by_images f (y ∷ ys) all =
      All-cons (λ y. P (f y)) y ys (All-head P (f y) (map f ys) all) (by_images f ys (All-tail P (f y) (map f ys) all))

  -- items have it by way of their images
  pub images : {Y : Type 0} (f : Y → X) (ys : List Y) (b : Bool) → (IsTrue b ↔ All (λ y. P (f y)) ys)
      → IsTrue b ↔ All P (map f ys)
  images f ys b fits = (λ t. All-map P f ys (fits.0 t), λ all. fits.1 (by_images f ys all))
