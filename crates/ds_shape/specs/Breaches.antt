-- Going through the items of a list until one breaks a rule: what proofs of such loops share. A helper, which no
-- clause cites.
use Rattle.std.specs.Prelude.{◌≡◌, ◌↔◌, ◌<◌, ◌≤◌, ◌+◌, ◌++◌, IsTrue, true, false, ℕ, suc, List, [], ◌∷◌, length, take}
use Rattle.std.specs.Prelude.{drop, slice_index_or, refl, All}
use Rattle.std.proofs.Common.{true≢false, sym, ap, ◌∙◌, subst}
use Rattle.std.proofs.Math.Seq.{split_at}
use Rattle.std.proofs.lemmas.List.{take_all}
use Rattle.std.proofs.lemmas.List.Elements.{All-head, All-tail, All-more}
use Rattle.ds_shape.specs.Types.{Stands}
use Rattle.ds_shape.specs.Written.{IsFirstBreach}

module _ {X : Type 0} where
  -- the list is split there
  pub split_here : (xs : List X) (i : ℕ) (x : X) → i < length xs → x ≡ slice_index_or xs i x
      → xs ≡ take i xs ++ x ∷ drop (suc i) xs
  split_here xs i x h is = split_at xs i x h ∙ ap (λ y. take i xs ++ y ∷ drop (suc i) xs) (sym is)

  -- the item at a place stands there
  pub stands_at : (xs : List X) (i : ℕ) (x : X) → i < length xs → x ≡ slice_index_or xs i x → Stands x xs
  stands_at xs i x h is = (take i xs, drop (suc i) xs, split_here xs i x h is)

module _ {X : Type 0} (P : X → Type 0) where
  at_seam : (before after : List X) (x : X) → All P (before ++ x ∷ after) → P x
  at_seam [] after x all = All-head P x after all
  at_seam (b ∷ before) after x all = at_seam before after x (All-tail P b (before ++ x ∷ after) all)

  -- what all items have, each that stands there has
  pub each_standing : (xs : List X) → All P xs → (x : X) → Stands x xs → P x
  each_standing xs all x (before, after, is) = at_seam before after x (subst (All P) is all)

module _ {X : Type 0} (Keeps : X → Type 0) (xs : List X) where
  -- the item breaks the rule, and those before it keep it
  pub breach_at : (i : ℕ) (x : X) → i < length xs → x ≡ slice_index_or xs i x → All Keeps (take i xs) → (Keeps x → ⊥)
      → IsFirstBreach Keeps xs x
  breach_at i x h is kept breaks =
      record {
        before = take i xs;
        after = drop (suc i) xs;
        split = split_here xs i x h is;
        breaks = breaks;
        kept_before = kept;
      }

  -- all items kept the rule at the end
  pub kept_all : (i : ℕ) → length xs ≤ i → All Keeps (take i xs) → All Keeps xs
  kept_all i h kept = subst (All Keeps) (take_all i xs h) kept

  -- and one item more
  pub kept_more : (i : ℕ) (x : X) → i < length xs → x ≡ slice_index_or xs i x → All Keeps (take i xs) → Keeps x
      → All Keeps (take (i + 1) xs)
  kept_more i x h is kept keeps = All-more Keeps xs i x h kept (subst Keeps is keeps)

  -- an item of the list that is gone through, which is this list, breaks the rule
  pub item_breaks : (ys : List X) (i : ℕ) (x : X) → ys ≡ xs → i < length ys → x ≡ slice_index_or ys i x
      → (Keeps x → ⊥) → IsTrue false ↔ All Keeps xs
  item_breaks ys i x same h is breaks = (
    (λ t. absurd (true≢false (sym t))),
    λ all.
        let here = subst (λ zs. i < length zs) same h in
        absurd (breaks (subst Keeps (sym (is ∙ ap (λ zs. slice_index_or zs i x) same)) (all i x here))),
  )

  -- or keeps it
  pub item_kept : (ys : List X) (i : ℕ) (x : X) → ys ≡ xs → i < length ys → x ≡ slice_index_or ys i x
      → All Keeps (take i xs) → Keeps x → All Keeps (take (i + 1) xs)
  item_kept ys i x same h is kept keeps =
      kept_more i x (subst (λ zs. i < length zs) same h) (is ∙ ap (λ zs. slice_index_or zs i x) same) kept keeps

  -- and all have kept it at the end
  pub items_kept : (ys : List X) (i : ℕ) → ys ≡ xs → length ys ≤ i → All Keeps (take i xs) → IsTrue true ↔ All Keeps xs
  items_kept ys i same h kept = (λ t. kept_all i (subst (λ zs. length zs ≤ i) same h) kept, λ all. refl)
