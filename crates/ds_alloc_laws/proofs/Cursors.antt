-- Where a thread begins to look for blocks.
use Rattle.std.proofs.Common.{◌≡◌, ℕ, ◌<◌, ◌≤◌, List, length, slice_index, slice_set, sym}
use Rattle.std.proofs.Common.{◌∙◌, subst, inl, inr, ◌⊎◌, arith}
use Rattle.std.proofs.lemmas.Bool.{cases_eq, cases_lt}
use Rattle.std.proofs.lemmas.List.{get_or-set_same, get_or-set_other, get_or_past, get_or-replicate, length-set}
use Rattle.ds_map.specs.Bounds.{Bounds, IsInRange}
use Rattle.ds_plain.specs.Reached.{IsPlace, AreCursors}
use Rattle.ds_plain.specs.Thread.{first_cursors}
use Rattle.ds_alloc_laws.proofs.Members.{some_block}

pub first : (lim : Bounds) → IsInRange lim → AreCursors lim first_cursors
first lim range = record {
  each = λ class lt. subst (IsPlace lim class) (sym (get_or-replicate 15 class 0 0 lt)) (first_place class lt);
}
  where
    first_place : (class : ℕ) → class < 15 → IsPlace lim class 0
    first_place class lt = record {
      class_is = lt;
      page = omega (arith, range.some_page);
      index = some_block class lt;
    }

module _ (lim : Bounds) (cursors : List ℕ) (class place : ℕ) (looks : AreCursors lim cursors)
    (is : IsPlace lim class place) where
  here : ((class < length cursors) ⊎ (length cursors ≤ class)) → class < 15
      → IsPlace lim class (slice_index (slice_set cursors class place) class)
  here (inl lt) small = subst (IsPlace lim class) (sym (get_or-set_same cursors class place 0 lt)) is
  here (inr le) small =
      subst (IsPlace lim class) (get_or_past cursors class 0 le
      ∙ sym (get_or_past (slice_set cursors class place) class 0 (omega (arith, le, length-set {A = ℕ}))))
      (looks.each class small)

  by : (c : ℕ) → c < 15 → ((class ≡ c) ⊎ (class ≡ c → ⊥))
      → IsPlace lim c (slice_index (slice_set cursors class place) c)
  by c lt (inl e) = subst (λ c. IsPlace lim c (slice_index (slice_set cursors class place) c)) e
      (here (cases_lt class (length cursors)) (omega (arith, e, lt)))
  by c lt (inr ne) = subst (IsPlace lim c)
      (sym (get_or-set_other cursors class c place 0 (λ e. ne (sym e)))) (looks.each c lt)

  pub moved : AreCursors lim (slice_set cursors class place)
  moved = record { each = λ c lt. by c lt (cases_eq class c) }
