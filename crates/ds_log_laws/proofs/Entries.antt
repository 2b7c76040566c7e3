-- What one more entry adds to what a log holds.
use Rattle.std.proofs.Common.{◌≡◌, ℕ, suc, ◌+◌, ◌^◌, ◌<◌, ◌==◌, ◌||◌, Bool, true, false, List, [], ◌∷◌, ap, subst}
use Rattle.std.proofs.Common.{refl, ◌∙◌, arith}
use Rattle.std.proofs.lemmas.List.Folds.{list_any-append}
use Rattle.ds_map.specs.Bounds.{Bounds}
use Rattle.ds_entry.specs.Entry.{locations_of, entry_of, count_of, location_at}
use Rattle.ds_log_laws.specs.Reading.{entries_hold}
use Rattle.ds_log_laws.proofs.Links.{entry, is_in}

-- the entry of one location holds it
holds_one : (loc : ℕ) → loc < 2 ^ 32 → locations_of (entry_of loc) ≡ loc ∷ []
holds_one loc lt =
    let count : count_of (entry_of loc) ≡ 1 = omega (arith, lt) in
    let held : location_at (entry_of loc) 0 ≡ loc = omega (arith, lt) in
    rw count (ap (λ x. x ∷ []) held)

swapped : (a b : Bool) → (a || (b || false)) ≡ (b || a)
swapped true true = refl
swapped true false = refl
swapped false true = refl
swapped false false = refl

-- so, behind it, a location is held that is this one, or was held before
pub holds_more : (lim : Bounds) (words : List ℕ) (log used loc x : ℕ) (has : Bool)
    → entry lim words log used ≡ entry_of loc → loc < 2 ^ 32 → is_in x (entries_hold lim words log used) ≡ has
    → is_in x (entries_hold lim words log (used + 1)) ≡ ((loc == x) || has)
holds_more lim words log used loc x has is lt before =
    let one : locations_of (entry lim words log used) ≡ loc ∷ [] = ap locations_of is ∙ holds_one loc lt in
    let next : suc used ≡ used + 1 = omega arith in
    subst (λ n. is_in x (entries_hold lim words log n) ≡ ((loc == x) || has)) next
    (list_any-append (λ y. y == x) (entries_hold lim words log used) (locations_of (entry lim words log used))
    ∙ (ap (λ locs. is_in x (entries_hold lim words log used) || is_in x locs) one
    ∙ (ap (λ b. b || ((loc == x) || false)) before ∙ swapped has (loc == x))))
