-- The row has room for what an instruction copies together.
use Rattle.std.proofs.Common.{ℕ, ◌<◌, ◌≤◌, List, map, length, All, arith, sym, subst}
use Rattle.std.proofs.Math.ListN.{get_or-map}
use Rattle.std.proofs.lemmas.List.{length-map}
use Rattle.ds_code.specs.declared.sources.Copying.{Copying}
use Rattle.ds_code.specs.declared.ops.Edge.{Edge}

-- a longer row has room too
pub fits_more : (n m : ℕ) (cs : List (List Copying)) → n ≤ m
    → All (λ (copies : List Copying). length copies ≤ n) cs → All (λ (copies : List Copying). length copies ≤ m) cs
fits_more n m cs le all = λ k d lt. let h = all k d lt in omega arith

-- for the copies of each edge
pub edges_fit : (n : ℕ) (es : List Edge)
    → All (λ (copies : List Copying). length copies ≤ n) (map (λ (e : Edge). e.copies) es)
    → All (λ (e : Edge). length e.copies ≤ n) es
edges_fit n es all = λ k d lt.
    let copies : Edge → List Copying = λ (e : Edge). e.copies in
    let inside : k < length (map copies es) = subst (λ (m : ℕ). k < m) (sym (length-map es copies)) lt in
    subst (λ (cs : List Copying). length cs ≤ n) (get_or-map copies es k d) (all k d.copies inside)
