-- How many logs may be drawn, or asked for: no more than there are pairs of a place and a thread. And the list of
-- these.
use Rattle.std.proofs.Common.{◌≡◌, ℕ, zero, suc, ◌+◌, ◌*◌, ◌^◌, ◌<◌, ◌≤◌, ◌||◌, Bool, true, false, List, [], ◌∷◌}
use Rattle.std.proofs.Common.{length, refl, ap, subst, inl, inr, arith, eqb, eqb-true}
use Rattle.std.specs.List.{IsDistinct, AllByRecursion, list_any}
use Rattle.std.proofs.lemmas.Bool.{ne_eqb}
use Rattle.std.proofs.lemmas.Map.Steps.{length-le_from_distinct_below}
use Rattle.ds_map.specs.Bounds.{Bounds, IsInRange}
use Rattle.ds_step.specs.declared.Step.{Step}
use Rattle.ds_plain.specs.Explained.{trace_of}
use Rattle.ds_log_laws.specs.Told.{HasFound}
use Rattle.ds_log_laws.specs.Full.{IsAmong, AreDistinct, FullLogs}
use Rattle.ds_log_laws.proofs.Links.{Logs, Counted}

module _ (lim : Bounds) (traces : List (List Step)) (words : List ℕ) (logs : Logs)
    (counted : Counted lim traces words logs) where
  -- a number for each place and thread
  abbrev code : ℕ → ℕ
  code n = 16 * logs.place n + logs.owner n

  abbrev codes : ℕ → List ℕ
  codes zero = []
  codes (suc n) = code n ∷ codes n

  codes_length : (n : ℕ) → length (codes n) ≡ n
  codes_length zero = refl
  codes_length (suc n) = ap suc (codes_length n)

  code_small : (n : ℕ) → n < logs.count → code n < 4096 * lim.pages
  code_small n lt = let each = counted.each n lt in omega (arith, each.place_is, each.owner_is)

  code_apart : (n m : ℕ) → n < logs.count → m < n → code n ≡ code m → ⊥
  code_apart n m ln lm e =
      let one = (counted.each n ln).owner_is in
      let other = (counted.each m (omega (arith, ln, lm))).owner_is in
      let same : n ≡ m = counted.distinct n m ln (omega (arith, ln, lm)) (omega (arith, e, one, other))
      (omega (arith, e, one, other)) in
      omega (arith, same, lm)

  -- a number is one of the codes
  any_code : (q n : ℕ) → list_any (eqb q) (codes n) ≡ true → (k : ℕ) × (k < n) × (q ≡ code k)
  any_code q zero e = absurd (cc (e))
  any_code q (suc n) e = by (eqb q (code n)) refl (any_code q n) e
    where
      by : (b : Bool) → eqb q (code n) ≡ b
          → (list_any (eqb q) (codes n) ≡ true → (k : ℕ) × (k < n) × (q ≡ code k))
          → (b || list_any (eqb q) (codes n)) ≡ true → (k : ℕ) × (k < suc n) × (q ≡ code k)
      by true is ih e' = (n, omega arith, eqb-true q (code n) is)
      by false is ih e' = let more = ih e' in (more.0, omega (arith, more.1), more.2)

  all_apart : (n k : ℕ) → n < logs.count → k ≤ n → AllByRecursion (λ y. eqb (code n) y ≡ false) (codes k)
  all_apart n zero ln le = tt
  all_apart n (suc k) ln le =
      (ne_eqb (code n) (code k) (code_apart n k ln (omega (arith, le))), all_apart n k ln (omega (arith, le)))

  codes_distinct : (n : ℕ) → n ≤ logs.count → IsDistinct eqb (codes n)
  unfolding IsDistinct
  codes_distinct zero le = tt
  codes_distinct (suc n) le =
      (all_apart n n (omega (arith, le)) (omega arith), codes_distinct n (omega (arith, le)))

  few_codes : logs.count ≤ 4096 * lim.pages
  few_codes =
      let bound = length-le_from_distinct_below (codes logs.count) (4096 * lim.pages)
      (codes_distinct logs.count (omega arith)) small in
      omega (arith, bound, codes_length logs.count)
    where
      small : (q : ℕ) → list_any (eqb q) (codes logs.count) ≡ true → q < 4096 * lim.pages
      small q e =
          let one = any_code q logs.count e in
          let less = code_small one.0 one.1 in
          omega (arith, one.2, less)

  pub count_fits : IsInRange lim → logs.count + 1 < 2 ^ 64
  count_fits range = omega (arith, range.pages, few_codes)

  -- the pairs of the first logs
  abbrev pairs : ℕ → List (ℕ × ℕ)
  pairs zero = []
  pairs (suc n) = (logs.place n, logs.owner n) ∷ pairs n

  pairs_length : (n : ℕ) → length (pairs n) ≡ n
  pairs_length zero = refl
  pairs_length (suc n) = ap suc (pairs_length n)

  among : (place t n : ℕ) → IsAmong place t (pairs n) → (k : ℕ) × (k < n) × (logs.place k ≡ place) × (logs.owner k ≡ t)
  among place t zero is = absurd is
  among place t (suc n) (inl is) = (n, omega arith, is.0, is.1)
  among place t (suc n) (inr is) = let more = among place t n is in (more.0, omega (arith, more.1), more.2, more.3)

  pairs_distinct : (n : ℕ) → n ≤ logs.count → AreDistinct (pairs n)
  pairs_distinct zero le = tt
  pairs_distinct (suc n) le = (
    λ is. let more = among (logs.place n) (logs.owner n) n is in
        let same : more.0 ≡ n =
        counted.distinct more.0 n (omega (arith, more.1, le)) (omega (arith, le)) more.2 more.3 in
        absurd (omega (arith, same, more.1)),
    pairs_distinct n (omega (arith, le)),
  )

  pub full_logs : lim.logs < logs.count → FullLogs lim traces
  full_logs less = record {
    pairs = pairs logs.count;
    distinct = pairs_distinct logs.count (omega arith);
    more = omega (arith, less, pairs_length logs.count);
    found = λ place t is. found_of place t (among place t logs.count is);
  }
    where
      found_of : (place t : ℕ) → ((k : ℕ) × (k < logs.count) × (logs.place k ≡ place) × (logs.owner k ≡ t))
          → HasFound place (trace_of traces t)
      found_of place t more =
          subst (λ p. HasFound p (trace_of traces t)) more.2
          (subst (λ u. HasFound (logs.place more.0) (trace_of traces u)) more.3 (counted.each more.0 more.1).found)
