-- Prints that are numbered one after another have one order by their numbers.
use Rattle.std.proofs.Common.{◌≡◌, ℕ, suc, ◌<◌, ◌≤◌, ◌==◌, if◌then◌else◌, nat_lt}
use Rattle.std.proofs.Common.{List, [], ◌∷◌, length, slice_index_or, refl, sym, ap, ◌∙◌, inl, inr, ◌⊎◌, arith}
use Rattle.std.specs.List.{sum_by}
use Rattle.std.specs.List.Sorted.{IsNonDecreasingBy}
use Rattle.std.proofs.lemmas.Bool.{cases_lt, eq-eqb, ne_eqb, lt-ltb, le-ltb}
use Rattle.std.proofs.lemmas.List.Sums.{sum_by-cons}
use Rattle.ds_report.specs.declared.prints.Print.{Print}

-- the numbers are k and those behind it, one after another
abbrev pub Numbered : ℕ → List Print → Type 0
Numbered k [] = Unit {0}
Numbered k (p ∷ ps) = (p.number ≡ k) × Numbered (suc k) ps

-- each number is at least k
abbrev pub Above : ℕ → List Print → Type 0
Above k [] = Unit {0}
Above k (p ∷ ps) = (k ≤ p.number) × Above k ps

numbered_above : (j k : ℕ) (ps : List Print) → j ≤ k → Numbered k ps → Above j ps
numbered_above j k [] le numbered = tt
numbered_above j k (p ∷ ps) le numbered =
    (omega (arith, numbered.0), numbered_above j (suc k) ps (omega arith) numbered.1)

rising_above : (k : ℕ) (qs : List Print) → ((j : ℕ) (d : Print) → j < length qs → k ≤ (slice_index_or qs j d).number)
    → Above k qs
rising_above k [] high = tt
rising_above k (q ∷ qs) high = (high 0 q (omega arith), rising_above k qs (λ j d lt. high (suc j) d (omega arith)))

-- WHAT IS COUNTED OF PRINTS

-- the number is below k
abbrev low : ℕ → Print → ℕ
low k p = if nat_lt p.number k then 1 else 0

-- the number is k
abbrev here : ℕ → Print → ℕ
here k p = if p.number == k then 1 else 0

-- the value, where the number is k
abbrev value_here : ℕ → Print → ℕ
value_here k p = if p.number == k then p.value else 0

low_is : (k : ℕ) (p : Print) → p.number < k → low k p ≡ 1
low_is k p lt = rw (lt-ltb p.number k lt)

low_not : (k : ℕ) (p : Print) → k ≤ p.number → low k p ≡ 0
low_not k p le = rw (le-ltb p.number k le)

here_is : (k : ℕ) (p : Print) → p.number ≡ k → here k p ≡ 1
here_is k p is = rw (eq-eqb p.number k is)

here_not : (k : ℕ) (p : Print) → (p.number ≡ k → ⊥) → here k p ≡ 0
here_not k p ne = rw (ne_eqb p.number k ne)

value_is : (k : ℕ) (p : Print) → p.number ≡ k → value_here k p ≡ p.value
value_is k p is = rw (eq-eqb p.number k is)

value_not : (k : ℕ) (p : Print) → (p.number ≡ k → ⊥) → value_here k p ≡ 0
value_not k p ne = rw (ne_eqb p.number k ne)

-- none is below a number that all are at least
none_low : (k : ℕ) (ps : List Print) → Above k ps → sum_by (low k) ps ≡ 0
none_low k [] above = refl
none_low k (p ∷ ps) above =
    omega (arith, sum_by-cons (low k) p ps, low_not k p above.0, none_low k ps above.1)

-- none has a number that all are above
none_here : (k : ℕ) (ps : List Print) → Above (suc k) ps → sum_by (here k) ps ≡ 0
none_here k [] above = refl
none_here k (p ∷ ps) above =
    let apart : here k p ≡ 0 = here_not k p (λ is. absurd (omega (arith, is, above.0))) in
    omega (arith, sum_by-cons (here k) p ps, apart, none_here k ps above.1)

-- where none has the number, no value is added up
no_value : (k : ℕ) (ps : List Print) → sum_by (here k) ps ≡ 0 → sum_by (value_here k) ps ≡ 0
no_value k [] none = refl
no_value k (p ∷ ps) none =
    let parts = sum_by-cons (here k) p ps in
    let apart : value_here k p ≡ 0 =
    value_not k p (λ is. absurd (omega (arith, none, parts, here_is k p is))) in
    omega (arith, sum_by-cons (value_here k) p ps, apart, no_value k ps (omega (arith, none, parts)))

-- a print is its number and its value
same_print : (p q : Print) → p.number ≡ q.number → p.value ≡ q.value → p ≡ q
same_print p q number value =
    ap (λ (n : ℕ). let x : Print = record { number = n; value = p.value } in x) number
    ∙ ap (λ (v : ℕ). let x : Print = record { number = q.number; value = v } in x) value

-- ONE ORDER

-- prints do not fall in number, have the sums of prints that are numbered from k on, and so are these
module _ (k : ℕ) (p : Print) (ps : List Print) (q : Print) (qs : List Print)
    (numbered : Numbered k (p ∷ ps)) (rises : IsNonDecreasingBy (λ (x : Print). x.number) (q ∷ qs))
    (same : (f : Print → ℕ) → sum_by f (q ∷ qs) ≡ sum_by f (p ∷ ps)) where
  -- the first is not below k
  not_below : k ≤ q.number
  not_below = by (cases_lt q.number k)
    where
      by : ((q.number < k) ⊎ (k ≤ q.number)) → k ≤ q.number
      by (inl lt) =
          absurd (omega (
            arith,
            same (low k),
            sum_by-cons (low k) q qs,
            low_is k q lt,
            none_low k (p ∷ ps) (numbered_above k k (p ∷ ps) (omega arith) numbered),
          ))
      by (inr le) = le

  -- one has number k
  one_here : sum_by (here k) (q ∷ qs) ≡ 1
  one_here =
      let rest : sum_by (here k) ps ≡ 0 =
      none_here k ps (numbered_above (suc k) (suc k) ps (omega arith) numbered.1) in
      omega (arith, same (here k), sum_by-cons (here k) p ps, here_is k p numbered.0, rest)

  -- it is the first
  first_number : q.number ≡ k
  first_number = by (cases_lt k q.number)
    where
      by : ((k < q.number) ⊎ (q.number ≤ k)) → q.number ≡ k
      by (inl lt) =
          let high : (j : ℕ) (d : Print) → j < length (q ∷ qs) → suc k ≤ (slice_index_or (q ∷ qs) j d).number =
          λ j d within. omega (arith, lt, rises 0 j d (omega arith) within) in
          absurd (omega (arith, one_here, none_here k (q ∷ qs) (rising_above (suc k) (q ∷ qs) high)))
      by (inr le) = omega (arith, le, not_below)

  first_value : q.value ≡ p.value
  first_value =
      let q_rest : sum_by (value_here k) qs ≡ 0 =
      no_value k qs (omega (arith, one_here, sum_by-cons (here k) q qs, here_is k q first_number)) in
      let p_rest : sum_by (value_here k) ps ≡ 0 =
      no_value k ps (none_here k ps (numbered_above (suc k) (suc k) ps (omega arith) numbered.1)) in
      omega (
        arith,
        same (value_here k),
        sum_by-cons (value_here k) q qs,
        sum_by-cons (value_here k) p ps,
        value_is k q first_number,
        value_is k p numbered.0,
        q_rest,
        p_rest,
      )

  first_same : q ≡ p
  first_same = same_print q p (first_number ∙ sym numbered.0) first_value

  rest_same : (f : Print → ℕ) → sum_by f qs ≡ sum_by f ps
  rest_same f = omega (arith, same f, sum_by-cons f q qs, sum_by-cons f p ps, ap f first_same)

  rest_rises : IsNonDecreasingBy (λ (x : Print). x.number) qs
  rest_rises i j d le lt = rises (suc i) (suc j) d (omega arith) (omega arith)

pub one_order : (k : ℕ) (ps qs : List Print) → Numbered k ps → IsNonDecreasingBy (λ (x : Print). x.number) qs
    → ((f : Print → ℕ) → sum_by f qs ≡ sum_by f ps) → qs ≡ ps
one_order k [] [] numbered rises same = refl
one_order k [] (q ∷ qs) numbered rises same =
    absurd (omega (arith, same (λ x. 1), sum_by-cons (λ (x : Print). 1) q qs))
one_order k (p ∷ ps) [] numbered rises same =
    absurd (omega (arith, same (λ x. 1), sum_by-cons (λ (x : Print). 1) p ps))
one_order k (p ∷ ps) (q ∷ qs) numbered rises same =
    let rest : qs ≡ ps =
    one_order (suc k) ps qs numbered.1 (rest_rises k p ps q qs numbered rises same)
    (rest_same k p ps q qs numbered rises same) in
    ap (λ x. x ∷ qs) (first_same k p ps q qs numbered rises same) ∙ ap (λ xs. p ∷ xs) rest
