-- In which visit a malloc comes to a place: over numbers.
use Rattle.std.proofs.Common.{◌≡◌, ℕ, ◌+◌, ◌-◌, ◌*◌, ◌%◌, ◌<◌, ◌≤◌, Bool, ◌&&◌, ◌||◌}
use Rattle.std.proofs.Common.{ap, ◌∙◌, inl, inr, ◌⊎◌, arith, mod-eq_of_lt}
use Rattle.std.proofs.lemmas.Bool.{cases_lt, cases_order, eq-eqb, ne_eqb, lt-ltb, le-ltb, leb-true, le-leb}
use Rattle.std.proofs.lemmas.Bool.Decides.{Decides-and, Decides-or, Decides-ltb, Decides-eqb}
use Rattle.std.proofs.lemmas.Nat.{mod-mul-add}
use Rattle.std.specs.Prelude.{nat_lt, nat_le, ◌==◌, if◌then◌else◌}
use Rattle.std.specs.Bool.{Decides}

-- a number of m and a rest
once_round : (n m rest : ℕ) → rest < m → n ≡ m + rest → n % m ≡ rest
once_round n m rest lt is =
    let e : n ≡ 1 * m + rest = omega arith in ap (λ (x : ℕ). x % m) e ∙ mod-mul-add 1 m rest lt

-- the number of the visit to a block of a page, by a malloc that begins in the page `first`, at the index `from`
abbrev pub visit_to : (pages first from page block : ℕ) → ℕ
visit_to pages first from page block =
    if page == first then (if nat_lt block from then pages else 0) else (page + pages - first) % pages

-- that number: the last one or 0 in the first page, and elsewhere how many pages behind that one, and round
abbrev pub Comes : (pages first from page block visit : ℕ) → Type 0
Comes pages first from page block visit =
    ((page ≡ first) × (block < from) × (visit ≡ pages)) ⊎ ((page ≡ first) × (from ≤ block) × (visit ≡ 0))
    ⊎ ((first < page) × (first + visit ≡ page)) ⊎ ((page < first) × (first + visit ≡ page + pages))

module _ (pages first from page block : ℕ) (first_in : first < pages) (page_in : page < pages) where
  abbrev ComesAt : ℕ → Type 0
  ComesAt visit = Comes pages first from page block visit

  abbrev number : Bool → ℕ
  number same = if same then (if nat_lt block from then pages else 0) else (page + pages - first) % pages

  abbrev number_first : Bool → ℕ
  number_first before = if before then pages else 0

  comes_first : page ≡ first → (block < from) ⊎ (from ≤ block) → ComesAt (visit_to pages first from page block)
  comes_first same (inl lt) =
      inl (same, lt, ap number (eq-eqb page first same) ∙ ap number_first (lt-ltb block from lt))
  comes_first same (inr le) =
      inr (inl (same, le, ap number (eq-eqb page first same) ∙ ap number_first (le-ltb block from le)))

  comes_by : (page ≡ first) ⊎ ((page < first) ⊎ (first < page)) → ComesAt (visit_to pages first from page block)
  comes_by (inl same) = comes_first same (cases_lt block from)
  comes_by (inr (inl lt)) =
      let is = ap number (ne_eqb page first (λ same. absurd (omega arith))) ∙ mod-eq_of_lt (omega arith) in
      inr (inr (inr (lt, omega (arith, is))))
  comes_by (inr (inr lt)) =
      let is = ap number (ne_eqb page first (λ same. absurd (omega arith)))
      ∙ once_round (page + pages - first) pages (page - first) (omega arith) (omega arith) in
      inr (inr (inl (lt, omega (arith, is))))

  pub comes : ComesAt (visit_to pages first from page block)
  comes = comes_by (cases_order page first)

-- the page at which it looks in a visit
abbrev pub Stands : (pages first passed now : ℕ) → Type 0
Stands pages first passed now = (now < pages) × ((now ≡ first + passed) ⊎ (now + pages ≡ first + passed))

module _ (pages first passed : ℕ) (first_in : first < pages) (within : passed ≤ pages) where
  stands_by : ((first + passed < pages) ⊎ (pages ≤ first + passed))
      → Stands pages first passed ((first + passed) % pages)
  stands_by (inl lt) =
      let is : (first + passed) % pages ≡ first + passed = mod-eq_of_lt lt in (omega (arith, is), inl is)
  stands_by (inr le) =
      let is : (first + passed) % pages ≡ first + passed - pages =
      once_round (first + passed) pages (first + passed - pages) (omega arith) (omega arith) in
      (omega (arith, is), inr (omega (arith, is)))

  pub stands : Stands pages first passed ((first + passed) % pages)
  stands = stands_by (cases_lt (first + passed) pages)

-- a malloc that has come to the block of an index in a visit still comes to another block, of this visit
abbrev pub IsAhead : (visits passed index visit block : ℕ) → Type 0
IsAhead visits passed index visit block =
    (visit < visits) × ((passed < visit) ⊎ ((passed ≡ visit) × (index ≤ block)))

abbrev pub ahead_test : (visits passed index visit block : ℕ) → Bool
ahead_test visits passed index visit block =
    nat_lt visit visits && (nat_lt passed visit || ((passed == visit) && nat_le index block))

le_decides : (a b : ℕ) → Decides (nat_le a b) (a ≤ b)
le_decides a b = (leb-true a b, le-leb a b)

pub ahead_decides : (visits passed index visit block : ℕ)
    → Decides (ahead_test visits passed index visit block) (IsAhead visits passed index visit block)
ahead_decides visits passed index visit block =
    Decides-and (nat_lt visit visits) (nat_lt passed visit || ((passed == visit) && nat_le index block))
    (Decides-ltb visit visits)
    (Decides-or (nat_lt passed visit) ((passed == visit) && nat_le index block) (Decides-ltb passed visit)
    (Decides-and (passed == visit) (nat_le index block) (Decides-eqb passed visit) (le_decides index block)))
