-- Distinct numbers, with a set of those that came before.
use Rattle.std.proofs.Common.{◌≡◌, ◌↔◌, ◌==◌, ℕ, ◌<◌, zero, suc, Bool, true, false, cond, List, ◌∷◌, All, true≢false}
use Rattle.std.proofs.Common.{sym, ◌∙◌, not, refl, arith, subst, ap, map, drop, get_or, length, ◌+◌}
use Rattle.std.proofs.lemmas.Bool.Decides.{nat_tests}
use Rattle.std.proofs.lemmas.List.{drop_more}
use Rattle.ds_ast.specs.declared.name.Name.{Name}
use Rattle.std.specs.Ordering.{nat_cmp}
use Rattle.std.specs.Cmp.{unsigned_tied}
use Rattle.std.specs.BTreeMap.{is_at}
use Rattle.std.specs.BTreeSet.{BTreeSet, contains, Updates}
use Rattle.ds_shape.specs.Types.{AreDistinctNumbers}

-- the numbers are distinct, and the set has none of them
abbrev pub AreNew : BTreeSet ℕ → List ℕ → Type 0
AreNew s ns = All (λ n. contains nat_cmp s n ≡ false) ns × AreDistinctNumbers ns

-- a number that is kept already
pub again : (s : BTreeSet ℕ) (n : ℕ) (ns : List ℕ) → contains nat_cmp s n ≡ true → AreNew s (n ∷ ns) → ⊥
again s n ns kept new = true≢false (sym kept ∙ new.0 0 0 (omega arith))

apart : (n q : ℕ) → is_at (nat_cmp n) q ≡ false → q ≡ n → ⊥
apart n q other same =
    true≢false (sym (unsigned_tied n n ∙ grind (arith, nat_tests))
    ∙ subst (λ m. is_at (nat_cmp n) m ≡ false) same other)

unequal : (n q : ℕ) → (q ≡ n → ⊥) → (n == q) ≡ false
unequal n q other = grind (arith, nat_tests)

both : (b c : Bool) → cond b true c ≡ false → (b ≡ false) × (c ≡ false)
both true c none = absurd (true≢false none)
both false c none = (refl, none)

neither : (b c : Bool) → b ≡ false → c ≡ false → cond b true c ≡ false
neither true c b_no c_no = absurd (true≢false b_no)
neither false c b_no c_no = c_no

-- the set has a number more: which it has not
less : (s t : BTreeSet ℕ) (n q : ℕ) → Updates nat_cmp s t n true → contains nat_cmp t q ≡ false
    → (contains nat_cmp s q ≡ false) × (q ≡ n → ⊥)
less s t n q put none =
    let parts = both (is_at (nat_cmp n) q) (contains nat_cmp s q) (sym (put.0 q) ∙ none) in
    (parts.1, apart n q parts.0)

more : (s t : BTreeSet ℕ) (n q : ℕ) → Updates nat_cmp s t n true → contains nat_cmp s q ≡ false → (q ≡ n → ⊥)
    → contains nat_cmp t q ≡ false
more s t n q put none other =
    put.0 q ∙ neither (is_at (nat_cmp n) q) (contains nat_cmp s q) (unsigned_tied n q ∙ unequal n q other) none

first_or_later : (s : BTreeSet ℕ) (n : ℕ) (ns : List ℕ) → contains nat_cmp s n ≡ false
    → All (λ m. contains nat_cmp s m ≡ false) ns → All (λ m. contains nat_cmp s m ≡ false) (n ∷ ns)
first_or_later s n ns first later zero d in_range = first
first_or_later s n ns first later (suc k) d in_range = later k d (omega (arith, in_range))

-- a number that is kept now
pub step : (s t : BTreeSet ℕ) (n : ℕ) (ns : List ℕ) → contains nat_cmp s n ≡ false → Updates nat_cmp s t n true
    → AreNew s (n ∷ ns) ↔ AreNew t ns
step s t n ns fresh put = (
  λ new. (
    λ k d in_range. more s t n _ put (new.0 (suc k) d (omega (arith, in_range))) (new.1.0 k d in_range),
    new.1.1,
  ),
  λ new. (
    first_or_later s n ns fresh (λ k d in_range. (less s t n _ put (new.0 k d in_range)).0),
    (λ k d in_range. (less s t n _ put (new.0 k d in_range)).1, new.1),
  ),
)

kept_where : (b c : Bool) → b ≡ not c → b ≡ false → c ≡ true
kept_where b true is b_no = refl
kept_where b false is b_no = absurd (true≢false (sym is ∙ b_no))

fresh_where : (b c : Bool) → b ≡ not c → b ≡ true → c ≡ false
fresh_where b true is b_yes = absurd (true≢false (sym b_yes ∙ is))
fresh_where b false is b_yes = refl

-- the numbers of cases
abbrev pub numbers : List (ℕ × Name) → List ℕ
numbers cases = map (λ (c : ℕ × Name). c.0) cases

-- those from a case on
from : (cases : List (ℕ × Name)) (i : ℕ) (c : ℕ × Name) → i < length cases → c ≡ get_or cases i c
    → numbers (drop i cases) ≡ c.0 ∷ numbers (drop (i + 1) cases)
from cases i c in_range is =
    ap numbers (drop_more cases i c in_range) ∙ ap (λ (d : ℕ × Name). d.0 ∷ numbers (drop (i + 1) cases)) (sym is)

-- the case's number is kept already
pub again_here : (s : BTreeSet ℕ) (cases : List (ℕ × Name)) (i : ℕ) (c : ℕ × Name) (b : Bool) → i < length cases
    → c ≡ get_or cases i c → b ≡ not (contains nat_cmp s c.0) → b ≡ false
    → AreNew s (numbers (drop i cases)) → ⊥
again_here s cases i c b in_range is told b_no new =
    again s c.0 (numbers (drop (i + 1) cases)) (kept_where b _ told b_no)
    (subst (AreNew s) (from cases i c in_range is) new)

-- it is kept now
pub step_here : (s t : BTreeSet ℕ) (cases : List (ℕ × Name)) (i : ℕ) (c : ℕ × Name) (b : Bool) → i < length cases
    → c ≡ get_or cases i c → b ≡ not (contains nat_cmp s c.0)
    → b ≡ true → Updates nat_cmp s t c.0 true
    → AreNew s (numbers (drop i cases)) ↔ AreNew t (numbers (drop (i + 1) cases))
step_here s t cases i c b in_range is told b_yes put =
    let next = step s t c.0 (numbers (drop (i + 1) cases)) (fresh_where b _ told b_yes) put in
    let here = from cases i c in_range is in
    (λ new. next.0 (subst (AreNew s) here new), λ new. subst (AreNew s) (sym here) (next.1 new))
