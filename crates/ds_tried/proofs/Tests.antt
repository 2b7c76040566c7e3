-- Tests that compute, and what they tell.
use Rattle.std.proofs.Common.{◌≡◌, ℕ, ◌<◌, ◌≤◌, ◌==◌, Bool, true, false, not, ◌&&◌, ◌||◌, nat_lt, nat_le}
use Rattle.std.proofs.Common.{refl, sym, ap, ◌∙◌, inl, inr, ◌⊎◌, Option, Some, None}
use Rattle.std.proofs.lemmas.Bool.{eqb-true, eq-eqb, ltb-true, lt-ltb, leb-true, le-leb, not-true, and_from, and_parts}
use Rattle.std.proofs.lemmas.Bool.{or_left, or_right, true≢false}
use Rattle.std.specs.Prelude.{is_none}

-- the test holds exactly where the statement does
pub record Tells (b : Bool) (P : Type 0) : Type 0 where
  pub so : b ≡ true → P
  pub true_is : P → b ≡ true

pub both : {a b : Bool} {P Q : Type 0} → Tells a P → Tells b Q → Tells (a && b) (P × Q)
both {a} {b} p q = record {
  so = λ e. (p.so (and_parts a b e).0, q.so (and_parts a b e).1);
  true_is = λ h. and_from a b (p.true_is h.0) (q.true_is h.1);
}

pub either : {a b : Bool} {P Q : Type 0} → Tells a P → Tells b Q → Tells (a || b) (P ⊎ Q)
either {a} {b} {P} {Q} p q = record {
  so = by a p;
  true_is = elim [ inl h ↦ or_left a b (p.true_is h) | inr h ↦ or_right a b (q.true_is h) ];
}
  where
    by : (a : Bool) → Tells a P → (a || b) ≡ true → P ⊎ Q
    by true p e = inl (p.so refl)
    by false p e = inr (q.so e)

pub not_so : {a : Bool} {P : Type 0} → Tells a P → Tells (not a) (¬ P)
not_so {a} p = record {
  so = λ e h. true≢false (sym (p.true_is h) ∙ not-true a e);
  true_is = by a p;
}
  where
    by : {P : Type 0} (a : Bool) → Tells a P → ¬ P → not a ≡ true
    by true p h = absurd (h (p.so refl))
    by false p h = refl

-- a test that says the same of what is as good
pub as_good : {a : Bool} {P Q : Type 0} → (P → Q) → (Q → P) → Tells a P → Tells a Q
as_good there back p = record { so = λ e. there (p.so e); true_is = λ h. p.true_is (back h) }

pub equal : (a b : ℕ) → Tells (a == b) (a ≡ b)
equal a b = record { so = eqb-true a b; true_is = eq-eqb a b }

pub less : (a b : ℕ) → Tells (nat_lt a b) (a < b)
less a b = record { so = ltb-true a b; true_is = lt-ltb a b }

pub at_most : (a b : ℕ) → Tells (nat_le a b) (a ≤ b)
at_most a b = record { so = leb-true a b; true_is = le-leb a b }

pub is_so : (b : Bool) → Tells b (b ≡ true)
is_so b = record { so = λ e. e; true_is = λ e. e }

pub never : Tells false ⊥
never = record { so = λ e. true≢false (sym e); true_is = λ h. absurd h }

pub always : Tells true (Unit {0})
always = record { so = λ e. tt; true_is = λ h. refl }

abbrev pub same : Bool → Bool → Bool
same true b = b
same false b = not b

pub same_tests : (a b : Bool) → Tells (same a b) (b ≡ a)
same_tests true b = is_so b
same_tests false b = record { so = not-true b; true_is = λ h. ap not h }

-- AN OPTIONAL VALUE

abbrev pub holds : {A : Type 0} → (A → Bool) → Option A → Bool
holds p None = false
holds p (Some x) = p x

-- the value is there and passes
pub held : {A : Type 0} (p : A → Bool) (o : Option A) → holds p o ≡ true → (x : A) × (o ≡ Some x) × (p x ≡ true)
held p None e = absurd (true≢false (sym e))
held p (Some x) e = (x, refl, e)

pub holding : {A : Type 0} (p : A → Bool) (o : Option A) (x : A) → o ≡ Some x → p x ≡ true → holds p o ≡ true
holding p o x is e = ap (holds p) is ∙ e

pub none_is : {A : Type 0} (o : Option A) → Tells (is_none o) (o ≡ None)
none_is None = record { so = λ e. refl; true_is = λ h. refl }
none_is (Some x) = record { so = λ e. absurd (true≢false (sym e)); true_is = λ h. cc h }
