-- Equality of values, as a test. Every type of a program has a code: a map of its values into trees of numbers that
-- is one to one.
use Rattle.std.specs.Prelude.{◌≡◌, Bool, true, false, ◌&&◌, refl}
use Rattle.std.specs.Coded.{Coded}
use Rattle.std.specs.Cmp.{IsPartialEquivalence, IsEquivalence, both_ways}
use Rattle.std.proofs.Common.{sym, ap, subst, ◌∙◌, eqb, true≢false}
use Rattle.std.proofs.lemmas.Bool.{eqb-true, eq-eqb}
use base.Stored.{Gv, gnil, gnum, gcons}

-- the two codes are one
abbrev pub is_one_code : Gv → Gv → Bool
is_one_code gnil gnil = true
is_one_code gnil (gnum n) = false
is_one_code gnil (gcons c d) = false
is_one_code (gnum m) gnil = false
is_one_code (gnum m) (gnum n) = eqb m n
is_one_code (gnum m) (gcons c d) = false
is_one_code (gcons a b) gnil = false
is_one_code (gcons a b) (gnum n) = false
is_one_code (gcons a b) (gcons c d) = is_one_code a c && is_one_code b d

-- the two values are one
unfoldable pub is_equal : {A : Type 0} → Coded A → A → A → Bool
is_equal coded x y = is_one_code (coded.code x) (coded.code y)

first : (s t : Bool) → (s && t) ≡ true → s ≡ true
first true t e = refl
first false t e = e

second : (s t : Bool) → (s && t) ≡ true → t ≡ true
second true t e = e
second false t e = absurd (true≢false (sym e))

both : (s t : Bool) → s ≡ true → t ≡ true → (s && t) ≡ true
both true t d e = e
both false t d e = d

one_code : (a b : Gv) → is_one_code a b ≡ true → a ≡ b
one_code gnil gnil t = refl
one_code gnil (gnum n) t = absurd (true≢false (sym t))
one_code gnil (gcons c d) t = absurd (true≢false (sym t))
one_code (gnum m) gnil t = absurd (true≢false (sym t))
one_code (gnum m) (gnum n) t = ap gnum (eqb-true m n t)
one_code (gnum m) (gcons c d) t = absurd (true≢false (sym t))
one_code (gcons a b) gnil t = absurd (true≢false (sym t))
one_code (gcons a b) (gnum n) t = absurd (true≢false (sym t))
one_code (gcons a b) (gcons c d) t = λ i. gcons (one_code a c (first _ _ t) i) (one_code b d (second _ _ t) i)

itself : (a : Gv) → is_one_code a a ≡ true
itself gnil = refl
itself (gnum n) = eq-eqb n n refl
itself (gcons a b) = both _ _ (itself a) (itself b)

module _ {A : Type 0} (c : Coded A) where
  -- the test is true of equal values alone
  pub equal_is : (x y : A) → is_equal c x y ≡ true → x ≡ y
  unfolding is_equal
  equal_is x y t = c.inj x y (one_code (c.code x) (c.code y) t)

  -- the test is true of all equal values
  pub is_equal_of : (x y : A) → x ≡ y → is_equal c x y ≡ true
  unfolding is_equal
  is_equal_of x y e = subst (λ z. is_equal c x z ≡ true) e (itself (c.code x))

  pub equal_laws : IsPartialEquivalence (is_equal c)
  equal_laws = record {
    symm = λ x y. both_ways (is_equal c x y) (is_equal c y x) (λ t. is_equal_of y x (sym (equal_is x y t)))
        (λ t. is_equal_of x y (sym (equal_is y x t)));
    trans = λ x y z p q. is_equal_of x z (equal_is x y p ∙ equal_is y z q);
  }

  pub equal_equivalence : IsEquivalence (is_equal c)
  equal_equivalence = record {
    refl = λ x. is_equal_of x x refl;
    symm = equal_laws.symm;
    congr = λ x y z p. both_ways (is_equal c x z) (is_equal c y z)
        (λ t. is_equal_of y z (sym (equal_is x y p) ∙ equal_is x z t))
        (λ t. is_equal_of x z (equal_is x y p ∙ equal_is y z t));
  }
