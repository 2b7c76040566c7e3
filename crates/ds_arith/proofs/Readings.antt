-- The signed number that some bits stand for, by cases on the highest.
use Rattle.std.proofs.Common.{◌≡◌, ℕ, ◌+◌, ◌-◌, ◌*◌, ◌^◌, ◌<◌, ◌≤◌, ◌⊎◌, inl, inr, Bool, true, false, cond, ltb}
use Rattle.std.proofs.Common.{ℤ, pos, ◌-ℤ◌, unsigned_abs, refl, sym, ap, ◌∙◌, arith, pow_mono, mod-eq_of_lt}
use Rattle.std.proofs.lemmas.Bool.{ltb-true, ltb-false, lt-ltb, le-ltb}
use Rattle.std.proofs.lemmas.Int.{ints, int_rem_euclid_is}
use Rattle.std.proofs.lemmas.Nat.{pow_pos, pow-add}
use Rattle.ds_arith.specs.Numbers.{signed, stored}

doubled : (w : ℕ) → 1 ≤ w → 2 ^ w ≡ 2 ^ (w - 1) + 2 ^ (w - 1)
doubled w h =
    let e : w ≡ (w - 1) + 1 = omega arith in
    let p : 2 ^ ((w - 1) + 1) ≡ 2 ^ (w - 1) * 2 ^ 1 = pow-add 2 (w - 1) 1 in
    omega (arith, ap (λ (k : ℕ). 2 ^ k) e ∙ p)

-- z is what the bits n of width w stand for
abbrev pub Reading : ℕ → ℕ → ℤ → Type 0
Reading w n z = ((n < 2 ^ (w - 1)) × (z ≡ pos n)) ⊎ ((2 ^ (w - 1) ≤ n) × (z ≡ pos n -ℤ pos (2 ^ w)))

pub reads_clear : (w n : ℕ) → n < 2 ^ (w - 1) → signed w n ≡ pos n
reads_clear w n h = ap (λ (b : Bool). cond b (pos n) (pos n -ℤ pos (2 ^ w))) (lt-ltb n (2 ^ (w - 1)) h)

pub reads_set : (w n : ℕ) → 2 ^ (w - 1) ≤ n → signed w n ≡ pos n -ℤ pos (2 ^ w)
reads_set w n h = ap (λ (b : Bool). cond b (pos n) (pos n -ℤ pos (2 ^ w))) (le-ltb n (2 ^ (w - 1)) h)

by_test : (w n : ℕ) (t : Bool) → ltb n (2 ^ (w - 1)) ≡ t → Reading w n (signed w n)
by_test w n true e = let h = ltb-true n (2 ^ (w - 1)) e in inl (h, reads_clear w n h)
by_test w n false e = let h = ltb-false n (2 ^ (w - 1)) e in inr (h, reads_set w n h)

pub reads : (w n : ℕ) → Reading w n (signed w n)
reads w n = by_test w n (ltb n (2 ^ (w - 1))) refl

-- the bits of a number that is not negative, and of one that is not below -2 ^ w
pub stored_pos : (w n : ℕ) → n < 2 ^ w → stored w (pos n) ≡ n
stored_pos w n h = mod-eq_of_lt h

pub stored_from : (w m : ℕ) (z : ℤ) → m < 2 ^ w → z ≡ pos m -ℤ pos (2 ^ w) → stored w z ≡ m
stored_from w m z h e =
    let p = pow_pos w in
    ap unsigned_abs (int_rem_euclid_is z (pos (2 ^ w)) (2 ^ w) 1 m p refl (omega (arith, ints))) ∙ mod-eq_of_lt h

keeps : (f t n : ℕ) (z : ℤ) → 1 ≤ f → f ≤ t → n < 2 ^ f → Reading f n z → signed t (stored t z) ≡ z
keeps f t n z one h k (inl r) =
    let lower : 2 ^ (f - 1) ≤ 2 ^ (t - 1) = pow_mono {i = f - 1} {j = t - 1} (omega arith) in
    let all : 2 ^ f ≤ 2 ^ t = pow_mono {i = f} {j = t} h in
    let bits : stored t z ≡ n = ap (stored t) r.1 ∙ stored_pos t n (omega arith) in
    ap (signed t) bits ∙ reads_clear t n (omega arith) ∙ sym r.1
keeps f t n z one h k (inr r) =
    let lower : 2 ^ (f - 1) ≤ 2 ^ (t - 1) = pow_mono {i = f - 1} {j = t - 1} (omega arith) in
    let all : 2 ^ f ≤ 2 ^ t = pow_mono {i = f} {j = t} h in
    let double_f = doubled f one in
    let double_t = doubled t (omega arith) in
    let e = r.1 in
    let bits : stored t z ≡ n + (2 ^ t - 2 ^ f) =
    stored_from t (n + (2 ^ t - 2 ^ f)) z (omega arith) (omega (arith, ints)) in
    let set : signed t (n + (2 ^ t - 2 ^ f)) ≡ pos (n + (2 ^ t - 2 ^ f)) -ℤ pos (2 ^ t) =
    reads_set t (n + (2 ^ t - 2 ^ f)) (omega arith) in
    ap (signed t) bits ∙ set ∙ omega (arith, ints)

-- in more bits it is the same number
pub extended : (f t n : ℕ) → 1 ≤ f → f ≤ t → n < 2 ^ f → signed t (stored t (signed f n)) ≡ signed f n
extended f t n one h k = keeps f t n (signed f n) one h k (reads f n)
