-- A value that a test chooses, and a function with one value replaced.
use Rattle.std.proofs.Common.{◌≡◌, ℕ, Bool, true, false, if◌then◌else◌, refl}
use Rattle.std.proofs.lemmas.Bool.{eq-eqb, ne_eqb}
use Rattle.ds_plain.specs.State.{replaced}

-- what holds of both answers of a test, where the test gives them, holds of the answer
pub of_test : {A : Type 0} (P : A → Type 0) (b : Bool) (x y : A) → (b ≡ true → P x) → (b ≡ false → P y)
    → P (if b then x else y)
of_test P true x y p q = p refl
of_test P false x y p q = q refl

-- what holds of both answers of a test holds of the answer
pub of_if : {A : Type 0} (P : A → Type 0) (b : Bool) (x y : A) → P x → P y → P (if b then x else y)
of_if P true x y p q = p
of_if P false x y p q = q

-- f with the value x at t, at t and elsewhere
pub replaced_same : {A : Type 0} (f : ℕ → A) (t : ℕ) (x : A) → replaced f t x t ≡ x
replaced_same f t x = rw (eq-eqb t t refl)

pub replaced_other : {A : Type 0} (f : ℕ → A) (t : ℕ) (x : A) (u : ℕ) → (t ≡ u → ⊥) → replaced f t x u ≡ f u
replaced_other f t x u ne = rw (ne_eqb t u ne)
