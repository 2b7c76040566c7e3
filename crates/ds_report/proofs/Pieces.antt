-- Pieces that are added one after another.
use Rattle.std.proofs.Common.{◌≡◌, ℕ, List, ◌++◌, append_assoc, ◌∙◌, ap}

-- three pieces in a row
pub three_more : (old a b c x y z : List ℕ) → x ≡ old ++ a → y ≡ x ++ b → z ≡ y ++ c → z ≡ old ++ (a ++ b ++ c)
three_more old a b c x y z p q r =
    r ∙ ap (λ (l : List ℕ). l ++ c) (q ∙ ap (λ (l : List ℕ). l ++ b) p ∙ append_assoc old a b)
    ∙ append_assoc old (a ++ b) c

-- a piece behind a front
pub one_more : (old front a x y : List ℕ) → x ≡ old ++ front → y ≡ x ++ a → y ≡ old ++ (front ++ a)
one_more old front a x y p q = q ∙ ap (λ (l : List ℕ). l ++ a) p ∙ append_assoc old front a
