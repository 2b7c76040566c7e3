-- Lines for each of several threads, one after another.
use Rattle.std.proofs.Common.{◌≡◌, ℕ, zero, suc, ◌+◌, ◌<◌, List, [], ◌∷◌, ◌++◌, length, take, get_or, append_assoc, ap}
use Rattle.std.proofs.Common.{sym, ◌∙◌, arith, add-one, add-zero, zero-add, append-nil}
use Rattle.ds_report.specs.Lines.{lines_from}

module _ {A : Type 0} (lines : ℕ → A → List ℕ) where
  -- one more
  lines_from-take : (n : ℕ) (xs : List A) (i : ℕ) (d : A) → i < length xs
      → lines_from lines n (take (i + 1) xs) ≡ lines_from lines n (take i xs) ++ lines (n + i) (get_or xs i d)
  lines_from-take n [] i d h = absurd (omega arith)
  lines_from-take n (x ∷ xs) zero d h = rw add-zero (append-nil (lines n x))
  lines_from-take n (x ∷ xs) (suc i) d h =
      let inside : i < length xs = omega arith in
      let place : n + 1 + i ≡ n + suc i = omega arith in
      let so_far : List ℕ = lines_from lines (n + 1) (take i xs) in
      rw (add-one)
      (ap (λ (rest : List ℕ). lines n x ++ rest)
      (ap (λ (j : ℕ). lines_from lines (n + 1) (take j xs)) (sym (add-one i))
      ∙ lines_from-take (n + 1) xs i d inside)
      ∙ (sym (append_assoc (lines n x) so_far (lines (n + 1 + i) (get_or xs i d)))
      ∙ ap (λ (j : ℕ). lines n x ++ so_far ++ lines j (get_or xs i d)) place))

  -- one more at the end of a text
  pub lines_from_more : (xs : List A) (i : ℕ) (d : A) (old before after : List ℕ)
      → i < length xs → before ≡ old ++ lines_from lines 0 (take i xs)
      → after ≡ before ++ lines i (get_or xs i d) → after ≡ old ++ lines_from lines 0 (take (i + 1) xs)
  lines_from_more xs i d old before after inside so_far added =
      let line : List ℕ = lines i (get_or xs i d) in
      let front : List ℕ = lines_from lines 0 (take i xs) in
      let next : lines_from lines 0 (take (i + 1) xs) ≡ front ++ line =
      lines_from-take 0 xs i d inside ∙ ap (λ (j : ℕ). front ++ lines j (get_or xs i d)) (zero-add i) in
      added ∙ ap (λ (l : List ℕ). l ++ line) so_far ∙ append_assoc old front line
      ∙ ap (λ (l : List ℕ). old ++ l) (sym next)
