-- Bytes so many times, and once more.
use Rattle.std.proofs.Common.{◌≡◌, ℕ, ◌+◌, List, ◌++◌, ◌∙◌, ap, sym, add-one}
use Rattle.std.proofs.lemmas.List.{append_assoc}
use Rattle.ds_cases.specs.Texts.{repeated}

pub once_more : (front before after bytes : List ℕ) (times : ℕ) → before ≡ front ++ repeated times bytes
    → after ≡ before ++ bytes → after ≡ front ++ repeated (times + 1) bytes
once_more front before after bytes times so_far more =
    more ∙ ap (λ xs. xs ++ bytes) so_far ∙ append_assoc front (repeated times bytes) bytes
    ∙ ap (λ n. front ++ repeated n bytes) (sym (add-one times))
