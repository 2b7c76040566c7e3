-- The words at the start.
use Rattle.std.proofs.Common.{◌≡◌, ℕ, ◌+◌, ◌-◌, ◌<◌, ◌≤◌, List, ◌++◌, length, replicate, slice_index, refl, ap}
use Rattle.std.proofs.Common.{◌∙◌, arith}
use Rattle.std.proofs.lemmas.List.{length-append, length-replicate, get_or_append_left, get_or-append_right}
use Rattle.std.proofs.lemmas.List.{get_or-replicate}
use Rattle.ds_map.specs.Bounds.{Bounds}
use Rattle.ds_map.specs.Regions.{program_words}
use Rattle.ds_map.specs.Words.{control_words, first_program_word, first_control_words, first_words}

-- the front of a list is no longer than the list
longer : (front zeros image rest : List ℕ) (n : ℕ) → length front + length zeros ≡ n
    → n ≤ length (front ++ zeros ++ image ++ rest)
longer front zeros image rest n is =
    omega (
      arith,
      is,
      length-append (front ++ zeros ++ image) rest,
      length-append (front ++ zeros) image,
      length-append front zeros,
    )

-- no log was drawn
pub counter_first : (lim : Bounds) (image : List ℕ) → slice_index (first_words lim image) 3 ≡ 0
unfolding first_words
counter_first lim image = refl

-- there are words up to those of the program
pub roomy_first : (lim : Bounds) (image : List ℕ) → first_program_word lim ≤ length (first_words lim image)
unfolding first_words
roomy_first lim image =
    longer first_control_words (replicate (first_program_word lim - control_words) 0) image
    (replicate (program_words lim - length image) 0) (first_program_word lim)
    (omega (arith, length-replicate {A = ℕ} (first_program_word lim - control_words) 0))

-- what lies between the front of a list and what follows
between : (front image rest : List ℕ) (n k : ℕ) → length front ≤ k → k < length front + n
    → slice_index (front ++ replicate n 0 ++ image ++ rest) k ≡ 0
between front image rest n k le lt =
    let long : length (front ++ replicate n 0) ≡ length front + n =
    length-append front (replicate n 0) ∙ ap (λ m. length front + m) (length-replicate {A = ℕ} n 0) in
    get_or_append_left (front ++ replicate n 0 ++ image) rest 0 k
    (omega (arith, length-append (front ++ replicate n 0) image, long))
    ∙ (get_or_append_left (front ++ replicate n 0) image 0 k (omega (arith, long))
    ∙ (get_or-append_right front (replicate n 0) (length front) k 0 refl le
    ∙ get_or-replicate n (k - length front) 0 0 (omega arith)))

-- behind the control words and before the program words there are zeros
pub zero_word : (lim : Bounds) (image : List ℕ) (k : ℕ) → control_words ≤ k → k < first_program_word lim
    → slice_index (first_words lim image) k ≡ 0
unfolding first_words
zero_word lim image k le lt =
    between first_control_words image (replicate (program_words lim - length image) 0)
    (first_program_word lim - control_words) k le (omega arith)
