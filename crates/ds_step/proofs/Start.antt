-- The words at the start are their pieces, one after another.
use Rattle.std.proofs.Common.{◌≡◌, ℕ, ◌-◌, ◌≤◌, List, ◌++◌, length, replicate, arith, length-append}
use Rattle.std.proofs.lemmas.List.{length-replicate, length-set}
use Rattle.ds_map.specs.Bounds.{Bounds}
use Rattle.ds_map.specs.Regions.{program_words}
use Rattle.ds_map.specs.Words.{control_words, first_program_word, words, word_of, first_control_words, first_words}

-- the pieces that `VecWords::new` puts together
pub pieces-first_words : (lim : Bounds) (image w1 w2 w3 w4 : List ℕ) (first len : ℕ)
    → first ≡ word_of lim 0 → len ≡ words lim
    → w1 ≡ first_control_words → w2 ≡ w1 ++ replicate (first - 384) 0
    → w3 ≡ w2 ++ image → w4 ≡ w3 ++ replicate (len - first - length image) 0
    → w4 ≡ first_words lim image
unfolding first_words
pieces-first_words lim image w1 w2 w3 w4 first len f n e1 e2 e3 e4 =
    let before : first - 384 ≡ first_program_word lim - control_words = omega arith in
    let after : len - first - length image ≡ program_words lim - length image = omega arith in
    cc

-- the table has as many words as its parts together
pub length-first_words : (lim : Bounds) (image : List ℕ) → length image ≤ 4096
    → length (first_words lim image) ≡ words lim
unfolding first_words
length-first_words lim image h = simp (length-append, length-replicate, length-set) (omega arith)
