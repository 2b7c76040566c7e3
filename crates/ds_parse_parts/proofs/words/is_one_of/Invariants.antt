-- The bytes are one of the words that are left as they are one of all.
use Rattle.std.proofs.Common.{◌≡◌, drop, map}
use Rattle.ds_grammar.specs.Words.{is_one_of}
use Rattle.ds_parse_parts.proofs.words.is_one_of.Given as goal

abbrev pub invariant-loop-word : goal.invariant-loop-word
invariant-loop-word l =
    is_one_of (map (λ w. w.now) (drop l.word-index l.words)) l.bytes ≡ is_one_of (map (λ w. w.now) l.words) l.bytes
