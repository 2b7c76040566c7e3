use Rattle.std.proofs.Common.{◌≡◌, ◌-◌, ◌++◌}
use Rattle.ds_shape.specs.Image.{words_of}
use Rattle.ds_lower_parts.proofs.image.push_words.Given as goal

-- the words so far and those from here on
abbrev pub invariant-loop-i : goal.invariant-loop-i
invariant-loop-i l = l.words ++ words_of (l.count - l.i) l.rest ≡ l.initial.words ++ words_of l.count l.bytes
