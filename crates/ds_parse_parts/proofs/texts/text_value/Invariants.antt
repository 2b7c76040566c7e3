-- What was pushed and what the rest stands for is what all bytes stand for.
use Rattle.std.proofs.Common.{◌≡◌, ◌++◌, length}
use Rattle.ds_grammar.specs.Texts.{text_value}
use Rattle.ds_parse_parts.proofs.texts.text_value.Given as goal

abbrev pub invariant-loop-byte : goal.invariant-loop-byte
invariant-loop-byte l = l.value.items ++ text_value l.rest ≡ text_value l.bytes

abbrev pub decreases-loop-byte : goal.decreases-loop-byte
decreases-loop-byte l = length l.rest
