-- What is left of the table has for the bytes what the whole has.
use Rattle.std.proofs.Common.{◌≡◌, drop, map}
use Rattle.ds_grammar.specs.Tokens.{lookup}
use Rattle.ds_parse_parts.proofs.words.find.Given as goal

abbrev pub invariant-loop-word : goal.invariant-loop-word
invariant-loop-word g l = lookup (map (λ row. (row.0.now, row.1)) (drop l.word-index l.table)) l.bytes
    ≡ lookup (map (λ row. (row.0.now, row.1)) l.table) l.bytes
