-- The tokens so far are those up to the place, which goes on.
use Rattle.std.proofs.Common.{◌-◌, length}
use Rattle.ds_lex.proofs.Lexing.{Lexing}
use Rattle.ds_lex.proofs.scanner.lex.Given as goal

abbrev pub invariant-loop-tokens : goal.invariant-loop-tokens
invariant-loop-tokens l = Lexing l.text l.at l.tokens.items

abbrev pub decreases-loop-tokens : goal.decreases-loop-tokens
decreases-loop-tokens l = length l.text - l.at
