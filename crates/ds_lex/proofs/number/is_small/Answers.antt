use Rattle.std.proofs.Common.{sym}
use Rattle.ds_lex.proofs.Decimals.{small_some, small_none}
use Rattle.ds_lex.proofs.number.is_small.Goals as goal

pub returns-in-Some : goal.returns-in-Some
returns-in-Some c = sym (small_some c.args.digits.now c.in-Some.value (sym c.in-Some.ensures))

pub returns-in-None : goal.returns-in-None
returns-in-None c = sym (small_none c.args.digits.now (sym c.in-None.ensures))
