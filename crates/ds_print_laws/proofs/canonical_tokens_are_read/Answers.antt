use Rattle.std.proofs.Common.{arith}
use Rattle.ds_print_laws.proofs.Modules.{canonical_tokens_read}
use Rattle.ds_print_laws.proofs.canonical_tokens_are_read.Goals as goal

pub returns : goal.returns
returns c = canonical_tokens_read (record {
  items = c.runs_go_on.ensures.items;
  ends = c.runs_go_on.ensures.end;
  optionals = c.optionals_are_read.ensures;
  digits = λ n lt. (c.decimals_are_read.ensures.digits n (omega (arith, lt))).0;
  decimals = c.decimals_are_read.ensures.number;
  negatives = c.decimals_are_read.ensures.negative;
})
