use Rattle.ds_print_laws.proofs.Whole.{canonical_pieces_apart}
use Rattle.ds_print_laws.proofs.canonical_pieces_are_apart.Goals as goal

pub returns : goal.returns
returns c = canonical_pieces_apart (record {
  digits = c.decimals_are_read.ensures.digits;
  read = c.decimals_are_read.ensures.number;
  negative = c.decimals_are_read.ensures.negative;
})
