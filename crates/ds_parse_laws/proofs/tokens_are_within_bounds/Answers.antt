use Rattle.ds_parse_laws.proofs.Modules.{tokens_within}
use Rattle.ds_parse_laws.proofs.tokens_are_within_bounds.Goals as goal

pub returns : goal.returns
returns c = tokens_within
