use Rattle.ds_grammar.proofs.Laws.{dead_ends_exist}
use Rattle.ds_grammar.proofs.dead_ends_exist.Goals as goal

pub returns : goal.returns
returns c = dead_ends_exist
