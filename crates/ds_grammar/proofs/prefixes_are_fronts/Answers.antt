use Rattle.ds_grammar.proofs.Laws.{prefixes}
use Rattle.ds_grammar.proofs.prefixes_are_fronts.Goals as goal

pub returns : goal.returns
returns c = prefixes
