use Rattle.ds_grammar.proofs.Laws.{reading_exact}
use Rattle.ds_grammar.proofs.reading_is_exact.Goals as goal

pub returns : goal.returns
returns c = reading_exact
