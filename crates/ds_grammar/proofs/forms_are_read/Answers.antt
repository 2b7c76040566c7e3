use Rattle.ds_grammar.proofs.Laws.{forms_read}
use Rattle.ds_grammar.proofs.forms_are_read.Goals as goal

pub returns : goal.returns
returns c = forms_read
