use Rattle.ds_grammar.proofs.Laws.{forms_unique}
use Rattle.ds_grammar.proofs.forms_are_unique.Goals as goal

pub returns : goal.returns
returns c = forms_unique
