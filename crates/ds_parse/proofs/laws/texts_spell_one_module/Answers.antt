use Rattle.ds_parse.proofs.Texts.{one_module}
use Rattle.ds_parse.proofs.laws.texts_spell_one_module.Goals as goal

pub returns : goal.returns
returns c = one_module c.tokens_are_unique.ensures c.forms_are_unique.ensures
