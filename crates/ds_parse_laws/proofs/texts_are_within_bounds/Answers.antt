use Rattle.ds_parse_laws.proofs.Texts.{texts_within}
use Rattle.ds_parse_laws.proofs.texts_are_within_bounds.Goals as goal

pub returns : goal.returns
returns c = texts_within c.tokens_are_within_bounds.ensures
