use Rattle.ds_grammar.proofs.Parsed.{whole_exact, wholes_answered, not_refused, refused_wholes_answered}
use Rattle.ds_grammar.proofs.whole_answers_are_exact.Goals as goal

pub returns-clause-exact : goal.returns-clause-exact
returns-clause-exact c = whole_exact

pub returns-clause-spelled : goal.returns-clause-spelled
returns-clause-spelled c = wholes_answered

pub returns-clause-refused : goal.returns-clause-refused
returns-clause-refused c = not_refused

pub returns-clause-fault : goal.returns-clause-fault
returns-clause-fault c = refused_wholes_answered
