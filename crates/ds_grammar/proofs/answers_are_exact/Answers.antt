use Rattle.ds_grammar.proofs.Parsed.{answers_exact, spelled_answered, refused_answered}
use Rattle.ds_grammar.proofs.answers_are_exact.Goals as goal

pub returns-clause-exact : goal.returns-clause-exact
returns-clause-exact c = answers_exact

pub returns-clause-spelled : goal.returns-clause-spelled
returns-clause-spelled c = spelled_answered

pub returns-clause-fault : goal.returns-clause-fault
returns-clause-fault c = refused_answered
