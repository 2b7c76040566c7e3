use Rattle.ds_grammar.proofs.Runs.{items, ends, stops}
use Rattle.ds_grammar.proofs.runs_go_on.Goals as goal

pub returns-clause-items : goal.returns-clause-items
returns-clause-items c = items

pub returns-clause-end : goal.returns-clause-end
returns-clause-end c = ends

pub returns-clause-stop : goal.returns-clause-stop
returns-clause-stop c = stops
