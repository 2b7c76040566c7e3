-- What is read from here, behind these cases, is what is read from the first token on.
use Rattle.std.proofs.Common.{◌≡◌, length, []}
use Rattle.ds_grammar.specs.Reading.{value_at}
use Rattle.ds_parse_instr.proofs.Cases.{cases_from}
use Rattle.ds_parse_instr.proofs.control.cases.Given as goal

abbrev pub invariant-cases : goal.invariant-cases
invariant-cases l = value_at (cases_from l.ty l.cases) l.rest ≡ value_at (cases_from l.ty []) l.fn.rest

abbrev pub decreases-cases : goal.decreases-cases
decreases-cases l = length l.rest.left
