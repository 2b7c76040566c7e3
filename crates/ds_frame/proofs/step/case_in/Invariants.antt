use Rattle.std.proofs.Common.{◌≡◌, drop}
use Rattle.ds_code.specs.CodeMeaning.{case_in}
use Rattle.ds_frame.proofs.step.case_in.Given as goal

-- no case so far is the number's
abbrev pub invariant-loop-case : goal.invariant-loop-case
invariant-loop-case l = case_in l.number (drop l.case-index l.cases) l.other ≡ case_in l.number l.cases l.other
