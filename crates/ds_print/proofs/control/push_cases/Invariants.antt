use Rattle.std.proofs.Common.{◌≡◌, ◌++◌, take}
use Rattle.std.specs.List.{flat_map}
use Rattle.ds_lex.specs.Written.{written}
use Rattle.ds_print.specs.Canonical.{case_pieces}
use Rattle.ds_print.proofs.control.push_cases.Given as goal

-- what the list has so far was added
abbrev pub invariant-loop-case : goal.invariant-loop-case
invariant-loop-case l =
    l.text.items ≡ l.fn.text.items ++ written (flat_map (case_pieces l.fn.ty) (take l.case-index l.cases))
