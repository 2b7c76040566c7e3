use Rattle.std.proofs.Common.{◌≡◌, ◌++◌, take, map}
use Rattle.ds_lex.specs.Written.{written}
use Rattle.ds_print.specs.Canonical.{arm_pieces, listed}
use Rattle.ds_print.proofs.selection.push_arms.Given as goal

-- what the list has so far was added
abbrev pub invariant-loop-index : goal.invariant-loop-index
invariant-loop-index l =
    l.text.items ≡ l.fn.text.items ++ written (listed (map (arm_pieces l.fn.ty) (take l.index l.arms)))
