use Rattle.std.proofs.Common.{◌≡◌, take, length}
use Rattle.ds_ast.proofs.init.+is_same.Given as goal

abbrev pub invariant-are_same_inits-loop-i : goal.invariant-are_same_inits-loop-i
invariant-are_same_inits-loop-i l = (length l.a ≡ length l.b) × (take l.i l.a ≡ take l.i l.b)
