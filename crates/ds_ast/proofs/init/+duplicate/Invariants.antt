use Rattle.std.proofs.Common.{◌≡◌, take}
use Rattle.ds_ast.proofs.init.+duplicate.Given as goal

abbrev pub invariant-duplicate_inits-loop-init : goal.invariant-duplicate_inits-loop-init
invariant-duplicate_inits-loop-init l = l.copy ≡ take l.init-index l.inits
