-- The statement of the law.
use Rattle.std.specs.Prelude.{Bool}
use Rattle.ds_ast.specs.declared.module.Module.{Module}
use Rattle.ds_map.specs.Bounds.{Bounds}
use Rattle.ds_shape.specs.Accepted.{Accepted}
use Rattle.ds_plain.specs.Asking.{HasRows}
use Rattle.ds_meaning.specs.Program.{program_of}

-- All that a thread of an accepted module asks, whether its stores are noted or not, has a row of the step table,
-- whatever the thread is told.
abbrev pub AcceptedModulesAskRows : Type 0
AcceptedModulesAskRows =
    (noting : Bool) (m : Module) (lim : Bounds) → Accepted m → HasRows lim (program_of noting lim m)
