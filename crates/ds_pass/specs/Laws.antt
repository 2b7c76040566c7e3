-- The statement of the law.
use Rattle.ds_ast.specs.declared.module.Module.{Module}
use Rattle.ds_ast.specs.Bounds.{Bounds}
use Rattle.ds_pass.specs.Noted.{noted}

-- a module within its bounds is within them with its notes
abbrev pub NotesKeepBounds : Type 0
NotesKeepBounds = (m : Module) → Bounds m → Bounds (noted m)
