-- The statements of the laws.
use Rattle.std.specs.Prelude.{◌≡◌, true, false}
use Rattle.ds_ast.specs.declared.module.Module.{Module}
use Rattle.ds_map.specs.Bounds.{Bounds}
use Rattle.ds_shape.specs.Accepted.{HasLayout, Accepted}
use Rattle.ds_meaning.specs.Program.{program_of}
use Rattle.ds_code.specs.declared.functions.CodeParts.{CodeParts}
use Rattle.ds_code.specs.Lowering.{IsLowered}
use Rattle.ds_code.specs.CodeProgram as code
use Rattle.ds_pass.specs.Noted.{noted}

-- An accepted module with its notes, which stand behind its stores of pointers, asks what the module asks, whose
-- stores of pointers note by themselves.
abbrev pub NotedModulesAgree : Type 0
NotedModulesAgree = (m : Module) (lim : Bounds) → Accepted m → program_of false lim (noted m) ≡ program_of true lim m

-- So does the code that it is lowered to.
abbrev pub NotedCodeMeans : Type 0
NotedCodeMeans = (m : Module) (lim : Bounds) (parts : CodeParts) → Accepted m → IsLowered (noted m) parts →
    code.program_of lim parts ≡ program_of true lim m

-- A module that has a layout has one with its notes, which write no type but void.
abbrev pub NotesKeepLayout : Type 0
NotesKeepLayout = (m : Module) → HasLayout m → HasLayout (noted m)
