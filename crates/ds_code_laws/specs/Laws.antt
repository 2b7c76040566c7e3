-- The statements of the laws.
use Rattle.std.specs.Prelude.{◌≡◌, ℕ, false, List, slice_get, Some}
use Rattle.ds_ast.specs.declared.module.Module.{Module}
use Rattle.ds_ast.specs.declared.module.Function.{Function}
use Rattle.ds_map.specs.Bounds.{Bounds}
use Rattle.ds_names.specs.Names.{AreDistinct}
use Rattle.ds_shape.specs.Accepted.{IsWellFormed, Accepted}
use Rattle.ds_meaning.specs.Meaning.{step}
use Rattle.ds_meaning.specs.Program as meaning
use Rattle.ds_meaning.specs.Program.{context, start}
use Rattle.ds_safe_laws.specs.Means.{Means}
use Rattle.ds_safe_laws.specs.Laws.{DeclaresKnown}
use Rattle.ds_code.specs.declared.functions.CodeParts.{CodeParts}
use Rattle.ds_code.specs.Cells.{parameter_names}
use Rattle.ds_code.specs.Lowering.{IsLowered}
use Rattle.ds_code.specs.CodeProgram.{program_of}

-- no function has two parameters of one name
abbrev pub HasDistinctParameters : Module → Type 0
HasDistinctParameters m = (n : ℕ) (f : Function) → slice_get m.functions n ≡ Some f → AreDistinct (parameter_names f)

-- Where a module has a meaning, the code that it is lowered to asks what the module asks. It need not be well formed.
abbrev pub CodeAgrees : Type 0
CodeAgrees = (m : Module) (lim : Bounds) (code : CodeParts) → IsLowered m code → HasDistinctParameters m →
    (thread function argument : ℕ) (answers : List ℕ) →
    Means (step (context false lim m thread)) lim.fuel (start m function argument) answers →
    (meaning.program_of false lim m).behaves thread function argument answers
    ≡ (program_of lim code).behaves thread function argument answers

-- The code that a well-formed module is lowered to is its program, where it declares no function but the externals and
-- ds_note.
abbrev pub CodeMeans : Type 0
CodeMeans = (m : Module) (lim : Bounds) (code : CodeParts) → IsWellFormed m → DeclaresKnown m → IsLowered m code →
    program_of lim code ≡ meaning.program_of false lim m

-- So is the code of a module that is accepted.
abbrev pub AcceptedCodeMeans : Type 0
AcceptedCodeMeans = (m : Module) (lim : Bounds) (code : CodeParts) → Accepted m → IsLowered m code →
    program_of lim code ≡ meaning.program_of false lim m
