-- Helpers of the code, which no public clause cites: where instructions lead, by the numbers of blocks.
use Rattle.std.specs.Prelude.{ℕ, List}
use Rattle.ds_ast.specs.declared.name.Name.{Name}
use Rattle.ds_ast.specs.declared.instr.Op.{Op}
use Rattle.ds_ast.specs.declared.instr.Instr.{Instr}
use Rattle.ds_ast.specs.declared.module.Function.{Function}
use Rattle.ds_shape.specs.Types.{Stands}
use Rattle.ds_shape.specs.Flow.{targets_of}
use Rattle.ds_check_names.specs.Scope.{Means}
use Rattle.ds_check_names.specs.declared.meaning.Meaning.TheVariants.{Label}

-- one of the labels is that of the block of this number
abbrev pub LeadsAmong : Function → ℕ → List Name → Type 0
LeadsAmong f b labels = (label : Name) × Stands label labels × Means f label (Label b)

-- the instruction names the label of the block of this number
abbrev pub LeadsBy : Function → ℕ → Op → Type 0
LeadsBy f b op = LeadsAmong f b (targets_of op)

-- one of these instructions does
abbrev pub LeadsFrom : Function → ℕ → List Instr → Type 0
LeadsFrom f b code = (i : Instr) × Stands i code × LeadsBy f b i.op
