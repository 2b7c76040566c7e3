-- How many values an instruction copies together.
use Rattle.std.specs.Prelude.{ℕ, ◌≤◌, List, [], ◌∷◌, map, length, All}
use Rattle.ds_code.specs.declared.sources.Copying.{Copying}
use Rattle.ds_code.specs.declared.ops.Edge.{Edge}
use Rattle.ds_code.specs.declared.ops.BranchOp.{BranchOp}
use Rattle.ds_code.specs.declared.ops.BranchOp.TheVariants.{Jump, Either, Switch}
use Rattle.ds_code.specs.declared.ops.CodeOp.{CodeOp}
use Rattle.ds_code.specs.declared.ops.CodeOp.TheVariants.{Compute, Alloca, Memory, External, Skip, Call, Ret, Branch}
use Rattle.ds_code.specs.declared.ops.CodeOp.TheVariants.{Unreachable, Unknown}
use Rattle.ds_code.specs.declared.ops.CodeInstr.{CodeInstr}
use Rattle.ds_code.specs.declared.functions.CodeFunction.{CodeFunction}
use Rattle.ds_code.specs.declared.functions.CodeParts.{CodeParts}

-- the edges to which an instruction may go
abbrev pub edges_of : BranchOp → List Edge
edges_of (Jump e) = e ∷ []
edges_of (Either c first second) = first ∷ second ∷ []
edges_of (Switch ty value edges other cases) = edges

-- the lists of values that an instruction may copy together
abbrev pub copies_of : CodeOp → List (List Copying)
copies_of (Compute op) = []
copies_of (Alloca size count) = []
copies_of (Memory op) = []
copies_of (External op) = []
copies_of Skip = []
copies_of (Call function arguments) = arguments ∷ []
copies_of (Ret value) = []
copies_of (Branch op) = map (λ (e : Edge). e.copies) (edges_of op)
copies_of Unreachable = []
copies_of Unknown = []

-- the instruction copies at most so many values together
abbrev pub FitsRow : ℕ → CodeInstr → Type 0
FitsRow row i = All (λ (copies : List Copying). length copies ≤ row) (copies_of i.op)

-- each instruction of the function does
abbrev pub FunctionFits : ℕ → CodeFunction → Type 0
FunctionFits row f = All (FitsRow row) f.code

-- the row of code is as long as each instruction needs
abbrev pub HasRow : CodeParts → Type 0
HasRow code = All (FunctionFits code.row) code.functions
