-- The blocks of a function, the edges between them, and what is assigned on every path.
use Rattle.std.specs.Prelude.{◌≡◌, ℕ, ◌⊎◌, List, [], ◌∷◌, map, Some}
use Rattle.ds_ast.specs.declared.name.Name.{Name}
use Rattle.ds_ast.specs.declared.operand.Arm.{Arm}
use Rattle.ds_ast.specs.declared.instr.Op.{Op}
use Rattle.ds_ast.specs.declared.instr.Op.TheVariants.{Phi, Br, CondBr, Switch}
use Rattle.ds_ast.specs.declared.instr.Instr.{Instr}
use Rattle.ds_ast.specs.declared.module.Function.{Function}
use Rattle.ds_ast.specs.declared.module.Param.{Param}
use Rattle.ds_ast.specs.declared.module.Block.{Block}
use Rattle.ds_shape.specs.Types.{Stands}

-- EDGES

-- the arms of a phi
abbrev pub arms_of : Op → List Arm
arms_of (Phi s arms) = arms
arms_of other = []

-- the labels that a terminator names, in the order of the text
abbrev pub targets_of : Op → List Name
targets_of (Br l) = l ∷ []
targets_of (CondBr c l k) = l ∷ k ∷ []
targets_of (Switch s v other cases) = other ∷ map (λ (c : ℕ × Name). c.1) cases
targets_of other = []

-- the block is the entry
abbrev pub IsEntry : Function → Block → Type 0
IsEntry f b = (rest : List Block) × (f.blocks ≡ b ∷ rest)

-- some instruction of the first block, its terminator, names the other
abbrev pub IsEdge : Function → Block → Block → Type 0
IsEdge f b c = Stands b f.blocks × Stands c f.blocks × (i : Instr) × Stands i b.code × Stands c.name (targets_of i.op)

-- PATHS

-- these blocks, the nearest first, are a path from the entry to the block
abbrev pub IsPath : Function → List Block → Block → Type 0
IsPath f [] c = IsEntry f c
IsPath f (b ∷ bs) c = IsEdge f b c × IsPath f bs b

-- one of the instructions assigns the name
abbrev pub Assigns : Name → List Instr → Type 0
Assigns name code = (i : Instr) × Stands i code × (i.result ≡ Some name)

-- a parameter has the name, a block of the path assigns it, or one of the instructions before in the block itself
abbrev pub IsAssigned : Function → Name → List Block → List Instr → Type 0
IsAssigned f name path front =
    ((p : Param) × Stands p f.params × (p.name ≡ name))
    ⊎ (((b : Block) × Stands b path × Assigns name b.code)
    ⊎ Assigns name front)

-- on every path from the entry to the block the name is assigned before what stands behind these instructions of it
abbrev pub IsAssignedAt : Function → Name → Block → List Instr → Type 0
IsAssignedAt f name c front = (path : List Block) → IsPath f path c → IsAssigned f name path front
