-- Where a thread stands that runs code, and its cells.
use Rattle.std.specs.Prelude.{ℕ, ◌+◌, List, [], ◌∷◌, map, Option, Some, None, slice_get, slice_index, slice_set}
use Rattle.ds_ast.specs.declared.ty.Scalar.{Scalar}
use Rattle.ds_map.specs.Bounds.{Bounds}
use Rattle.ds_plain.specs.declared.Place.{Place}
use Rattle.ds_meaning.specs.Values.{cut}
use Rattle.ds_code.specs.declared.frames.Waiting.{Waiting}
use Rattle.ds_code.specs.declared.sources.Source.{Source}
use Rattle.ds_code.specs.declared.sources.Source.TheVariants.{Cell, Constant}
use Rattle.ds_code.specs.declared.sources.Input.{Input}
use Rattle.ds_code.specs.declared.sources.Copying.{Copying}
use Rattle.ds_code.specs.declared.ops.CodeInstr.{CodeInstr}
use Rattle.ds_code.specs.declared.functions.CodeFunction.{CodeFunction}
use Rattle.ds_code.specs.declared.functions.CodeParts.{CodeParts}

-- what is run, and by which thread
pub record Running : Type 0 where
  pub code : CodeParts
  -- the limits of the run
  pub lim : Bounds
  -- the number of the thread
  pub thread : ℕ

-- a thread: the frame on top, the cells of all frames, and the frames that wait, the latest first
pub record Machine : Type 0 where
  -- the number of the function among all
  pub function : ℕ
  -- how many instructions of the function's code stand before the one at hand
  pub at : ℕ
  -- the first cell of the frame
  pub base : ℕ
  -- how many words of the thread's stack are taken, by this frame and those below
  pub taken : ℕ
  -- the cells of all frames
  pub cells : List ℕ
  pub below : List Waiting

-- CODE

-- the instructions of a function, where there is one
abbrev pub code_in : Option CodeFunction → List CodeInstr
code_in None = []
code_in (Some f) = f.code

-- how many cells a frame of the function has
abbrev pub cells_in : Option CodeFunction → ℕ
cells_in None = 0
cells_in (Some f) = f.cells

-- the instruction of the function of a number that stands behind so many others
abbrev pub instruction_at : CodeParts → (function at : ℕ) → Option CodeInstr
instruction_at code function at = slice_get (code_in (slice_get code.functions function)) at

-- the instruction at hand
abbrev pub at_hand : Running → Machine → Option CodeInstr
at_hand r q = instruction_at r.code q.function q.at

-- the first cell above the frame on top
abbrev pub top : Running → Machine → ℕ
top r q = q.base + cells_in (slice_get r.code.functions q.function)

-- the place of the instruction
abbrev pub place_of : Machine → CodeInstr → Place
place_of q i = record { function = q.function; instruction = i.origin }

-- CELLS: a cell that is not there holds 0, and takes nothing

-- what stands at a source for the frame that begins at a cell
abbrev pub read : (base : ℕ) → (cells : List ℕ) → Source → ℕ
read base cells (Cell c) = slice_index cells (base + c)
read base cells (Constant n) = n

-- the value of a type that stands at a source
abbrev pub value : Machine → Scalar → Source → ℕ
value q ty from = cut ty (read q.base q.cells from)

abbrev pub input : Machine → Input → ℕ
input q i = value q i.ty i.from

-- a cell of the frame that begins at this cell takes a value, if there is one
abbrev pub written : (base : ℕ) → Option ℕ → ℕ → (cells : List ℕ) → List ℕ
written base None v cells = cells
written base (Some c) v cells = slice_set cells (base + c) v

-- the values of copies, all from the same cells
abbrev pub all_read : Machine → List Copying → List ℕ
all_read q copies = map (λ (c : Copying). input q c.value) copies

-- the cells of copies in the frame that begins at this cell take values, one after another
abbrev pub all_written : (base : ℕ) → List Copying → List ℕ → (cells : List ℕ) → List ℕ
all_written base [] vs cells = cells
all_written base (c ∷ cs) [] cells = cells
all_written base (c ∷ cs) (v ∷ vs) cells = all_written base cs vs (slice_set cells (base + c.to) v)

-- the cells once these copies were made into the frame that begins at this cell: their values are read together before
-- any is written
abbrev pub copied : Machine → (base : ℕ) → List Copying → List ℕ
copied q base copies = all_written base copies (all_read q copies) q.cells
