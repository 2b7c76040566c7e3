-- How a state of a module and a machine that runs its code are related.
use Rattle.std.proofs.Common.{◌≡◌, ℕ, suc, ◌+◌, ◌≤◌, List, [], ◌∷◌, length, take, Option, Some}
use Rattle.std.proofs.Common.{slice_get, refl, ap, sym, ◌∙◌, arith}
use Rattle.ds_ast.specs.declared.name.Name.{Name}
use Rattle.ds_ast.specs.declared.module.Module.{Module}
use Rattle.ds_ast.specs.declared.module.Function.{Function}
use Rattle.ds_meaning.specs.Values.{Environment, bound}
use Rattle.ds_meaning.specs.Frames.{Frame, Caller, State, Runs, Notes, TooLarge, cells_of, cell_count, cells_below}
use Rattle.ds_code.specs.declared.frames.Waiting.{Waiting}
use Rattle.ds_code.specs.Machine.{Machine}
use Rattle.ds_code.specs.CodeMeaning.{on, results}
use Rattle.ds_code.specs.Cells.{cells_for, cell_total, result_cell}
use Rattle.ds_code.specs.Lowering.{block_number}
use Rattle.ds_code_laws.proofs.Held.{HasCellToo, Holds, Below, holds_below, holds_written, written_below}
use Rattle.ds_code_laws.proofs.Found.{total}
use Rattle.ds_code_laws.proofs.Celled.{same_cells}

-- the frame stands at this place of its function's code, with the cells from base up to the limit for its names
pub record FrameStands (m : Module) (fr : Frame) (function at base limit taken : ℕ) (cells : List ℕ) : Type 0 where
  pub f : Function
  pub is : slice_get m.functions fr.function ≡ Some f
  pub same : function ≡ fr.function
  pub there : (n : ℕ) → block_number f fr.block ≡ Some n → at ≡ total (take n f.blocks) + fr.index
  pub up_to : limit ≡ base + cell_total (cells_for f)
  pub words : taken ≡ fr.taken
  pub holds : Holds (cells_for f) base cells fr.env

pub record CallerStands (m : Module) (c : Caller) (w : Waiting) (limit : ℕ) (cells : List ℕ) : Type 0 where
  pub stands : FrameStands m c.frame w.function w.at w.base limit w.taken cells
  pub to : w.to ≡ result_cell (cells_for stands.f) c.gives 0
  pub named : HasCellToo (cells_for stands.f) c.gives 0

-- the frames of the callers lie below the limit, one on the other
abbrev pub CallersStand : Module → List Caller → List Waiting → ℕ → List ℕ → Type 0
CallersStand m [] [] limit cells = limit ≡ 0
CallersStand m [] (w ∷ ws) limit cells = ⊥
CallersStand m (c ∷ cs) [] limit cells = ⊥
CallersStand m (c ∷ cs) (w ∷ ws) limit cells = CallerStands m c w limit cells × CallersStand m cs ws w.base cells

pub record Standing (m : Module) (fr : Frame) (below : List Caller) (q : Machine) : Type 0 where
  pub limit : ℕ
  pub frame : FrameStands m fr q.function q.at q.base limit q.taken q.cells
  pub callers : CallersStand m below q.below q.base q.cells
  pub many : length q.cells ≡ 65536
  pub room : limit ≤ 65536

abbrev pub Related : Module → State → Machine → Type 0
Related m (Runs fr below) q = Standing m fr below q
Related m (Notes at value fr below) q = ⊥
Related m (TooLarge function) q = ⊥

abbrev pub frame_below : (m : Module) (fr : Frame) (function at base limit taken place : ℕ) (old new : List ℕ)
    → limit ≤ place
    → Below place old new → FrameStands m fr function at base limit taken old
    → FrameStands m fr function at base limit taken new
frame_below m fr function at base limit taken place old new le below s = record {
  f = s.f;
  is = s.is;
  same = s.same;
  there = s.there;
  up_to = s.up_to;
  words = s.words;
  holds = let u = s.up_to in holds_below (cells_for s.f) base place old new fr.env (omega arith) below s.holds;
}

-- what is written above the limit leaves the callers
pub callers_below : (m : Module) (cs : List Caller) (ws : List Waiting) (limit place : ℕ) (old new : List ℕ)
    → limit ≤ place → Below place old new → CallersStand m cs ws limit old → CallersStand m cs ws limit new
callers_below m [] [] limit place old new le below s = s
callers_below m [] (w ∷ ws) limit place old new le below s = absurd s
callers_below m (c ∷ cs) [] limit place old new le below s = absurd s
callers_below m (c ∷ cs) (w ∷ ws) limit place old new le below s =
    let u = s.0.stands.up_to in (
      record {
        stands = frame_below m c.frame w.function w.at w.base limit w.taken place old new le below s.0.stands;
        to = s.0.to;
        named = s.0.named;
      },
      callers_below m cs ws w.base place old new (omega arith) below s.1,
    )

-- so many cells the callers take
pub callers_take : (m : Module) (cs : List Caller) (ws : List Waiting) (limit : ℕ) (cells : List ℕ)
    → CallersStand m cs ws limit cells → (cells_below m cs ≡ limit) × (length cs ≡ length ws)
callers_take m [] [] limit cells s = (sym s, refl)
callers_take m [] (w ∷ ws) limit cells s = absurd s
callers_take m (c ∷ cs) [] limit cells s = absurd s
callers_take m (c ∷ cs) (w ∷ ws) limit cells s =
    let a = callers_take m cs ws w.base cells s.1 in
    let t = s.0.stands in
    let size : cell_count (slice_get m.functions c.frame.function) ≡ length (cells_of t.f) = ap cell_count t.is in
    let same = same_cells t.f in
    let u = t.up_to in let a0 = a.0 in let a1 = a.1 in
    (omega arith, omega arith)

module _ (m : Module) (fr : Frame) (below : List Caller) (q : Machine) (s : Standing m fr below q) where
  -- the next instruction
  pub on_stands : Standing m (record fr { index = suc fr.index }) below (on q)
  on_stands = record {
    limit = s.limit;
    frame = let t = s.frame in record {
      f = t.f;
      is = t.is;
      same = t.same;
      there = λ n e. let u = t.there n e in omega arith;
      up_to = t.up_to;
      words = t.words;
      holds = t.holds;
    };
    callers = s.callers;
    many = s.many;
    room = s.room;
  }

  -- cells of the frame were written, and names bound
  pub changed_stands : (block : Name) (index at taken words : ℕ) (env : Environment) (cells : List ℕ)
      → ((n : ℕ) → block_number s.frame.f block ≡ Some n → at ≡ total (take n s.frame.f.blocks) + index)
      → words ≡ taken → Below q.base q.cells cells → Holds (cells_for s.frame.f) q.base cells env
      → Standing m (record { function = fr.function; block = block; index = index; env = env; taken = taken }) below
      (record { function = q.function; at = at; base = q.base; taken = words; cells = cells; below = q.below })
  changed_stands block index at taken words env cells there same under holds = record {
    limit = s.limit;
    frame = let t = s.frame in record {
      f = t.f;
      is = t.is;
      same = t.same;
      there = there;
      up_to = t.up_to;
      words = same;
      holds = holds;
    };
    callers = callers_below m below q.below q.base q.base q.cells cells (omega arith) under s.callers;
    many = under.many ∙ s.many;
    room = s.room;
  }

  -- there is room for the frame's cells
  pub frame_room : q.base + cell_total (cells_for s.frame.f) ≤ length q.cells
  frame_room = let a = s.frame.up_to in let b = s.many in let c = s.room in omega arith

  pub next_there : (n : ℕ) → block_number s.frame.f fr.block ≡ Some n
      → suc q.at ≡ total (take n s.frame.f.blocks) + suc fr.index
  next_there n e = let u = s.frame.there n e in omega arith

  -- the result has its value
  pub results_stand : (name : Option Name) (v : ℕ) → HasCellToo (cells_for s.frame.f) name 0
      → Standing m (record fr { index = suc fr.index; env = bound name 0 v fr.env }) below
      (results q (result_cell (cells_for s.frame.f) name 0) v)
  results_stand name v named =
      changed_stands fr.block (suc fr.index) (suc q.at) fr.taken q.taken _ _ next_there s.frame.words
      (written_below (cells_for s.frame.f) q.base q.cells name 0 v)
      (holds_written (cells_for s.frame.f) q.base q.cells fr.env name 0 v named frame_room s.frame.holds)
