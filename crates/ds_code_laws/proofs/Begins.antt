-- A thread begins on the code as on the module.
use Rattle.std.proofs.Common.{◌≡◌, ℕ, zero, suc, ◌+◌, ◌≤◌, Bool, true, false, ◌==◌, ◌&&◌, if◌then◌else◌}
use Rattle.std.proofs.Common.{nat_le}
use Rattle.std.proofs.Common.{List, [], ◌∷◌, length, map, replicate, Option, Some, None, slice_get}
use Rattle.std.proofs.Common.{slice_set}
use Rattle.std.proofs.Common.{slice_index, refl, ap, sym, ◌∙◌, subst, arith}
use Rattle.std.specs.Option.{option_map, unwrap_or}
use Rattle.std.proofs.lemmas.Bool.Decides.{nat_tests}
use Rattle.std.proofs.lemmas.Option.{slice_get-map}
use Rattle.std.proofs.lemmas.List.{get_or-set_other}
use Rattle.std.proofs.Math.ListN.{length-set, length-replicate}
use Rattle.ds_ast.specs.declared.name.Name.{Name}
use Rattle.ds_ast.specs.declared.name.Name.TheVariants.{Number}
use Rattle.ds_ast.specs.declared.ty.Scalar.{Scalar}
use Rattle.ds_ast.specs.declared.module.Function.{Function}
use Rattle.ds_ast.specs.declared.module.Param.{Param}
use Rattle.ds_ast.specs.declared.module.Block.{Block}
use Rattle.ds_ast.specs.Bounds.{is_name}
use Rattle.ds_names.specs.Names.{place_of}
use Rattle.ds_shape.specs.Sizes.{◌>>=◌}
use Rattle.ds_plain.specs.declared.Place.{Place}
use Rattle.ds_plain.specs.declared.Stop.{Stop}
use Rattle.ds_plain.specs.declared.Stop.TheVariants.{Trap}
use Rattle.ds_plain.specs.declared.TrapKind.TheVariants.{StackLimit}
use Rattle.ds_plain.specs.Behaviour.{Asked, Behaviour, Outcome, Stops, Stuck, Silent, asked_by, ask}
use Rattle.ds_plain.specs.Behaviour.{told_by, tell, behaviour}
use Rattle.ds_meaning.specs.Values.{Environment, all_bound, part_in, cut}
use Rattle.ds_meaning.specs.Frames.{Frame, State, Runs, Notes, TooLarge, blocks_in, block_among}
use Rattle.ds_meaning.specs.Frames.{first_frame, has_room}
use Rattle.ds_meaning.specs.Meaning as meaning
use Rattle.ds_meaning.specs.Program as meant
use Rattle.ds_meaning.specs.Program.{zero_for}
use Rattle.ds_code.specs.declared.functions.CodeFunction.{CodeFunction}
use Rattle.ds_code.specs.Machine.{Machine, cells_in, code_in}
use Rattle.ds_code.specs.CodeMeaning.{act_at, step}
use Rattle.ds_code.specs.CodeProgram as code
use Rattle.ds_code.specs.CodeProgram.{zeros, first_cells, most_cells, fits, first_of}
use Rattle.ds_code.specs.Cells.{Cells, cells_for, cell_total, cell_of}
use Rattle.ds_code.specs.Lowering.{lowered_blocks, lowered_function, first_type}
use Rattle.ds_safe_laws.specs.Means.{MeansBy, MeansNext, Means}
use Rattle.ds_code_laws.specs.Laws.{CodeAgrees}
use Rattle.ds_code_laws.proofs.Simulated.{Agree, behaves_same}
use Rattle.ds_code_laws.proofs.Named.{names_decide}
use Rattle.ds_code_laws.proofs.Held.{HasCell, Holds, holds_none, holds_set}
use Rattle.ds_code_laws.proofs.Copied.{ParametersNamed, next_named}
use Rattle.ds_code_laws.proofs.Found.{entry_there}
use Rattle.ds_code_laws.proofs.Celled.{parameters_named, same_cells}
use Rattle.ds_code_laws.proofs.Related.{Standing, Related}
use Rattle.ds_code_laws.proofs.Acts.{Lowered, ctx, run}
use Rattle.ds_code_laws.proofs.Steps.{step_agrees}

-- ZEROS

pub zeros_long : (n : ℕ) → length (zeros n) ≡ n
unfolding zeros
zeros_long n = length-replicate n 0

none_there : (n k : ℕ) → slice_index (replicate n 0) k ≡ 0
none_there zero k = refl
none_there (suc n) zero = refl
none_there (suc n) (suc k) = none_there n k

pub zeros_hold : (n k : ℕ) → slice_index (zeros n) k ≡ 0
unfolding zeros
zeros_hold n k = none_there n k

-- PARAMETERS

-- a part stands for what its cell holds
holds_bound : (c : Cells) (base : ℕ) (cells : List ℕ) (env : Environment) (x : Name) (p v : ℕ) → HasCell c x p
    → slice_index cells (base + cell_of c x p) ≡ v → Holds c base cells env → Holds c base cells ((x, p, v) ∷ env)
holds_bound c base cells env x p v s is h =
    record { each = λ y q w e. by_test y q w (is_name x y) (p == q) refl refl e }
  where
    by_test : (y : Name) (q w : ℕ) (t u : Bool) → is_name x y ≡ t → (p == q) ≡ u
        → (if t && u then Some v else part_in env y q) ≡ Some w
        → HasCell c y q × (slice_index cells (base + cell_of c y q) ≡ w)
    by_test y q w true true named parts e =
        let same : x ≡ y = (names_decide x y).0 named in
        let part : p ≡ q = grind (arith, nat_tests) in
        let one : v ≡ w = cc in
        let P : Name → ℕ → Type 0 = λ z k. HasCell c z k × (slice_index cells (base + cell_of c z k) ≡ w) in
        subst (λ z. P z q) same (subst (λ k. P x k) part (s, is ∙ one))
    by_test y q w true false named parts e = h.each y q w e
    by_test y q w false u named parts e = h.each y q w e

-- the parameters behind the first are 0
others_hold : (c : Cells) (cells : List ℕ) (env : Environment) (n : ℕ) (ps : List Param) → ParametersNamed c (suc n) ps
    → ((k : ℕ) → slice_index cells (suc k) ≡ 0) → Holds c 0 cells env
    → Holds c 0 cells (all_bound (map zero_for ps) env)
others_hold c cells env n [] named none h = h
others_hold c cells env n (p ∷ ps) named none h =
    let at : place_of c.firsts p.name ≡ Some (suc n) =
    named.each 0 p refl ∙ (let s : suc n + 0 ≡ suc n = omega arith in ap (λ j. Some j) s) in
    let cell : 0 + cell_of c p.name 0 ≡ suc n = (let e : cell_of c p.name 0
    ≡ suc n = ap (λ o. unwrap_or o 0) at in omega arith) in
    others_hold c cells ((p.name, 0, 0) ∷ env) (suc n) ps (next_named c (suc n) p ps named) none
    (holds_bound c 0 cells env p.name 0 0 (record { place = suc n; is = at })
    (ap (λ k. slice_index cells k) cell ∙ none n) h)

params_hold : (c : Cells) (argument : ℕ) (ps : List Param) (cells : List ℕ) → ParametersNamed c 0 ps
    → cell_total c ≤ length cells → ((k : ℕ) → slice_index cells k ≡ 0)
    → Holds c 0 (code.with_argument argument (first_type ps) cells) (all_bound (meant.with_argument argument ps) [])
params_hold c argument [] cells named room none = holds_none c 0 cells
params_hold c argument (p ∷ ps) cells named room none =
    let at : place_of c.firsts p.name ≡ Some 0 = named.each 0 p refl in
    let cell : 0 + cell_of c p.name 0 ≡ 0 = (let e : cell_of c p.name 0
    ≡ 0 = ap (λ o. unwrap_or o 0) at in omega arith) in
    let v = cut p.ty argument in
    let fits : 0 + cell_total c ≤ length cells = omega arith in
    let first : Holds c 0 (slice_set cells 0 v) ((p.name, 0, v) ∷ []) =
    subst (λ n. Holds c 0 (slice_set cells n v) ((p.name, 0, v) ∷ [])) cell
    (holds_set c 0 cells [] p.name 0 v (record { place = 0; is = at }) fits (holds_none c 0 cells)) in
    others_hold c (slice_set cells 0 v) ((p.name, 0, v) ∷ []) 0 ps (next_named c 0 p ps named)
    (λ k. get_or-set_other cells 0 (suc k) v 0 (λ e. absurd (omega arith)) ∙ none (suc k)) first

with_long : (argument : ℕ) (ps : List Param) (cells : List ℕ)
    → length (code.with_argument argument (first_type ps) cells) ≡ length cells
with_long argument [] cells = refl
with_long argument (p ∷ ps) cells = length-set cells 0 (cut p.ty argument)

-- NOTHING MEANT

-- a thread whose first instruction has no meaning asks nothing
pub silent : {S : Type 0} (step : S → Outcome S) (s : S) → step s ≡ Stuck → (n : ℕ) (answers : List ℕ)
    → behaviour step n s answers ≡ Silent
silent step s e n [] = by_fuel n
  where
    by_fuel : (n : ℕ) → ask step n s ≡ Silent
    by_fuel zero = refl
    by_fuel (suc n) = ap (λ o. asked_by (ask step n) o) e
silent step s e n (a ∷ answers) =
    ap (λ x. behaviour step n x answers) (by_fuel n) ∙ silent step s e n answers
  where
    by_fuel : (n : ℕ) → tell step n s a ≡ s
    by_fuel zero = refl
    by_fuel (suc n) = ap (λ o. told_by (λ x. tell step n x a) s a o) e

-- a thread that stops at once has a meaning
stops_next : {S : Type 0} (step : S → Outcome S) (s : S) (place : Place) (stop : Stop) → step s ≡ Stops place stop
    → (n : ℕ) → MeansNext step n s
stops_next step s place stop e zero = tt
stops_next step s place stop e (suc n) = subst (λ o. MeansBy (MeansNext step n) o) (sym e) tt

pub stops_mean : {S : Type 0} (step : S → Outcome S) (s : S) (place : Place) (stop : Stop) → step s ≡ Stops place stop
    → (n : ℕ) (answers : List ℕ) → Means step n s answers
stops_mean step s place stop e n [] = stops_next step s place stop e n
stops_mean step s place stop e n (a ∷ answers) = (
  stops_next step s place stop e n,
  subst (λ t. Means step n t answers) (sym (stays n)) (stops_mean step s place stop e n answers),
)
  where
    stays : (n : ℕ) → tell step n s a ≡ s
    stays zero = refl
    stays (suc n) = ap (λ o. told_by (λ x. tell step n x a) s a o) e

-- THE FIRST FRAME

first_many : length first_cells ≡ 65536
first_many = zeros_long 65536

start_stands : (l : Lowered) (function argument : ℕ) (f : Function) → slice_get l.m.functions function ≡ Some f
    → cell_total (cells_for f) ≤ 65536
    → Standing l.m (first_frame function f (meant.with_argument argument f.params) 0) []
    (record {
      function = function;
      at = 0;
      base = 0;
      taken = 0;
      cells = code.with_argument argument (first_type f.params) first_cells;
      below = [];
    })
start_stands l function argument f is room =
    let many = first_many in
    let fits : cell_total (cells_for f) ≤ length first_cells = omega arith in
    record {
      limit = cell_total (cells_for f);
      frame = record {
        f = f;
        is = is;
        same = refl;
        there = λ n e. entry_there f.blocks n e;
        up_to = omega arith;
        words = refl;
        holds = params_hold (cells_for f) argument f.params first_cells (parameters_named f (l.distinct function f
            is)) fits
            (λ k. zeros_hold 65536 k);
      };
      callers = refl;
      many = with_long argument f.params first_cells ∙ many;
      room = room;
    }

-- a first frame that is too large
abbrev TooMany : ℕ → State → Unit {0} → Type 0
TooMany function (Runs fr below) u = ⊥
TooMany function (Notes at value fr below) u = ⊥
TooMany function (TooLarge n) u = n ≡ function

too_many : (l : Lowered) (function : ℕ) (s : State) (u : Unit {0}) → TooMany function s u
    → Agree (TooMany function) (meaning.step (ctx l) s) (code.overflows function u)
too_many l function (Runs fr below) u r = absurd r
too_many l function (Notes at value fr below) u r = absurd r
too_many l function (TooLarge n) u r =
    let place : meaning.first_place n ≡ meaning.first_place function = ap meaning.first_place r in
    (place, ap (λ (p : Place). Trap (record { place = p; kind = StackLimit })) place)

module _ (l : Lowered) (function argument : ℕ) (answers : List ℕ) where
  abbrev steps : State → Outcome State
  steps = meaning.step (ctx l)

  found : slice_get l.code.functions function ≡ option_map (lowered_function l.m) (slice_get l.m.functions function)
  found = ap (λ (fs : List CodeFunction). slice_get fs function) l.functions
      ∙ slice_get-map (lowered_function l.m) l.m.functions function

  -- a thread at the first instruction, by the type of the first parameter
  abbrev machine : Option Scalar → Machine
  machine first = record {
    function = function;
    at = 0;
    base = 0;
    taken = 0;
    cells = code.with_argument argument first first_cells;
    below = [];
  }

  -- how it behaves, by whether its cells fit
  abbrev by_fit : Option Scalar → Bool → Behaviour
  by_fit first t =
      if t then behaviour (step (run l)) l.lim.fuel (machine first)
      else behaviour (code.overflows function) l.lim.fuel tt

  -- the code by what stands at the number of the function
  abbrev by_code : Option CodeFunction → Asked
  by_code o = by_fit (first_of o) (nat_le (cells_in o) most_cells) answers

  missing : slice_get l.m.functions function ≡ None
      → behaviour steps l.lim.fuel (meant.start_by function argument l.m None) answers ≡ by_code None
  missing e =
      let none : slice_get l.code.functions function ≡ None = found ∙ ap (λ o. option_map (lowered_function l.m) o) e in
      silent steps (meant.start_by function argument l.m None)
      (ap (λ o. meaning.act_at (ctx l) (record {
        function = function;
        block = Number 0;
        index = 0;
        env = [];
        taken = 0;
      }) []
      (block_among (blocks_in o) (Number 0) >>= (λ (b : Block). slice_get b.code 0))) e)
      l.lim.fuel answers
      ∙ sym (silent (step (run l)) (machine None)
      (ap (λ o. act_at (run l) (machine None) (slice_get (code_in o) 0)) none) l.lim.fuel answers)

  room_same : (f : Function) → has_room l.m [] f ≡ nat_le (cell_total (cells_for f)) 65536
  room_same f =
      ap (λ n. nat_le (0 + n) 65536 && true) (sym (same_cells f))
      ∙ (let z : 0 + cell_total (cells_for f) ≡ cell_total (cells_for f) = omega arith in
      ap (λ n. nat_le n 65536 && true) z) ∙ both (nat_le (cell_total (cells_for f)) 65536)
    where
      both : (t : Bool) → t && true ≡ t
      both true = refl
      both false = refl

  defined : (f : Function) → slice_get l.m.functions function ≡ Some f
      → Means steps l.lim.fuel (meant.start_by function argument l.m (Some f)) answers
      → behaviour steps l.lim.fuel (meant.start_by function argument l.m (Some f)) answers
      ≡ by_code (Some (lowered_function l.m f))
  defined f is means = by_room (nat_le (cell_total (cells_for f)) 65536) refl
    where
      by_room : (t : Bool) → nat_le (cell_total (cells_for f)) 65536 ≡ t
          → behaviour steps l.lim.fuel (meant.start_by function argument l.m (Some f)) answers
          ≡ by_code (Some (lowered_function l.m f))
      by_room true e =
          let room : cell_total (cells_for f) ≤ 65536 = grind (arith, nat_tests) in
          let begins : meant.start_by function argument l.m (Some f)
          ≡ Runs (first_frame function f (meant.with_argument argument f.params) 0) [] =
          ap (λ t. if t then Runs (first_frame function f (meant.with_argument argument f.params) 0) []
          else TooLarge function) (room_same f ∙ e) in
          ap (λ s. behaviour steps l.lim.fuel s answers) begins
          ∙ behaves_same (Related l.m) steps (step (run l)) (λ s q r. step_agrees l s q r) l.lim.fuel answers _ _
          (subst (λ s. Means steps l.lim.fuel s answers) begins means) (start_stands l function argument f is room)
          ∙ ap (λ t. by_fit (first_type f.params) t answers) (sym e)
      by_room false e =
          let begins : meant.start_by function argument l.m (Some f) ≡ TooLarge function =
          ap (λ t. if t then Runs (first_frame function f (meant.with_argument argument f.params) 0) []
          else TooLarge function) (room_same f ∙ e) in
          ap (λ s. behaviour steps l.lim.fuel s answers) begins
          ∙ behaves_same (TooMany function) steps (code.overflows function) (λ s u r. too_many l function s u r)
          l.lim.fuel
          answers _ _ (subst (λ s. Means steps l.lim.fuel s answers) begins means) refl
          ∙ ap (λ t. by_fit (first_type f.params) t answers) (sym e)

  -- a declared function has no instruction; where it has too many cells, code says so too
  declared : (f : Function) → slice_get l.m.functions function ≡ Some f → f.blocks ≡ []
      → behaviour steps l.lim.fuel (meant.start_by function argument l.m (Some f)) answers
      ≡ by_code (Some (lowered_function l.m f))
  declared f is none = by_room (has_room l.m [] f) refl
    where
      frame : Frame
      frame = first_frame function f (meant.with_argument argument f.params) 0

      nothing_meant : steps (Runs frame []) ≡ Stuck
      nothing_meant =
          ap (λ o. meaning.act_at (ctx l) frame []
          (block_among (blocks_in o) frame.block >>= (λ (b : Block). slice_get b.code 0))) is
          ∙ ap (λ bs. meaning.act_at (ctx l) frame []
          (block_among bs frame.block >>= (λ (b : Block). slice_get b.code 0))) none

      nothing_there : step (run l) (machine (first_type f.params)) ≡ Stuck
      nothing_there =
          ap (λ o. act_at (run l) (machine (first_type f.params)) (slice_get (code_in o) 0))
          (found ∙ ap (λ o. option_map (lowered_function l.m) o) is)
          ∙ ap (λ bs. act_at (run l) (machine (first_type f.params)) (slice_get (lowered_blocks l.m f 0 bs) 0)) none

      by_room : (t : Bool) → has_room l.m [] f ≡ t
          → behaviour steps l.lim.fuel (meant.start_by function argument l.m (Some f)) answers
          ≡ by_code (Some (lowered_function l.m f))
      by_room true e =
          ap (λ t. behaviour steps l.lim.fuel (if t then Runs frame [] else TooLarge function) answers) e
          ∙ silent steps (Runs frame []) nothing_meant l.lim.fuel answers
          ∙ sym (silent (step (run l)) (machine (first_type f.params)) nothing_there l.lim.fuel answers)
          ∙ ap (λ t. by_fit (first_type f.params) t answers) (sym e ∙ room_same f)
      by_room false e =
          let begins : meant.start_by function argument l.m (Some f) ≡ TooLarge function =
          ap (λ t. if t then Runs frame [] else TooLarge function) e in
          defined f is (subst (λ s. Means steps l.lim.fuel s answers) (sym begins)
          (stops_mean steps (TooLarge function) _ _ refl l.lim.fuel answers))

  begins_same : Means steps l.lim.fuel (meant.start l.m function argument) answers
      → behaviour steps l.lim.fuel (meant.start l.m function argument) answers
      ≡ code.behaves (run l) function argument answers
  begins_same means = by_function (slice_get l.m.functions function) refl means ∙ ap by_code (sym found)
    where
      by_function : (o : Option Function) → slice_get l.m.functions function ≡ o
          → Means steps l.lim.fuel (meant.start_by function argument l.m o) answers
          → behaviour steps l.lim.fuel (meant.start_by function argument l.m o) answers
          ≡ by_code (option_map (lowered_function l.m) o)
      by_function None e means = missing e
      by_function (Some f) e means = defined f e means

  -- the same where each function that is defined has a meaning
  pub all_same : ((f : Function) → slice_get l.m.functions function ≡ Some f → (f.blocks ≡ [] → ⊥)
      → Means steps l.lim.fuel (meant.start l.m function argument) answers)
      → behaviour steps l.lim.fuel (meant.start l.m function argument) answers
      ≡ code.behaves (run l) function argument answers
  all_same means = by_function (slice_get l.m.functions function) refl ∙ ap by_code (sym found)
    where
      by_blocks : (f : Function) → slice_get l.m.functions function ≡ Some f → (bs : List Block) → f.blocks ≡ bs
          → behaviour steps l.lim.fuel (meant.start_by function argument l.m (Some f)) answers
          ≡ by_code (Some (lowered_function l.m f))
      by_blocks f e [] none = declared f e none
      by_blocks f e (b ∷ bs) some =
          defined f e (subst (λ o. Means steps l.lim.fuel (meant.start_by function argument l.m o) answers) e
          (means f e (λ none. absurd (cc (some, none)))))

      by_function : (o : Option Function) → slice_get l.m.functions function ≡ o
          → behaviour steps l.lim.fuel (meant.start_by function argument l.m o) answers
          ≡ by_code (option_map (lowered_function l.m) o)
      by_function None e = missing e
      by_function (Some f) e = by_blocks f e f.blocks refl

-- the law
pub code_agrees : CodeAgrees
code_agrees m lim code low distinct thread function argument answers means =
    begins_same (record {
      m = m;
      lim = lim;
      thread = thread;
      code = code;
      functions = low.functions;
      distinct = distinct;
    }) function argument answers means
