-- The program of code: what each of its threads asks.
use Rattle.std.specs.Prelude.{ℕ, Bool, false, if◌then◌else◌, nat_le, List, [], replicate, Option, Some, None}
use Rattle.std.specs.Prelude.{slice_get, slice_set}
use Rattle.ds_ast.specs.declared.ty.Scalar.{Scalar}
use Rattle.ds_map.specs.Bounds.{Bounds}
use Rattle.ds_plain.specs.declared.Stop.TheVariants.{Trap}
use Rattle.ds_plain.specs.declared.TrapKind.TheVariants.{StackLimit}
use Rattle.ds_plain.specs.Behaviour.{Outcome, Stops, Behaviour, Program, behaviour}
use Rattle.ds_meaning.specs.Values.{cut}
use Rattle.ds_meaning.specs.Meaning.{first_place}
use Rattle.ds_code.specs.declared.functions.CodeFunction.{CodeFunction}
use Rattle.ds_code.specs.declared.functions.CodeParts.{CodeParts}
use Rattle.ds_code.specs.Machine.{Running, Machine, cells_in}
use Rattle.ds_code.specs.CodeMeaning.{step}

-- how many cells a thread has, in all its frames
abbrev pub most_cells : ℕ
most_cells = 65536

-- so many zeros
unfoldable pub zeros : ℕ → List ℕ
zeros n = replicate n 0

-- the cells of a thread that has not begun
abbrev pub first_cells : List ℕ
first_cells = zeros most_cells

-- cell 0 takes the argument, cut to the type of the first parameter, where there is one
abbrev pub with_argument : (argument : ℕ) → Option Scalar → (cells : List ℕ) → List ℕ
with_argument argument None cells = cells
with_argument argument (Some ty) cells = slice_set cells 0 (cut ty argument)

-- the type of the first parameter of a function
abbrev pub first_of : Option CodeFunction → Option Scalar
first_of None = None
first_of (Some f) = f.first

-- a thread at the first instruction of a function, with an argument
abbrev pub start : CodeParts → (function argument : ℕ) → Machine
start code function argument = record {
  function = function;
  at = 0;
  base = 0;
  taken = 0;
  cells = with_argument argument (first_of (slice_get code.functions function)) first_cells;
  below = [];
}

-- the first frame of the function has no more cells than there are
abbrev pub fits : CodeParts → (function : ℕ) → Bool
fits code function = nat_le (cells_in (slice_get code.functions function)) most_cells

-- the first instruction of the function, which can't begin
abbrev pub overflows : (function : ℕ) → Unit {0} → Outcome (Unit {0})
overflows function s =
    Stops (first_place function) (Trap (record { place = first_place function; kind = StackLimit }))

-- how a thread behaves on code, by its function and its argument
abbrev pub behaves : Running → (function argument : ℕ) → Behaviour
behaves r function argument =
    if fits r.code function then behaviour (step r) r.lim.fuel (start r.code function argument)
    else behaviour (overflows function) r.lim.fuel tt

-- a thread may be started on the function
abbrev pub may_start : Option CodeFunction → Bool
may_start None = false
may_start (Some f) = f.may_start

-- how the threads of code behave
abbrev pub program_of : Bounds → CodeParts → Program
program_of lim code = record {
  main = code.main;
  image = code.image;
  may_start = λ function. may_start (slice_get code.functions function);
  behaves = λ thread. behaves (record { code = code; lim = lim; thread = thread });
}
