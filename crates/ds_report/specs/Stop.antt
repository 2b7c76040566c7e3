-- How the threads stopped.
use Rattle.std.specs.Prelude.{ℕ, List, [], ◌++◌, Some, None, Bool, true, false, codes, decimal}
use Rattle.std.specs.Fmt.{signed_decimal}
use Rattle.std.specs.Int.{cast_signed, w32}
use Rattle.ds_ast.specs.declared.name.Name.{Name}
use Rattle.ds_plain.specs.declared.Place.{Place}
use Rattle.ds_plain.specs.declared.Stop.{Stop}
use Rattle.ds_plain.specs.declared.Stop.TheVariants.{Idle, Running, Returned, Trap, Full, Fuel}
use Rattle.ds_plain.specs.declared.TrapKind.{TrapKind}
use Rattle.ds_plain.specs.declared.TrapKind.TheVariants.{UseAfterFree, BadAddress, DoubleFree, BadFree, MarkedFree}
use Rattle.ds_plain.specs.declared.TrapKind.TheVariants.{DivZero, DivOverflow, StackLimit, Unreachable, BadJoin}
use Rattle.ds_report.specs.Text.{hex_text}
use Rattle.ds_report.specs.Lines.{lines_from}
use Rattle.ds_report.specs.Function.{function_text}
use Rattle.ds_report.specs.Trace.{full_text}

-- why an instruction could not be carried out
abbrev pub trap_text : TrapKind → List ℕ
trap_text (UseAfterFree address) = codes "use after free at " ++ hex_text address
trap_text (BadAddress address) = codes "bad address " ++ hex_text address
trap_text (DoubleFree address seen) = codes "double free of " ++ hex_text address ++ codes ", seen " ++ hex_text seen
trap_text (BadFree address) = codes "bad free of " ++ hex_text address
trap_text (MarkedFree address) = codes "free of marked " ++ hex_text address
trap_text DivZero = codes "division by zero"
trap_text DivOverflow = codes "division overflow"
trap_text StackLimit = codes "stack limit"
trap_text Unreachable = codes "unreachable"
trap_text (BadJoin number) = codes "bad join of " ++ decimal number

-- at which instruction a thread was stopped, by the names of all functions of the module in the order of the text
abbrev pub stopped_at : List Name → List ℕ → ℕ → Place → List ℕ
stopped_at names what thread place =
    what ++ codes " thread " ++ decimal thread ++ function_text names place.function ++ codes " instruction "
    ++ decimal place.instruction ++ codes ": "

-- the line of a thread that did not come to the end of its function
abbrev pub stop_line : List Name → ℕ → Stop → List ℕ
stop_line names thread Idle = []
stop_line names thread Running = []
stop_line names thread (Returned value) = []
stop_line names thread (Trap trap) =
    stopped_at names (codes "trap") thread trap.place ++ trap_text trap.kind ++ codes "\n"
stop_line names thread (Full place what) =
    stopped_at names (codes "full") thread place ++ full_text what ++ codes "\n"
stop_line names thread Fuel = codes "fuel thread " ++ decimal thread ++ codes "\n"

-- the lines of all threads, in number order
abbrev pub stop_lines : List Name → List Stop → List ℕ
stop_lines names stops = lines_from (stop_line names) 0 stops

-- how main ended; a run is reported only when it has
abbrev pub how_text : Stop → List ℕ
how_text Idle = []
how_text Running = []
how_text (Returned None) = codes "returned"
how_text (Returned (Some value)) = codes "returned " ++ signed_decimal (cast_signed w32 value)
how_text (Trap trap) = codes "trapped"
how_text (Full place what) = codes "stopped at a full table"
how_text Fuel = codes "out of fuel"

abbrev pub is_trap : Stop → Bool
is_trap Idle = false
is_trap Running = false
is_trap (Returned value) = false
is_trap (Trap trap) = true
is_trap (Full place what) = false
is_trap Fuel = false
