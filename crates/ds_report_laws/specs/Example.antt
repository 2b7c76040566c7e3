-- Reports that were worked out by hand: that of a small run, and that of a state with each kind of stop line.
use Rattle.std.specs.Prelude.{◌≡◌, ℕ, true, false, ◌==◌, if◌then◌else◌, List, [], ◌∷◌, ◌++◌, Some, None, codes}
use Rattle.ds_ast.specs.declared.name.Name.{Name}
use Rattle.ds_ast.specs.declared.name.Name.TheVariants.{Number, Text}
use Rattle.ds_map.specs.Bounds.{Bounds}
use Rattle.ds_step.specs.declared.Event.{Event}
use Rattle.ds_step.specs.declared.Event.TheVariants.{Begin, Spawn, Store, Print, Trap, Join, End, Assign, Taken, Block}
use Rattle.ds_step.specs.declared.Event.TheVariants.{Found, Skip, Noted, BeginFree, Mark, Seen, EndFree}
use Rattle.ds_step.specs.declared.FullWhat.TheVariants.{Logs}
use Rattle.ds_plain.specs.declared.Place.{Place}
use Rattle.ds_plain.specs.declared.TrapKind.TheVariants.{UseAfterFree}
use Rattle.ds_plain.specs.declared.Stop.TheVariants.{Returned, Full, Fuel}
use Rattle.ds_plain.specs.declared.Stop.TheVariants as stops
use Rattle.ds_plain.specs.declared.Request.{Request}
use Rattle.ds_plain.specs.declared.Request.TheVariants as requests
use Rattle.ds_plain.specs.Behaviour.{Asked, Asks, Behaviour, Program}
use Rattle.ds_plain.specs.State.{Free, Phase, NotGiven, Ready, Stopped, State, Setting, block_in}
use Rattle.ds_report_laws.specs.Told.{report_of, IsReportOfRun}

-- A SMALL RUN

-- instruction i of a function asks for this
abbrev pub asks : (function i : ℕ) → Request → Asked
asks function i request = Asks 1 (record { function = function; instruction = i }) request

-- @main starts @1 and stores its number in the first global, joins it, prints 7 and returns
abbrev pub main_asks : Behaviour
main_asks [] = asks 0 0 (requests.Spawn 0 1 0)
main_asks (a ∷ []) = asks 0 1 (requests.Join 1)
main_asks (a ∷ b ∷ []) = asks 0 2 (requests.Print 7)
main_asks (a ∷ b ∷ c ∷ more) = asks 0 3 (requests.Stop (Returned None))

-- @1 prints -3, which is 2 ^ 64 - 3 as a word, and joins thread 1, which it is itself
abbrev pub other_asks : Behaviour
other_asks [] = asks 1 0 (requests.Print 18446744073709551613)
other_asks (a ∷ more) = asks 1 1 (requests.Join 1)

abbrev pub program : Program
program =
    record {
      main = 0;
      image = [];
      may_start = λ function. function == 1;
      behaves = λ thread function argument. if function == 0 then main_asks else other_asks;
    }

-- no thread ends for want of fuel
abbrev pub setting : Bounds → Setting
setting lim = record { program = program; lim = lim; out_of_fuel = λ t. false; weak = false }

-- the functions, by their numbers
abbrev pub names : List Name
names = Text (codes "main") ∷ Number 1 ∷ []

-- thread 1 prints, and traps, before main prints
abbrev pub made : List (ℕ × Event)
made =
    (0, Begin)
    ∷ (0, Spawn 1 1 0)
    ∷ (0, Store 0 1)
    ∷ (1, Begin)
    ∷ (1, Print 0 18446744073709551613)
    ∷ (1, Trap)
    ∷ (1, End)
    ∷ (0, Join 1)
    ∷ (0, Print 1 7)
    ∷ (0, End)
    ∷ []

-- the values in the order of printing
abbrev pub printed : List ℕ
printed = codes "-3\n7\n"

-- what each thread did
abbrev pub did : List ℕ
did =
    codes "0 begin\n0 spawn 1\n0 store 0x1000 0x1\n0 join 1\n0 print 7\n0 end\n"
    ++ codes "1 begin\n1 print -3\n1 trap\n1 end\n"

-- how the run ended
abbrev pub ended : List ℕ
ended =
    codes "trap thread 1 in @1 instruction 1: bad join of 1\n"
    ++ codes "main returned; prints 2 mallocs 0 frees 0 notes 0 marks 0 traps 1\n"

-- the report, with no trace and with one, within any limits
abbrev pub TellsARun : Type 0
TellsARun = (lim : Bounds) → IsReportOfRun names false (setting lim) made (printed ++ ended)

abbrev pub TellsATrace : Type 0
TellsATrace = (lim : Bounds) → IsReportOfRun names true (setting lim) made (printed ++ did ++ ended)

-- STOPS AND COUNTS

-- instruction i of @1
abbrev pub at : ℕ → Place
at i = record { function = 1; instruction = i }

-- Main returned -1 as an i32, thread 1 spent its fuel, thread 2 met a full table, thread 3 trapped, thread 4 may begin,
-- and the numbers behind it were not given out.
abbrev pub phases : ℕ → Phase
phases t =
    if t == 0 then Stopped (Returned (Some 4294967295))
    else if t == 1 then Stopped Fuel
    else if t == 2 then Stopped (Full (at 4) Logs)
    else if t == 3 then Stopped (stops.Trap (record { place = at 2; kind = UseAfterFree 0x8000000001000008 }))
    else if t == 4 then Ready 1 0 else NotGiven

-- nothing was printed
abbrev pub left : State
left =
    record {
      words = [];
      pages = λ page. None;
      blocks = λ place. block_in 0 Free;
      noted = [];
      out = [];
      given = 5;
      threads = phases;
    }

-- Two blocks were given out, three pointers were noted, one word was marked, and one free ended. The rest is not
-- counted.
abbrev pub counted : List (ℕ × Event)
counted =
    (0, Assign 0 0)
    ∷ (0, Block 0 0x1000000 1)
    ∷ (1, Taken 0)
    ∷ (1, Block 1 0x1000010 1)
    ∷ (0, Found 0 0x1000000 1)
    ∷ (0, Noted 0 1 7)
    ∷ (0, Noted 0 1 8)
    ∷ (3, Noted 1 1 7)
    ∷ (3, Skip)
    ∷ (0, BeginFree 0 1)
    ∷ (0, Mark 8)
    ∷ (0, Seen 7)
    ∷ (0, EndFree 0)
    ∷ []

abbrev pub TellsStopsAndCounts : Type 0
TellsStopsAndCounts =
    report_of names false counted left
    ≡ codes "fuel thread 1\nfull thread 2 in @1 instruction 4: logs\n"
    ++ codes "trap thread 3 in @1 instruction 2: use after free at 0x8000000001000008\n"
    ++ codes "main returned -1; prints 0 mallocs 2 frees 1 notes 3 marks 1 traps 1\n"
