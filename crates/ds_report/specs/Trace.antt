-- The trace: what each thread did, in its own order.
use Rattle.std.specs.Prelude.{ℕ, List, [], ◌++◌, if◌then◌else◌, codes, decimal}
use Rattle.std.specs.List.{flat_map}
use Rattle.ds_map.specs.Regions.{address_of}
use Rattle.ds_step.specs.declared.FullWhat.{FullWhat}
use Rattle.ds_step.specs.declared.FullWhat.TheVariants.{Logs, Hash}
use Rattle.ds_step.specs.declared.Event.{Event}
use Rattle.ds_step.specs.declared.Event.TheVariants as events
use Rattle.ds_step.specs.declared.Step.{Step}
use Rattle.ds_plain.specs.History.{is_log}
use Rattle.ds_report.specs.Text.{signed_text, hex_text}
use Rattle.ds_report.specs.Lines.{lines_from}

-- which room is full
abbrev pub full_text : FullWhat → List ℕ
full_text Logs = codes "logs"
full_text Hash = codes "hash"

-- what an event did to a word: its address, and what it holds afterwards
abbrev pub word_text : List ℕ → (loc value : ℕ) → List ℕ
word_text what loc value = what ++ hex_text (address_of loc) ++ codes " " ++ hex_text value

-- an address and a life
abbrev pub life_text : List ℕ → (address life : ℕ) → List ℕ
life_text what address life = what ++ hex_text address ++ codes " " ++ decimal life

-- two numbers
abbrev pub pair_text : List ℕ → (m n : ℕ) → List ℕ
pair_text what m n = what ++ decimal m ++ codes " " ++ decimal n

-- the text of an event; those of the machine's own records have none
abbrev pub event_text : Event → List ℕ
event_text events.Begin = codes "begin"
event_text (events.Spawn n function arg) = codes "spawn " ++ decimal n
event_text events.SpawnRefused = codes "spawn refused"
event_text (events.Join n) = codes "join " ++ decimal n
event_text events.End = codes "end"
event_text (events.Print number value) = codes "print " ++ signed_text value
event_text (events.Load loc value) = word_text (codes "load ") loc value
event_text (events.Store loc value) = word_text (codes "store ") loc value
event_text (events.Exchange loc value) = word_text (codes "exchange ") loc value
event_text (events.Assign page class) = pair_text (codes "assign ") page class
event_text (events.Taken place) = codes "taken " ++ decimal place
event_text (events.TakenPage page) = codes "taken page " ++ decimal page
event_text (events.Block place start life) = life_text (codes "block ") start life
event_text (events.Found place start life) = life_text (codes "found ") start life
event_text events.Skip = codes "skip"
event_text (events.Noted place life loc) = life_text (codes "noted ") (address_of loc) life
event_text (events.BeginFree place life) = pair_text (codes "begin free ") place life
event_text (events.Mark loc) = codes "mark " ++ hex_text (address_of loc)
event_text (events.Seen loc) = codes "seen " ++ hex_text (address_of loc)
event_text (events.EndFree place) = codes "end free " ++ decimal place
event_text events.Trap = codes "trap"
event_text (events.Full what) = codes "full " ++ full_text what
event_text events.Log = []

-- the line of an event of a thread; those of the machine's own records have none
abbrev pub event_line : (thread : ℕ) → Event → List ℕ
event_line thread event =
    if is_log event then [] else decimal thread ++ codes " " ++ event_text event ++ codes "\n"

-- the lines of a thread
abbrev pub thread_lines : (thread : ℕ) → List Step → List ℕ
thread_lines thread steps = flat_map (λ step. event_line thread step.event) steps

-- the lines of all threads, in number order
abbrev pub trace_lines : List (List Step) → List ℕ
trace_lines traces = lines_from thread_lines 0 traces
