-- What a call has to tell.
use Rattle.std.specs.Prelude.{◌≡◌, ℕ, ◌⊎◌, List, Option, false}
use Rattle.ds_ast.specs.declared.module.Module.{Module}
use Rattle.ds_lex.specs.declared.fault.LexFault.TheVariants as lex
use Rattle.ds_grammar.specs.declared.fault.ParseFault.TheVariants as parse
use Rattle.ds_shape.specs.declared.fault.ShapeFault.TheVariants as shape
use Rattle.ds_check.specs.declared.fault.TypeFault.TheVariants as check
use Rattle.ds_map.specs.Bounds.{Bounds}
use Rattle.ds_core.specs.declared.record.RunRecord.{RunRecord}
use Rattle.ds_report.specs.declared.fault.Fault.{Fault}
use Rattle.ds_report.specs.declared.fault.Fault.TheVariants.{Usage, Read, TooLong, Parse, Shape, Check}
use Rattle.ds_report.specs.Fault.{fault_text}
use Rattle.ds_report.specs.Report.{IsReport}
use Rattle.ds_main.specs.declared.job.Job.{Job}
use Rattle.ds_main.specs.declared.job.Job.TheVariants.{Replay}
use Rattle.ds_main.specs.Job.{IsJob, HasJob, NoJob}
use Rattle.ds_main.specs.Input.{Held, IsModuleOfInput, function_names}
use Rattle.ds_main.specs.Refusal.{IsTooLong, HasTextFault, SpellsFaulty}
use Rattle.ds_main.specs.Text.{IsTextOf}
use Rattle.ds_main.specs.Run.{IsEmpty, IsRunOfInput}

-- the fault is want of memory, which is told by the status alone and has no line
abbrev pub IsWantOfMemory : Fault → Type 0
IsWantOfMemory Usage = ⊥
IsWantOfMemory Read = ⊥
IsWantOfMemory TooLong = ⊥
IsWantOfMemory (Parse fault) = (fault ≡ parse.Memory) ⊎ (fault ≡ parse.Lex lex.Memory)
IsWantOfMemory (Shape fault) = fault ≡ shape.Memory
IsWantOfMemory (Check fault names) = fault ≡ check.Memory

-- the input has this fault, and none that is looked for before it
abbrev pub HasInputFault : Option (List ℕ) → (read_rose : Type 0) → Fault → Type 0
HasInputFault left read_rose Usage = ⊥
HasInputFault left read_rose Read = read_rose
HasInputFault left read_rose TooLong = Held left IsTooLong
HasInputFault left read_rose (Parse fault) = Held left (HasTextFault fault)
HasInputFault left read_rose (Shape fault) = Held left (SpellsFaulty (Shape fault))
HasInputFault left read_rose (Check fault names) = Held left (SpellsFaulty (Check fault names))

-- the input has this fault, and it has a line
abbrev pub IsInputFault : Option (List ℕ) → (read_rose : Type 0) → Fault → Type 0
IsInputFault left read_rose fault = (IsWantOfMemory fault → ⊥) × HasInputFault left read_rose fault

-- the words are a job's, and the input has this fault
abbrev pub IsJobFault : List (List ℕ) → Option (List ℕ) → (read_rose : Type 0) → Fault → Type 0
IsJobFault words left read_rose fault = HasJob words × IsInputFault left read_rose fault

-- The fault is the first that stands, in the order in which they are looked for: the words, the reading, the length,
-- the text, the layout, the other rules.
abbrev pub IsDue : List (List ℕ) → Option (List ℕ) → (read_rose : Type 0) → Fault → Type 0
IsDue words left read_rose Usage = NoJob words
IsDue words left read_rose Read = IsJobFault words left read_rose Read
IsDue words left read_rose TooLong = IsJobFault words left read_rose TooLong
IsDue words left read_rose (Parse fault) = IsJobFault words left read_rose (Parse fault)
IsDue words left read_rose (Shape fault) = IsJobFault words left read_rose (Shape fault)
IsDue words left read_rose (Check fault names) = IsJobFault words left read_rose (Check fault names)

-- the fault is one of the module that the input is to spell: it is looked for behind the whole input
abbrev pub IsOfModule : Fault → Type 0
IsOfModule Usage = ⊥
IsOfModule Read = ⊥
IsOfModule TooLong = ⊥
IsOfModule (Parse fault) = Unit {0}
IsOfModule (Shape fault) = Unit {0}
IsOfModule (Check fault names) = Unit {0}

-- this text was due: the line of the fault that ended the call, where nothing was run; the report of the run; or the
-- text of another job
abbrev pub IsDueText : List (List ℕ) → Option (List ℕ) → (read_rose : Type 0) → RunRecord → List ℕ → Type 0
IsDueText words left read_rose run text =
    ((fault : Fault) × IsDue words left read_rose fault × IsEmpty run × (text ≡ fault_text fault))
    ⊎ (((seed : ℕ) × (lim : Bounds) × IsJob words (Replay seed lim) × (m : Module) × IsRunOfInput left seed lim m run
    × IsReport (function_names m) run.stops run.traces false text)
    ⊎ ((job : Job) × IsJob words job × (m : Module) × IsModuleOfInput left m × IsEmpty run × IsTextOf job m text))
