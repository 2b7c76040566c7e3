-- Helpers: how the private functions of a call end. No clause of a public call speaks of them.
use Rattle.std.specs.Prelude.{◌≡◌, ℕ, ◌⊎◌, List, [], Option, false}
use Rattle.std.specs.Option.{option_map}
use Rattle.ds_ast.specs.declared.module.Module.{Module}
use Rattle.ds_map.specs.Bounds.{Bounds}
use Rattle.ds_io.specs.Counts.{Rose}
use Rattle.ds_io.specs.Source.{GivesAll}
use Rattle.ds_io.specs.Sink.{Takes, TakesFront}
use Rattle.ds_core.specs.declared.record.Ended.{Ended}
use Rattle.ds_report.specs.declared.fault.Fault.{Fault}
use Rattle.ds_report.specs.Fault.{fault_text}
use Rattle.ds_report.specs.Report.{IsReport}
use Rattle.ds_main.specs.declared.job.Job.{Job}
use Rattle.ds_main.specs.declared.job.Job.TheVariants.{Replay}
use Rattle.ds_main.specs.Job.{IsJob}
use Rattle.ds_main.specs.Input.{Spells, SpellsAccepted, IsModuleOfInput, function_names}
use Rattle.ds_main.specs.Text.{IsTextOf}
use Rattle.ds_main.specs.Run.{IsEmpty, IsRunOfModule, IsRunOfInput}
use Rattle.ds_main.specs.Status.{status_of, run_status}
use Rattle.ds_main.specs.Due.{IsInputFault, IsDue, IsOfModule}

-- WHAT A CALL WAS GIVEN AND WHAT IT LEFT

-- the source: what it held, where it tells that, and how often it had failed, before the call and after it
pub record Reading : Type 0 where
  pub left : Option (List ℕ)
  pub left_after : Option (List ℕ)
  pub faults : ℕ
  pub faults_after : ℕ

-- the sink: what it had taken, where it tells that, and how often it had failed, before the call and after it
pub record Writing : Type 0 where
  pub taken : Option (List ℕ)
  pub taken_after : Option (List ℕ)
  pub faults : ℕ
  pub faults_after : ℕ

-- by what a source tells of itself before and after
abbrev pub reading : {S : Type 0} → (left : S → Option (List ℕ)) → (faults : S → ℕ) → (old new : S) → Reading
reading left faults old new =
    record { left = left old; left_after = left new; faults = faults old; faults_after = faults new }

-- by what a sink tells of itself before and after
abbrev pub writing : {K : Type 0} → (taken : K → Option (List ℕ)) → (faults : K → ℕ) → (old new : K) → Writing
writing taken faults old new =
    record { taken = taken old; taken_after = taken new; faults = faults old; faults_after = faults new }

-- a call: its words, its source, its sink, and its status and record
pub record Call : Type 0 where
  pub words : List (List ℕ)
  pub source : Reading
  pub sink : Writing
  pub ended : Ended

-- the source failed
abbrev pub ReadRose : Reading → Type 0
ReadRose source = Rose source.faults source.faults_after

-- the sink failed
abbrev pub WriteRose : Writing → Type 0
WriteRose sink = Rose sink.faults sink.faults_after

-- the source was read to its end, where it tells its bytes
abbrev pub IsReadOut : Reading → Type 0
IsReadOut source = source.left_after ≡ option_map (λ _. []) source.left

-- HOW A TEXT IS WRITTEN

-- the text was written and the status is the one that stands for that, or the sink failed in the middle of it
abbrev pub Delivers : List ℕ → (done : ℕ) → Writing → (status : ℕ) → Type 0
Delivers text done sink status =
    ((status ≡ done) × Takes sink.taken text sink.taken_after)
    ⊎ ((status ≡ 5) × WriteRose sink × TakesFront sink.taken text sink.taken_after)

-- memory ran out before anything was written
abbrev pub Unwritten : Writing → (status : ℕ) → Type 0
Unwritten sink status = (status ≡ 6) × (sink.taken_after ≡ sink.taken)

-- THE FOUR WAYS IN WHICH A CALL ENDS

-- a fault was due, nothing was run, and its line was delivered
pub record Refused (call : Call) : Type 0 where
  pub fault : Fault
  pub due : IsDue call.words call.source.left (ReadRose call.source) fault
  pub read : IsOfModule fault → IsReadOut call.source
  pub empty : IsEmpty call.ended.run
  pub told : Delivers (fault_text fault) (status_of fault) call.sink call.ended.status

-- the accepted module that the input spells was run, and the report was delivered
pub record Reported (call : Call) : Type 0 where
  pub seed : ℕ
  pub lim : Bounds
  pub job : IsJob call.words (Replay seed lim)
  pub input_module : Module
  pub run : IsRunOfInput call.source.left seed lim input_module call.ended.run
  pub read : IsReadOut call.source
  pub text : List ℕ
  pub report : IsReport (function_names input_module) call.ended.run.stops call.ended.run.traces false text
  pub told : Delivers text (run_status call.ended.run.stops) call.sink call.ended.status

-- nothing was run, and the text that a job has of the accepted module that the input spells was delivered
pub record Answered (call : Call) : Type 0 where
  pub job : Job
  pub is_job : IsJob call.words job
  pub input_module : Module
  pub of_input : IsModuleOfInput call.source.left input_module
  pub read : IsReadOut call.source
  pub empty : IsEmpty call.ended.run
  pub text : List ℕ
  pub text_of : IsTextOf job input_module text
  pub told : Delivers text 0 call.sink call.ended.status

-- memory ran out, before the run or behind it, and nothing was written
pub record OutOfMemory (call : Call) : Type 0 where
  pub unwritten : Unwritten call.sink call.ended.status
  pub run : IsEmpty call.ended.run
      ⊎ ((seed : ℕ) × (lim : Bounds) × IsJob call.words (Replay seed lim) × (m : Module)
      × IsRunOfInput call.source.left seed lim m call.ended.run)

-- every call ends so
abbrev pub Ends : Call → Type 0
Ends call = Refused call ⊎ Reported call ⊎ Answered call ⊎ OutOfMemory call

-- HOW THE PARTS OF A CALL END

-- memory ran out before anything was run
abbrev pub MemoryEnds : Writing → Ended → Type 0
MemoryEnds sink ended = Unwritten sink ended.status × IsEmpty ended.run

-- nothing was run, and the line of the fault was delivered, or memory ran out
abbrev pub FaultEnds : Fault → Writing → Ended → Type 0
FaultEnds fault sink ended =
    IsEmpty ended.run × (Delivers (fault_text fault) (status_of fault) sink ended.status ⊎ Unwritten sink ended.status)

-- the source was read to its end, and what it held spells this module
abbrev pub IsSpelledBy : Reading → Module → Type 0
IsSpelledBy source m = (bytes : List ℕ) × GivesAll source.left bytes source.left_after × Spells bytes m

-- the source was read to its end, and what it held spells this accepted module
abbrev pub IsInputOf : Reading → Module → Type 0
IsInputOf source m = (bytes : List ℕ) × GivesAll source.left bytes source.left_after × SpellsAccepted bytes m

-- how a run of the module ends: memory ran out before it, behind it, or its report was delivered
abbrev pub RunEnds : (seed : ℕ) → Bounds → Module → Writing → Ended → Type 0
RunEnds seed lim m sink ended =
    MemoryEnds sink ended
    ⊎ (IsRunOfModule [] seed lim m ended.run × (Unwritten sink ended.status
    ⊎ ((text : List ℕ) × IsReport (function_names m) ended.run.stops ended.run.traces false text
    × Delivers text (run_status ended.run.stops) sink ended.status)))

-- the call ends by a fault of the input, or memory ran out before anything was run
abbrev pub Stops : Reading → Writing → Ended → Type 0
Stops source sink ended =
    ((fault : Fault) × IsInputFault source.left (ReadRose source) fault × (IsOfModule fault → IsReadOut source)
    × FaultEnds fault sink ended)
    ⊎ MemoryEnds sink ended

-- how the job `replay` ends
abbrev pub ReplayEnds : (seed : ℕ) → Bounds → Reading → Writing → Ended → Type 0
ReplayEnds seed lim source sink ended =
    Stops source sink ended ⊎ ((m : Module) × IsInputOf source m × RunEnds seed lim m sink ended)

-- how a job that runs nothing ends, which writes this text of each module
abbrev pub AnswerEnds : (Module → List ℕ) → Reading → Writing → Ended → Type 0
AnswerEnds text source sink ended =
    Stops source sink ended
    ⊎ ((m : Module) × IsInputOf source m × IsEmpty ended.run × Delivers (text m) 0 sink ended.status)
