-- How a call ends, and what that says of its status, its record and what the sink took.
use Rattle.std.proofs.Common.{◌≡◌, ℕ, ◌⊎◌, inl, inr, List, Option, Err, refl, sym, subst}
use Rattle.std.specs.Prelude.{IsErrOf}
use Rattle.ds_ast.specs.declared.module.Module.{Module}
use Rattle.ds_map.specs.Bounds.{Bounds}
use Rattle.ds_core.specs.declared.record.Ended.{Ended}
use Rattle.ds_report.specs.declared.fault.Fault.{Fault}
use Rattle.ds_report.specs.declared.fault.Fault.TheVariants.{Usage, Read, TooLong, Parse, Shape, Check}
use Rattle.ds_main.specs.declared.no_module.NoModule.{NoModule}
use Rattle.ds_main.specs.declared.no_module.NoModule.TheVariants as none
use Rattle.ds_main.specs.declared.job.Job.{Job}
use Rattle.ds_main.specs.declared.job.ArgsFault.{ArgsFault}
use Rattle.ds_main.specs.declared.job.ArgsFault.TheVariants as args
use Rattle.ds_main.specs.declared.job.Job.TheVariants.{Replay}
use Rattle.ds_main.specs.Job.{IsJob, HasJob, NoJob}
use Rattle.ds_main.specs.Input.{IsModuleOfInput}
use Rattle.ds_main.specs.Text.{IsTextOf}
use Rattle.ds_main.specs.Run.{IsEmpty, IsRunOfInput}
use Rattle.ds_main.specs.Due.{IsDue, IsInputFault, IsOfModule}
use Rattle.ds_main.specs.Ending.{Reading, Writing, Call, ReadRose, IsReadOut, Delivers, Unwritten, Refused, Reported}
use Rattle.ds_main.specs.Ending.{Answered, OutOfMemory, Ends, FaultEnds, IsInputOf, RunEnds, Stops}
use Rattle.ds_main.specs.Ending.{ReplayEnds, AnswerEnds}
use Rattle.ds_main.specs.Stopped.{Explains, StoppedBy}
use Rattle.ds_main.proofs.Inputs.{held_bytes, read_out}

-- by how the call ended
pub by_ending : (call : Call) (P : Type 0) → (Refused call → P) → (Reported call → P) → (Answered call → P)
    → (OutOfMemory call → P) → Ends call → P
by_ending call P a b c d (inl x) = a x
by_ending call P a b c d (inr (inl x)) = b x
by_ending call P a b c d (inr (inr (inl x))) = c x
by_ending call P a b c d (inr (inr (inr x))) = d x

refused : (call : Call) → Refused call → Ends call
refused call x = inl x

reported : (call : Call) → Reported call → Ends call
reported call x = inr (inl x)

answered : (call : Call) → Answered call → Ends call
answered call x = inr (inr (inl x))

out_of_memory : (call : Call) → Unwritten call.sink call.ended.status
    → IsEmpty call.ended.run
    ⊎ ((seed : ℕ) × (lim : Bounds) × IsJob call.words (Replay seed lim) × (m : Module)
    × IsRunOfInput call.source.left seed lim m call.ended.run) → Ends call
out_of_memory call unwritten run = inr (inr (inr (record { unwritten = unwritten; run = run })))

-- a fault of the input is due where there is a job
due : (words : List (List ℕ)) (left : Option (List ℕ)) (read_rose : Type 0) (fault : Fault) → HasJob words
    → IsInputFault left read_rose fault → IsDue words left read_rose fault
due words left read_rose Usage job input = absurd input.1
due words left read_rose Read job input = (job, input)
due words left read_rose TooLong job input = (job, input)
due words left read_rose (Parse fault) job input = (job, input)
due words left read_rose (Shape fault) job input = (job, input)
due words left read_rose (Check fault names) job input = (job, input)

fault_ends : (call : Call) (fault : Fault) → IsDue call.words call.source.left (ReadRose call.source) fault
    → (IsOfModule fault → IsReadOut call.source) → FaultEnds fault call.sink call.ended → Ends call
fault_ends call fault is read (empty, inl told) =
    refused call (record { fault = fault; due = is; read = read; empty = empty; told = told })
fault_ends call fault is read (empty, inr unwritten) = out_of_memory call unwritten (inl empty)

-- a text that was delivered is one that is the same
pub delivers_text : (text same : List ℕ) (done : ℕ) (sink : Writing) (status : ℕ) → text ≡ same
    → Delivers text done sink status → Delivers same done sink status
delivers_text text same done sink status is told = subst (λ (t : List ℕ). Delivers t done sink status) is told

-- the words have one fault
pub only_usage : (fault : ArgsFault) → IsErrOf {T = Job} {E = ArgsFault} (Err fault) args.Usage
only_usage args.Usage = refl

-- no job has the words
pub usage_ends : (call : Call) → NoJob call.words → FaultEnds Usage call.sink call.ended → Ends call
usage_ends call none told = fault_ends call Usage none (λ of. absurd of) told

stop_ends : (call : Call) → HasJob call.words → Stops call.source call.sink call.ended → Ends call
stop_ends call job (inl x) =
    fault_ends call x.0 (due call.words call.source.left (ReadRose call.source) x.0 job x.1) x.2 x.3
stop_ends call job (inr x) = out_of_memory call x.0 (inl x.1)

-- the module that was read is that of the input
of_input : (source : Reading) (m : Module) → IsInputOf source m → IsModuleOfInput source.left m
of_input source m input =
    record {
      bytes = input.0;
      held = λ bytes held. sym (held_bytes source.left source.left_after input.0 bytes input.1 held);
      spelled = input.2;
    }

run_ends : (call : Call) (seed : ℕ) (lim : Bounds) (m : Module) → IsJob call.words (Replay seed lim)
    → IsInputOf call.source m → RunEnds seed lim m call.sink call.ended → Ends call
run_ends call seed lim m job input (inl x) = out_of_memory call x.0 (inl x.1)
run_ends call seed lim m job input (inr x) =
    let run : IsRunOfInput call.source.left seed lim m call.ended.run =
    record { of_input = of_input call.source m input; run_of = x.0 } in
    elim x.1 [
      | inl unwritten ↦ out_of_memory call unwritten (inr (seed, lim, job, m, run))
      | inr y ↦ reported call (record {
        seed = seed;
        lim = lim;
        job = job;
        input_module = m;
        run = run;
        read = read_out call.source input.0 input.1;
        text = y.0;
        report = y.1;
        told = y.2;
      })
    ]

pub replay_ends : (call : Call) (seed : ℕ) (lim : Bounds) → IsJob call.words (Replay seed lim)
    → ReplayEnds seed lim call.source call.sink call.ended → Ends call
replay_ends call seed lim job (inl x) = stop_ends call (Replay seed lim, job) x
replay_ends call seed lim job (inr x) = run_ends call seed lim x.0 job x.1 x.2

-- how a job ends that writes this text of each module
pub answer_ends : (call : Call) (job : Job) (text : Module → List ℕ) → ((m : Module) → IsTextOf job m (text m))
    → IsJob call.words job → AnswerEnds text call.source call.sink call.ended → Ends call
answer_ends call job text text_of is (inl x) = stop_ends call (job, is) x
answer_ends call job text text_of is (inr x) =
    let input = x.1 in
    answered call (record {
      job = job;
      is_job = is;
      input_module = x.0;
      of_input = of_input call.source x.0 input;
      read = read_out call.source input.0 input.1;
      empty = x.2;
      text = text x.0;
      text_of = text_of x.0;
      told = x.3;
    })

-- an input that gives no module ends the job
pub stopped : (source : Reading) (sink : Writing) (ended : Ended) (why : NoModule) → Explains source why
    → StoppedBy why sink ended → Stops source sink ended
stopped source sink ended (none.Refused fault) explained by = inl (fault, explained.0, explained.1, by)
stopped source sink ended none.Memory explained by = inr by
