-- What the ending of a call says, clause by clause.
use Rattle.std.proofs.Common.{◌≡◌, ℕ, Bool, true, false, if◌then◌else◌, ◌⊎◌, inl, inr, List, [], ◌∷◌, length, Option}
use Rattle.std.proofs.Common.{Some, None, refl, sym, ap, subst, ◌∙◌, arith}
use Rattle.std.specs.Prelude.{codes}
use Rattle.std.specs.Option.{option_map}
use Rattle.std.specs.List.{list_any}
use Rattle.ds_ast.specs.declared.module.Module.{Module}
use Rattle.ds_io.specs.Sink.{Takes, TakesFront}
use Rattle.ds_report.specs.declared.fault.Fault.{Fault}
use Rattle.ds_report.specs.declared.fault.Fault.TheVariants.{Usage, Read, TooLong, Parse, Shape, Check}
use Rattle.ds_report.specs.Fault.{fault_text}
use Rattle.ds_map.specs.Bounds.{Bounds}
use Rattle.ds_plain.specs.Explained.{is_fuel, stop_in}
use Rattle.ds_report.specs.Report.{IsReport}
use Rattle.ds_report.specs.Stop.{is_trap}
use Rattle.ds_report_laws.specs.Laws.{ReportsOfRuns}
use Rattle.ds_main.specs.declared.job.Job.{Job}
use Rattle.ds_main.specs.declared.job.Job.TheVariants as jobs
use Rattle.ds_main.specs.Job.{Setting, setting_in, IsJob, HasJob, NoJob}
use Rattle.ds_main.specs.Input.{IsAccepted, IsModuleOfInput, SpellsAccepted, Held, function_names}
use Rattle.ds_main.specs.Refusal.{IsRefused, AcceptedInputsAreNotRefused}
use Rattle.ds_main.specs.Text.{IsTextOf, accepted_text, instrumented_text}
use Rattle.ds_main.specs.Run.{IsEmpty, IsRunOfInput, read_program}
use Rattle.ds_main.specs.Replayed.{IsReportOfEachOrder}
use Rattle.ds_main.specs.Status.{is_full, run_status, IsRunStatus, status_of, IsFaultStatus, IsCutShort, IsStatus}
use Rattle.ds_main.specs.Due.{IsDue, IsDueText, IsOfModule}
use Rattle.ds_main.specs.Ending.{ReadRose, WriteRose, IsReadOut, Writing, Call, Delivers, Refused, Reported, Answered}
use Rattle.ds_main.specs.Ending.{Ends}
use Rattle.ds_main.proofs.Endings.{by_ending}

-- a seed and limits as one
abbrev both : ℕ → Bounds → Setting
both seed lim = record { seed = seed; limits = lim }

-- words ask for one seed and one list of limits
one_setting : (words : List (List ℕ)) (seed other : ℕ) (lim limits : Bounds) → IsJob words (jobs.Replay seed lim)
    → IsJob words (jobs.Replay other limits) → both seed lim ≡ both other limits
one_setting words seed other lim limits a b =
    let e : ◌≡◌ {A = Option Setting} (Some (both seed lim)) (Some (both other limits)) = sym a ∙ b in cc e

-- a job that runs nothing has one word, which is not `replay`
not_check : (words : List (List ℕ)) (seed : ℕ) (lim : Bounds) → words ≡ codes "check" ∷ []
    → IsJob words (jobs.Replay seed lim) → ⊥
not_check words seed lim one is =
    let e : ◌≡◌ {A = Option Setting} None (Some (both seed lim)) = ap setting_in (sym one) ∙ is in absurd (cc e)

not_instrument : (words : List (List ℕ)) (seed : ℕ) (lim : Bounds) → words ≡ codes "instrument" ∷ []
    → IsJob words (jobs.Replay seed lim) → ⊥
not_instrument words seed lim one is =
    let e : ◌≡◌ {A = Option Setting} None (Some (both seed lim)) = ap setting_in (sym one) ∙ is in absurd (cc e)

-- words are of one job
one_job : (words : List (List ℕ)) (job other : Job) → IsJob words job → IsJob words other → job ≡ other
one_job words (jobs.Replay seed lim) (jobs.Replay other limits) a b =
    ap (λ (s : Setting). jobs.Replay s.seed s.limits) (one_setting words seed other lim limits a b)
one_job words jobs.Check jobs.Check a b = refl
one_job words jobs.Instrument jobs.Instrument a b = refl
one_job words (jobs.Replay seed lim) jobs.Check a b = absurd (not_check words seed lim b a)
one_job words (jobs.Replay seed lim) jobs.Instrument a b = absurd (not_instrument words seed lim b a)
one_job words jobs.Check (jobs.Replay seed lim) a b = absurd (not_check words seed lim a b)
one_job words jobs.Check jobs.Instrument a b =
    let e : codes "check" ∷ [] ≡ codes "instrument" ∷ [] = sym a ∙ b in absurd (cc e)
one_job words jobs.Instrument (jobs.Replay seed lim) a b = absurd (not_instrument words seed lim a b)
one_job words jobs.Instrument jobs.Check a b =
    let e : codes "instrument" ∷ [] ≡ codes "check" ∷ [] = sym a ∙ b in absurd (cc e)

-- what is answered for a job is its text
text_of : (call : Call) (job : Job) → IsJob call.words job → (x : Answered call) → IsTextOf job x.input_module x.text
text_of call job is x =
    subst (λ (j : Job). IsTextOf j x.input_module x.text) (one_job call.words x.job job x.is_job is) x.text_of

-- a module that is run has no other text
no_text : (call : Call) (seed : ℕ) (lim : Bounds) → IsJob call.words (jobs.Replay seed lim) → Answered call → ⊥
no_text call seed lim is x = text_of call (jobs.Replay seed lim) is x

pub headline : (call : Call) → Ends call
    → IsEmpty call.ended.run
    ⊎ ((seed : ℕ) × (lim : Bounds) × IsJob call.words (jobs.Replay seed lim) × (m : Module)
    × IsRunOfInput call.source.left seed lim m call.ended.run)
headline call ends =
    by_ending call _ (λ x. inl x.empty) (λ x. inr (x.seed, x.lim, x.job, x.input_module, x.run)) (λ x. inl x.empty)
    (λ x. x.run) ends

-- what was delivered with another status than 5 was written whole
whole : (text : List ℕ) (done : ℕ) (sink : Writing) (status : ℕ) → (status ≡ 5 → ⊥) → Delivers text done sink status
    → (status ≡ done) × Takes sink.taken text sink.taken_after
whole text done sink status other (inl told) = told
whole text done sink status other (inr told) = absurd (other told.0)

-- and with 5 in part
in_part : (text : List ℕ) (done : ℕ) (sink : Writing) (status : ℕ) → (done ≡ 5 → ⊥) → status ≡ 5
    → Delivers text done sink status → WriteRose sink × TakesFront sink.taken text sink.taken_after
in_part text done sink status other five (inl told) = absurd (other (sym told.0 ∙ five))
in_part text done sink status other five (inr told) = (told.1, told.2)

-- with 6 nothing was delivered
not_six : (text : List ℕ) (done : ℕ) (sink : Writing) (status : ℕ) → (done ≡ 6 → ⊥) → status ≡ 6
    → Delivers text done sink status → ⊥
not_six text done sink status other six (inl told) = other (sym told.0 ∙ six)
not_six text done sink status other six (inr told) = absurd (omega (arith, told.0, six))

-- the status of a fault is none of these
fault_status : (fault : Fault) → IsFaultStatus (status_of fault)
fault_status Usage = inr (inl refl)
fault_status Read = inr (inr refl)
fault_status TooLong = inl refl
fault_status (Parse fault) = inl refl
fault_status (Shape fault) = inl refl
fault_status (Check fault names) = inl refl

not_fault : (status : ℕ) → IsFaultStatus status → (status ≡ 0 → ⊥) × (status ≡ 5 → ⊥) × (status ≡ 6 → ⊥)
not_fault status (inl a) = ((λ e. absurd (omega arith)), (λ e. absurd (omega arith)), (λ e. absurd (omega arith)))
not_fault status (inr (inl a)) =
    ((λ e. absurd (omega arith)), (λ e. absurd (omega arith)), (λ e. absurd (omega arith)))
not_fault status (inr (inr a)) =
    ((λ e. absurd (omega arith)), (λ e. absurd (omega arith)), (λ e. absurd (omega arith)))

-- a status of a run is none that is none of the five
differs : (k status : ℕ) → (k ≡ 0 → ⊥) → (k ≡ 3 → ⊥) → (k ≡ 7 → ⊥) → (k ≡ 8 → ⊥) → (k ≡ 9 → ⊥) → IsRunStatus status
    → status ≡ k → ⊥
differs k status a b c d f (inl x) e = a (sym e ∙ x)
differs k status a b c d f (inr (inl x)) e = b (sym e ∙ x)
differs k status a b c d f (inr (inr (inl x))) e = c (sym e ∙ x)
differs k status a b c d f (inr (inr (inr (inl x)))) e = d (sym e ∙ x)
differs k status a b c d f (inr (inr (inr (inr x)))) e = f (sym e ∙ x)

not_run : (status : ℕ) → IsRunStatus status → (status ≡ 5 → ⊥) × (status ≡ 6 → ⊥)
not_run status is = (
  differs 5 status (λ e. cc) (λ e. cc) (λ e. cc) (λ e. cc) (λ e. cc) is,
  differs 6 status (λ e. cc) (λ e. cc) (λ e. cc) (λ e. cc) (λ e. cc) is,
)

run_or_fault : (status : ℕ) → IsRunStatus status → IsFaultStatus status → ⊥
run_or_fault status run (inl a) = differs 1 status (λ e. cc) (λ e. cc) (λ e. cc) (λ e. cc) (λ e. cc) run a
run_or_fault status run (inr (inl a)) = differs 2 status (λ e. cc) (λ e. cc) (λ e. cc) (λ e. cc) (λ e. cc) run a
run_or_fault status run (inr (inr a)) = differs 4 status (λ e. cc) (λ e. cc) (λ e. cc) (λ e. cc) (λ e. cc) run a

-- the status of a run is one of these
status_of_ifs : (a b c d : Bool)
    → IsRunStatus (if a then 9 else (if b then 7 else (if c then 3 else (if d then 8 else 0))))
status_of_ifs true b c d = inr (inr (inr (inr refl)))
status_of_ifs false true c d = inr (inr (inl refl))
status_of_ifs false false true d = inr (inl refl)
status_of_ifs false false false true = inr (inr (inr (inl refl)))
status_of_ifs false false false false = inl refl

run_status_in : (call : Call) → IsRunStatus (run_status call.ended.run.stops)
run_status_in call =
    let stops = call.ended.run.stops in
    status_of_ifs (is_fuel (stop_in stops 0)) (list_any is_full stops) (list_any is_trap stops) (list_any is_fuel stops)

-- with a status of a run the job was done
by_done : (call : Call) (P : Type 0) → IsRunStatus call.ended.status
    → ((x : Reported call) → (call.ended.status ≡ run_status call.ended.run.stops)
    × Takes call.sink.taken x.text call.sink.taken_after → P)
    → ((x : Answered call) → (call.ended.status ≡ 0) × Takes call.sink.taken x.text call.sink.taken_after → P)
    → Ends call → P
by_done call P is a b ends =
    let other = (not_run call.ended.status is).0 in
    let refused : Refused call → ⊥ = λ x.
    let w = whole (fault_text x.fault) (status_of x.fault) call.sink call.ended.status other x.told in
    run_or_fault call.ended.status is (subst IsFaultStatus (sym w.0) (fault_status x.fault)) in
    by_ending call P (λ x. absurd (refused x))
    (λ x. a x (whole x.text (run_status call.ended.run.stops) call.sink call.ended.status other x.told))
    (λ x. b x (whole x.text 0 call.sink call.ended.status other x.told))
    (λ x. absurd ((not_run call.ended.status is).1 x.unwritten.0)) ends

-- what was reported is a run by the seed and within the limits of the words
within : (call : Call) (seed : ℕ) (lim : Bounds) → IsJob call.words (jobs.Replay seed lim) → (x : Reported call)
    → IsRunOfInput call.source.left seed lim x.input_module call.ended.run
within call seed lim job x =
    subst (λ (s : Setting). IsRunOfInput call.source.left s.seed s.limits x.input_module call.ended.run)
    (one_setting call.words x.seed seed x.lim lim x.job job) x.run

pub ran : (call : Call) → Ends call → (seed : ℕ) (lim : Bounds) → IsJob call.words (jobs.Replay seed lim)
    → IsRunStatus call.ended.status → (m : Module) × IsRunOfInput call.source.left seed lim m call.ended.run
ran call ends seed lim job is =
    by_done call _ is (λ x w. (x.input_module, within call seed lim job x)) (λ x w. absurd (no_text call seed lim job x)) ends

-- the report of a run is that of the plain machine's
told_plainly : ReportsOfRuns → (call : Call) (seed : ℕ) (lim : Bounds) (m : Module) (text : List ℕ)
    → IsRunOfInput call.source.left seed lim m call.ended.run
    → IsReport (function_names m) call.ended.run.stops call.ended.run.traces false text
    → IsReportOfEachOrder lim m call.ended.run text
told_plainly law call seed lim m text run report =
    (law (function_names m) false (read_program lim m) lim call.ended.run.stops call.ended.run.traces text
    run.run_of.sixteen_stops run.run_of.explained report).1

pub reported : (call : Call) → ReportsOfRuns → Ends call → (seed : ℕ) (lim : Bounds)
    → IsJob call.words (jobs.Replay seed lim) → IsRunStatus call.ended.status
    → (m : Module) × IsRunOfInput call.source.left seed lim m call.ended.run × (text : List ℕ)
    × IsReport (function_names m) call.ended.run.stops call.ended.run.traces false text
    × IsReportOfEachOrder lim m call.ended.run text
    × Takes call.sink.taken text call.sink.taken_after
reported call law ends seed lim job is =
    by_done call _ is
    (λ x w. (
      x.input_module,
      within call seed lim job x,
      x.text,
      x.report,
      told_plainly law call seed lim x.input_module x.text (within call seed lim job x) x.report,
      w.1,
    ))
    (λ x w. absurd (no_text call seed lim job x)) ends

pub run_status_is : (call : Call) → Ends call → (seed : ℕ) (lim : Bounds) → IsJob call.words (jobs.Replay seed lim)
    → IsRunStatus call.ended.status → call.ended.status ≡ run_status call.ended.run.stops
run_status_is call ends seed lim job is =
    by_done call _ is (λ x w. w.0) (λ x w. absurd (no_text call seed lim job x)) ends

-- with status 0 a job that runs nothing has written its text
answered : (call : Call) → Ends call → (job : Job) → ((seed : ℕ) (lim : Bounds) → job ≡ jobs.Replay seed lim → ⊥)
    → IsJob call.words job
    → call.ended.status ≡ 0
    → (m : Module) × IsModuleOfInput call.source.left m × (text : List ℕ) × IsTextOf job m text
    × Takes call.sink.taken text call.sink.taken_after
answered call ends job other is zero =
    by_done call _ (inl zero) (λ x w. absurd (other x.seed x.lim
    (one_job call.words job (jobs.Replay x.seed x.lim) is x.job)))
    (λ x w. (x.input_module, x.of_input, x.text, text_of call job is x, w.1)) ends

-- that is the text that the job has of each module
by_text : (call : Call) (job : Job) (text : Module → List ℕ)
    → ((m : Module) (bytes : List ℕ) → IsTextOf job m bytes → bytes ≡ text m)
    → (m : Module) × IsModuleOfInput call.source.left m × (bytes : List ℕ) × IsTextOf job m bytes
    × Takes call.sink.taken bytes call.sink.taken_after
    → (m : Module) × IsModuleOfInput call.source.left m × Takes call.sink.taken (text m) call.sink.taken_after
by_text call job text same (m, of, bytes, is, written) =
    (m, of, subst (λ (b : List ℕ). Takes call.sink.taken b call.sink.taken_after) (same m bytes is) written)

pub checked : (call : Call) → Ends call → IsJob call.words jobs.Check → call.ended.status ≡ 0
    → (m : Module) × IsModuleOfInput call.source.left m × Takes call.sink.taken (accepted_text m) call.sink.taken_after
checked call ends is zero =
    by_text call jobs.Check accepted_text (λ m bytes e. e)
    (answered call ends jobs.Check (λ seed lim e. absurd (cc e)) is zero)

pub instrumented : (call : Call) → Ends call → IsJob call.words jobs.Instrument → call.ended.status ≡ 0
    → (m : Module) × IsModuleOfInput call.source.left m × Takes call.sink.taken (instrumented_text m) call.sink.taken_after
instrumented call ends is zero =
    by_text call jobs.Instrument instrumented_text (λ m bytes e. e)
    (answered call ends jobs.Instrument (λ seed lim e. absurd (cc e)) is zero)

pub of_replay : (call : Call) → Ends call → IsRunStatus call.ended.status → ¬ (call.ended.status ≡ 0)
    → (seed : ℕ) × (lim : Bounds) × IsJob call.words (jobs.Replay seed lim)
of_replay call ends is other = by_done call _ is (λ x w. (x.seed, x.lim, x.job)) (λ x w. absurd (other w.0)) ends

pub read_out : (call : Call) → Ends call → IsRunStatus call.ended.status
    → call.source.left_after ≡ option_map (λ _. []) call.source.left
read_out call ends is = by_done call _ is (λ x w. x.read) (λ x w. x.read) ends

-- which fault a status tells
due_at_2 : (words : List (List ℕ)) (left : Option (List ℕ)) (rose : Type 0) (fault : Fault) → status_of fault ≡ 2
    → IsDue words left rose fault → NoJob words
due_at_2 words left rose Usage e due = due
due_at_2 words left rose Read e due = absurd (omega arith)
due_at_2 words left rose TooLong e due = absurd (omega arith)
due_at_2 words left rose (Parse fault) e due = absurd (omega arith)
due_at_2 words left rose (Shape fault) e due = absurd (omega arith)
due_at_2 words left rose (Check fault names) e due = absurd (omega arith)

due_at_4 : (words : List (List ℕ)) (left : Option (List ℕ)) (rose : Type 0) (fault : Fault) → status_of fault ≡ 4
    → IsDue words left rose fault → HasJob words × rose
due_at_4 words left rose Usage e due = absurd (omega arith)
due_at_4 words left rose Read e due = (due.0, due.1.1)
due_at_4 words left rose TooLong e due = absurd (omega arith)
due_at_4 words left rose (Parse fault) e due = absurd (omega arith)
due_at_4 words left rose (Shape fault) e due = absurd (omega arith)
due_at_4 words left rose (Check fault names) e due = absurd (omega arith)

due_at_1 : (words : List (List ℕ)) (left : Option (List ℕ)) (rose : Type 0) (fault : Fault) → status_of fault ≡ 1
    → IsDue words left rose fault → HasJob words × Held left IsRefused
due_at_1 words left rose Usage e due = absurd (omega arith)
due_at_1 words left rose Read e due = absurd (omega arith)
due_at_1 words left rose TooLong e due = (due.0, λ bytes held. inl (due.1.1 bytes held))
due_at_1 words left rose (Parse fault) e due = (due.0, λ bytes held. inr (inl (fault, due.1.1 bytes held)))
due_at_1 words left rose (Shape fault) e due =
    (due.0, λ bytes held. inr (inr (Shape fault, due.1.1 bytes held)))
due_at_1 words left rose (Check fault names) e due =
    (due.0, λ bytes held. inr (inr (Check fault names, due.1.1 bytes held)))

-- with a status of a fault the call was refused
by_fault : (call : Call) (P : Type 0) → IsFaultStatus call.ended.status
    → ((x : Refused call) → (call.ended.status ≡ status_of x.fault)
    × Takes call.sink.taken (fault_text x.fault) call.sink.taken_after → P)
    → Ends call → P
by_fault call P is a ends =
    let other = (not_fault call.ended.status is).1 in
    let reported : Reported call → ⊥ = λ x.
    let w = whole x.text (run_status call.ended.run.stops) call.sink call.ended.status other x.told in
    run_or_fault call.ended.status (subst IsRunStatus (sym w.0) (run_status_in call)) is in
    by_ending call P
    (λ x. a x (whole (fault_text x.fault) (status_of x.fault) call.sink call.ended.status other x.told))
    (λ x. absurd (reported x))
    (λ x. absurd ((not_fault call.ended.status is).0 (whole x.text 0 call.sink call.ended.status other x.told).0))
    (λ x. absurd ((not_fault call.ended.status is).2 x.unwritten.0)) ends

pub usage : (call : Call) → Ends call → call.ended.status ≡ 2 → NoJob call.words
usage call ends two =
    by_fault call _ (inr (inl two))
    (λ x w. due_at_2 call.words call.source.left (ReadRose call.source) x.fault (sym w.0 ∙ two) x.due) ends

pub read_failed : (call : Call) → Ends call → call.ended.status ≡ 4 → HasJob call.words × ReadRose call.source
read_failed call ends four =
    by_fault call _ (inr (inr four))
    (λ x w. due_at_4 call.words call.source.left (ReadRose call.source) x.fault (sym w.0 ∙ four) x.due) ends

pub refused : (call : Call) → Ends call → call.ended.status ≡ 1
    → HasJob call.words × Held call.source.left IsRefused
refused call ends one =
    by_fault call _ (inl one)
    (λ x w. due_at_1 call.words call.source.left (ReadRose call.source) x.fault (sym w.0 ∙ one) x.due) ends

-- where no job has the words, the fault is that
due_without_job : (words : List (List ℕ)) (left : Option (List ℕ)) (rose : Type 0) (fault : Fault) → NoJob words
    → IsDue words left rose fault → status_of fault ≡ 2
due_without_job words left rose Usage none due = refl
due_without_job words left rose Read none due = absurd (none due.0.0 due.0.1)
due_without_job words left rose TooLong none due = absurd (none due.0.0 due.0.1)
due_without_job words left rose (Parse fault) none due = absurd (none due.0.0 due.0.1)
due_without_job words left rose (Shape fault) none due = absurd (none due.0.0 due.0.1)
due_without_job words left rose (Check fault names) none due = absurd (none due.0.0 due.0.1)

pub usage_is_told : (call : Call) → Ends call → NoJob call.words
    → (call.ended.status ≡ 2) ⊎ IsCutShort call.ended.status
usage_is_told call ends none =
    let told : (x : Refused call) → (call.ended.status ≡ 2) ⊎ IsCutShort call.ended.status = λ x.
    elim x.told [
      | inl w ↦ inl (w.0 ∙ due_without_job call.words call.source.left (ReadRose call.source) x.fault none x.due)
      | inr w ↦ inr (inl w.0)
    ] in
    by_ending call _ told (λ x. absurd (none (jobs.Replay x.seed x.lim) x.job)) (λ x. absurd (none x.job x.is_job))
    (λ x. inr (inr x.unwritten.0)) ends

-- where a job has the words, the fault is one of the input
due_with_job : (words : List (List ℕ)) (left : Option (List ℕ)) (rose : Type 0) (fault : Fault)
    → HasJob words → IsDue words left rose fault → (status_of fault ≡ 1) ⊎ ((status_of fault ≡ 4) × rose)
due_with_job words left rose Usage job due = absurd (due job.0 job.1)
due_with_job words left rose Read job due = inr (refl, due.1.1)
due_with_job words left rose TooLong job due = inl refl
due_with_job words left rose (Parse fault) job due = inl refl
due_with_job words left rose (Shape fault) job due = inl refl
due_with_job words left rose (Check fault names) job due = inl refl

-- the input of a job that was done was accepted
is_accepted : (left : Option (List ℕ)) (bytes : List ℕ) (m : Module) → left ≡ Some bytes → IsModuleOfInput left m
    → IsAccepted bytes
is_accepted left bytes m held of =
    (m, subst (λ (b : List ℕ). SpellsAccepted b m) (sym (of.held bytes held)) of.spelled)

pub refusal_is_told : (call : Call) → AcceptedInputsAreNotRefused → Ends call → HasJob call.words
    → Held call.source.left
    (λ bytes. IsRefused bytes → (call.ended.status ≡ 1) ⊎ ((call.ended.status ≡ 4) × ReadRose call.source)
    ⊎ IsCutShort call.ended.status)
refusal_is_told call law ends job bytes held bad =
    let told : (x : Refused call) → (call.ended.status ≡ 1) ⊎ ((call.ended.status ≡ 4) × ReadRose call.source)
    ⊎ IsCutShort call.ended.status = λ x.
    elim x.told [
      | inl w ↦ elim (due_with_job call.words call.source.left (ReadRose call.source) x.fault job x.due) [
        | inl one ↦ inl (w.0 ∙ one)
        | inr four ↦ inr (inl (w.0 ∙ four.0, four.1))
      ]
      | inr w ↦ inr (inr (inl w.0))
    ] in
    by_ending call _ told
    (λ x. absurd (law bytes (is_accepted call.source.left bytes x.input_module held x.run.of_input) bad))
    (λ x. absurd (law bytes (is_accepted call.source.left bytes x.input_module held x.of_input) bad))
    (λ x. inr (inr (inr x.unwritten.0))) ends

pub fault_line : (call : Call) → Ends call → IsFaultStatus call.ended.status
    → (fault : Fault) × (call.ended.status ≡ status_of fault)
    × IsDue call.words call.source.left (ReadRose call.source) fault
    × (IsOfModule fault → IsReadOut call.source) × Takes call.sink.taken (fault_text fault) call.sink.taken_after
fault_line call ends is = by_fault call _ is (λ x w. (x.fault, w.0, x.due, x.read, w.1)) ends

pub nothing_run : (call : Call) → Ends call → IsFaultStatus call.ended.status → IsEmpty call.ended.run
nothing_run call ends is = by_fault call _ is (λ x w. x.empty) ends

pub write_failed : (call : Call) → Ends call → call.ended.status ≡ 5 → WriteRose call.sink × (text : List ℕ)
    × IsDueText call.words call.source.left (ReadRose call.source) call.ended.run text
    × TakesFront call.sink.taken text call.sink.taken_after
write_failed call ends five =
    let other_fault = λ (f : Fault). (not_fault (status_of f) (fault_status f)).1 in
    let other_run = (not_run (run_status call.ended.run.stops) (run_status_in call)).0 in
    by_ending call _
    (λ x.
    let p = in_part (fault_text x.fault) (status_of x.fault) call.sink call.ended.status (other_fault x.fault) five
    x.told in (p.0, fault_text x.fault, inl (x.fault, x.due, x.empty, refl), p.1))
    (λ x.
    let p = in_part x.text (run_status call.ended.run.stops) call.sink call.ended.status other_run five x.told in
    (p.0, x.text, inr (inl (x.seed, x.lim, x.job, x.input_module, x.run, x.report)), p.1))
    (λ x.
    let p = in_part x.text 0 call.sink call.ended.status (λ e. absurd (omega (arith, e))) five x.told in
    (p.0, x.text, inr (inr (x.job, x.is_job, x.input_module, x.of_input, x.empty, x.text_of)), p.1))
    (λ x. absurd (omega (arith, x.unwritten.0, five))) ends

pub out_of_memory : (call : Call) → Ends call → call.ended.status ≡ 6 → call.sink.taken_after ≡ call.sink.taken
out_of_memory call ends six =
    let other_fault = λ (f : Fault). (not_fault (status_of f) (fault_status f)).2 in
    let other_run = (not_run (run_status call.ended.run.stops) (run_status_in call)).1 in
    by_ending call _
    (λ x. absurd (not_six (fault_text x.fault) (status_of x.fault) call.sink call.ended.status (other_fault x.fault)
    six x.told))
    (λ x. absurd (not_six x.text (run_status call.ended.run.stops) call.sink call.ended.status other_run six x.told))
    (λ x. absurd (not_six x.text 0 call.sink call.ended.status (λ e. absurd (omega (arith, e))) six x.told))
    (λ x. x.unwritten.1) ends

pub statuses : (call : Call) → Ends call → IsStatus call.ended.status
statuses call ends =
    let told : (x : Refused call) → IsStatus call.ended.status = λ x.
    elim x.told [
      | inl w ↦ inr (inl (subst IsFaultStatus (sym w.0) (fault_status x.fault)))
      | inr w ↦ inr (inr (inl w.0))
    ] in
    let ran : (x : Reported call) → IsStatus call.ended.status = λ x.
    elim x.told [ inl w ↦ inl (subst IsRunStatus (sym w.0) (run_status_in call)) | inr w ↦ inr (inr (inl w.0)) ] in
    let done : (x : Answered call) → IsStatus call.ended.status = λ x.
    elim x.told [ inl w ↦ inl (inl w.0) | inr w ↦ inr (inr (inl w.0)) ] in
    by_ending call _ told ran done (λ x. inr (inr (inr x.unwritten.0))) ends

-- an accepted input whose source did not fail has no fault
no_fault : (words : List (List ℕ)) (left : Option (List ℕ)) (rose : Type 0) (fault : Fault) (bytes : List ℕ)
    → AcceptedInputsAreNotRefused → HasJob words → left ≡ Some bytes → IsAccepted bytes → ¬ rose
    → IsDue words left rose fault → ⊥
no_fault words left rose Usage bytes law job held accepted calm due = due job.0 job.1
no_fault words left rose Read bytes law job held accepted calm due = calm due.1.1
no_fault words left rose TooLong bytes law job held accepted calm due =
    law bytes accepted (inl (due.1.1 bytes held))
no_fault words left rose (Parse fault) bytes law job held accepted calm due =
    law bytes accepted (inr (inl (fault, due.1.1 bytes held)))
no_fault words left rose (Shape fault) bytes law job held accepted calm due =
    law bytes accepted (inr (inr (Shape fault, due.1.1 bytes held)))
no_fault words left rose (Check fault names) bytes law job held accepted calm due =
    law bytes accepted (inr (inr (Check fault names, due.1.1 bytes held)))

-- an empty record is of no run
empty_or_run : (call : Call) (left : Option (List ℕ)) (seed : ℕ) (lim : Bounds) (m : Module) → IsEmpty call.ended.run
    → IsRunOfInput left seed lim m call.ended.run → ⊥
empty_or_run call left seed lim m empty run =
    let stops : length call.ended.run.stops ≡ 0 = rw empty.no_stops refl in
    absurd (omega (arith, run.run_of.sixteen_stops, stops))

pub run_is_made : (call : Call) → AcceptedInputsAreNotRefused → Ends call → (seed : ℕ) (lim : Bounds)
    → IsJob call.words (jobs.Replay seed lim)
    → Held call.source.left (λ bytes. IsAccepted bytes → ¬ ReadRose call.source → IsEmpty call.ended.run
    → call.ended.status ≡ 6)
run_is_made call law ends seed lim job bytes held accepted calm empty =
    by_ending call _
    (λ x. absurd (no_fault call.words call.source.left (ReadRose call.source) x.fault bytes law
    (jobs.Replay seed lim, job) held accepted calm x.due))
    (λ x. absurd (empty_or_run call call.source.left x.seed x.lim x.input_module empty x.run))
    (λ x. absurd (no_text call seed lim job x)) (λ x. x.unwritten.0) ends

pub complete : (call : Call) → AcceptedInputsAreNotRefused → Ends call → HasJob call.words
    → Held call.source.left (λ bytes. IsAccepted bytes → ¬ ReadRose call.source → ¬ WriteRose call.sink
    → IsRunStatus call.ended.status ⊎ (call.ended.status ≡ 6))
complete call law ends job bytes held accepted calm quiet =
    let ran : (x : Reported call) → IsRunStatus call.ended.status ⊎ (call.ended.status ≡ 6) = λ x.
    elim x.told [ inl w ↦ inl (subst IsRunStatus (sym w.0) (run_status_in call)) | inr w ↦ absurd (quiet w.1) ] in
    let done : (x : Answered call) → IsRunStatus call.ended.status ⊎ (call.ended.status ≡ 6) = λ x.
    elim x.told [ inl w ↦ inl (inl w.0) | inr w ↦ absurd (quiet w.1) ] in
    by_ending call _
    (λ x. absurd (no_fault call.words call.source.left (ReadRose call.source) x.fault bytes law job held accepted
    calm x.due))
    ran done (λ x. inr x.unwritten.0) ends
