-- The statements of the laws.
use Rattle.std.specs.Prelude.{◌≡◌, ℕ, ◌<◌, false, List, [], ◌∷◌, ◌++◌, length, replicate, slice_set}
use Rattle.ds_map.specs.Bounds.{Bounds, IsInRange}
use Rattle.ds_map.specs.Words.{first_words}
use Rattle.ds_step.specs.declared.Step.{Step}
use Rattle.ds_step.specs.Word.{words_after, answer_on}
use Rattle.ds_plain.specs.declared.Stop.{Stop}
use Rattle.ds_plain.specs.Behaviour.{Program}
use Rattle.ds_plain.specs.State.{replaced}
use Rattle.ds_plain.specs.Table.{op_at, step_at, is_over}
use Rattle.ds_plain.specs.Thread.{Thread, first_thread, moved, stop_of}
use Rattle.ds_plain.specs.History.{History, threads_of, Interleaves}
use Rattle.ds_plain.specs.Explained.{trace_of, stop_in, IsRecord, IsExplained, IsLegalOrder, IsLegalRun}
use Rattle.ds_plain.specs.Stands.{Stands}

-- before any step
abbrev pub NothingStands : Type 0
NothingStands = (program : Program) (lim : Bounds)
    → Stands program lim (replicate 16 []) [] (first_words lim program.image) (λ t. first_thread lim)

-- the step that thread t makes next, where its words answer it
abbrev pub next_step : Bounds → List ℕ → (ℕ → Thread) → ℕ → Step
next_step lim words threads t = step_at lim t (threads t).position (answer_on words (op_at lim t (threads t).position))

-- the step of a thread that is not over, with its step at the end of its trace and at the end of the history
abbrev pub OneStepMore : Type 0
OneStepMore = (program : Program) (lim : Bounds) (traces : List (List Step)) (h : History) (words : List ℕ)
    (threads : ℕ → Thread) (t : ℕ) →
    t < length traces → Stands program lim traces h words threads → is_over (threads t).position ≡ false →
    let step = next_step lim words threads t in
    Stands program lim (slice_set traces t (trace_of traces t ++ step ∷ [])) (h ++ (t, step) ∷ [])
    (words_after words step.op) (replaced threads t (moved program lim t (threads t) step.old))

-- what stands is a record, with each thread's stop as it stands there, and the order in which it stands is legal
abbrev pub StandingIsRecorded : Type 0
StandingIsRecorded = (program : Program) (lim : Bounds) (stops : List Stop) (traces : List (List Step)) (h : History)
    (words : List ℕ) (threads : ℕ → Thread) →
    length traces ≡ 16 → ((t : ℕ) → t < 16 → stop_in stops t ≡ stop_of (threads t))
    → Stands program lim traces h words threads
    → IsRecord program lim stops traces × IsLegalOrder program lim traces (threads_of h)

-- every legal order of traces that follow the step table is explained
abbrev pub LegalRunsArePlain : Type 0
LegalRunsArePlain = (program : Program) (lim : Bounds) (stops : List Stop) (traces : List (List Step)) →
    IsInRange lim → IsRecord program lim stops traces
    → (h : History) → Interleaves traces h → IsLegalRun program lim h → IsExplained program lim stops h
