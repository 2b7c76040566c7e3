-- What it means that a recorded run is one of the program.
use Rattle.std.specs.Prelude.{◌≡◌, ℕ, ◌+◌, ◌*◌, ◌<◌, Bool, true, false, List, [], length, take, drop, slice_index}
use Rattle.std.specs.Prelude.{slice_index_or}
use Rattle.ds_map.specs.Bounds.{Bounds}
use Rattle.ds_map.specs.Blocks.{page_word}
use Rattle.ds_map.specs.Words.{first_page_word, first_block_word, first_program_word, first_words}
use Rattle.ds_step.specs.declared.Step.{Step}
use Rattle.ds_plain.specs.declared.Stop.{Stop}
use Rattle.ds_plain.specs.declared.Stop.TheVariants.{Idle, Running, Returned, Trap, Full, Fuel}
use Rattle.ds_plain.specs.Behaviour.{Program}
use Rattle.ds_plain.specs.State.{State, Setting, first_state, block_word, stop_of_phase}
use Rattle.ds_plain.specs.Plain.{IsPlainRun, state_after}
use Rattle.ds_plain.specs.Spawning.{given_word}
use Rattle.ds_plain.specs.Table.{prints_word}
use Rattle.ds_plain.specs.Thread.{first_thread, Follows, thread_after, stop_of}
use Rattle.ds_plain.specs.History.{History, Interleaves, threads_of, IsLegal, words_left, erase}

-- AGREEMENT

-- the words of the table and the plain state say the same, region by region
pub record Agrees (lim : Bounds) (words : List ℕ) (s : State) : Type 0 where
  pub given : slice_index words given_word ≡ s.given
  pub prints : slice_index words prints_word ≡ length s.out
  pub pages : (page : ℕ) → page < lim.pages → slice_index words (first_page_word + page) ≡ page_word (s.pages page)
  pub blocks : (place : ℕ) → place < 256 * lim.pages
      → slice_index words (first_block_word lim + place) ≡ block_word (s.blocks place)
  pub program : drop (first_program_word lim) words ≡ s.words

-- STOPS

abbrev pub is_fuel : Stop → Bool
is_fuel Idle = false
is_fuel Running = false
is_fuel (Returned value) = false
is_fuel (Trap trap) = false
is_fuel (Full place what) = false
is_fuel Fuel = true

-- the thread has ended
abbrev pub HasEnded : Stop → Type 0
HasEnded Idle = ⊥
HasEnded Running = ⊥
HasEnded (Returned value) = Unit {0}
HasEnded (Trap trap) = Unit {0}
HasEnded (Full place what) = Unit {0}
HasEnded Fuel = Unit {0}

abbrev pub trace_of : List (List Step) → ℕ → List Step
trace_of traces t = slice_index_or traces t []

abbrev pub stop_in : List Stop → ℕ → Stop
stop_in stops t = slice_index_or stops t Idle

-- RUNS OF A PROGRAM

-- The setting of a run whose threads ended so: those with the stop Fuel ended for want of it. Frees are taken at their
-- word.
abbrev pub setting_of : Program → Bounds → List Stop → Setting
setting_of program lim stops =
    record { program = program; lim = lim; out_of_fuel = λ t. is_fuel (stop_in stops t); weak = true }

-- the words of the table after these steps
abbrev pub words_behind : Program → Bounds → History → List ℕ
words_behind program lim h = words_left (first_words lim program.image) h

-- the plain state after their events
abbrev pub state_behind : Program → Bounds → List Stop → History → State
state_behind program lim stops h = state_after (setting_of program lim stops) (first_state program lim) (erase h)

-- every step of the history was answered what its word held
abbrev pub IsLegalRun : Program → Bounds → History → Type 0
IsLegalRun program lim h = IsLegal (first_words lim program.image) h

-- There are 16 traces; each follows the step table for what its thread's behaviour asks, and each stop is where the
-- trace leaves its thread.
pub record IsRecord (program : Program) (lim : Bounds) (stops : List Stop) (traces : List (List Step)) : Type 0 where
  pub sixteen_traces : length traces ≡ 16
  pub follows : (t : ℕ) → t < 16 → Follows program lim t (first_thread lim) (trace_of traces t)
  pub ends : (t : ℕ) → t < 16
      → stop_in stops t ≡ stop_of (thread_after program lim t (first_thread lim) (trace_of traces t))

-- In this order the recorded steps are a run of the plain machine on the program, and the stops are that run's.
pub record IsExplained (program : Program) (lim : Bounds) (stops : List Stop) (h : History) : Type 0 where
  -- without log steps the history is a run of the plain machine
  pub plain : IsPlainRun (setting_of program lim stops) (first_state program lim) (erase h)
  -- at every moment the words say what the plain state says
  pub agrees : (k : ℕ)
      → Agrees lim (words_behind program lim (take k h)) (state_behind program lim stops (take k h))
  -- each recorded stop is the plain run's
  pub ends : (t : ℕ) → t < 16 → stop_in stops t ≡ stop_of_phase ((state_behind program lim stops h).threads t)

-- in this order of threads the traces are legal
abbrev pub IsLegalOrder : Program → Bounds → List (List Step) → List ℕ → Type 0
IsLegalOrder program lim traces order =
    (h : History) × (threads_of h ≡ order) × Interleaves traces h × IsLegalRun program lim h

-- some order of the traces is legal
abbrev pub HasLegalOrder : Program → Bounds → List (List Step) → Type 0
HasLegalOrder program lim traces = ∥ ((h : History) × Interleaves traces h × IsLegalRun program lim h) ∥₁

-- The main theorem's words: the traces follow the program, at least one order of their steps is legal, and in every
-- legal order they are a run of the plain machine.
pub record IsRunOf (program : Program) (lim : Bounds) (stops : List Stop) (traces : List (List Step)) : Type 0 where
  pub recorded : IsRecord program lim stops traces
  pub some_order : HasLegalOrder program lim traces
  pub every_order : (h : History) → Interleaves traces h → IsLegalRun program lim h
      → IsExplained program lim stops h
