-- Histories: the recorded steps of all threads in one order.
use Rattle.std.specs.Prelude.{◌≡◌, ℕ, Bool, true, false, ◌==◌, if◌then◌else◌, List, [], ◌∷◌, map, slice_index_or}
use Rattle.ds_step.specs.declared.WordOp.{WordOp}
use Rattle.ds_step.specs.declared.Event.{Event}
use Rattle.ds_step.specs.declared.Event.TheVariants.{Log}
use Rattle.ds_step.specs.declared.Step.{Step}
use Rattle.ds_step.specs.Word.{words_after, answer_on}

-- each step with the number of the thread that made it
abbrev pub History : Type 0
History = List (ℕ × Step)

-- the steps of one thread, in their order
abbrev pub steps_of : ℕ → History → List Step
steps_of t [] = []
steps_of t (e ∷ es) = if t == e.0 then e.1 ∷ steps_of t es else steps_of t es

-- the history takes the traces, each to its end and in its own order; a trace stands at the place of its thread's
-- number
abbrev pub Interleaves : List (List Step) → History → Type 0
Interleaves traces h = (t : ℕ) → steps_of t h ≡ slice_index_or traces t []

-- whose step each is
abbrev pub threads_of : History → List ℕ
threads_of h = map (λ e. e.0) h

-- Each operation answered what its word held after the operations before it. An entry has an operation and an answer.
abbrev pub Answers : {E : Type 0} → (E → WordOp) → (E → ℕ) → List ℕ → List E → Type 0
Answers op old words [] = Unit {0}
Answers op old words (e ∷ es) = (old e ≡ answer_on words (op e)) × Answers op old (words_after words (op e)) es

-- what the words are after the operations
abbrev pub words_at_end : {E : Type 0} → (E → WordOp) → List ℕ → List E → List ℕ
words_at_end op words [] = words
words_at_end op words (e ∷ es) = words_at_end op (words_after words (op e)) es

-- every step was answered what its word held
abbrev pub IsLegal : List ℕ → History → Type 0
IsLegal words h = Answers (λ e. e.1.op) (λ e. e.1.old) words h

-- the words after the steps of a history
abbrev pub words_left : List ℕ → History → List ℕ
words_left words h = words_at_end (λ e. e.1.op) words h

abbrev pub is_log : Event → Bool
is_log Log = true
is_log event = false

-- the events of a history without those of the machine's own records
abbrev pub erase : History → List (ℕ × Event)
erase [] = []
erase (e ∷ es) = if is_log e.1.event then erase es else (e.0, e.1.event) ∷ erase es
