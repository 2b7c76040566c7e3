-- What contracts see of one note as a machine.
use Rattle.std.specs.Prelude.{◌≡◌, ℕ, ◌-◌, ◌*◌, ◌%◌, ◌<◌, ◌≤◌, true, Option, Some, None, refl}
use Rattle.ds_map.specs.Bounds.{Bounds, IsInRange}
use Rattle.ds_map.specs.Blocks.{page_at, place_in}
use Rattle.ds_pages.specs.declared.BlockState.{BlockState}
use Rattle.ds_pages.specs.declared.BlockState.TheVariants as states
use Rattle.ds_pages.specs.Words.{is_page_word, class_in, read_state}
use Rattle.ds_plain.specs.declared.NoteAt.{NoteAt}
use Rattle.ds_plain.specs.declared.NoteAt.TheVariants.{LoadPage, LoadBlock, Seek, StoreLife, StoreEntry, CountEntry}
use Rattle.ds_plain.specs.Freeing.{LifeSeen}
use Rattle.ds_plain.specs.Freeing as lives
use Rattle.ds_plain.specs.Noting.{NoteNext, NotesOn, HasNoted, HasSkipped, FailsNote, HeldSeen, IsNoteAt}
use Rattle.ds_plain.specs.Noting as seen
use Rattle.ds_list.specs.Walks as lists
use Rattle.ds_log.specs.declared.outcome.NoteOutcome.{NoteOutcome}
use Rattle.ds_log.specs.declared.outcome.NoteOutcome.TheVariants.{Noted, Skipped, Full}
use Rattle.ds_log.specs.declared.outcome.NoteStep.{NoteStep}
use Rattle.ds_log.specs.declared.outcome.NoteStep.TheVariants as steps
use Rattle.ds_log.specs.declared.seen.PageWord.{PageWord}
use Rattle.ds_log.specs.declared.seen.PageWord.TheVariants as pages
use Rattle.ds_log.specs.declared.seen.BlockWord.{BlockWord}
use Rattle.ds_log.specs.declared.seen.BlockWord.TheVariants as words

pub record NoteState : Type 0 where
  -- the limits of the run
  pub lim : Bounds
  -- the number of the thread
  pub thread : ℕ
  -- what came of its steps so far
  pub next : NoteNext

-- the position from which it goes on, while it does
abbrev pub notes_at : NoteNext → Option NoteAt
notes_at (NotesOn at) = Some at
notes_at HasNoted = None
notes_at HasSkipped = None
notes_at (FailsNote what) = None

-- what it came to, once it goes on no more
abbrev pub outcome_of : NoteNext → Option NoteOutcome
outcome_of (NotesOn at) = None
outcome_of HasNoted = Some Noted
outcome_of HasSkipped = Some Skipped
outcome_of (FailsNote what) = Some (Full what)

-- WHY A NOTE ENDS WITHOUT AN ENTRY

-- this page word says that no block holds the byte at an address of the heap
abbrev pub HoldsNone : (value word : ℕ) → Type 0
HoldsNone value word =
    (is_page_word word ≡ true) × (place_in (page_at value) ((value - 0x1000000) % 4096) (class_in word) ≡ None)

-- the word is that of a block that is not live
abbrev pub IsInNoLife : Option (ℕ × BlockState) → Type 0
IsInNoLife None = ⊥
IsInNoLife (Some (life, states.Free)) = Unit {0}
IsInNoLife (Some (life, states.Live)) = ⊥
IsInNoLife (Some (life, states.Freeing)) = Unit {0}

-- it stands at the load of its page, whose word says that no block holds the value, or at the load of its block, whose
-- word says that the block is not live
abbrev pub FindsNone : NoteAt → (old : ℕ) → Type 0
FindsNone (LoadPage loc value) old = HoldsNone value old
FindsNone (LoadBlock loc place start) old = IsInNoLife (read_state old)
FindsNone (Seek loc at) old = ⊥
FindsNone (StoreLife loc place life log) old = ⊥
FindsNone (StoreEntry loc place life log used) old = ⊥
FindsNone (CountEntry loc place life log used) old = ⊥

-- it stands where it draws a log, and all of the run were drawn
abbrev pub DrawsNone : Bounds → NoteAt → (old : ℕ) → Type 0
DrawsNone lim (LoadPage loc value) old = ⊥
DrawsNone lim (LoadBlock loc place start) old = ⊥
DrawsNone lim (Seek loc at) old = lists.DrawsNone lim at old
DrawsNone lim (StoreLife loc place life log) old = ⊥
DrawsNone lim (StoreEntry loc place life log used) old = ⊥
DrawsNone lim (CountEntry loc place life log used) old = ⊥

-- it stands at the load of the header of its log, which is of this life with all entries used
abbrev pub HasAllUsed : NoteAt → (old : ℕ) → Type 0
HasAllUsed (LoadPage loc value) old = ⊥
HasAllUsed (LoadBlock loc place start) old = ⊥
HasAllUsed (Seek loc at) old = lists.HasAllUsed at old
HasAllUsed (StoreLife loc place life log) old = ⊥
HasAllUsed (StoreEntry loc place life log used) old = ⊥
HasAllUsed (CountEntry loc place life log used) old = ⊥

-- HELPERS: no clause of a public call speaks of them

-- what came of a step, as the code has it
abbrev pub next_in : NoteStep → NoteNext
next_in (steps.NotesOn at) = NotesOn at
next_in steps.HasNoted = HasNoted
next_in steps.HasSkipped = HasSkipped
next_in (steps.FailsNote what) = FailsNote what

abbrev pub step_in : NoteNext → NoteStep
step_in (NotesOn at) = steps.NotesOn at
step_in HasNoted = steps.HasNoted
step_in HasSkipped = steps.HasSkipped
step_in (FailsNote what) = steps.FailsNote what

pub step_in_next : (step : NoteStep) → step_in (next_in step) ≡ step
step_in_next (steps.NotesOn at) = refl
step_in_next steps.HasNoted = refl
step_in_next steps.HasSkipped = refl
step_in_next (steps.FailsNote what) = refl

abbrev pub state_of : Bounds → (thread : ℕ) → NoteStep → NoteState
state_of lim thread step = record { lim = lim; thread = thread; next = next_in step }

-- what came of its steps is a position that it reaches, or its end
abbrev pub IsNext : Bounds → NoteNext → Type 0
IsNext lim (NotesOn at) = IsNoteAt lim at
IsNext lim HasNoted = Unit {0}
IsNext lim HasSkipped = Unit {0}
IsNext lim (FailsNote what) = Unit {0}

pub record IsKept (lim : Bounds) (thread : ℕ) (step : NoteStep) : Type 0 where
  pub range : IsInRange lim
  pub thread_is : thread < 16
  pub stands : IsNext lim (next_in step)

-- what a page word says of a value, as the code has it
abbrev pub held_in : PageWord → HeldSeen
held_in (pages.HeldIn place start) = seen.HeldIn place start
held_in pages.HeldByNone = seen.HeldByNone
held_in pages.NoPageWord = seen.NoPageWord

-- a place is one of the heap
abbrev pub IsWithin : Bounds → PageWord → Type 0
IsWithin lim (pages.HeldIn place start) = place < 256 * lim.pages
IsWithin lim pages.HeldByNone = Unit {0}
IsWithin lim pages.NoPageWord = Unit {0}

-- what a block word says, as the code has it
abbrev pub life_in : BlockWord → LifeSeen
life_in (words.LiveIn life) = lives.LiveIn life
life_in words.NotLive = lives.NotLive
life_in words.NoBlockWord = lives.NoBlockWord
