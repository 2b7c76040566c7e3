-- The rows of an access to program memory: a whole word is accessed in one step; a part of one is loaded with its word,
-- and changed by a compare-and-swap of the word.
use Rattle.std.specs.Prelude.{ℕ, ◌+◌, ◌≤◌, ◌<◌, Bool, false, not, ◌==◌, if◌then◌else◌}
use Rattle.ds_ast.specs.declared.words.RmwOp.{RmwOp}
use Rattle.ds_ast.specs.declared.words.RmwOp.TheVariants.{Xchg, Add, Sub, And, Or, Xor, Umax, Umin}
use Rattle.ds_map.specs.Bounds.{Bounds}
use Rattle.ds_map.specs.Regions.{program_words}
use Rattle.ds_map.specs.Words.{word_of}
use Rattle.ds_step.specs.declared.OpKind.{OpKind}
use Rattle.ds_step.specs.declared.OpKind.TheVariants as kinds
use Rattle.ds_step.specs.declared.WordOp.{WordOp}
use Rattle.ds_step.specs.declared.Event.{Event}
use Rattle.ds_step.specs.declared.Event.TheVariants as events
use Rattle.ds_plain.specs.declared.Access.{Access}
use Rattle.ds_plain.specs.declared.Change.{Change}
use Rattle.ds_plain.specs.declared.Change.TheVariants.{Put, Combine, Replace}
use Rattle.ds_plain.specs.declared.AccessAt.{AccessAt}
use Rattle.ds_plain.specs.declared.AccessAt.TheVariants.{LoadWord, StoreWord, CombineWord, ReplaceWord}
use Rattle.ds_plain.specs.declared.AccessAt.TheVariants.{LoadPart, SwapPart}
use Rattle.ds_plain.specs.Parts.{is_whole, part, with_part, combined}
use Rattle.ds_plain.specs.Operations.{load_of, store_of, swap_of}

-- CHANGES OF A PART OF A WORD

-- the word with a part of it changed
abbrev pub changed_word : Access → Change → ℕ → ℕ
changed_word access (Put value) word = with_part access value word
changed_word access (Combine op value) word =
    with_part access (combined op access.bits (part access word) value) word
changed_word access (Replace expected new) word = with_part access new word

-- the change is not made of this word: another value than the expected one stands there
abbrev pub is_refused : Access → Change → ℕ → Bool
is_refused access (Put value) word = false
is_refused access (Combine op value) word = false
is_refused access (Replace expected new) word = not (part access word == expected)

-- what the thread is told that changed this word: nothing, where it stores, and else the word before
abbrev pub change_answer : Change → ℕ → ℕ
change_answer (Put value) word = 0
change_answer (Combine op value) word = word
change_answer (Replace expected new) word = word

-- WHERE AN ACCESS BEGINS

-- a change of a word begins at this position where it is one of the whole word, and else with a load
abbrev pub changing_at : Access → (whole : AccessAt) → Change → AccessAt
changing_at access whole change = if is_whole access then whole else LoadPart access change

-- ROWS

-- the kind of operation that combines a whole word with a value
abbrev pub combining_kind : RmwOp → OpKind
combining_kind Xchg = kinds.Swap
combining_kind Add = kinds.Add
combining_kind Sub = kinds.Sub
combining_kind And = kinds.And
combining_kind Or = kinds.Or
combining_kind Xor = kinds.Xor
combining_kind Umax = kinds.Max
combining_kind Umin = kinds.Min

abbrev pub access_op : Bounds → AccessAt → WordOp
access_op lim (LoadWord loc) = load_of (word_of lim loc)
access_op lim (StoreWord loc value) = store_of (word_of lim loc) value
access_op lim (CombineWord loc op value) =
    record { kind = combining_kind op; word = word_of lim loc; a = value; b = 0 }
access_op lim (ReplaceWord loc expected new) = swap_of (word_of lim loc) expected new
access_op lim (LoadPart access change) = load_of (word_of lim access.loc)
access_op lim (SwapPart access change seen) =
    swap_of (word_of lim access.loc) seen (changed_word access change seen)

abbrev pub access_row : AccessAt → ℕ
access_row (LoadWord loc) = 14
access_row (StoreWord loc value) = 15
access_row (CombineWord loc op value) = 16
access_row (ReplaceWord loc expected new) = 17
access_row (LoadPart access change) = 18
access_row (SwapPart access change seen) = 19

-- EVENTS

-- a word of which a part is to be changed was seen so
abbrev pub part_seen : Access → Change → (word : ℕ) → Event
part_seen access change word = if is_refused access change word then events.Load access.loc word else events.Log

abbrev pub access_event : AccessAt → (old : ℕ) → Event
access_event (LoadWord loc) old = events.Load loc old
access_event (StoreWord loc value) old = events.Store loc value
access_event (CombineWord loc op value) old = events.Exchange loc (combined op 64 old value)
access_event (ReplaceWord loc expected new) old =
    if old == expected then events.Exchange loc new else events.Load loc old
access_event (LoadPart access change) old = part_seen access change old
access_event (SwapPart access change seen) old =
    if old == seen then events.Exchange access.loc (changed_word access change seen) else part_seen access change old

-- WHAT COMES NEXT

-- what comes of a step of an access
pub data AccessNext : Type 0 where
  -- it goes on with this row
  AccessesOn : AccessAt → AccessNext
  -- it is done, and the thread is told this
  Tells : (answer : ℕ) → AccessNext

abbrev pub behind_part : Access → Change → (word : ℕ) → AccessNext
behind_part access change word =
    if is_refused access change word then Tells word else AccessesOn (SwapPart access change word)

abbrev pub access_next : AccessAt → (old : ℕ) → AccessNext
access_next (LoadWord loc) old = Tells old
access_next (StoreWord loc value) old = Tells 0
access_next (CombineWord loc op value) old = Tells old
access_next (ReplaceWord loc expected new) old = Tells old
access_next (LoadPart access change) old = behind_part access change old
access_next (SwapPart access change seen) old =
    if old == seen then Tells (change_answer change seen) else behind_part access change old

-- WHICH POSITIONS ARE REACHED: no clause of the top call speaks of it

-- the access is of a part of a word that is there
pub record IsPart (lim : Bounds) (access : Access) : Type 0 where
  pub loc : access.loc < program_words lim
  pub narrow : access.bits < 64
  pub inside : access.shift + access.bits ≤ 64

-- an access reaches this position
abbrev pub IsAccessAt : Bounds → AccessAt → Type 0
IsAccessAt lim (LoadWord loc) = loc < program_words lim
IsAccessAt lim (StoreWord loc value) = loc < program_words lim
IsAccessAt lim (CombineWord loc op value) = loc < program_words lim
IsAccessAt lim (ReplaceWord loc expected new) = loc < program_words lim
IsAccessAt lim (LoadPart access change) = IsPart lim access
IsAccessAt lim (SwapPart access change seen) = IsPart lim access
