-- Helpers: which behaviours the step table can serve. No clause of the top call speaks of them.
use Rattle.std.specs.Prelude.{◌≡◌, ℕ, Bool, true, not, List}
use Rattle.ds_map.specs.Bounds.{Bounds}
use Rattle.ds_plain.specs.declared.Position.{Position}
use Rattle.ds_plain.specs.declared.Position.TheVariants.{Start, Access, Malloc, Note, Free, Spawn, Join}
use Rattle.ds_plain.specs.declared.Position.TheVariants.{DrawPrint, StoreEnded, Over, NoRow}
use Rattle.ds_plain.specs.Behaviour.{Asked, Asks, Silent, Behaviour, Program}
use Rattle.ds_plain.specs.Table.{position_of, is_over}
use Rattle.ds_plain.specs.Spawning.{IsSpawnAt}
use Rattle.ds_plain.specs.Joining.{IsJoinAt}
use Rattle.ds_plain.specs.Accessing.{IsAccessAt}
use Rattle.ds_plain.specs.Noting.{IsNoteAt}
use Rattle.ds_plain.specs.Reached.{IsAllocAt, AreCursors, IsFreeAt}

-- what is asked has a row, wherever the thread looks for blocks; a thread that asks nothing ends for want of fuel
abbrev pub has_row : Bounds → (cursors : List ℕ) → Asked → Bool
has_row lim cursors (Asks begun place request) = not (is_over (position_of lim cursors request))
has_row lim cursors Silent = true

-- whatever the thread is told, what it asks has a row
abbrev pub AsksRows : Bounds → Behaviour → Type 0
AsksRows lim rest = (cursors answers : List ℕ) → has_row lim cursors (rest answers) ≡ true

-- so does each thread of the program, on whatever function it begins
abbrev pub HasRows : Bounds → Program → Type 0
HasRows lim program = (thread function argument : ℕ) → AsksRows lim (program.behaves thread function argument)

-- the position is one that a thread reaches: it works on words that are there
abbrev pub IsWithin : Bounds → Position → Type 0
IsWithin lim (Start at) = Unit {0}
IsWithin lim (Access at) = IsAccessAt lim at
IsWithin lim (Malloc at) = IsAllocAt lim at
IsWithin lim (Note at) = IsNoteAt lim at
IsWithin lim (Free at) = IsFreeAt lim at
IsWithin lim (Spawn at) = IsSpawnAt lim at
IsWithin lim (Join at) = IsJoinAt at
IsWithin lim (DrawPrint value) = Unit {0}
IsWithin lim (StoreEnded stop) = Unit {0}
IsWithin lim (Over stop) = Unit {0}
IsWithin lim NoRow = Unit {0}

-- what is asked works on words that are there, wherever the thread looks for blocks
abbrev pub IsAskedWithin : Bounds → Asked → Type 0
IsAskedWithin lim (Asks begun place request) =
    (cursors : List ℕ) → AreCursors lim cursors → IsWithin lim (position_of lim cursors request)
IsAskedWithin lim Silent = Unit {0}
