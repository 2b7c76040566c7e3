-- Helpers: how far a thread is from its end whose program asks only for what has a row. No clause of a public call
-- speaks of them.
use Rattle.std.specs.Prelude.{◌≡◌, ℕ, suc, ◌-◌, ◌<◌, ◌≤◌, Bool, true, false}
use Rattle.ds_map.specs.Bounds.{Bounds}
use Rattle.ds_plain.specs.declared.Position.{Position}
use Rattle.ds_plain.specs.declared.Position.TheVariants.{Start, Access, Malloc, Note, Free, Spawn, Join}
use Rattle.ds_plain.specs.declared.Position.TheVariants.{DrawPrint, StoreEnded, Over, NoRow}
use Rattle.ds_plain.specs.Asking.{AsksRows}
use Rattle.ds_plain.specs.Explained.{HasEnded}
use Rattle.ds_plain.specs.Thread.{Thread}

-- a thread may stand there with these units spent, by whether it has ended
abbrev pub FitsAt : Bounds → (ended : Bool) → Position → (units : ℕ) → Type 0
FitsAt lim ended (Start at) units = (ended ≡ false) × (units < lim.fuel)
FitsAt lim ended (Access at) units = (ended ≡ false) × (units < lim.fuel)
FitsAt lim ended (Malloc at) units = (ended ≡ false) × (units < lim.fuel)
FitsAt lim ended (Note at) units = (ended ≡ false) × (units < lim.fuel)
FitsAt lim ended (Free at) units = (ended ≡ false) × (units < lim.fuel)
FitsAt lim ended (Spawn at) units = (ended ≡ false) × (units < lim.fuel)
FitsAt lim ended (Join at) units = (ended ≡ false) × (units < lim.fuel)
FitsAt lim ended (DrawPrint value) units = (ended ≡ false) × (units < lim.fuel)
FitsAt lim ended (StoreEnded stop) units = (ended ≡ false) × (units ≤ lim.fuel) × HasEnded stop
FitsAt lim ended (Over stop) units = (ended ≡ true) × HasEnded stop
FitsAt lim ended NoRow units = ⊥

-- the thread may stand so, and asks only for what has a row
pub record Fits (lim : Bounds) (ended : Bool) (a : Thread) : Type 0 where
  pub at : FitsAt lim ended a.position a.units
  pub rows : AsksRows lim a.rest

-- how many steps a thread makes at most from there on
abbrev pub steps_left : (fuel : ℕ) → Position → (units : ℕ) → ℕ
steps_left fuel (Start at) units = suc (fuel - units)
steps_left fuel (Access at) units = suc (fuel - units)
steps_left fuel (Malloc at) units = suc (fuel - units)
steps_left fuel (Note at) units = suc (fuel - units)
steps_left fuel (Free at) units = suc (fuel - units)
steps_left fuel (Spawn at) units = suc (fuel - units)
steps_left fuel (Join at) units = suc (fuel - units)
steps_left fuel (DrawPrint value) units = suc (fuel - units)
steps_left fuel (StoreEnded stop) units = suc (fuel - units)
steps_left fuel (Over stop) units = 0
steps_left fuel NoRow units = 0
