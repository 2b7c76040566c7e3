-- How large a run may be.
use Rattle.std.specs.Prelude.{ℕ, ◌≤◌}

-- the pages of the heap, the units that each thread may spend, the logs, and the words of their hash area
pub record Bounds : Type 0 where
  pub pages : ℕ
  pub fuel : ℕ
  pub logs : ℕ
  pub hash : ℕ

-- the bounds with these numbers
abbrev pub bounds : ℕ → ℕ → ℕ → ℕ → Bounds
bounds pages fuel logs hash = record { pages = pages; fuel = fuel; logs = logs; hash = hash }

-- each number lies in the range that is allowed
pub record IsInRange (lim : Bounds) : Type 0 where
  pub some_page : 1 ≤ lim.pages
  pub pages : lim.pages ≤ 4096
  pub some_fuel : 1 ≤ lim.fuel
  pub fuel : lim.fuel ≤ 2000000
  pub logs : lim.logs ≤ 1048576
  pub hash : lim.hash ≤ 16777216

-- the bounds of a run that names none
abbrev pub default_limits : Bounds
default_limits = bounds 256 1000000 65536 1048576
