-- What it takes that a table of a run is full, as the traces tell it.
use Rattle.std.specs.Prelude.{◌≡◌, ◌⊎◌, ℕ, ◌<◌, List, [], ◌∷◌, length, Some, None}
use Rattle.ds_map.specs.Bounds.{Bounds}
use Rattle.ds_entry.specs.Header.{log_entries}
use Rattle.ds_step.specs.declared.Step.{Step}
use Rattle.ds_plain.specs.Explained.{trace_of}
use Rattle.ds_log_laws.specs.Told.{HasFound, noted_count, last_found}

-- the place and the thread are one of the pairs
abbrev pub IsAmong : (place thread : ℕ) → List (ℕ × ℕ) → Type 0
IsAmong place thread [] = ⊥
IsAmong place thread (pair ∷ pairs) = ((pair.0 ≡ place) × (pair.1 ≡ thread)) ⊎ IsAmong place thread pairs

-- no pair stands twice
abbrev pub AreDistinct : List (ℕ × ℕ) → Type 0
AreDistinct [] = Unit {0}
AreDistinct (pair ∷ pairs) = (IsAmong pair.0 pair.1 pairs → ⊥) × AreDistinct pairs

-- All logs are drawn: there are more pairs of a place of a block and a thread than logs, such that the thread found a
-- value that points into the block there.
pub record FullLogs (lim : Bounds) (traces : List (List Step)) : Type 0 where
  pub pairs : List (ℕ × ℕ)
  pub distinct : AreDistinct pairs
  pub more : lim.logs < length pairs
  pub found : (place thread : ℕ) → IsAmong place thread pairs → HasFound place (trace_of traces thread)

-- The entries of the log of a thread with this trace are used: for the life of the block that it found last it noted
-- as many locations as a log has entries.
pub record FullHash (trace : List Step) : Type 0 where
  pub place : ℕ
  pub life : ℕ
  pub found : last_found None trace ≡ Some (place, life)
  pub noted : noted_count place life trace ≡ log_entries
