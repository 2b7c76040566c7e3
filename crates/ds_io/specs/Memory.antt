-- A source and a sink over memory, which fail at the calls that they are told.
use Rattle.std.specs.Prelude.{ℕ, ◌-◌, ◌≤◌, ◌⊎◌, min, List, ◌++◌, length, drop, Contains}
use Rattle.ds_io.specs.Counts.{one_more}

-- the bytes still to come, the most that one read gives, the numbers of the reads that fail (from 0), how many reads
-- there were, and how many failed
pub record SourceState : Type 0 where
  pub left : List ℕ
  pub most : ℕ
  pub fails : List ℕ
  pub calls : ℕ
  pub faults : ℕ

-- the next read is one of those that fail
abbrev pub FailsNextRead : SourceState → Type 0
FailsNextRead s = Contains s.fails s.calls

-- how many bytes the next read gives, into a buffer of this length
abbrev pub read_count : SourceState → ℕ → ℕ
read_count s buffer_len = min (min s.most buffer_len) (length s.left)

-- after a read of n bytes
abbrev pub after_read : SourceState → ℕ → SourceState
after_read s n = record s { left = drop n s.left; calls = one_more s.calls }

-- after a read that failed
abbrev pub after_failed_read : SourceState → SourceState
after_failed_read s = record s { calls = one_more s.calls; faults = one_more s.faults }

-- the bytes that were taken, for how many there is room, the most that one write takes, the numbers of the writes
-- that fail (from 0), how many writes there were, and how many failed
pub record SinkState : Type 0 where
  pub taken : List ℕ
  pub room : ℕ
  pub most : ℕ
  pub fails : List ℕ
  pub calls : ℕ
  pub faults : ℕ

-- the next write is one of those that fail, or there is no room left
abbrev pub FailsNextWrite : SinkState → Type 0
FailsNextWrite s = Contains s.fails s.calls ⊎ (s.room ≤ length s.taken)

-- how many bytes the next write takes, of a piece of this length
abbrev pub write_count : SinkState → ℕ → ℕ
write_count s piece_len = min (min s.most piece_len) (s.room - length s.taken)

-- after a write of these bytes
abbrev pub after_write : SinkState → List ℕ → SinkState
after_write s bytes = record s { taken = s.taken ++ bytes; calls = one_more s.calls }

-- after a write that failed
abbrev pub after_failed_write : SinkState → SinkState
after_failed_write s = record s { calls = one_more s.calls; faults = one_more s.faults }
