-- The header of a log: bits 32 to 63 are the life of the block that its entries are about, bits 24 to 31 how many of
-- its entries are used, and bits 0 to 23 its hash chunk, 0 where it has none.
use Rattle.std.specs.Prelude.{ℕ, ◌+◌, ◌*◌, ◌/◌, ◌%◌, ◌^◌}

-- how many entries a log has
abbrev pub log_entries : ℕ
log_entries = 14

abbrev pub header_of : (life used chunk : ℕ) → ℕ
header_of life used chunk = life * 2 ^ 32 + used * 2 ^ 24 + chunk

abbrev pub life_in : ℕ → ℕ
life_in header = header / 2 ^ 32

abbrev pub used_in : ℕ → ℕ
used_in header = header / 2 ^ 24 % 2 ^ 8

abbrev pub chunk_in : ℕ → ℕ
chunk_in header = header % 2 ^ 24
