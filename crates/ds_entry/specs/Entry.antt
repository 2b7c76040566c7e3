-- The word of a log entry: up to three locations of one group, which are those that give the same number when divided
-- by 256. Bits 50 to 63 tell nothing.
use Rattle.std.specs.Prelude.{ℕ, ◌+◌, ◌*◌, ◌/◌, ◌%◌, ◌^◌, ◌==◌, Bool, List, [], ◌∷◌, take}
use Rattle.std.specs.List.{list_any}

-- how many locations an entry holds, 0 to 3: bits 48 and 49
abbrev pub count_of : ℕ → ℕ
count_of entry = entry / 2 ^ 48 % 4

-- the group of its locations: bits 24 to 47
abbrev pub group_of : ℕ → ℕ
group_of entry = entry / 2 ^ 24 % 2 ^ 24

-- the offset in the group of the location with this number in the entry, 0 to 2: a byte each, the lowest first
abbrev pub offset_of : (entry number : ℕ) → ℕ
offset_of entry number = entry / 2 ^ (8 * number) % 256

-- the location with this number in the entry
abbrev pub location_at : (entry number : ℕ) → ℕ
location_at entry number = 256 * group_of entry + offset_of entry number

-- the locations that an entry holds, in the order in which they were added: none where the word is 0
abbrev pub locations_of : ℕ → List ℕ
locations_of entry = take (count_of entry) (location_at entry 0 ∷ location_at entry 1 ∷ location_at entry 2 ∷ [])

-- the entry holds this location
abbrev pub is_held : (entry loc : ℕ) → Bool
is_held entry loc = list_any (λ held. held == loc) (locations_of entry)

-- the entry that holds this one location
abbrev pub entry_of : ℕ → ℕ
entry_of loc = 2 ^ 48 + loc / 256 * 2 ^ 24 + loc % 256
