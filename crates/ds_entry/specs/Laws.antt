-- The statements of the laws.
use Rattle.std.specs.Prelude.{◌≡◌, ℕ, ◌^◌, ◌<◌, [], ◌∷◌}
use Rattle.ds_entry.specs.Entry.{locations_of, entry_of}

-- the empty entry is the word 0
abbrev pub EmptyHoldsNone : Type 0
EmptyHoldsNone = locations_of 0 ≡ []

-- the entry of one location holds that one and no other
abbrev pub EntriesHoldTheirs : Type 0
EntriesHoldTheirs = (loc : ℕ) → loc < 2 ^ 32 → locations_of (entry_of loc) ≡ loc ∷ []

-- two locations with the same entry are the same
abbrev pub EntriesAreApart : Type 0
EntriesAreApart = (a b : ℕ) → entry_of a ≡ entry_of b → a ≡ b
