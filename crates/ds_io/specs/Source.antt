-- What a source of bytes gives. `Some bytes` are the bytes still to come, and `None` stands for a source that doesn't
-- tell them.
use Rattle.std.specs.Prelude.{◌≡◌, ℕ, ◌+◌, ◌<◌, ◌≤◌, Option, Some, None, List, [], ◌++◌, length, drop}
use Rattle.std.specs.Option.{option_map}

-- a source that had `before` gave these bytes first, and has `after`; one that doesn't tell its bytes still doesn't
abbrev pub Gives : (before : Option (List ℕ)) (given : List ℕ) (after : Option (List ℕ)) → Type 0
Gives before given after = before ≡ option_map (λ rest. given ++ rest) after

-- nothing is left, where the source tells it
abbrev pub IsAtEnd : Option (List ℕ) → Type 0
IsAtEnd None = Unit {0}
IsAtEnd (Some left) = left ≡ []

-- a source that had `before` gave all of it, these bytes, and has nothing left
abbrev pub GivesAll : (before : Option (List ℕ)) (given : List ℕ) (after : Option (List ℕ)) → Type 0
GivesAll None given after = after ≡ None
GivesAll (Some bytes) given after = (given ≡ bytes) × (after ≡ Some [])

-- at most this many bytes were taken from the front, and what is left is the rest
abbrev pub TookAtMost : (most : ℕ) (before after : Option (List ℕ)) → Type 0
TookAtMost most None after = after ≡ None
TookAtMost most (Some bytes) after = (n : ℕ) × (n ≤ most) × (n ≤ length bytes) × (after ≡ Some (drop n bytes))

-- a source had more than `limit` bytes, and gave `limit + 1` of them
abbrev pub HadMore : (limit : ℕ) (before after : Option (List ℕ)) → Type 0
HadMore limit None after = after ≡ None
HadMore limit (Some bytes) after = (limit < length bytes) × (after ≡ Some (drop (limit + 1) bytes))
