-- What a sink of bytes holds. `Some bytes` are the bytes that it took, and `None` stands for a sink that doesn't tell
-- them.
use Rattle.std.specs.Prelude.{◌≡◌, ℕ, ◌≤◌, Option, List, ◌++◌, length, take}
use Rattle.std.specs.Option.{option_map}

-- a sink that held `before` took these bytes after it; one that doesn't tell its bytes still doesn't
abbrev pub Takes : (before : Option (List ℕ)) (bytes : List ℕ) (after : Option (List ℕ)) → Type 0
Takes before bytes after = after ≡ option_map (λ held. held ++ bytes) before

-- the sink took a front of these bytes
abbrev pub TakesFront : (before : Option (List ℕ)) (bytes : List ℕ) (after : Option (List ℕ)) → Type 0
TakesFront before bytes after = (n : ℕ) × (n ≤ length bytes) × Takes before (take n bytes) after
