-- Helpers of the code, which no public clause cites: how much is left of a number when some is taken away, if so much
-- was there.
use Rattle.std.specs.Prelude.{◌≡◌, ◌+◌, ◌<◌, ℕ, Option, Some, None}

-- what is left of the first number behind the second
abbrev pub LeftBehind : ℕ → ℕ → Option ℕ → Type 0
LeftBehind all taken (Some rest) = rest + taken ≡ all
LeftBehind all taken None = all < taken
