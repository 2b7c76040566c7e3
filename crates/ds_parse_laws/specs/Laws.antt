-- The statements that what a text spells is within its bounds.
use Rattle.std.specs.Prelude.{ℕ, ◌<◌, ◌^◌, List, [], length, All}
use Rattle.ds_ast.specs.declared.module.Module.{Module}
use Rattle.ds_ast.specs.Bounds.{Bounds}
use Rattle.ds_grammar.specs.declared.fault.Mark.{Mark}
use Rattle.ds_grammar.specs.Sort.{Lexeme}
use Rattle.ds_grammar.specs.Form.{Form}
use Rattle.ds_grammar.specs.Fault.{AreWithin}
use Rattle.ds_grammar.specs.Functions.{module_text, Text}

-- Each module whose form tokens of bytes have is within its bounds, where none of their marks is out of its bound.
-- The tokens are fewer than names have numbers, since the parameters of a declaration are numbered with no mark.
abbrev pub TokensAreWithinBounds : Type 0
TokensAreWithinBounds =
    (ts : List Lexeme) (m : Module) (marks : List Mark) → All (λ t. All (λ b. b < 2 ^ 8) t.bytes) ts
    → length ts < 2 ^ 32
    → Form module_text ts [] m marks → AreWithin marks → Bounds m

-- each module that a text spells is within its bounds, where the text is of bytes, fewer than names have numbers
abbrev pub TextsAreWithinBounds : Type 0
TextsAreWithinBounds =
    (text : List ℕ) (m : Module) → All (λ b. b < 2 ^ 8) text → length text < 2 ^ 32 → Text text m → Bounds m
