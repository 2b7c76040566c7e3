-- Which inputs are accepted.
use Rattle.std.specs.Prelude.{◌≡◌, ℕ, ◌≤◌, List, length, map, Option, Some}
use Rattle.ds_ast.specs.declared.name.Name.{Name}
use Rattle.ds_ast.specs.declared.module.Module.{Module}
use Rattle.ds_ast.specs.declared.module.Function.{Function}
use Rattle.ds_grammar.specs.Functions.{Text}
use Rattle.ds_shape.specs.Accepted.{Accepted}

-- the most bytes that an input may have
abbrev pub longest_input : ℕ
longest_input = 8388608

-- the bytes spell this module
abbrev pub Spells : List ℕ → Module → Type 0
Spells bytes m = (length bytes ≤ longest_input) × Text bytes m

-- the bytes spell this module, and it is accepted: it keeps all rules
abbrev pub SpellsAccepted : List ℕ → Module → Type 0
SpellsAccepted bytes m = Spells bytes m × Accepted m

-- P holds of the bytes that a source held, where it tells them
abbrev pub Held : Option (List ℕ) → (List ℕ → Type 0) → Type 0
Held left P = (bytes : List ℕ) → left ≡ Some bytes → P bytes

-- this is the accepted module of the bytes that the source held, where it tells them
pub record IsModuleOfInput (left : Option (List ℕ)) (m : Module) : Type 0 where
  pub bytes : List ℕ
  pub held : Held left (λ held. held ≡ bytes)
  pub spelled : SpellsAccepted bytes m

-- the names of all functions of a module, in the order of the text
abbrev pub function_names : Module → List Name
function_names m = map (λ (f : Function). f.name) m.functions

-- the input is accepted
abbrev pub IsAccepted : List ℕ → Type 0
IsAccepted bytes = (m : Module) × SpellsAccepted bytes m
