-- The statements of the laws about texts of modules.
use Rattle.std.specs.Prelude.{◌≡◌, ℕ, List}
use Rattle.ds_ast.specs.declared.module.Module.{Module}
use Rattle.ds_grammar.specs.declared.fault.ParseFault.{ParseFault}
use Rattle.ds_grammar.specs.Functions.{Text}
use Rattle.ds_parse.specs.Faults.{HasParseFault}

-- a text spells one module at most
abbrev pub TextsSpellOneModule : Type 0
TextsSpellOneModule = (text : List ℕ) (m n : Module) → Text text m → Text text n → m ≡ n

-- a text that spells a module has no fault
abbrev pub TextsAreNotRefused : Type 0
TextsAreNotRefused = (text : List ℕ) (m : Module) (f : ParseFault) → Text text m → HasParseFault text f → ⊥
