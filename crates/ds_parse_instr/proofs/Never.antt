-- A test that no token passes.
use Rattle.std.proofs.Common.{◌≡◌, List, [], ◌∷◌, refl}
use Rattle.std.specs.Prelude.{None}
use Rattle.ds_grammar.specs.Sort.{Lexeme}
use Rattle.ds_grammar.specs.Reading.{first_value}

pub never : {A : Type 0} (ts : List Lexeme) → first_value {A = A} (λ t. None) ts ≡ None
never [] = refl
never (t ∷ ts) = refl
