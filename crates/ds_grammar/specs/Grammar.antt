-- Grammars, which are data: the form of each part of a text is one value of this type.
use Rattle.std.specs.Prelude.{List, [], ◌∷◌, Option, Some, None}
pub use Rattle.ds_grammar.specs.declared.fault.Mark.{Mark}
use Rattle.ds_grammar.specs.Sort.{Lexeme, Sort, TypeOf, maybe}

-- A grammar of token lists with values of one sort. Done v                  no token, and the value is v One value
-- one token that has a value Then first next         tokens of `first`, and behind them tokens of what follows by
-- their value Marked mark rest        tokens of `rest`, behind this mark of something that has a bound Loop a test
-- item state  a run: as long as the next token has a value in the present state, that token and then an item, which
-- gives the next state
pub data Grammar : Sort → Type 0 where
  Done : {a : Sort} → TypeOf a → Grammar a
  One : {a : Sort} → (Lexeme → Option (TypeOf a)) → Grammar a
  Then : {a b : Sort} → Grammar a → (TypeOf a → Grammar b) → Grammar b
  Marked : {a : Sort} → Mark → Grammar a → Grammar a
  Loop : {s : Sort} (a : Sort) → (TypeOf s → Lexeme → Option (TypeOf a)) → (TypeOf s → TypeOf a → Grammar s)
      → TypeOf s → Grammar s

-- in a `do` block: one part behind the other
infixl 10 ◌>>=◌
abbrev pub ◌>>=◌ : {a b : Sort} → Grammar a → (TypeOf a → Grammar b) → Grammar b
first >>= next = Then first next

-- these marks, and then this form
abbrev pub marked_by : {a : Sort} → List Mark → Grammar a → Grammar a
marked_by [] g = g
marked_by (m ∷ ms) g = Marked m (marked_by ms g)

-- a part that may be missing: it is there where the next token begins it
abbrev pub optional_test : {A B : Type 0} → (Lexeme → Option A) → Option B → Lexeme → Option A
optional_test test None t = test t
optional_test test (Some b) t = None

abbrev pub optional : {b : Sort} (a : Sort) → (Lexeme → Option (TypeOf a)) → (TypeOf a → Grammar b) → Grammar (maybe b)
optional a test rest = Loop a (optional_test test) (λ s v. Then (rest v) (λ w. Done (Some w))) None
