-- What a parser of one grammar answers, which is the contract of the parsers.
use Rattle.std.specs.Prelude.{◌≡◌, ℕ, ◌+◌, ◌⊎◌, List, [], ◌∷◌, length, Option, Some, None, Result, Ok, Err}
use Rattle.ds_grammar.specs.declared.fault.Breach.{Breach}
use Rattle.ds_grammar.specs.declared.fault.ParseFault.{ParseFault}
use Rattle.ds_grammar.specs.declared.fault.ParseFault.TheVariants as fault
use Rattle.ds_grammar.specs.Sort.{Lexeme, Sort, TypeOf}
use Rattle.ds_grammar.specs.Grammar.{Mark, Grammar}
use Rattle.ds_grammar.specs.Form.{Form, Front, DeadEnd}
use Rattle.ds_grammar.specs.Fault.{AreWithin, IsLeastBreach, breach_fault, dead_fault}
use Rattle.ds_grammar.specs.Reading.{Reading}

-- the tokens before the first dead end are n, have the form and this value, and nothing in them is out of its bound
unfoldable pub Spells : {a : Sort} → Grammar a → List Lexeme → TypeOf a → ℕ → Type 0
Spells g ts v n =
    (front : List Lexeme) × (rest : List Lexeme) × (ms : List Mark)
    × DeadEnd g ts front rest × Form g front [] v ms × AreWithin ms × (n ≡ length front)

-- Tokens of a text that ends at `end` are refused with this fault: by the marks of the tokens before the first dead
-- end it is that of the least breach; where none is made these tokens have not the form, and it is that of the dead
-- end.
unfoldable pub Refuses : {a : Sort} → Grammar a → List Lexeme → ℕ → ParseFault → Type 0
Refuses {a} g ts end f =
    (front : List Lexeme) × (rest : List Lexeme) × (ms : List Mark) × DeadEnd g ts front rest × Front g front ms
    × (((b : Breach) × IsLeastBreach ms b × (f ≡ breach_fault b))
    ⊎ (AreWithin ms × ((v : TypeOf a) (ks : List Mark) → Form g front [] v ks → ⊥) × (f ≡ dead_fault end rest)))

-- a value and how many tokens are left, or a fault
abbrev pub settled_by : {A : Type 0} → Option Breach → A → ℕ → Result (A × ℕ) ParseFault
settled_by None v left = Ok (v, left)
settled_by (Some b) v left = Err (breach_fault b)

-- the answer to what was read: a breach is a fault
abbrev pub answer : {A : Type 0} → Reading A → Result (A × ℕ) ParseFault
answer (Ok (v, p)) = settled_by p.worst v (length p.left)
answer (Err f) = Err f

-- the answer is what the tokens say
abbrev pub IsAnswer : {a : Sort} → Grammar a → List Lexeme → ℕ → Result (TypeOf a × ℕ) ParseFault → Type 0
IsAnswer {a} g ts end (Ok (v, left)) = (n : ℕ) × Spells g ts v n × (n + left ≡ length ts)
IsAnswer g ts end (Err f) = Refuses g ts end f

-- code settles what was read, or there was not enough memory
abbrev pub Settles : {A : Type 0} → Result A ParseFault → Result A ParseFault → Type 0
Settles (Ok x) a = a ≡ Ok x
Settles (Err f) a = (f ≡ fault.Memory) ⊎ (a ≡ Err f)

-- A WHOLE TEXT: nothing stands behind its tokens, and its end is a dead end too.

-- all tokens have the form and this value, and nothing in them is out of its bound
unfoldable pub SpellWhole : {a : Sort} → Grammar a → List Lexeme → TypeOf a → Type 0
SpellWhole g ts v = (ms : List Mark) × Form g ts [] v ms × AreWithin ms

-- All tokens of a text that ends at `end` are refused with this fault: by the marks of the tokens before the first
-- dead end it is that of the least breach; where none is made all tokens have not the form, and it is that of the
-- dead end.
unfoldable pub RefuseWhole : {a : Sort} → Grammar a → List Lexeme → ℕ → ParseFault → Type 0
RefuseWhole {a} g ts end f =
    (front : List Lexeme) × (rest : List Lexeme) × (ms : List Mark) × DeadEnd g ts front rest × Front g front ms
    × (((b : Breach) × IsLeastBreach ms b × (f ≡ breach_fault b))
    ⊎ (AreWithin ms × ((v : TypeOf a) (ks : List Mark) → Form g ts [] v ks → ⊥) × (f ≡ dead_fault end rest)))

-- a value where no token is left, or the fault of the first that is
abbrev pub ended_by : {A : Type 0} → ℕ → A → List Lexeme → Result A ParseFault
ended_by end v [] = Ok v
ended_by end v (t ∷ ts) = Err (dead_fault end (t ∷ ts))

-- the same behind the least breach, which comes first
abbrev pub whole_by : {A : Type 0} → Option Breach → ℕ → A → List Lexeme → Result A ParseFault
whole_by None end v left = ended_by end v left
whole_by (Some b) end v left = Err (breach_fault b)

-- the answer to what was read of a whole text
abbrev pub whole_answer : {A : Type 0} → Reading A → Result A ParseFault
whole_answer (Ok (v, p)) = whole_by p.worst p.end v p.left
whole_answer (Err f) = Err f

-- the answer is what all tokens say
abbrev pub IsWholeAnswer : {a : Sort} → Grammar a → List Lexeme → ℕ → Result (TypeOf a) ParseFault → Type 0
IsWholeAnswer g ts end (Ok v) = SpellWhole g ts v
IsWholeAnswer g ts end (Err f) = RefuseWhole g ts end f
