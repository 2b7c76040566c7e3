-- What is read from the tokens that are left: each run as long as it can go on, with no way back. What it means says
-- Form.
use Rattle.std.specs.Prelude.{ℕ, zero, suc, if◌then◌else◌, nat_lt, List, [], ◌∷◌, length, Option, Some, None, Result}
use Rattle.std.specs.Prelude.{Ok, Err, ◌≡◌, ◌⊎◌, option_and_then}
use Rattle.ds_grammar.specs.declared.fault.Breach.{Breach}
use Rattle.ds_grammar.specs.declared.fault.ParseFault.{ParseFault}
use Rattle.ds_grammar.specs.declared.fault.ParseFault.TheVariants as fault
use Rattle.ds_grammar.specs.Sort.{Lexeme, Sort, TypeOf}
use Rattle.ds_grammar.specs.Grammar.{Mark, Grammar, Done, One, Then, Marked, Loop}
use Rattle.ds_grammar.specs.Fault.{breach_fault, dead_fault}

-- a place in a text: the tokens that are left, where the text ends, and the least breach that was made so far
pub record Place : Type 0 where
  pub left : List Lexeme
  pub end : ℕ
  pub worst : Option Breach

-- the place at the front of these tokens
abbrev pub start : List Lexeme → ℕ → Place
start ts end = record { left = ts; end = end; worst = None }

-- a value and the place behind it, or a fault
abbrev pub Reading : Type 0 → Type 0
Reading A = Result (A × Place) ParseFault

-- the lesser breach; of two at one place the earlier
abbrev pub lesser : Option Breach → Breach → Option Breach
lesser None b = Some b
lesser (Some c) b = if nat_lt b.at c.at then Some b else Some c

-- the least breach with one more mark
abbrev pub worse : Option Breach → Mark → Option Breach
worse worst m = if m.within then worst else lesser worst m.breach

-- the place with one more mark
abbrev pub marked : Place → Mark → Place
marked p m = record p { worst = worse p.worst m }

-- the place with these marks more
abbrev pub marked_all : Place → List Mark → Place
marked_all p [] = p
marked_all p (m ∷ ms) = marked_all (marked p m) ms

-- the fault of the least breach, or else this one
abbrev pub refusal : Option Breach → ParseFault → ParseFault
refusal None at_dead_end = at_dead_end
refusal (Some b) at_dead_end = breach_fault b

-- refused at a dead end
abbrev pub stopped : {A : Type 0} → Place → Reading A
stopped p = Err (refusal p.worst (dead_fault p.end p.left))

-- goes on behind what was read
abbrev pub then_at : {A B : Type 0} → Reading A → (A → Place → Reading B) → Reading B
then_at (Ok (a, p)) next = next a p
then_at (Err f) next = Err f

-- the first token, if one is left
abbrev pub first : List Lexeme → Option Lexeme
first [] = None
first (t ∷ ts) = Some t

-- the value of the first token
abbrev pub first_value : {A : Type 0} → (Lexeme → Option A) → List Lexeme → Option A
first_value value ts = option_and_then value (first ts)

-- the tokens behind the first
abbrev pub tail : List Lexeme → List Lexeme
tail [] = []
tail (t ∷ ts) = ts

-- the place behind one token
abbrev pub past : Place → Place
past p = record p { left = tail p.left }

-- one token, which has this value
abbrev pub took_at : {A : Type 0} → Option A → Place → Reading A
took_at None p = stopped p
took_at (Some a) p = Ok (a, past p)

-- an item by the value of its first token, and then what follows
abbrev pub round_at : {S A : Type 0} → (A → Place → Reading S) → (S → Place → Reading S) → S → Option A → Place
    → Reading S
round_at item next s None p = Ok (s, p)
round_at item next s (Some a) p = then_at (item a (past p)) next

-- a run of at most so many items
abbrev pub rounds_at : {S A : Type 0} → (S → Lexeme → Option A) → (S → A → Place → Reading S) → ℕ → S → Place
    → Reading S
rounds_at test item zero s p = Ok (s, p)
rounds_at test item (suc n) s p = round_at (item s) (rounds_at test item n) s (first_value (test s) p.left) p

-- what a grammar reads at a place
abbrev pub value_at : {a : Sort} → Grammar a → Place → Reading (TypeOf a)
value_at (Done v) p = Ok (v, p)
value_at (One value) p = took_at (first_value value p.left) p
value_at (Then first next) p = then_at (value_at first p) (λ v q. value_at (next v) q)
value_at (Marked mark rest) p = value_at rest (marked p mark)
value_at (Loop a test item s) p = rounds_at test (λ r v q. value_at (item r v) q) (length p.left) s p

-- a part that may be missing, by the value of its first token
abbrev pub optional_at : {A B : Type 0} → (A → Place → Reading B) → Option A → Place → Reading (Option B)
optional_at rest None p = Ok (None, p)
optional_at rest (Some a) p = then_at (rest a (past p)) (λ b q. Ok (Some b, q))

-- what code gives is what is read, or there was not enough memory
abbrev pub Gives : {A : Type 0} → Result (A × Place) ParseFault → Reading A → Type 0
Gives (Ok x) reading = reading ≡ Ok x
Gives (Err f) reading = (f ≡ fault.Memory) ⊎ (reading ≡ Err f)

-- the same, where what is read has no value
abbrev pub Passes : Result Place ParseFault → Reading (Unit {0}) → Type 0
Passes (Ok p) reading = reading ≡ Ok (tt, p)
Passes (Err f) reading = (f ≡ fault.Memory) ⊎ (reading ≡ Err f)
