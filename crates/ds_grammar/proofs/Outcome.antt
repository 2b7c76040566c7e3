-- A third reading of a grammar, beside what it means and what the code computes: with all marks, and apart whether
-- the tokens ended or one was dead.
use Rattle.std.proofs.Common.{ℕ, zero, suc, List, [], ◌∷◌, ◌++◌, length}
use Rattle.std.specs.Prelude.{Option, Some, None}
use Rattle.ds_grammar.specs.Sort.{Lexeme, Sort, TypeOf}
use Rattle.ds_grammar.specs.Grammar.{Mark, Grammar, Done, One, Then, Marked, Loop}

-- a value with the tokens that are left, or the tokens ended inside, or this token was dead
pub data Outcome (A : Type 0) : Type 0 where
  got : A → List Mark → List Lexeme → Outcome A
  short : List Mark → Outcome A
  dead : List Mark → Lexeme → List Lexeme → Outcome A

-- what is read from tokens
abbrev pub Reader : Type 0 → Type 0
Reader A = List Lexeme → Outcome A

-- the outcome with these marks before its own
abbrev pub with_marks : {A : Type 0} → List Mark → Outcome A → Outcome A
with_marks ks (got a ms ts) = got a (ks ++ ms) ts
with_marks ks (short ms) = short (ks ++ ms)
with_marks ks (dead ms t ts) = dead (ks ++ ms) t ts

-- goes on with the tokens that are left
abbrev pub bind : {A B : Type 0} → Outcome A → (A → Reader B) → Outcome B
bind (got a ms ts) next = with_marks ms (next a ts)
bind (short ms) next = short ms
bind (dead ms t ts) next = dead ms t ts

-- the token by its value
abbrev pub took : {A : Type 0} → Option A → Lexeme → Reader A
took None t ts = dead [] t ts
took (Some a) t ts = got a [] ts

-- one token
abbrev pub one : {A : Type 0} → (Lexeme → Option A) → Reader A
one value [] = short []
one value (t ∷ ts) = took (value t) t ts

-- an item by the value of its first token, and then what follows
abbrev pub round : {S A : Type 0} → (A → Reader S) → (S → Reader S) → S → Option A → Lexeme → Reader S
round item next s None t ts = got s [] (t ∷ ts)
round item next s (Some a) t ts = bind (item a ts) next

-- a run of at most so many items
abbrev pub rounds : {S A : Type 0} → (S → Lexeme → Option A) → (S → A → Reader S) → ℕ → S → Reader S
rounds test item n s [] = got s [] []
rounds test item zero s (t ∷ ts) = got s [] (t ∷ ts)
rounds test item (suc n) s (t ∷ ts) = round (item s) (rounds test item n) s (test s t) t ts

-- what a grammar reads
abbrev pub read : {a : Sort} → Grammar a → Reader (TypeOf a)
read (Done v) ts = got v [] ts
read (One value) ts = one value ts
read (Then first next) ts = bind (read first ts) (λ v us. read (next v) us)
read (Marked mark rest) ts = with_marks (mark ∷ []) (read rest ts)
read (Loop a test item s) ts = rounds test (λ s v us. read (item s v) us) (length ts) s ts
