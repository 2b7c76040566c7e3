-- What it means that tokens have the form of a grammar, that they are a front of it, and where the first dead end is.
-- All are relations on whole lists of tokens. The tokens that stand behind matter in one way only: a run goes on as
-- long as it can.
use Rattle.std.specs.Prelude.{◌≡◌, ℕ, zero, suc, ◌⊎◌, List, [], ◌∷◌, ◌++◌, Option, Some, None}
use Rattle.ds_grammar.specs.Sort.{Lexeme, Sort, TypeOf}
use Rattle.ds_grammar.specs.Grammar.{Mark, Grammar, Done, One, Then, Marked, Loop}

-- how tokens with other tokens behind them have a value and marks, by place
abbrev pub Reads : Type 0 → Type 1
Reads A = (tokens behind : List Lexeme) → A → List Mark → Type 0

-- how tokens may stop, with these marks
abbrev pub Breaks : Type 1
Breaks = List Lexeme → List Mark → Type 0

-- first the one, and behind it the other, by the value of the first
abbrev pub Both : {A B : Type 0} → Reads A → (A → Reads B) → Reads B
Both {A} first next ts behind b ms =
    (a : A) × (us : List Lexeme) × (vs : List Lexeme) × (ks : List Mark) × (ls : List Mark)
    × (ts ≡ us ++ vs) × (ms ≡ ks ++ ls) × first us (vs ++ behind) a ks × next a vs behind b ls

-- the whole first, and behind it the other, which stops
abbrev pub Behind : {A : Type 0} → Reads A → (A → Breaks) → Breaks
Behind {A} first next ts ms =
    (a : A) × (us : List Lexeme) × (vs : List Lexeme) × (ks : List Mark) × (ls : List Mark)
    × (ts ≡ us ++ vs) × (ms ≡ ks ++ ls) × first us vs a ks × next a vs ls

-- a token that has a value, and behind it these tokens
abbrev pub Begins : {A : Type 0} → (Lexeme → Option A) → (A → List Lexeme → Type 0) → List Lexeme → Type 0
Begins {A} test rest ts = (t : Lexeme) × (us : List Lexeme) × (a : A) × (ts ≡ t ∷ us) × (test t ≡ Some a) × rest a us

-- a run ends: the tokens end, or the first has no value
abbrev pub Ends : {A : Type 0} → (Lexeme → Option A) → List Lexeme → Type 0
Ends test [] = Unit {0}
Ends test (t ∷ ts) = test t ≡ None

-- a run of n items, which ends where it can't go on
abbrev pub Run : {S A : Type 0} → (S → Lexeme → Option A) → (S → A → Reads S) → ℕ → S → Reads S
Run test item zero s ts behind r ms = (ts ≡ []) × (r ≡ s) × (ms ≡ []) × Ends (test s) behind
Run test item (suc n) s ts behind r ms = Begins (test s) (λ a us. Both (item s a) (Run test item n) us behind r ms) ts

-- a run that stops in the item behind n items
abbrev pub RunBreaks : {S A : Type 0} → (S → Lexeme → Option A) → (S → A → Reads S) → (S → A → Breaks) → ℕ → S → Breaks
RunBreaks test item breaks zero s ts ms = Begins (test s) (λ a us. breaks s a us ms) ts
RunBreaks test item breaks (suc n) s ts ms =
    Begins (test s) (λ a us. Behind (item s a) (RunBreaks test item breaks n) us ms) ts

-- tokens, with others behind them, have this form, this value and these marks
abbrev pub Form : {a : Sort} → Grammar a → Reads (TypeOf a)
Form (Done v) ts behind r ms = (ts ≡ []) × (r ≡ v) × (ms ≡ [])
Form (One value) ts behind r ms = (t : Lexeme) × (ts ≡ t ∷ []) × (value t ≡ Some r) × (ms ≡ [])
Form (Then first next) ts behind r ms = Both (Form first) (λ v. Form (next v)) ts behind r ms
Form (Marked mark rest) ts behind r ms = (ls : List Mark) × (ms ≡ mark ∷ ls) × Form rest ts behind r ls
Form (Loop a test item s) ts behind r ms = (n : ℕ) × Run test (λ s v. Form (item s v)) n s ts behind r ms

-- tokens stop inside the form
abbrev pub Stops : {a : Sort} → Grammar a → Breaks
Stops (Done v) ts ms = ⊥
Stops (One value) ts ms = (ts ≡ []) × (ms ≡ [])
Stops (Then first next) ts ms = Stops first ts ms ⊎ Behind (Form first) (λ v. Stops (next v)) ts ms
Stops (Marked mark rest) ts ms = (ls : List Mark) × (ms ≡ mark ∷ ls) × Stops rest ts ls
Stops (Loop a test item s) ts ms =
    (n : ℕ) × RunBreaks test (λ s v. Form (item s v)) (λ s v. Stops (item s v)) n s ts ms

-- a front: tokens that stop inside the form or have it whole
abbrev pub Front : {a : Sort} → Grammar a → Breaks
Front {a} g ts ms = Stops g ts ms ⊎ ((r : TypeOf a) × Form g ts [] r ms)

-- a token list is a front where it has some marks
abbrev pub IsFront : {a : Sort} → Grammar a → List Lexeme → Type 0
IsFront g ts = (ms : List Mark) × Front g ts ms

-- these tokens, with the first of the others, are no front; nothing is asked where no others are left, since the end
-- of the text is in no form
abbrev pub IsDead : {a : Sort} → Grammar a → List Lexeme → List Lexeme → Type 0
IsDead g front [] = Unit {0}
IsDead g front (t ∷ rest) = IsFront g (front ++ t ∷ []) → ⊥

-- The first dead end stands behind these tokens, and these others are left from it on: each shorter list is a front.
-- Where none is left the end of the text is the dead end.
pub record DeadEnd {a : Sort} (g : Grammar a) (ts front rest : List Lexeme) : Type 0 where
  pub whole : ts ≡ front ++ rest
  pub fronts : (us vs : List Lexeme) → front ≡ us ++ vs → IsFront g us
  pub dead : IsDead g front rest
