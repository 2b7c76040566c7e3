-- The statements of the laws about grammars.
use Rattle.std.specs.Prelude.{◌≡◌, ℕ, List, [], ◌++◌, Option, Ok, Err, ◌<◌, ◌≤◌, length, take, drop, Some, None, ◌+◌}
use Rattle.ds_grammar.specs.declared.fault.ParseFault.{ParseFault}
use Rattle.ds_grammar.specs.Sort.{Lexeme, Sort, TypeOf}
use Rattle.ds_grammar.specs.Grammar.{Mark, Grammar, Loop, marked_by, optional}
use Rattle.ds_grammar.specs.Form.{Form, Front, IsFront, DeadEnd}
use Rattle.ds_grammar.specs.Fault.{dead_fault, IsFault, IsWorst}
use Rattle.ds_grammar.specs.Parsed.{Spells, Refuses, answer, IsAnswer, SpellWhole, RefuseWhole, whole_answer}
use Rattle.ds_grammar.specs.Parsed.{IsWholeAnswer}
use Rattle.ds_grammar.specs.Lexemes.{AreInside}
use Rattle.ds_lex.specs.declared.token.Token.{Token}
use Rattle.ds_lex.specs.Lexed.{Lexed}
use Rattle.ds_grammar.specs.Reading.{Place, start, Reading, first_value, optional_at, value_at, past, marked_all}

-- tokens have at most one value and one list of marks
abbrev pub FormsAreUnique : Type 0
FormsAreUnique = (a : Sort) (g : Grammar a) (ts behind : List Lexeme) (v w : TypeOf a) (ks ls : List Mark)
    → Form g ts behind v ks → Form g ts behind w ls → (v ≡ w) × (ks ≡ ls)

-- a front has one list of marks
abbrev pub MarksAreUnique : Type 0
MarksAreUnique =
    (a : Sort) (g : Grammar a) (ts : List Lexeme) (ks ls : List Mark) → Front g ts ks → Front g ts ls → ks ≡ ls

-- what stands in front of a front, and so in front of tokens that have the form, is a front
abbrev pub PrefixesAreFronts : Type 0
PrefixesAreFronts = (a : Sort) (g : Grammar a) (us vs : List Lexeme) → IsFront g (us ++ vs) → IsFront g us

-- a list of tokens has one first dead end
abbrev pub DeadEndsAreUnique : Type 0
DeadEndsAreUnique = (a : Sort) (g : Grammar a) (ts front rest front' rest' : List Lexeme) → DeadEnd g ts front rest
    → DeadEnd g ts front' rest' → (front ≡ front') × (rest ≡ rest')

-- What an answer says. With a value: what stands before the first dead end has the form and this value, the dead end
-- is behind it, and the least breach is kept. With a fault: what stands before the first dead end has not the form,
-- and the fault is that of the least breach or the dead end.
abbrev pub Answers : {a : Sort} → Grammar a → List Lexeme → ℕ → Reading (TypeOf a) → Type 0
Answers g ts end (Ok (v, p)) =
    (front : List Lexeme) × (ms : List Mark) × DeadEnd g ts front p.left × Form g front [] v ms × IsWorst ms p.worst
    × (p.end ≡ end)
Answers {a} g ts end (Err f) =
    (front : List Lexeme) × (rest : List Lexeme) × (ms : List Mark) × DeadEnd g ts front rest × Front g front ms
    × ((v : TypeOf a) (ks : List Mark) → Form g front [] v ks → ⊥) × IsFault ms (dead_fault end rest) f

-- what is read is what the form says, for every grammar and all tokens
abbrev pub ReadingIsExact : Type 0
ReadingIsExact = (a : Sort) (g : Grammar a) (ts : List Lexeme) (end : ℕ) → Answers g ts end (value_at g (start ts end))

-- where the tokens before a first dead end have the form, their value is read, up to the dead end
abbrev pub FormsAreRead : Type 0
FormsAreRead = (a : Sort) (g : Grammar a) (ts : List Lexeme) (end : ℕ) (front rest : List Lexeme) (v : TypeOf a)
    (ms : List Mark) →
    DeadEnd g ts front rest → Form g front [] v ms → (p : Place) × (value_at g (start ts end) ≡ Ok (v, p))
    × (p.left ≡ rest) × IsWorst ms p.worst

-- every list of tokens has a first dead end
abbrev pub DeadEndsExist : Type 0
DeadEndsExist = (a : Sort) (g : Grammar a) (ts : List Lexeme) → (front : List Lexeme) × (rest : List Lexeme)
    × DeadEnd g ts front rest

-- a run goes on behind an item, from the state that the item gives
abbrev pub RunsTakeItems : Type 0
RunsTakeItems = (s a : Sort) (test : TypeOf s → Lexeme → Option (TypeOf a)) (item : TypeOf s → TypeOf a → Grammar s)
    (state r : TypeOf s) (v : TypeOf a) (p q : Place) →
    first_value (test state) p.left ≡ Some v → value_at (item state v) (past p) ≡ Ok (r, q)
    → value_at (Loop a test item state) p ≡ value_at (Loop a test item r) q

-- a run ends where no item begins
abbrev pub RunsEnd : Type 0
RunsEnd = (s a : Sort) (test : TypeOf s → Lexeme → Option (TypeOf a)) (item : TypeOf s → TypeOf a → Grammar s)
    (state : TypeOf s) (p : Place) →
    first_value (test state) p.left ≡ None → value_at (Loop a test item state) p ≡ Ok (state, p)

-- a run stops where an item stops
abbrev pub RunsStop : Type 0
RunsStop = (s a : Sort) (test : TypeOf s → Lexeme → Option (TypeOf a)) (item : TypeOf s → TypeOf a → Grammar s)
    (state : TypeOf s) (v : TypeOf a) (p : Place) (f : ParseFault) →
    first_value (test state) p.left ≡ Some v → value_at (item state v) (past p) ≡ Err f
    → value_at (Loop a test item state) p ≡ Err f

-- a part that may be missing is read where the next token begins it
abbrev pub OptionalsAreRead : Type 0
OptionalsAreRead = (a b : Sort) (test : Lexeme → Option (TypeOf a)) (rest : TypeOf a → Grammar b) (p : Place) →
    value_at (optional a test rest) p ≡ optional_at (λ v q. value_at (rest v) q) (first_value test p.left) p

-- marks before a form are marks of the place
abbrev pub MarksAreRead : Type 0
MarksAreRead = (a : Sort) (ms : List Mark) (g : Grammar a) (p : Place)
    → value_at (marked_by ms g) p ≡ value_at g (marked_all p ms)

-- behind what was read no more tokens are left than before it
abbrev pub ReadingsTakeTokens : Type 0
ReadingsTakeTokens =
    (a : Sort) (g : Grammar a) (p q : Place) (v : TypeOf a) → value_at g p ≡ Ok (v, q) → length q.left ≤ length p.left

-- behind an item of a run fewer tokens are left than before it: its first token was taken
abbrev pub ItemsTakeTokens : Type 0
ItemsTakeTokens =
    (b a : Sort) (test : Lexeme → Option (TypeOf b)) (v : TypeOf b) (g : Grammar a) (r : TypeOf a) (p q : Place)
    → first_value test p.left ≡ Some v → value_at g (past p) ≡ Ok (r, q) → length q.left < length p.left

-- the answer to what is read is what the tokens say
abbrev pub AnswersAreExact : Type 0
AnswersAreExact =
    (a : Sort) (g : Grammar a) (ts : List Lexeme) (end : ℕ) → IsAnswer g ts end (answer (value_at g (start ts end)))

-- tokens that spell a value are answered with it
abbrev pub SpelledIsAnswered : Type 0
SpelledIsAnswered = (a : Sort) (g : Grammar a) (ts : List Lexeme) (end : ℕ) (v : TypeOf a) (n : ℕ) → Spells g ts v n
    → (left : ℕ) × (answer (value_at g (start ts end)) ≡ Ok (v, left)) × (n + left ≡ length ts)

-- tokens that are refused with a fault are answered with it, so that there is one fault at most
abbrev pub RefusedIsAnswered : Type 0
RefusedIsAnswered = (a : Sort) (g : Grammar a) (ts : List Lexeme) (end : ℕ) (f : ParseFault) → Refuses g ts end f
    → answer (value_at g (start ts end)) ≡ Err f

-- the answer to what is read of a whole text is what its tokens say
abbrev pub WholeAnswersAreExact : Type 0
WholeAnswersAreExact = (a : Sort) (g : Grammar a) (ts : List Lexeme) (end : ℕ)
    → IsWholeAnswer g ts end (whole_answer (value_at g (start ts end)))

-- tokens that spell a value as a whole are answered with it
abbrev pub WholesAreAnswered : Type 0
WholesAreAnswered = (a : Sort) (g : Grammar a) (ts : List Lexeme) (end : ℕ) (v : TypeOf a) → SpellWhole g ts v
    → whole_answer (value_at g (start ts end)) ≡ Ok v

-- tokens that are refused as a whole with a fault are answered with it, so that there is one fault at most
abbrev pub RefusedWholesAreAnswered : Type 0
RefusedWholesAreAnswered = (a : Sort) (g : Grammar a) (ts : List Lexeme) (end : ℕ) (f : ParseFault)
    → RefuseWhole g ts end f → whole_answer (value_at g (start ts end)) ≡ Err f

-- the tokens of a text lie in it, from each place on as many as one likes
abbrev pub TokensLieInside : Type 0
TokensLieInside = (text : List ℕ) (ts : List Token) → Lexed text ts → (n at : ℕ) → AreInside text (take n (drop at ts))

-- tokens that spell a value as a whole are not refused
abbrev pub WholesAreNotRefused : Type 0
WholesAreNotRefused = (a : Sort) (g : Grammar a) (ts : List Lexeme) (end : ℕ) (v : TypeOf a) (f : ParseFault)
    → SpellWhole g ts v → RefuseWhole g ts end f → ⊥
