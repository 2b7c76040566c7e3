-- What is within its bound in each value of a grammar, where no mark is out of its bound and the tokens are of bytes.
use Rattle.std.proofs.Common.{◌≡◌, ℕ, zero, suc, ◌<◌, ◌^◌, Bool, true, false, List, [], ◌∷◌, ◌++◌, length, refl, sym}
use Rattle.std.proofs.Common.{subst, inl, inr, arith}
use Rattle.std.proofs.lemmas.List.{length-append}
use Rattle.std.specs.Prelude.{All, Option, Some, None}
use Rattle.ds_grammar.specs.Sort.{Lexeme, Sort, TypeOf, maybe}
use Rattle.ds_grammar.specs.declared.fault.Breach.{Breach}
use Rattle.ds_grammar.specs.declared.fault.Mark.{Mark}
use Rattle.ds_grammar.specs.Grammar.{Grammar, Done, One, Then, Marked, Loop, optional_test, optional, marked_by}
use Rattle.ds_grammar.specs.Form.{Form, Run}
use Rattle.ds_grammar.specs.Fault.{AreWithin, IsBreachIn}
use Rattle.ds_parse_laws.proofs.Alls.{all_left, all_right}

-- the bytes of a token
abbrev pub IsBytes : Lexeme → Type 0
IsBytes t = All (λ b. b < 2 ^ 8) t.bytes

-- tokens of bytes, which are fewer than names have numbers
pub record AreShort (ts : List Lexeme) : Type 0 where
  pub bytes : All IsBytes ts
  pub few : length ts < 2 ^ 32

-- each value of the grammar has the property, where nothing is out of its bound
pub record Within {a : Sort} (g : Grammar a) (P : TypeOf a → Type 0) : Type 0 where
  pub is : (ts behind : List Lexeme) (v : TypeOf a) (ms : List Mark) → Form g ts behind v ms → AreWithin ms
      → AreShort ts → P v

-- each mark is within its bound
abbrev pub EachWithin : List Mark → Type 0
EachWithin [] = Unit {0}
EachWithin (m ∷ ms) = (m.within ≡ true) × EachWithin ms

pub short_left : (us vs : List Lexeme) → AreShort (us ++ vs) → AreShort us
short_left us vs h =
    record { bytes = all_left IsBytes us vs h.bytes; few = let few = h.few in omega (arith, few, length-append us vs) }

pub short_right : (us vs : List Lexeme) → AreShort (us ++ vs) → AreShort vs
short_right us vs h = record {
  bytes = all_right IsBytes us vs h.bytes;
  few = let few = h.few in
      omega (arith, few, length-append us vs);
}

pub breach_left : (ks ls : List Mark) (b : Breach) → IsBreachIn ks b → IsBreachIn (ks ++ ls) b
breach_left [] ls b h = absurd h
breach_left (k ∷ ks) ls b (inl h) = inl h
breach_left (k ∷ ks) ls b (inr h) = inr (breach_left ks ls b h)

pub breach_right : (ks ls : List Mark) (b : Breach) → IsBreachIn ls b → IsBreachIn (ks ++ ls) b
breach_right [] ls b h = h
breach_right (k ∷ ks) ls b h = inr (breach_right ks ls b h)

first_within : (m : Mark) (ms : List Mark) → AreWithin (m ∷ ms) → m.within ≡ true
first_within m ms w = by m.within refl
  where
    by : (b : Bool) → m.within ≡ b → m.within ≡ true
    by true e = e
    by false e = absurd (w m.breach (inl (e, refl)))

-- no token
pub done : {a : Sort} {P : TypeOf a → Type 0} (v : TypeOf a) → P v → Within (Done v) P
done {P = P} v h = record { is = λ ts behind r ms f w s. subst P (sym f.1) h }

-- one token
pub one : {a : Sort} {P : TypeOf a → Type 0} {value : Lexeme → Option (TypeOf a)}
    → ((t : Lexeme) (v : TypeOf a) → IsBytes t → value t ≡ Some v → P v) → Within (One value) P
one {a} {P} {value} h = record { is = λ ts behind v ms f w s. of ts v f.0 f.1 f.2 s }
  where
    of : (ts : List Lexeme) (v : TypeOf a) (t : Lexeme) → ts ≡ t ∷ [] → value t ≡ Some v → AreShort ts → P v
    of ts v t e i s = let s' = subst AreShort e s in h t v (s'.bytes 0 t (omega arith)) i

-- no token begins it
pub never : {a : Sort} {P : TypeOf a → Type 0} → Within (One {a = a} (λ t. None)) P
never = one (λ t v s e. absurd (cc (e)))

-- one behind the other
infixr 10 ◌⨾◌
pub ◌⨾◌ : {a b : Sort} {first : Grammar a} {next : TypeOf a → Grammar b} {Q : TypeOf a → Type 0}
    {P : TypeOf b → Type 0}
    → Within first Q → ((v : TypeOf a) → Q v → Within (next v) P) → Within (Then first next) P
◌⨾◌ {a} {b} {first} {next} {Q} {P} h k = record { is = of }
  where
    of : (ts behind : List Lexeme) (v : TypeOf b) (ms : List Mark) → Form (Then first next) ts behind v ms
        → AreWithin ms → AreShort ts → P v
    of ts behind v ms (q, us, vs, ks, ls, e, m, x, y) w s =
        let w' = subst AreWithin m w in
        let s' = subst AreShort e s in
        (k q (h.is us (vs ++ behind) q ks x (λ b i. w' b (breach_left ks ls b i)) (short_left us vs s'))).is vs behind
        v ls y (λ b i. w' b (breach_right ks ls b i)) (short_right us vs s')

-- one behind the other, where nothing is asked of the first
pub skip : {a b : Sort} {first : Grammar a} {next : TypeOf a → Grammar b} {P : TypeOf b → Type 0}
    → ((v : TypeOf a) → Within (next v) P) → Within (Then first next) P
skip {a} {b} {first} {next} {P} k = record { is = of }
  where
    of : (ts behind : List Lexeme) (v : TypeOf b) (ms : List Mark) → Form (Then first next) ts behind v ms
        → AreWithin ms → AreShort ts → P v
    of ts behind v ms (q, us, vs, ks, ls, e, m, x, y) w s =
        let w' = subst AreWithin m w in
        let s' = subst AreShort e s in
        (k q).is vs behind v ls y (λ b i. w' b (breach_right ks ls b i)) (short_right us vs s')

-- behind a mark
pub marked : {a : Sort} {m : Mark} {g : Grammar a} {P : TypeOf a → Type 0} → (m.within ≡ true → Within g P)
    → Within (Marked m g) P
marked {a} {m} {g} {P} h = record { is = of }
  where
    of : (ts behind : List Lexeme) (v : TypeOf a) (ms : List Mark) → Form (Marked m g) ts behind v ms → AreWithin ms
        → AreShort ts → P v
    of ts behind v ms (ls, e, x) w s =
        let w' = subst AreWithin e w in (h (first_within m ls w')).is ts behind v ls x (λ b i. w' b (inr i)) s

-- behind marks
pub all_marked : {a : Sort} {g : Grammar a} {P : TypeOf a → Type 0} (ms : List Mark) → (EachWithin ms → Within g P)
    → Within (marked_by ms g) P
all_marked [] h = h tt
all_marked (m ∷ ms) h = marked (λ w. all_marked ms (λ ws. h (w, ws)))

-- a run whose states all have the property
pub run : {s a : Sort} {test : TypeOf s → Lexeme → Option (TypeOf a)} {item : TypeOf s → TypeOf a → Grammar s}
    {state : TypeOf s} {P : TypeOf s → Type 0}
    → P state → ((r : TypeOf s) (t : Lexeme) (v : TypeOf a) → P r → IsBytes t → test r t ≡ Some v
    → Within (item r v) P) → Within (Loop a test item state) P
run {s} {a} {test} {item} {state} {P} start step =
    record { is = λ ts behind v ms f w sh. rounds f.0 state ts behind v ms start f.1 w sh }
  where
    rounds : (n : ℕ) (r : TypeOf s) (ts behind : List Lexeme) (v : TypeOf s) (ms : List Mark) → P r
        → Run test (λ s v. Form (item s v)) n r ts behind v ms → AreWithin ms → AreShort ts → P v
    rounds zero r ts behind v ms p f w sh = subst P (sym f.1) p
    rounds (suc n) r ts behind v ms p (t, xs, x, e, takes, (q, us, vs, ks, ls, e2, m, f, g)) w sh =
        let w' = subst AreWithin m w in
        let s1 = subst AreShort e sh in
        let s2 = subst AreShort e2 (short_right (t ∷ []) xs s1) in
        rounds n q vs behind v ls ((step r t x p (s1.bytes 0 t (omega arith)) takes).is us (vs ++ behind) q ks f
        (λ b i. w' b (breach_left ks ls b i)) (short_left us vs s2)) g (λ b i. w' b (breach_right ks ls b i))
        (short_right us vs s2)

-- a property of a part that may be missing
abbrev pub IfThere : {A : Type 0} → (A → Type 0) → Option A → Type 0
IfThere P None = Unit {0}
IfThere P (Some a) = P a

-- a part that may be missing
pub maybe_there : {a b : Sort} {test : Lexeme → Option (TypeOf a)} {rest : TypeOf a → Grammar b}
    {P : TypeOf b → Type 0}
    → ((t : Lexeme) (v : TypeOf a) → IsBytes t → test t ≡ Some v → Within (rest v) P)
    → Within (optional a test rest) (IfThere P)
maybe_there {a} {b} {test} {rest} {P} h = run {P = IfThere P} tt step
  where
    step : (r : Option (TypeOf b)) (t : Lexeme) (v : TypeOf a) → IfThere P r → IsBytes t
        → optional_test test r t ≡ Some v → Within (Then (rest v) (λ w. Done {a = maybe b} (Some w))) (IfThere P)
    step None t v p s e = h t v s e ⨾ (λ w i. done (Some w) i)
    step (Some x) t v p s e = absurd (cc (e))

-- what follows from a property holds too
pub weaker : {a : Sort} {g : Grammar a} {P Q : TypeOf a → Type 0} → Within g P → ((v : TypeOf a) → P v → Q v)
    → Within g Q
weaker h k = record { is = λ ts behind v ms f w s. k v (h.is ts behind v ms f w s) }
