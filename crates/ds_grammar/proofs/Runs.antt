-- A run is one round, and then the run from the state that it gives.
use Rattle.std.proofs.Common.{◌≡◌, ℕ, zero, suc, ◌<◌, ◌≤◌, List, [], ◌∷◌, length, refl, sym, ◌∙◌, subst, arith, ap}
use Rattle.std.specs.Prelude.{Option, Some, None, Ok, Err}
use Rattle.ds_grammar.specs.Sort.{Lexeme, Sort, TypeOf, maybe}
use Rattle.ds_grammar.specs.Grammar.{Grammar, Done, Then, Loop, optional_test}
use Rattle.ds_grammar.specs.Reading.{Place, Reading, then_at, round_at, rounds_at, first_value, tail, past, marked}
use Rattle.ds_grammar.specs.Reading.{value_at, optional_at}
use Rattle.ds_grammar.specs.Laws.{OptionalsAreRead, ReadingsTakeTokens, ItemsTakeTokens, MarksAreRead, RunsTakeItems}
use Rattle.ds_grammar.specs.Laws.{RunsEnd, RunsStop}
use Rattle.ds_grammar.proofs.Outcome.{Outcome, got, short, dead, read}
use Rattle.ds_grammar.proofs.More.{Within, within}
use Rattle.ds_grammar.proofs.Threaded.{settled, value_is}

-- no more than so many tokens are left behind what was read
abbrev LeavesAtMost : {A : Type 0} → ℕ → Reading A → Type 0
LeavesAtMost n (Ok (a, q)) = length q.left ≤ n
LeavesAtMost n (Err f) = Unit {0}

leaves_settled : {A : Type 0} (p : Place) (o : Outcome A) → Within p.left o
    → LeavesAtMost (length p.left) (settled p o)
leaves_settled p (got a ms rest) h = h
leaves_settled p (short ms) h = tt
leaves_settled p (dead ms t rest) h = tt

leaves : {a : Sort} (g : Grammar a) (p : Place) → LeavesAtMost (length p.left) (value_at g p)
leaves g p =
    subst (LeavesAtMost (length p.left)) (sym (value_is g p)) (leaves_settled p (read g p.left) (within g p.left))

same_then : {A B : Type 0} (n : ℕ) (r : Reading A) (f g : A → Place → Reading B) → LeavesAtMost n r
    → ((a : A) (q : Place) → length q.left ≤ n → f a q ≡ g a q) → then_at r f ≡ then_at r g
same_then n (Ok (a, q)) f g h e = e a q h
same_then n (Err x) f g h e = refl

-- behind one token fewer are left
tail_less : (n : ℕ) (ts : List Lexeme) → length ts ≤ suc n → length (tail ts) ≤ n
tail_less n [] le = omega arith
tail_less n (t ∷ ts) le = omega arith

module _ {S A : Type 0} (test : S → Lexeme → Option A) (item : S → A → Place → Reading S)
    (item_leaves : (s : S) (a : A) (p : Place) → LeavesAtMost (length p.left) (item s a p)) where
  same_round : (f g : S → Place → Reading S) (s : S) (o : Option A) (p : Place)
      → ((r : S) (q : Place) → length q.left ≤ length (tail p.left) → f r q ≡ g r q)
      → round_at (item s) f s o p ≡ round_at (item s) g s o p
  same_round f g s None p e = refl
  same_round f g s (Some a) p e = same_then (length (tail p.left)) (item s a (past p)) f g (item_leaves s a (past p)) e

  -- where nothing is left a run ends
  no_round : (f : S → Place → Reading S) (s : S) (p : Place) (ts : List Lexeme) → p.left ≡ ts → length ts ≤ 0
      → round_at (item s) f s (first_value (test s) p.left) p ≡ Ok (s, p)
  no_round f s p [] e le = rw e
  no_round f s p (t ∷ ts) e le = absurd (omega arith)

  -- enough rounds are as good as more
  same_rounds : (n m : ℕ) (s : S) (p : Place) → length p.left ≤ n → length p.left ≤ m
      → rounds_at test item n s p ≡ rounds_at test item m s p
  same_rounds zero zero s p le lt = refl
  same_rounds zero (suc m) s p le lt = sym (no_round (rounds_at test item m) s p p.left refl le)
  same_rounds (suc n) zero s p le lt = no_round (rounds_at test item n) s p p.left refl lt
  same_rounds (suc n) (suc m) s p le lt =
      same_round (rounds_at test item n) (rounds_at test item m) s (first_value (test s) p.left) p
      (λ r q sm. same_rounds n m r q (let t = tail_less n p.left le in omega (arith, t, sm))
      (let t = tail_less m p.left lt in omega (arith, t, sm)))

  run_step : (s : S) (p : Place)
      → rounds_at test item (length p.left) s p ≡ round_at (item s) (λ r q. rounds_at test item (length q.left) r q) s
      (first_value (test s) p.left) p
  run_step s p =
      same_rounds (length p.left) (suc (length p.left)) s p (omega arith) (omega arith)
      ∙ same_round (rounds_at test item (length p.left)) (λ r q. rounds_at test item (length q.left) r q) s
      (first_value (test s) p.left) p
      (λ r q sm. same_rounds (length p.left) (length q.left) r q
      (let t = tail_less (length p.left) p.left (omega arith) in omega (arith, t, sm)) (omega arith))

runs_on : (s a : Sort) (test : TypeOf s → Lexeme → Option (TypeOf a)) (item : TypeOf s → TypeOf a → Grammar s)
    (state : TypeOf s) (p : Place)
    → value_at (Loop a test item state) p ≡ round_at (λ v q. value_at (item state v) q)
    (λ r q. value_at (Loop a test item r) q) state (first_value (test state) p.left) p
runs_on s a test item state p = run_step test (λ r v q. value_at (item r v) q) (λ r v q. leaves (item r v) q) state p

module _ (s a : Sort) (test : TypeOf s → Lexeme → Option (TypeOf a)) (item : TypeOf s → TypeOf a → Grammar s)
    (state : TypeOf s) (p : Place) where
  abbrev round_by : Option (TypeOf a) → Reading (TypeOf s)
  round_by o = round_at (λ v q. value_at (item state v) q) (λ r q. value_at (Loop a test item r) q) state o p

  abbrev behind : Reading (TypeOf s) → Reading (TypeOf s)
  behind r = then_at r (λ r q. value_at (Loop a test item r) q)

pub items : RunsTakeItems
items s a test item state r v p q e i =
    runs_on s a test item state p ∙ ap (round_by s a test item state p) e ∙ ap (behind s a test item state p) i

pub ends : RunsEnd
ends s a test item state p e = runs_on s a test item state p ∙ ap (round_by s a test item state p) e

pub stops : RunsStop
stops s a test item state v p f e i =
    runs_on s a test item state p ∙ ap (round_by s a test item state p) e ∙ ap (behind s a test item state p) i

module _ (a b : Sort) (test : Lexeme → Option (TypeOf a)) (rest : TypeOf a → Grammar b) where
  abbrev begins : Option (TypeOf b) → Lexeme → Option (TypeOf a)
  begins s t = optional_test test s t

  abbrev run : Option (TypeOf b) → Grammar (maybe b)
  run s = Loop a begins (λ s v. Then (rest v) (λ x. Done (Some x))) s

  abbrev from : Option (TypeOf b) → Place → Reading (Option (TypeOf b))
  from s q = value_at (run s) q

  abbrev body : TypeOf a → Place → Reading (Option (TypeOf b))
  body v q = then_at (value_at (rest v) q) (λ x q. Ok (Some x, q))

  -- a run that has its item ends
  once_end : (w : TypeOf b) (p : Place) (ts : List Lexeme)
      → round_at body from (Some w) (first_value (begins (Some w)) ts) p ≡ Ok (Some w, p)
  once_end w p [] = refl
  once_end w p (t ∷ ts) = refl

  once : (w : TypeOf b) (p : Place) → from (Some w) p ≡ Ok (Some w, p)
  once w p = runs_on (maybe b) a begins (λ s v. Then (rest v) (λ x. Done (Some x))) (Some w) p ∙ once_end w p p.left

  once_read : (r : Reading (TypeOf b)) → then_at (then_at r (λ x q. Ok (Some x, q))) from
      ≡ then_at r (λ x q. Ok (Some x, q))
  once_read (Ok (w, p)) = once w p
  once_read (Err f) = refl

  optional_round : (o : Option (TypeOf a)) (p : Place)
      → round_at body from None o p ≡ optional_at (λ v q. value_at (rest v) q) o p
  optional_round None p = refl
  optional_round (Some v) p = once_read (value_at (rest v) (past p))

pub optionals : OptionalsAreRead
optionals a b test rest p = runs_on (maybe b) a (begins a b test rest)
    (λ s v. Then (rest v) (λ x. Done (Some x))) None p ∙ optional_round a b test rest (first_value test p.left) p

pub takes : ReadingsTakeTokens
takes a g p q v e = let P : Reading (TypeOf a) → Type 0 = LeavesAtMost (length p.left) in subst P e (leaves g p)

shorter : {A : Type 0} (test : Lexeme → Option A) (v : A) (ts : List Lexeme) (n : ℕ) → first_value test ts ≡ Some v
    → n ≤ length (tail ts) → n < length ts
shorter test v [] n e l = absurd (cc e)
shorter test v (t ∷ ts) n e l = omega (arith, l)

pub items_take : ItemsTakeTokens
items_take b a test v g r p q e h = shorter test v p.left (length q.left) e (takes a g (past p) q r h)

pub marks : MarksAreRead
marks a [] g p = refl
marks a (m ∷ ms) g p = marks a ms g (marked p m)
