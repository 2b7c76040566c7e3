-- What the code computes, which keeps the least breach alone, is what is read with all marks.
use Rattle.std.proofs.Common.{◌≡◌, ℕ, zero, suc, List, [], ◌∷◌, ◌++◌, length, refl, sym, ap, ◌∙◌}
use Rattle.std.specs.Prelude.{Option, Some, None, Ok, Err}
use Rattle.ds_grammar.specs.declared.fault.Breach.{Breach}
use Rattle.ds_grammar.specs.Sort.{Lexeme, Sort}
use Rattle.ds_grammar.specs.Grammar.{Mark, Grammar, Done, One, Then, Marked, Loop}
use Rattle.ds_grammar.specs.Fault.{dead_fault}
use Rattle.ds_grammar.specs.Reading.{Place, Reading, worse, marked, refusal, then_at, first_value, tail, took_at}
use Rattle.ds_grammar.specs.Reading.{round_at, rounds_at, value_at}
use Rattle.ds_grammar.proofs.Outcome.{Outcome, got, short, dead, Reader, with_marks, bind, took, one, round, rounds}
use Rattle.ds_grammar.proofs.Outcome.{read}

-- the least breach behind more marks
abbrev pub worst_of : Option Breach → List Mark → Option Breach
worst_of w [] = w
worst_of w (m ∷ ms) = worst_of (worse w m) ms

worst_append : (w : Option Breach) (ks ls : List Mark) → worst_of w (ks ++ ls) ≡ worst_of (worst_of w ks) ls
worst_append w [] ls = refl
worst_append w (k ∷ ks) ls = worst_append (worse w k) ks ls

-- the place behind these marks, with these tokens left
abbrev pub behind : Place → List Mark → List Lexeme → Place
behind p ms ts = record { left = ts; end = p.end; worst = worst_of p.worst ms }

-- an outcome as what the code computes
abbrev pub settled : {A : Type 0} → Place → Outcome A → Reading A
settled p (got a ms rest) = Ok (a, behind p ms rest)
settled p (short ms) = Err (refusal (worst_of p.worst ms) (dead_fault p.end []))
settled p (dead ms t rest) = Err (refusal (worst_of p.worst ms) (dead_fault p.end (t ∷ rest)))

settled_marks : {A : Type 0} (p : Place) (ks : List Mark) (rest : List Lexeme) (o : Outcome A)
    → settled p (with_marks ks o) ≡ settled (behind p ks rest) o
settled_marks p ks rest (got a ls ts) = rw (worst_append p.worst ks ls)
settled_marks p ks rest (short ls) = rw (worst_append p.worst ks ls)
settled_marks p ks rest (dead ls t ts) = rw (worst_append p.worst ks ls)

settled_bind : {A B : Type 0} (p : Place) (o : Outcome A) (k : A → Reader B) (next : A → Place → Reading B)
    → ((a : A) (q : Place) → next a q ≡ settled q (k a q.left)) → then_at (settled p o) next ≡ settled p (bind o k)
settled_bind p (got a ms rest) k next f = f a (behind p ms rest) ∙ sym (settled_marks p ms rest (k a rest))
settled_bind p (short ms) k next f = refl
settled_bind p (dead ms t rest) k next f = refl

settled_took : {A : Type 0} (p : Place) (t : Lexeme) (ts : List Lexeme) (o : Option A) → p.left ≡ t ∷ ts
    → took_at o p ≡ settled p (took o t ts)
settled_took p t ts None e = rw e
settled_took p t ts (Some a) e = rw e

settled_one : {A : Type 0} (value : Lexeme → Option A) (p : Place) (ts : List Lexeme) → p.left ≡ ts
    → took_at (first_value value ts) p ≡ settled p (one value ts)
settled_one value p [] e = rw e
settled_one value p (t ∷ ts) e = settled_took p t ts (value t) e

module _ {S A : Type 0} (test : S → Lexeme → Option A) (k : S → A → Reader S) (item : S → A → Place → Reading S)
    (item_is : (s : S) (a : A) (p : Place) → item s a p ≡ settled p (k s a p.left)) where
  settled_left : (p : Place) (ts : List Lexeme) (o : Outcome S) → settled (record p { left = ts }) o ≡ settled p o
  settled_left p ts (got a ms rest) = refl
  settled_left p ts (short ms) = refl
  settled_left p ts (dead ms t rest) = refl

  settled_round : (n : ℕ) → ((s : S) (p : Place) (ts : List Lexeme) → p.left ≡ ts
      → rounds_at test item n s p ≡ settled p (rounds test k n s ts))
      → (s : S) (o : Option A) (t : Lexeme) (ts : List Lexeme) (p : Place) → p.left ≡ t ∷ ts
      → round_at (item s) (rounds_at test item n) s o p ≡ settled p (round (k s) (rounds test k n) s o t ts)
  settled_round n h s None t ts p e = rw (← e)
  settled_round n h s (Some a) t ts p e =
      ap (λ xs. then_at (item s a (record p { left = tail xs })) (rounds_at test item n)) e
      ∙ ap (λ r. then_at r (rounds_at test item n)) (item_is s a (record p { left = ts }))
      ∙ settled_bind (record p { left = ts }) (k s a ts) (rounds test k n) (rounds_at test item n)
      (λ r q. h r q q.left refl)
      ∙ settled_left p ts (bind (k s a ts) (rounds test k n))

  settled_rounds : (n : ℕ) (s : S) (p : Place) (ts : List Lexeme) → p.left ≡ ts
      → rounds_at test item n s p ≡ settled p (rounds test k n s ts)
  settled_rounds zero s p [] e = rw (← e)
  settled_rounds zero s p (t ∷ ts) e = rw (← e)
  settled_rounds (suc n) s p [] e = ap (λ xs. round_at (item s) (rounds_at test item n) s (first_value (test s) xs) p)
      e ∙ ap (λ xs. Ok (s, record p { left = xs })) e
  settled_rounds (suc n) s p (t ∷ ts) e =
      ap (λ xs. round_at (item s) (rounds_at test item n) s (first_value (test s) xs) p) e
      ∙ settled_round n (settled_rounds n) s (test s t) t ts p e

settled_mark : {A : Type 0} (p : Place) (m : Mark) (o : Outcome A)
    → settled (marked p m) o ≡ settled p (with_marks (m ∷ []) o)
settled_mark p m (got a ms rest) = refl
settled_mark p m (short ms) = refl
settled_mark p m (dead ms t rest) = refl

pub value_is : {a : Sort} (g : Grammar a) (p : Place) → value_at g p ≡ settled p (read g p.left)
value_is (Done v) p = refl
value_is (One value) p = settled_one value p p.left refl
value_is (Then first next) p =
    ap (λ r. then_at r (λ v q. value_at (next v) q)) (value_is first p)
    ∙ settled_bind p (read first p.left) (λ v us. read (next v) us) (λ v q. value_at (next v) q)
    (λ v q. value_is (next v) q)
value_is (Marked mark rest) p = value_is rest (marked p mark) ∙ settled_mark p mark (read rest p.left)
value_is (Loop a test item s) p = settled_rounds test (λ s v us. read (item s v) us) (λ s v q. value_at (item s v) q)
    (λ s v q. value_is (item s v) q) (length p.left) s p p.left refl
