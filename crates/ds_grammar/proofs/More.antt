-- What more tokens behind change: nothing where a token was left over, and where all were read the reading goes on in
-- the new ones.
use Rattle.std.proofs.Common.{◌≡◌, ℕ, zero, suc, ◌≤◌, ◌<◌, ◌+◌, List, [], ◌∷◌, ◌++◌, length, refl, sym, subst, arith}
use Rattle.std.proofs.lemmas.List.{length-append}
use Rattle.std.specs.Prelude.{Option, Some, None}
use Rattle.ds_grammar.specs.Sort.{Lexeme, Sort}
use Rattle.ds_grammar.specs.Grammar.{Mark, Grammar, Done, One, Then, Marked, Loop}
use Rattle.ds_grammar.proofs.Outcome.{Outcome, got, short, dead, Reader, with_marks, bind, took, one, round, rounds}
use Rattle.ds_grammar.proofs.Outcome.{read}

-- no more tokens are left than these, and a dead token is one of them
abbrev pub Within : {A : Type 0} → List Lexeme → Outcome A → Type 0
Within ts (got a ms rest) = length rest ≤ length ts
Within ts (short ms) = Unit {0}
Within ts (dead ms t rest) = length rest < length ts

-- the outcome on tokens, and that on these with more behind
abbrev pub More : {A : Type 0} → Outcome A → List Lexeme → Outcome A → Type 0
More (got a ms []) vs o = Within vs o
More (got a ms (t ∷ rest)) vs o = o ≡ got a ms (t ∷ rest ++ vs)
More (short ms) vs o = Within vs o
More (dead ms t rest) vs o = o ≡ dead ms t (rest ++ vs)

within_marks : {A : Type 0} (ts : List Lexeme) (ks : List Mark) (o : Outcome A) → Within ts o
    → Within ts (with_marks ks o)
within_marks ts ks (got a ms rest) h = h
within_marks ts ks (short ms) h = h
within_marks ts ks (dead ms t rest) h = h

within_less : {A : Type 0} (ts us : List Lexeme) (o : Outcome A) → length us ≤ length ts → Within us o → Within ts o
within_less ts us (got a ms rest) le h = omega arith
within_less ts us (short ms) le h = tt
within_less ts us (dead ms t rest) le h = omega arith

within_bind : {A B : Type 0} (ts : List Lexeme) (o : Outcome A) (k : A → Reader B)
    → ((a : A) (us : List Lexeme) → Within us (k a us)) → Within ts o → Within ts (bind o k)
within_bind ts (got a ms rest) k f h = within_marks ts ms (k a rest) (within_less ts rest (k a rest) h (f a rest))
within_bind ts (short ms) k f h = tt
within_bind ts (dead ms t rest) k f h = h

within_took : {A : Type 0} (o : Option A) (t : Lexeme) (ts : List Lexeme) → Within (t ∷ ts) (took o t ts)
within_took None t ts = omega arith
within_took (Some a) t ts = omega arith

within_one : {A : Type 0} (value : Lexeme → Option A) (ts : List Lexeme) → Within ts (one value ts)
within_one value [] = tt
within_one value (t ∷ ts) = within_took (value t) t ts

more_marks : {A : Type 0} (ks : List Mark) (vs : List Lexeme) (o p : Outcome A) → More o vs p
    → More (with_marks ks o) vs (with_marks ks p)
more_marks ks vs (got a ms []) p h = within_marks vs ks p h
more_marks ks vs (got a ms (t ∷ rest)) p h = rw h
more_marks ks vs (short ms) p h = within_marks vs ks p h
more_marks ks vs (dead ms t rest) p h = rw h

-- where nothing is left to read from, nothing is left over
more_none : {A : Type 0} (ks : List Mark) (vs : List Lexeme) (o p : Outcome A) → Within [] o → Within vs p
    → More (with_marks ks o) vs p
more_none ks vs (got a ms []) p h w = w
more_none ks vs (got a ms (t ∷ rest)) p h w = absurd (omega arith)
more_none ks vs (short ms) p h w = w
more_none ks vs (dead ms t rest) p h w = absurd (omega arith)

more_bind : {A B : Type 0} (ts vs : List Lexeme) (o p : Outcome A) (k l : A → Reader B)
    → ((a : A) (us : List Lexeme) → Within us (k a us)) → ((a : A) (us : List Lexeme) → Within us (l a us))
    → ((a : A) (us : List Lexeme) → length us ≤ length ts → More (k a us) vs (l a (us ++ vs)))
    → Within ts o → More o vs p → More (bind o k) vs (bind p l)
more_bind ts vs (got a ms []) p k l f g m w h = more_none ms vs (k a []) (bind p l) (f a []) (within_bind vs p l g h)
more_bind ts vs (got a ms (t ∷ rest)) p k l f g m w h =
    subst (λ q. More (with_marks ms (k a (t ∷ rest))) vs (bind q l)) (sym h)
    (more_marks ms vs (k a (t ∷ rest)) (l a (t ∷ rest ++ vs)) (m a (t ∷ rest) w))
more_bind ts vs (short ms) p k l f g m w h = within_bind vs p l g h
more_bind ts vs (dead ms t rest) p k l f g m w h = rw h

more_took : {A : Type 0} (o : Option A) (t : Lexeme) (ts vs : List Lexeme)
    → More (took o t ts) vs (took o t (ts ++ vs))
more_took None t ts vs = refl
more_took (Some a) t [] vs = omega arith
more_took (Some a) t (u ∷ ts) vs = refl

module _ {S A : Type 0} (test : S → Lexeme → Option A) (k : S → A → Reader S)
    (within_item : (s : S) (a : A) (us : List Lexeme) → Within us (k s a us)) where
  within_round : (next : S → Reader S) → ((s : S) (us : List Lexeme) → Within us (next s us))
      → (s : S) (o : Option A) (t : Lexeme) (ts : List Lexeme) → Within (t ∷ ts) (round (k s) next s o t ts)
  within_round next f s None t ts = omega arith
  within_round next f s (Some a) t ts =
      within_bind (t ∷ ts) (k s a ts) next f (within_less (t ∷ ts) ts (k s a ts) (omega arith) (within_item s a ts))

  pub within_rounds : (n : ℕ) (s : S) (ts : List Lexeme) → Within ts (rounds test k n s ts)
  within_rounds n s [] = omega arith
  within_rounds zero s (t ∷ ts) = omega arith
  within_rounds (suc n) s (t ∷ ts) = within_round (rounds test k n) (within_rounds n) s (test s t) t ts

  module _ (more_item : (s : S) (a : A) (us vs : List Lexeme) → More (k s a us) vs (k s a (us ++ vs))) where
    more_round : (n m : ℕ) (vs : List Lexeme) (s : S) (o : Option A) (t : Lexeme) (ts : List Lexeme)
        → ((q : S) (us : List Lexeme) → length us ≤ length ts
        → More (rounds test k n q us) vs (rounds test k m q (us ++ vs)))
        → More (round (k s) (rounds test k n) s o t ts) vs (round (k s) (rounds test k m) s o t (ts ++ vs))
    more_round n m vs s None t ts h = refl
    more_round n m vs s (Some a) t ts h =
        more_bind ts vs (k s a ts) (k s a (ts ++ vs)) (rounds test k n) (rounds test k m) (within_rounds n)
        (within_rounds m) h (within_item s a ts) (more_item s a ts vs)

    pub more_rounds : (n m : ℕ) (s : S) (us vs : List Lexeme) → length us ≤ n → length us + length vs ≤ m
        → More (rounds test k n s us) vs (rounds test k m s (us ++ vs))
    more_rounds n m s [] vs le lt = within_rounds m s vs
    more_rounds zero m s (t ∷ us) vs le lt = absurd (omega arith)
    more_rounds (suc n) zero s (t ∷ us) vs le lt = absurd (omega arith)
    more_rounds (suc n) (suc m) s (t ∷ us) vs le lt =
        more_round n m vs s (test s t) t us (λ q xs sm. more_rounds n m q xs vs (omega arith) (omega arith))

pub within : {a : Sort} (g : Grammar a) (ts : List Lexeme) → Within ts (read g ts)
within (Done v) ts = omega arith
within (One value) ts = within_one value ts
within (Then first next) ts =
    within_bind ts (read first ts) (λ v us. read (next v) us) (λ v. within (next v)) (within first ts)
within (Marked mark rest) ts = within_marks ts (mark ∷ []) (read rest ts) (within rest ts)
within (Loop a test item s) ts =
    within_rounds test (λ s v us. read (item s v) us) (λ s v. within (item s v)) (length ts) s ts

more_done : {A : Type 0} (v : A) (us vs : List Lexeme) → More (got v [] us) vs (got v [] (us ++ vs))
more_done v [] vs = omega arith
more_done v (t ∷ us) vs = refl

pub more : {a : Sort} (g : Grammar a) (us vs : List Lexeme) → More (read g us) vs (read g (us ++ vs))
more (Done v) us vs = more_done v us vs
more (One value) [] vs = within_one value vs
more (One value) (t ∷ us) vs = more_took (value t) t us vs
more (Then first next) us vs =
    more_bind us vs (read first us) (read first (us ++ vs)) (λ v ts. read (next v) ts) (λ v ts. read (next v) ts)
    (λ v. within (next v)) (λ v. within (next v)) (λ v ts le. more (next v) ts vs) (within first us)
    (more first us vs)
more (Marked mark rest) us vs = more_marks (mark ∷ []) vs (read rest us) (read rest (us ++ vs)) (more rest us vs)
more (Loop a test item s) us vs =
    more_rounds test (λ s v ts. read (item s v) ts) (λ s v. within (item s v)) (λ s v. more (item s v)) (length us)
    (length (us ++ vs)) s us vs (omega arith) (omega (arith, length-append us vs))
