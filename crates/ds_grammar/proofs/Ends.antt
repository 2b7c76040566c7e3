-- Fronts by what is read, and where the first dead end is.
use Rattle.std.proofs.Common.{◌≡◌, List, [], ◌∷◌, ◌++◌, refl, sym, ap, ◌∙◌, subst, inl, inr, ◌⊎◌, arith, append_assoc}
use Rattle.std.proofs.lemmas.List.{append-nil}
use Rattle.ds_grammar.specs.Sort.{Lexeme, Sort, TypeOf}
use Rattle.ds_grammar.specs.Grammar.{Mark, Grammar}
use Rattle.ds_grammar.specs.Form.{Form, Stops, Front, IsFront, IsDead, DeadEnd}
use Rattle.ds_grammar.proofs.Outcome.{Outcome, got, short, dead, read}
use Rattle.ds_grammar.proofs.Told.{Told, told, shortens}
use Rattle.ds_grammar.proofs.Complete.{read_form, read_stops}
use Rattle.ds_grammar.proofs.More.{Within, More, more}

-- all tokens were read, with these marks
abbrev pub Whole : {A : Type 0} → Outcome A → List Mark → Type 0
Whole (got a ks []) ms = ks ≡ ms
Whole (got a ks (t ∷ rest)) ms = ⊥
Whole (short ks) ms = ks ≡ ms
Whole (dead ks t rest) ms = ⊥

pub form_whole : {a : Sort} (g : Grammar a) (ts : List Lexeme) (v : TypeOf a) (ms : List Mark) → Form g ts [] v ms
    → read g ts ≡ got v ms []
form_whole g ts v ms h = ap (read g) (sym (append-nil ts)) ∙ read_form g ts [] v ms h

pub front_read : {a : Sort} (g : Grammar a) (ts : List Lexeme) (ms : List Mark) → Front g ts ms → Whole (read g ts) ms
front_read g ts ms (inl h) = subst (λ o. Whole o ms) (sym (read_stops g ts ms h)) refl
front_read g ts ms (inr (v, h)) = subst (λ o. Whole o ms) (sym (form_whole g ts v ms h)) refl

front_told : {a : Sort} (g : Grammar a) (ts : List Lexeme) (ms : List Mark) (o : Outcome (TypeOf a))
    → Told (Form g) (Stops g) ts o → Whole o ms → Front g ts ms
front_told g ts ms (got v ks []) (us, e, h) w =
    inr (v, subst (λ xs. Form g xs [] v ms) (sym (append-nil us) ∙ sym e) (subst (λ ls. Form g us [] v ls) w h))
front_told g ts ms (got v ks (t ∷ rest)) h w = absurd w
front_told g ts ms (short ks) h w = inl (subst (λ ls. Stops g ts ls) w h)
front_told g ts ms (dead ks t rest) h w = absurd w

pub read_front : {a : Sort} (g : Grammar a) (ts : List Lexeme) (ms : List Mark) → Whole (read g ts) ms → Front g ts ms
read_front g ts ms w = front_told g ts ms (read g ts) (told g ts) w

pub whole_unique : {A : Type 0} (o : Outcome A) (ks ls : List Mark) → Whole o ks → Whole o ls → ks ≡ ls
whole_unique (got a ms []) ks ls p q = sym p ∙ q
whole_unique (got a ms (t ∷ rest)) ks ls p q = absurd p
whole_unique (short ms) ks ls p q = sym p ∙ q
whole_unique (dead ms t rest) ks ls p q = absurd p

-- behind tokens that were all read, no more is left than was put there
whole_within : {A : Type 0} (o p : Outcome A) (vs : List Lexeme) (ms : List Mark) → Whole o ms → More o vs p
    → Within vs p
whole_within (got a ks []) p vs ms w m = m
whole_within (got a ks (t ∷ rest)) p vs ms w m = absurd w
whole_within (short ks) p vs ms w m = m
whole_within (dead ks t rest) p vs ms w m = absurd w

-- tokens in front of tokens that were all read were all read
whole_front : {A : Type 0} (o p : Outcome A) (vs : List Lexeme) (ms : List Mark) → Whole p ms → More o vs p
    → (ks : List Mark) × Whole o ks
whole_front (got a ks []) p vs ms w m = (ks, refl)
whole_front (got a ks (t ∷ rest)) p vs ms w m = absurd (subst (λ q. Whole q ms) m w)
whole_front (short ks) p vs ms w m = (ks, refl)
whole_front (dead ks t rest) p vs ms w m = absurd (subst (λ q. Whole q ms) m w)

pub prefix_front : {a : Sort} (g : Grammar a) (us vs : List Lexeme) → IsFront g (us ++ vs) → IsFront g us
prefix_front g us vs (ms, h) =
    let w = whole_front (read g us) (read g (us ++ vs)) vs ms (front_read g (us ++ vs) ms h) (more g us vs) in
    (w.0, read_front g us w.0 w.1)

fronts_of : {a : Sort} (g : Grammar a) (front : List Lexeme) → IsFront g front → (us vs : List Lexeme)
    → front ≡ us ++ vs → IsFront g us
fronts_of g front h us vs e = prefix_front g us vs (subst (IsFront g) e h)

-- where more than these tokens is left, the tokens up to the first of them are no front
dead_by : {a : Sort} (g : Grammar a) (front : List Lexeme) (t : Lexeme) (rest : List Lexeme)
    → (Within rest (read g (front ++ t ∷ rest)) → ⊥) → IsDead g front (t ∷ rest)
dead_by g front t rest none (ms, h) =
    none (subst (λ xs. Within rest (read g xs)) (append_assoc front (t ∷ []) rest)
    (whole_within (read g (front ++ t ∷ [])) (read g ((front ++ t ∷ []) ++ rest)) rest ms
    (front_read g (front ++ t ∷ []) ms h) (more g (front ++ t ∷ []) rest)))

pub got_dead_end : {a : Sort} (g : Grammar a) (ts front rest : List Lexeme) (v : TypeOf a) (ms : List Mark)
    → read g ts ≡ got v ms rest → ts ≡ front ++ rest → Form g front rest v ms → DeadEnd g ts front rest
got_dead_end g ts front [] v ms r e h = record { whole = e; fronts = fronts_of g front (ms, inr (v, h)); dead = tt }
got_dead_end g ts front (t ∷ rest) v ms r e h = record {
  whole = e;
  fronts = fronts_of g front (ms, inr (v, shortens g front [] (t ∷ rest) v ms h));
  dead = dead_by g front t rest (λ w. let x : Within rest (got v ms (t ∷ rest)) = subst (Within rest)
      (ap (read g) (sym e) ∙ r) w in absurd (omega (arith, x)));
}

pub short_dead_end : {a : Sort} (g : Grammar a) (ts : List Lexeme) (ms : List Mark) → Stops g ts ms
    → DeadEnd g ts ts []
short_dead_end g ts ms h = record { whole = sym (append-nil ts); fronts = fronts_of g ts (ms, inl h); dead = tt }

within_none : (A : Type 0) (rest : List Lexeme) (t : Lexeme) (ms : List Mark) → Within {A = A} rest (dead ms t rest)
    → ⊥
within_none A rest t ms w = absurd (omega (arith, w))

pub dead_dead_end : {a : Sort} (g : Grammar a) (ts front : List Lexeme) (t : Lexeme) (rest : List Lexeme)
    (ms : List Mark) → read g ts ≡ dead ms t rest → ts ≡ front ++ t ∷ rest → Stops g front ms
    → DeadEnd g ts front (t ∷ rest)
dead_dead_end {a} g ts front t rest ms r e h = record {
  whole = e;
  fronts = fronts_of g front (ms, inl h);
  dead =
      dead_by g front t rest (λ w. within_none (TypeOf a) rest t ms (subst (Within rest) (ap (read g) (sym e) ∙ r) w));
}

-- one of two fronts goes on where the other ends, or they are one
abbrev Splits : List Lexeme → List Lexeme → List Lexeme → List Lexeme → Type 0
Splits f r f' r' =
    ((x : Lexeme) × (xs : List Lexeme) × (f' ≡ f ++ x ∷ xs) × (r ≡ x ∷ xs ++ r'))
    ⊎ (((x : Lexeme) × (xs : List Lexeme) × (f ≡ f' ++ x ∷ xs) × (r' ≡ x ∷ xs ++ r)) ⊎ ((f ≡ f') × (r ≡ r')))

splits : (f r f' r' : List Lexeme) → f ++ r ≡ f' ++ r' → Splits f r f' r'
splits [] r [] r' e = inr (inr (refl, e))
splits [] r (x ∷ f') r' e = inl (x, f', refl, e)
splits (x ∷ f) r [] r' e = inr (inl (x, f, refl, sym e))
splits (x ∷ f) r (y ∷ f') r' e = more_split (splits f r f' r' (cc (e)))
  where
    same : x ≡ y
    same = cc (e)

    more_split : Splits f r f' r' → Splits (x ∷ f) r (y ∷ f') r'
    more_split (inl (z, zs, a, b)) = inl (z, zs, cc (a, same), b)
    more_split (inr (inl (z, zs, a, b))) = inr (inl (z, zs, cc (a, same), b))
    more_split (inr (inr (a, b))) = inr (inr (cc (a, same), b))

-- no front ends where another that goes on is a front
ends_once : {a : Sort} (g : Grammar a) (ts f r f' r' : List Lexeme) → DeadEnd g ts f r → DeadEnd g ts f' r'
    → (x : Lexeme) (xs ys : List Lexeme) → f' ≡ f ++ x ∷ xs → r ≡ x ∷ ys → ⊥
ends_once g ts f r f' r' d d' x xs ys e i =
    let none : IsDead g f (x ∷ ys) = subst (IsDead g f) i d.dead in
    none (d'.fronts (f ++ x ∷ []) xs (e ∙ sym (append_assoc f (x ∷ []) xs)))

dead_end_by : {a : Sort} (g : Grammar a) (ts f r f' r' : List Lexeme) → DeadEnd g ts f r → DeadEnd g ts f' r'
    → Splits f r f' r' → (f ≡ f') × (r ≡ r')
dead_end_by g ts f r f' r' d d' (inl (x, xs, e, i)) = absurd (ends_once g ts f r f' r' d d' x xs (xs ++ r') e i)
dead_end_by g ts f r f' r' d d' (inr (inl (x, xs, e, i))) = absurd (ends_once g ts f' r' f r d' d x xs (xs ++ r) e i)
dead_end_by g ts f r f' r' d d' (inr (inr s)) = s

pub dead_end_unique : {a : Sort} (g : Grammar a) (ts f r f' r' : List Lexeme) → DeadEnd g ts f r → DeadEnd g ts f' r'
    → (f ≡ f') × (r ≡ r')
dead_end_unique g ts f r f' r' d d' = dead_end_by g ts f r f' r' d d' (splits f r f' r' (sym d.whole ∙ d'.whole))
