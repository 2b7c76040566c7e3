-- The answer of a parser is what the tokens say.
use Rattle.std.proofs.Common.{◌≡◌, ℕ, List, [], ◌∷◌, ◌++◌, length, refl, sym, ap, ◌∙◌, subst, inl, inr, arith}
use Rattle.std.proofs.lemmas.List.{length-append, append-nil, append_assoc}
use Rattle.std.specs.Prelude.{Option, Some, None, Result, Ok, Err, ◌⊎◌}
use Rattle.ds_grammar.specs.declared.fault.Breach.{Breach}
use Rattle.ds_grammar.specs.declared.fault.ParseFault.{ParseFault}
use Rattle.ds_grammar.specs.Sort.{Lexeme, Sort, TypeOf}
use Rattle.ds_grammar.specs.Grammar.{Mark, Grammar}
use Rattle.ds_grammar.specs.Form.{Form, Front, IsFront, DeadEnd}
use Rattle.ds_grammar.specs.Fault.{AreWithin, IsBreachIn, IsLeastBreach, IsWorst, IsFault, breach_fault, dead_fault}
use Rattle.ds_grammar.specs.Reading.{Place, Reading, start, value_at}
use Rattle.ds_grammar.specs.Parsed.{Spells, Refuses, settled_by, answer, IsAnswer, SpellWhole, RefuseWhole, ended_by}
use Rattle.ds_grammar.specs.Parsed.{whole_by, whole_answer, IsWholeAnswer}
use Rattle.ds_grammar.specs.Laws.{Answers, AnswersAreExact, SpelledIsAnswered, RefusedIsAnswered}
use Rattle.ds_grammar.specs.Laws.{WholeAnswersAreExact, WholesAreAnswered, RefusedWholesAreAnswered}
use Rattle.ds_grammar.specs.Laws.{WholesAreNotRefused}
use Rattle.ds_grammar.proofs.Laws.{reading_exact, forms_read, prefixes, dead_ends_unique, marks_unique}
use Rattle.ds_grammar.proofs.Worst.{least_made, one_least}

settled_is : {a : Sort} (g : Grammar a) (ts : List Lexeme) (end : ℕ) (front rest : List Lexeme) (v : TypeOf a)
    (ms : List Mark) (o : Option Breach)
    → DeadEnd g ts front rest → Form g front [] v ms → IsWorst ms o → IsAnswer g ts end (settled_by o v (length rest))
unfolding Spells Refuses
settled_is g ts end front rest v ms None d h w = (
  length front,
  (front, rest, ms, d, h, w, refl),
  let e = ap length d.whole in
      omega (arith, e, length-append front rest),
)
settled_is g ts end front rest v ms (Some b) d h w = (front, rest, ms, d, inr (v, h), inl (b, w, refl))

refused_is : {a : Sort} (g : Grammar a) (ts : List Lexeme) (end : ℕ) (front rest : List Lexeme) (ms : List Mark)
    (f : ParseFault)
    → DeadEnd g ts front rest → Front g front ms → ((v : TypeOf a) (ks : List Mark) → Form g front [] v ks → ⊥)
    → IsFault ms (dead_fault end rest) f → Refuses g ts end f
unfolding Refuses
refused_is g ts end front rest ms f d h none (inl (b, least, e)) = (front, rest, ms, d, h, inl (b, least, e))
refused_is g ts end front rest ms f d h none (inr (w, e)) = (front, rest, ms, d, h, inr (w, none, e))

answer_is : {a : Sort} (g : Grammar a) (ts : List Lexeme) (end : ℕ) (r : Reading (TypeOf a)) → Answers g ts end r
    → IsAnswer g ts end (answer r)
answer_is g ts end (Ok (v, p)) (front, ms, d, h, w, e) = settled_is g ts end front p.left v ms p.worst d h w
answer_is g ts end (Err f) (front, rest, ms, d, h, none, x) = refused_is g ts end front rest ms f d h none x

pub answers_exact : AnswersAreExact
answers_exact a g ts end = answer_is g ts end (value_at g (start ts end)) (reading_exact a g ts end)

none_worst : (ms : List Mark) (o : Option Breach) → AreWithin ms → IsWorst ms o → o ≡ None
none_worst ms None h w = refl
none_worst ms (Some b) h w = absurd (h b (least_made ms b w))

pub spelled_answered : SpelledIsAnswered
unfolding Spells
spelled_answered a g ts end v n (front, rest, ms, d, h, w, count) =
    let r = forms_read a g ts end front rest v ms d h in (
      length r.0.left,
      ap answer r.1 ∙ ap (λ o. settled_by o v (length r.0.left)) (none_worst ms r.0.worst w r.3),
      let e = ap length d.whole in let l = ap length r.2 in omega (arith, e, l, count, length-append front rest),
    )

-- A WHOLE TEXT

-- behind a dead end no tokens have the form
past_dead : {a : Sort} (g : Grammar a) (ts front : List Lexeme) (t : Lexeme) (rest : List Lexeme)
    → DeadEnd g ts front (t ∷ rest) → (v : TypeOf a) (ks : List Mark) → Form g ts [] v ks → ⊥
past_dead {a} g ts front t rest d v ks h =
    d.dead (prefixes a g (front ++ t ∷ []) rest (subst (IsFront g) (d.whole ∙ sym (append_assoc front (t ∷ []) rest))
    (ks, inr (v, h))))

-- tokens of which none is left behind these are these
none_left : (ts front rest : List Lexeme) → ts ≡ front ++ rest → rest ≡ [] → front ≡ ts
none_left ts front rest e n = sym (append-nil front) ∙ ap (λ r. front ++ r) (sym n) ∙ sym e

whole_is : {a : Sort} (g : Grammar a) (ts : List Lexeme) (end : ℕ) (front rest : List Lexeme) (v : TypeOf a)
    (ms : List Mark) (o : Option Breach)
    → DeadEnd g ts front rest → Form g front [] v ms → IsWorst ms o → IsWholeAnswer g ts end (whole_by o end v rest)
unfolding SpellWhole RefuseWhole
whole_is g ts end front [] v ms None d h w =
    (ms, subst (λ us. Form g us [] v ms) (none_left ts front [] d.whole refl) h, w)
whole_is g ts end front (t ∷ rest) v ms None d h w =
    (front, t ∷ rest, ms, d, inr (v, h), inr (w, past_dead g ts front t rest d, refl))
whole_is g ts end front rest v ms (Some b) d h w = (front, rest, ms, d, inr (v, h), inl (b, w, refl))

-- where the tokens before the dead end have not the form, all have not
no_whole : {a : Sort} (g : Grammar a) (ts front rest : List Lexeme) → DeadEnd g ts front rest
    → ((v : TypeOf a) (ks : List Mark) → Form g front [] v ks → ⊥)
    → (v : TypeOf a) (ks : List Mark) → Form g ts [] v ks → ⊥
no_whole g ts front [] d none v ks h =
    none v ks (subst (λ us. Form g us [] v ks) (sym (none_left ts front [] d.whole refl)) h)
no_whole g ts front (t ∷ rest) d none v ks h = past_dead g ts front t rest d v ks h

whole_refused : {a : Sort} (g : Grammar a) (ts : List Lexeme) (end : ℕ) (front rest : List Lexeme) (ms : List Mark)
    (f : ParseFault)
    → DeadEnd g ts front rest → Front g front ms → ((v : TypeOf a) (ks : List Mark) → Form g front [] v ks → ⊥)
    → IsFault ms (dead_fault end rest) f → RefuseWhole g ts end f
unfolding RefuseWhole
whole_refused g ts end front rest ms f d h none (inl (b, least, e)) = (front, rest, ms, d, h, inl (b, least, e))
whole_refused g ts end front rest ms f d h none (inr (w, e)) =
    (front, rest, ms, d, h, inr (w, no_whole g ts front rest d none, e))

whole_answer_is : {a : Sort} (g : Grammar a) (ts : List Lexeme) (end : ℕ) (r : Reading (TypeOf a))
    → Answers g ts end r → IsWholeAnswer g ts end (whole_answer r)
whole_answer_is g ts end (Ok (v, p)) (front, ms, d, h, w, e) =
    subst (λ n. IsWholeAnswer g ts end (whole_by p.worst n v p.left)) (sym e)
    (whole_is g ts end front p.left v ms p.worst d h w)
whole_answer_is g ts end (Err f) (front, rest, ms, d, h, none, x) = whole_refused g ts end front rest ms f d h none x

pub whole_exact : WholeAnswersAreExact
whole_exact a g ts end = whole_answer_is g ts end (value_at g (start ts end)) (reading_exact a g ts end)

-- tokens that have the form are followed by the end of the text
end_is_dead : {a : Sort} (g : Grammar a) (ts : List Lexeme) (v : TypeOf a) (ms : List Mark) → Form g ts [] v ms
    → DeadEnd g ts ts []
end_is_dead {a} g ts v ms h = record {
  whole = sym (append-nil ts);
  fronts = λ us vs e. prefixes a g us vs (subst (IsFront g) e (ms, inr (v, h)));
  dead = tt;
}

whole_read : {A : Type 0} (v : A) (p : Place) → p.worst ≡ None → p.left ≡ [] → whole_answer (Ok (v, p)) ≡ Ok v
whole_read v p w l = ap (λ o. whole_by o p.end v p.left) w ∙ ap (λ ts. ended_by p.end v ts) l

pub wholes_answered : WholesAreAnswered
unfolding SpellWhole
wholes_answered a g ts end v (ms, h, w) =
    let r = forms_read a g ts end ts [] v ms (end_is_dead g ts v ms h) h in
    ap whole_answer r.1 ∙ whole_read v r.0 (none_worst ms r.0.worst w r.3) r.2

-- marks that all are within have no least breach
no_breach : {a : Sort} (g : Grammar a) (ts front rest : List Lexeme) (v : TypeOf a) (ms ks : List Mark) (b : Breach)
    → DeadEnd g ts front rest → Form g ts [] v ms → AreWithin ms
    → Front g front ks → IsLeastBreach ks b → ⊥
no_breach {a} g ts front rest v ms ks b d h w x least =
    let same = dead_ends_unique a g ts front rest ts [] d (end_is_dead g ts v ms h) in
    let marks = marks_unique a g ts ks ms (subst (λ us. Front g us ks) same.0 x) (inr (v, h)) in
    w b (subst (λ ls. IsBreachIn ls b) marks (least_made ks b least))

pub not_refused : WholesAreNotRefused
unfolding SpellWhole RefuseWhole
not_refused a g ts end v f (ms, h, w) (front, rest, ks, d, x, inl (b, least, e)) =
    no_breach g ts front rest v ms ks b d h w x least
not_refused a g ts end v f (ms, h, w) (front, rest, ks, d, x, inr (within, none, e)) = none v ms h

-- ONE FAULT

-- by the same marks and the same dead end there is one fault
same_fault : {A B : Type 0} (ks ms : List Mark) (d d' f g : ParseFault) → ks ≡ ms → d ≡ d'
    → ((b : Breach) × IsLeastBreach ks b × (f ≡ breach_fault b)) ⊎ (AreWithin ks × A × (f ≡ d))
    → ((b : Breach) × IsLeastBreach ms b × (g ≡ breach_fault b)) ⊎ (AreWithin ms × B × (g ≡ d')) → f ≡ g
same_fault ks ms d d' f g same dead (inl (b, h, e)) (inl (c, k, i)) =
    e ∙ ap breach_fault (one_least ms b c (subst (λ ls. IsLeastBreach ls b) same h) k) ∙ sym i
same_fault ks ms d d' f g same dead (inl (b, h, e)) (inr (w, n, i)) =
    absurd (w b (least_made ms b (subst (λ ls. IsLeastBreach ls b) same h)))
same_fault ks ms d d' f g same dead (inr (w, n, e)) (inl (c, k, i)) =
    absurd (w c (least_made ks c (subst (λ ls. IsLeastBreach ls c) (sym same) k)))
same_fault ks ms d d' f g same dead (inr (w, n, e)) (inr (w', n', i)) = e ∙ dead ∙ sym i

-- the fronts of two dead ends have the same marks
same_marks : {a : Sort} (g : Grammar a) (ts front rest front' rest' : List Lexeme) (ks ms : List Mark)
    → DeadEnd g ts front rest → DeadEnd g ts front' rest'
    → Front g front ks → Front g front' ms → ks ≡ ms
same_marks {a} g ts front rest front' rest' ks ms d d' x y =
    marks_unique a g front' ks ms (subst (λ us. Front g us ks)
    (dead_ends_unique a g ts front rest front' rest' d d').0 x) y

same_refusal : {a : Sort} (g : Grammar a) (ts : List Lexeme) (end : ℕ) (f f' : ParseFault) → Refuses g ts end f
    → Refuses g ts end f' → f ≡ f'
unfolding Refuses
same_refusal {a} g ts end f f' (front, rest, ks, d, x, h) (front', rest', ms, d', y, k) =
    same_fault ks ms (dead_fault end rest) (dead_fault end rest') f f'
    (same_marks g ts front rest front' rest' ks ms d d' x y)
    (ap (dead_fault end) (dead_ends_unique a g ts front rest front' rest' d d').1) h k

not_both : {a : Sort} (g : Grammar a) (ts : List Lexeme) (end : ℕ) (v : TypeOf a) (n : ℕ) (f : ParseFault)
    → Spells g ts v n → Refuses g ts end f → ⊥
unfolding Spells Refuses
not_both g ts end v n f (front, rest, ms, d, h, w, count) (front', rest', ks, d', x, inl (b, least, e)) =
    w b (subst (λ ls. IsBreachIn ls b) (same_marks g ts front' rest' front rest ks ms d' d x (inr (v, h)))
    (least_made ks b least))
not_both {a} g ts end v n f (front, rest, ms, d, h, w, count) (front', rest', ks, d', x, inr (within, none, e)) =
    none v ms (subst (λ us. Form g us [] v ms) (dead_ends_unique a g ts front rest front' rest' d d').0 h)

refused_by : {a : Sort} (g : Grammar a) (ts : List Lexeme) (end : ℕ) (f : ParseFault)
    (r : Result (TypeOf a × ℕ) ParseFault)
    → IsAnswer g ts end r → Refuses g ts end f → r ≡ Err f
refused_by g ts end f (Ok (v, left)) (n, h, count) k = absurd (not_both g ts end v n f h k)
refused_by g ts end f (Err f') h k = ap Err (same_refusal g ts end f' f h k)

pub refused_answered : RefusedIsAnswered
refused_answered a g ts end f h =
    refused_by g ts end f (answer (value_at g (start ts end))) (answers_exact a g ts end) h

same_whole_refusal : {a : Sort} (g : Grammar a) (ts : List Lexeme) (end : ℕ) (f f' : ParseFault)
    → RefuseWhole g ts end f → RefuseWhole g ts end f' → f ≡ f'
unfolding RefuseWhole
same_whole_refusal {a} g ts end f f' (front, rest, ks, d, x, h) (front', rest', ms, d', y, k) =
    same_fault ks ms (dead_fault end rest) (dead_fault end rest') f f'
    (same_marks g ts front rest front' rest' ks ms d d' x y)
    (ap (dead_fault end) (dead_ends_unique a g ts front rest front' rest' d d').1) h k

whole_refused_by : {a : Sort} (g : Grammar a) (ts : List Lexeme) (end : ℕ) (f : ParseFault)
    (r : Result (TypeOf a) ParseFault)
    → IsWholeAnswer g ts end r → RefuseWhole g ts end f → r ≡ Err f
whole_refused_by {a} g ts end f (Ok v) h k = absurd (not_refused a g ts end v f h k)
whole_refused_by g ts end f (Err f') h k = ap Err (same_whole_refusal g ts end f' f h k)

pub refused_wholes_answered : RefusedWholesAreAnswered
refused_wholes_answered a g ts end f h =
    whole_refused_by g ts end f (whole_answer (value_at g (start ts end))) (whole_exact a g ts end) h
