-- The breach that is kept is the least, by the earliest mark; there is one at most.
use Rattle.std.proofs.Common.{◌≡◌, ◌≤◌, ◌<◌, Bool, true, false, List, [], ◌∷◌, ◌++◌, refl, sym, ap, ◌∙◌, subst, inl}
use Rattle.std.proofs.Common.{inr, ◌⊎◌, arith}
use Rattle.std.proofs.lemmas.Bool.{ltb-true, ltb-false}
use Rattle.std.proofs.lemmas.List.{append-nil, append_assoc}
use Rattle.std.specs.Prelude.{Option, Some, None, nat_lt, if◌then◌else◌}
use Rattle.ds_grammar.specs.declared.fault.Breach.{Breach}
use Rattle.ds_grammar.specs.declared.fault.ParseFault.{ParseFault}
use Rattle.ds_grammar.specs.Grammar.{Mark}
use Rattle.ds_grammar.specs.Fault.{IsBreachIn, IsLeastBreach, IsWorst, IsFault}
use Rattle.ds_grammar.specs.Reading.{lesser, worse, refusal}
use Rattle.ds_grammar.proofs.Threaded.{worst_of}

-- what the marks make that are two lists in a row
made_of : (ks ls : List Mark) (b : Breach) → IsBreachIn (ks ++ ls) b → IsBreachIn ks b ⊎ IsBreachIn ls b
made_of [] ls b h = inr h
made_of (k ∷ ks) ls b (inl h) = inl (inl h)
made_of (k ∷ ks) ls b (inr h) = more (made_of ks ls b h)
  where
    more : IsBreachIn ks b ⊎ IsBreachIn ls b → IsBreachIn (k ∷ ks) b ⊎ IsBreachIn ls b
    more (inl x) = inl (inr x)
    more (inr x) = inr x

pub made_right : (ks ls : List Mark) (b : Breach) → IsBreachIn ls b → IsBreachIn (ks ++ ls) b
made_right [] ls b h = h
made_right (k ∷ ks) ls b h = inr (made_right ks ls b h)

-- the least breach is made
pub least_made : (ms : List Mark) (b : Breach) → IsLeastBreach ms b → IsBreachIn ms b
least_made ms b h =
    subst (λ ls. IsBreachIn ls b) (sym h.split) (made_right h.before (h.mark ∷ h.behind) b (inl (h.made, h.is)))

-- none is less
least_of : (ms : List Mark) (b : Breach) → IsLeastBreach ms b → (c : Breach) → IsBreachIn ms c → b.at ≤ c.at
least_of ms b h c x = by_part (made_of h.before (h.mark ∷ h.behind) c (subst (λ ls. IsBreachIn ls c) h.split x))
  where
    by_part : IsBreachIn h.before c ⊎ IsBreachIn (h.mark ∷ h.behind) c → b.at ≤ c.at
    by_part (inl y) = let lt = h.earliest c y in omega (arith, lt)
    by_part (inr (inl y)) = let same = ap (λ (x : Breach). x.at) (sym h.is) in
        let at = ap (λ (x : Breach). x.at) y.1 in omega (arith, same, at)
    by_part (inr (inr y)) = h.least c y

-- ONE MARK MORE

none_more : (ms : List Mark) (m : Mark) → m.within ≡ true → IsWorst ms None → IsWorst (ms ++ m ∷ []) None
none_more ms m e h b x = by_part (made_of ms (m ∷ []) b x)
  where
    by_part : IsBreachIn ms b ⊎ IsBreachIn (m ∷ []) b → ⊥
    by_part (inl y) = h b y
    by_part (inr (inl y)) = cc (e, y.0)
    by_part (inr (inr y)) = y

-- the least breach stays where the mark makes no lesser one
stays : (ms : List Mark) (m : Mark) (b : Breach) → (m.within ≡ false → b.at ≤ m.breach.at) → IsLeastBreach ms b
    → IsLeastBreach (ms ++ m ∷ []) b
stays ms m b le h = record {
  before = h.before;
  mark = h.mark;
  behind = h.behind ++ m ∷ [];
  split = ap (λ ls. ls ++ m ∷ []) h.split ∙ append_assoc h.before (h.mark ∷ h.behind) (m ∷ []);
  made = h.made;
  is = h.is;
  earliest = h.earliest;
  least = λ c x. by_part c (made_of h.behind (m ∷ []) c x);
}
  where
    by_part : (c : Breach) → IsBreachIn h.behind c ⊎ IsBreachIn (m ∷ []) c → b.at ≤ c.at
    by_part c (inl y) = h.least c y
    by_part c (inr (inl y)) = let at = ap (λ (x : Breach). x.at) y.1 in let l = le y.0 in omega (arith, at, l)
    by_part c (inr (inr y)) = absurd y

-- the mark makes a breach at a lesser place than all before it
taken : (ms : List Mark) (m : Mark) → m.within ≡ false → ((c : Breach) → IsBreachIn ms c → m.breach.at < c.at)
    → IsLeastBreach (ms ++ m ∷ []) m.breach
taken ms m out lt = record {
  before = ms;
  mark = m;
  behind = [];
  split = refl;
  made = out;
  is = refl;
  earliest = lt;
  least = λ c x. absurd x;
}

lesser_more : (ms : List Mark) (m : Mark) (c : Breach) (t : Bool) → m.within ≡ false → nat_lt m.breach.at c.at ≡ t
    → IsLeastBreach ms c
    → IsWorst (ms ++ m ∷ []) (if t then Some m.breach else Some c)
lesser_more ms m c true out e h = taken ms m out
    (λ d x. let lt = ltb-true m.breach.at c.at e in let le = least_of ms c h d x in omega (arith, lt, le))
lesser_more ms m c false out e h = stays ms m c (λ o. ltb-false m.breach.at c.at e) h

worse_more : (ms : List Mark) (m : Mark) (w : Option Breach) (t : Bool) → m.within ≡ t → IsWorst ms w
    → IsWorst (ms ++ m ∷ []) (if t then w else lesser w m.breach)
worse_more ms m None true e h = none_more ms m e h
worse_more ms m (Some c) true e h = stays ms m c (λ o. absurd (cc (e, o))) h
worse_more ms m None false e h = taken ms m e (λ c x. absurd (h c x))
worse_more ms m (Some c) false e h = lesser_more ms m c (nat_lt m.breach.at c.at) e refl h

-- ALL MARKS

worst_behind : (ks ls : List Mark) (w : Option Breach) → IsWorst ks w → IsWorst (ks ++ ls) (worst_of w ls)
worst_behind ks [] w h = subst (λ ms. IsWorst ms w) (sym (append-nil ks)) h
worst_behind ks (m ∷ ls) w h =
    subst (λ ms. IsWorst ms (worst_of (worse w m) ls)) (append_assoc ks (m ∷ []) ls)
    (worst_behind (ks ++ m ∷ []) ls (worse w m) (worse_more ks m w m.within refl h))

pub worst_is : (ms : List Mark) → IsWorst ms (worst_of None ms)
worst_is ms = worst_behind [] ms None (λ b x. x)

fault_by : (ms : List Mark) (f : ParseFault) (o : Option Breach) → IsWorst ms o → IsFault ms f (refusal o f)
fault_by ms f None h = inr (h, refl)
fault_by ms f (Some b) h = inl (b, h, refl)

pub fault_is : (ms : List Mark) (f : ParseFault) → IsFault ms f (refusal (worst_of None ms) f)
fault_is ms f = fault_by ms f (worst_of None ms) (worst_is ms)

-- THERE IS ONE AT MOST

-- of two marks at which a list is split, each the least, neither stands before the other
one_mark : (before before' behind behind' : List Mark) (m m' : Mark) → before ++ m ∷ behind ≡ before' ++ m' ∷ behind'
    → m.within ≡ false → m'.within ≡ false
    → ((c : Breach) → IsBreachIn before c → m.breach.at < c.at)
    → ((c : Breach) → IsBreachIn behind c → m.breach.at ≤ c.at)
    → ((c : Breach) → IsBreachIn before' c → m'.breach.at < c.at)
    → ((c : Breach) → IsBreachIn behind' c → m'.breach.at ≤ c.at) → m ≡ m'
one_mark [] [] rs ss m m' e out out' lt le lt' le' = cc (e)
one_mark [] (x ∷ xs) rs ss m m' e out out' lt le lt' le' =
    let same : m ≡ x = cc (e) in
    let left : rs ≡ xs ++ m' ∷ ss = cc (e) in
    let p = lt' m.breach (inl (subst (λ (k : Mark). (k.within ≡ false) × (k.breach ≡ m.breach)) same (out, refl))) in
    let q = le m'.breach (subst (λ ls. IsBreachIn ls m'.breach) (sym left)
    (made_right xs (m' ∷ ss) m'.breach (inl (out', refl)))) in
    absurd (omega (arith, p, q))
one_mark (x ∷ xs) [] rs ss m m' e out out' lt le lt' le' =
    let same : x ≡ m' = cc (e) in
    let left : xs ++ m ∷ rs ≡ ss = cc (e) in
    let p =
    lt m'.breach (inl (subst (λ (k : Mark). (k.within ≡ false) × (k.breach ≡ m'.breach)) (sym same) (out', refl))) in
    let q =
    le' m.breach (subst (λ ls. IsBreachIn ls m.breach) left (made_right xs (m ∷ rs) m.breach (inl (out, refl)))) in
    absurd (omega (arith, p, q))
one_mark (x ∷ xs) (y ∷ ys) rs ss m m' e out out' lt le lt' le' =
    one_mark xs ys rs ss m m' (cc (e)) out out' (λ c h. lt c (inr h)) le (λ c h. lt' c (inr h)) le'

pub one_least : (ms : List Mark) (b c : Breach) → IsLeastBreach ms b → IsLeastBreach ms c → b ≡ c
one_least ms b c h k =
    sym h.is ∙ ap (λ (m : Mark). m.breach) (one_mark h.before k.before h.behind k.behind h.mark k.mark
    (sym h.split ∙ k.split) h.made k.made
    (λ d x. subst (λ (a : Breach). a.at < d.at) (sym h.is) (h.earliest d x))
    (λ d x. subst (λ (a : Breach). a.at ≤ d.at) (sym h.is) (h.least d x))
    (λ d x. subst (λ (a : Breach). a.at < d.at) (sym k.is) (k.earliest d x))
    (λ d x. subst (λ (a : Breach). a.at ≤ d.at) (sym k.is) (k.least d x))) ∙ k.is
