-- What is read is what the relations say.
use Rattle.std.proofs.Common.{◌≡◌, ℕ, zero, suc, ◌≤◌, List, [], ◌∷◌, ◌++◌, length, refl, sym, ap, subst, inl, inr}
use Rattle.std.proofs.Common.{◌⊎◌, arith, append_assoc}
use Rattle.std.proofs.lemmas.List.{length-append}
use Rattle.std.specs.Prelude.{Option, Some, None}
use Rattle.ds_grammar.specs.Sort.{Lexeme, Sort}
use Rattle.ds_grammar.specs.Grammar.{Mark, Grammar, Done, One, Then, Marked, Loop}
use Rattle.ds_grammar.specs.Form.{Reads, Breaks, Both, Behind, Ends, Run, RunBreaks, Form, Stops}
use Rattle.ds_grammar.proofs.Outcome.{Outcome, got, short, dead, Reader, with_marks, bind, took, round, rounds, read}

-- fewer tokens behind do no harm
abbrev pub Shortens : {A : Type 0} → Reads A → Type 0
Shortens {A} reads = (us vs ws : List Lexeme) (a : A) (ms : List Mark) → reads us (vs ++ ws) a ms → reads us vs a ms

shortens_both : {A B : Type 0} (first : Reads A) (next : A → Reads B) → Shortens first → ((a : A) → Shortens (next a))
    → Shortens (Both first next)
shortens_both first next f g us vs ws b ms (a, us1, us2, ks, ls, e, m, x, y) =
    (a, us1, us2, ks, ls, e, m, f us1 (us2 ++ vs) ws a ks (rw append_assoc x), g a us2 vs ws b ls y)

ends_shorter : {A : Type 0} (test : Lexeme → Option A) (vs ws : List Lexeme) → Ends test (vs ++ ws) → Ends test vs
ends_shorter test [] ws h = tt
ends_shorter test (t ∷ vs) ws h = h

shortens_run : {S A : Type 0} (test : S → Lexeme → Option A) (item : S → A → Reads S)
    → ((s : S) (a : A) → Shortens (item s a)) → (n : ℕ) (s : S) → Shortens (Run test item n s)
shortens_run test item f zero s us vs ws r ms (e, i, m, ends) = (e, i, m, ends_shorter (test s) vs ws ends)
shortens_run test item f (suc n) s us vs ws r ms (t, xs, a, e, takes, b) = (
  t,
  xs,
  a,
  e,
  takes,
  shortens_both (item s a) (Run test item n) (f s a)
      (λ q. shortens_run test item f n q) xs vs ws r ms b,
)

pub shortens : {a : Sort} (g : Grammar a) → Shortens (Form g)
shortens (Done v) us vs ws r ms h = h
shortens (One value) us vs ws r ms h = h
shortens (Then first next) us vs ws r ms h =
    shortens_both (Form first) (λ v. Form (next v)) (shortens first) (λ v. shortens (next v)) us vs ws r ms h
shortens (Marked mark rest) us vs ws r ms (ls, e, h) = (ls, e, shortens rest us vs ws r ls h)
shortens (Loop a test item s) us vs ws r ms (n, h) =
    (n, shortens_run test (λ s v. Form (item s v)) (λ s v. shortens (item s v)) n s us vs ws r ms h)

-- what an outcome on tokens says
abbrev pub Told : {A : Type 0} → Reads A → Breaks → List Lexeme → Outcome A → Type 0
Told reads breaks ts (got a ms rest) = (us : List Lexeme) × (ts ≡ us ++ rest) × reads us rest a ms
Told reads breaks ts (short ms) = breaks ts ms
Told reads breaks ts (dead ms t rest) = (us : List Lexeme) × (ts ≡ us ++ t ∷ rest) × breaks us ms

told_took : {A : Type 0} (value : Lexeme → Option A) (t : Lexeme) (ts : List Lexeme) (o : Option A) → value t ≡ o
    → Told (λ us behind r ms. (x : Lexeme) × (us ≡ x ∷ []) × (value x ≡ Some r) × (ms ≡ []))
    (λ us ms. (us ≡ []) × (ms ≡ [])) (t ∷ ts) (took o t ts)
told_took value t ts None e = ([], refl, (refl, refl))
told_took value t ts (Some a) e = (t ∷ [], refl, (t, refl, e, refl))

told_marked : {A : Type 0} (mark : Mark) (reads : Reads A) (breaks : Breaks) (ts : List Lexeme) (o : Outcome A)
    → Told reads breaks ts o
    → Told (λ us behind r ms. (ls : List Mark) × (ms ≡ mark ∷ ls) × reads us behind r ls)
    (λ us ms. (ls : List Mark) × (ms ≡ mark ∷ ls) × breaks us ls) ts (with_marks (mark ∷ []) o)
told_marked mark reads breaks ts (got a ms rest) (us, e, h) = (us, e, (ms, refl, h))
told_marked mark reads breaks ts (short ms) h = (ms, refl, h)
told_marked mark reads breaks ts (dead ms t rest) (us, e, h) = (us, e, (ms, refl, h))

-- the first was read, and what is behind it gave this
told_next : {A B : Type 0} (first : Reads A) (stops : Breaks) (next : A → Reads B) (breaks : A → Breaks)
    → Shortens first
    → (a : A) (us rest : List Lexeme) (ks : List Mark) → first us rest a ks → (o : Outcome B)
    → Told (next a) (breaks a) rest o
    → Told (Both first next) (λ ts ms. stops ts ms ⊎ Behind first breaks ts ms) (us ++ rest) (with_marks ks o)
told_next first stops next breaks f a us rest ks h (got b ls ts) (vs, e, y) =
    (us ++ vs, rw (e, append_assoc), (a, us, vs, ks, ls, refl, refl, subst (λ r. first us r a ks) e h, y))
told_next first stops next breaks f a us rest ks h (short ls) y = inr (a, us, rest, ks, ls, refl, refl, h, y)
told_next first stops next breaks f a us rest ks h (dead ls t ts) (vs, e, y) = (
  us ++ vs,
  rw (e, append_assoc),
  inr (
    a,
    us,
    vs,
    ks,
    ls,
    refl,
    refl,
    f us vs (t ∷ ts) a ks
        (subst (λ r. first us r a ks) e h),
    y,
  ),
)

told_bind : {A B : Type 0} (first : Reads A) (stops : Breaks) (next : A → Reads B) (breaks : A → Breaks)
    → Shortens first
    → (k : A → Reader B) (ts : List Lexeme) → ((a : A) (us rest : List Lexeme) → ts ≡ us ++ rest
    → Told (next a) (breaks a) rest (k a rest))
    → (o : Outcome A) → Told first stops ts o
    → Told (Both first next) (λ ts ms. stops ts ms ⊎ Behind first breaks ts ms) ts (bind o k)
told_bind first stops next breaks f k ts g (got a ks rest) (us, e, h) =
    subst (λ xs. Told (Both first next) (λ ts ms. stops ts ms ⊎ Behind first breaks ts ms) xs
    (with_marks ks (k a rest))) (sym e)
    (told_next first stops next breaks f a us rest ks h (k a rest) (g a us rest e))
told_bind first stops next breaks f k ts g (short ks) h = inl h
told_bind first stops next breaks f k ts g (dead ks t rest) (us, e, h) = (us, e, inl h)

module _ {S A : Type 0} (test : S → Lexeme → Option A) (item : S → A → Reads S) (breaks : S → A → Breaks) where
  abbrev pub Runs : S → Reads S
  Runs s us behind r ms = (n : ℕ) × Run test item n s us behind r ms

  abbrev pub RunStops : S → Breaks
  RunStops s us ms = (n : ℕ) × RunBreaks test item breaks n s us ms

  told_more : (s : S) (t : Lexeme) (ts : List Lexeme) (a : A) → test s t ≡ Some a → (o : Outcome S)
      → Told (Both (item s a) Runs) (λ ts ms. breaks s a ts ms ⊎ Behind (item s a) RunStops ts ms) ts o
      → Told (Runs s) (RunStops s) (t ∷ ts) o
  told_more s t ts a takes (got r ms rest) (us, e, (q, us1, us2, ks, ls, e2, m, x, (n, y))) =
      (t ∷ us, ap (λ xs. t ∷ xs) e, (suc n, (t, us, a, refl, takes, (q, us1, us2, ks, ls, e2, m, x, y))))
  told_more s t ts a takes (short ms) (inl h) = (zero, (t, ts, a, refl, takes, h))
  told_more s t ts a takes (short ms) (inr (q, us1, us2, ks, ls, e2, m, x, (n, y))) =
      (suc n, (t, ts, a, refl, takes, (q, us1, us2, ks, ls, e2, m, x, y)))
  told_more s t ts a takes (dead ms d rest) (us, e, inl h) =
      (t ∷ us, ap (λ xs. t ∷ xs) e, (zero, (t, us, a, refl, takes, h)))
  told_more s t ts a takes (dead ms d rest) (us, e, inr (q, us1, us2, ks, ls, e2, m, x, (n, y))) =
      (t ∷ us, ap (λ xs. t ∷ xs) e, (suc n, (t, us, a, refl, takes, (q, us1, us2, ks, ls, e2, m, x, y))))

  module _ (f : (s : S) (a : A) → Shortens (item s a)) (k : S → A → Reader S)
      (told_item : (s : S) (a : A) (ts : List Lexeme) → Told (item s a) (breaks s a) ts (k s a ts)) where
    told_round : (n : ℕ) → ((s : S) (ts : List Lexeme) → length ts ≤ n
        → Told (Runs s) (RunStops s) ts (rounds test k n s ts))
        → (s : S) (t : Lexeme) (ts : List Lexeme) → length ts ≤ n → (o : Option A) → test s t ≡ o
        → Told (Runs s) (RunStops s) (t ∷ ts) (round (k s) (rounds test k n) s o t ts)
    told_round n h s t ts le None e = ([], refl, (zero, (refl, refl, refl, e)))
    told_round n h s t ts le (Some a) e =
        told_more s t ts a e (bind (k s a ts) (rounds test k n))
        (told_bind (item s a) (breaks s a) Runs RunStops (f s a) (rounds test k n) ts
        (λ q us rest is. h q rest (let lens = ap length is in omega (arith, lens, length-append us rest))) (k s a ts)
        (told_item s a ts))

    told_rounds : (n : ℕ) (s : S) (ts : List Lexeme) → length ts ≤ n
        → Told (Runs s) (RunStops s) ts (rounds test k n s ts)
    told_rounds n s [] le = ([], refl, (zero, (refl, refl, refl, tt)))
    told_rounds zero s (t ∷ ts) le = absurd (omega arith)
    told_rounds (suc n) s (t ∷ ts) le = told_round n (told_rounds n) s t ts (omega arith) (test s t) refl

pub told : {a : Sort} (g : Grammar a) (ts : List Lexeme) → Told (Form g) (Stops g) ts (read g ts)
told (Done v) ts = ([], refl, (refl, refl, refl))
told (One value) [] = (refl, refl)
told (One value) (t ∷ ts) = told_took value t ts (value t) refl
told (Then first next) ts =
    told_bind (Form first) (Stops first) (λ v. Form (next v)) (λ v. Stops (next v)) (shortens first)
    (λ v us. read (next v) us) ts (λ v us rest e. told (next v) rest) (read first ts) (told first ts)
told (Marked mark rest) ts = told_marked mark (Form rest) (Stops rest) ts (read rest ts) (told rest ts)
told (Loop a test item s) ts =
    told_rounds test (λ s v. Form (item s v)) (λ s v. Stops (item s v)) (λ s v. shortens (item s v))
    (λ s v us. read (item s v) us) (λ s v us. told (item s v) us) (length ts) s ts (omega arith)
