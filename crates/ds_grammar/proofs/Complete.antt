-- What the relations say is what is read: so they determine values and marks.
use Rattle.std.proofs.Common.{◌≡◌, ℕ, zero, suc, ◌≤◌, ◌+◌, List, [], ◌∷◌, ◌++◌, length, refl, ap, inl, inr, arith}
use Rattle.std.proofs.Common.{append_assoc}
use Rattle.std.proofs.lemmas.List.{length-append}
use Rattle.std.specs.Prelude.{Option}
use Rattle.ds_grammar.specs.Sort.{Lexeme, Sort, TypeOf}
use Rattle.ds_grammar.specs.Grammar.{Mark, Grammar, Done, One, Then, Marked, Loop}
use Rattle.ds_grammar.specs.Form.{Reads, Breaks, Ends, Run, RunBreaks, Form, Stops}
use Rattle.ds_grammar.proofs.Outcome.{got, short, Reader, bind, rounds, read}

joined : {A B : Type 0} (first : Reader A) (next : A → Reader B) (us vs behind : List Lexeme) (a : A) (b : B)
    (ks ls : List Mark)
    → first (us ++ (vs ++ behind)) ≡ got a ks (vs ++ behind) → next a (vs ++ behind) ≡ got b ls behind
    → bind (first ((us ++ vs) ++ behind)) next ≡ got b (ks ++ ls) behind
joined first next us vs behind a b ks ls p q = rw (append_assoc us vs behind, p, q)

joined_short : {A B : Type 0} (first : Reader A) (next : A → Reader B) (us vs : List Lexeme) (a : A)
    (ks ls : List Mark)
    → first (us ++ vs) ≡ got a ks vs → next a vs ≡ short ls → bind (first (us ++ vs)) next ≡ short (ks ++ ls)
joined_short first next us vs a ks ls p q = rw (p, q)

module _ {S A : Type 0} (test : S → Lexeme → Option A) (item : S → A → Reads S) (k : S → A → Reader S)
    (reads_item : (s : S) (a : A) (us behind : List Lexeme) (r : S) (ms : List Mark) → item s a us behind r ms
    → k s a (us ++ behind) ≡ got r ms behind) where
  rounds_end : (fuel : ℕ) (s : S) (behind : List Lexeme) → Ends (test s) behind
      → rounds test k fuel s behind ≡ got s [] behind
  rounds_end fuel s [] ends = refl
  rounds_end zero s (t ∷ ts) ends = refl
  rounds_end (suc fuel) s (t ∷ ts) ends = rw ends

  rounds_form : (n fuel : ℕ) (s : S) (us behind : List Lexeme) (r : S) (ms : List Mark)
      → length us + length behind ≤ fuel → Run test item n s us behind r ms
      → rounds test k fuel s (us ++ behind) ≡ got r ms behind
  rounds_form zero fuel s us behind r ms le (e, i, m, ends) = rw (e, i, m) (rounds_end fuel s behind ends)
  rounds_form (suc n) zero s us behind r ms le (t, xs, a, e, takes, b) =
      let lens = ap length e in absurd (omega (arith, lens))
  rounds_form (suc n) (suc fuel) s us behind r ms le (t, xs, a, e, takes, (q, us1, vs, ks, ls, e2, m, x, y)) =
      let lens = ap length e in
      let lens2 = ap length e2 in
      rw (e, takes, e2, m)
      (joined (k s a) (rounds test k fuel) us1 vs behind q r ks ls (reads_item s a us1 (vs ++ behind) q ks x)
      (rounds_form n fuel q vs behind r ls (omega (arith, lens, lens2, length-append us1 vs)) y))

  module _ (breaks : S → A → Breaks) (breaks_item : (s : S) (a : A) (us : List Lexeme) (ms : List Mark)
      → breaks s a us ms → k s a us ≡ short ms) where
    rounds_break : (n fuel : ℕ) (s : S) (us : List Lexeme) (ms : List Mark) → length us ≤ fuel
        → RunBreaks test item breaks n s us ms
        → rounds test k fuel s us ≡ short ms
    rounds_break n zero s [] ms le h = rounds_none n s ms h
      where
        rounds_none : (n : ℕ) (s : S) (ms : List Mark) → RunBreaks test item breaks n s [] ms
            → rounds test k zero s [] ≡ short ms
        rounds_none zero s ms (t, xs, a, e, takes, h) = absurd (cc (e))
        rounds_none (suc n) s ms (t, xs, a, e, takes, h) = absurd (cc (e))
    rounds_break n zero s (t ∷ us) ms le h = absurd (omega arith)
    rounds_break zero (suc fuel) s us ms le (t, xs, a, e, takes, h) = rw (e, takes, breaks_item s a xs ms h)
    rounds_break (suc n) (suc fuel) s us ms le (t, xs, a, e, takes, (q, us1, vs, ks, ls, e2, m, x, y)) =
        let lens = ap length e in
        let lens2 = ap length e2 in
        rw (e, takes, e2, m)
        (joined_short (k s a) (rounds test k fuel) us1 vs q ks ls (reads_item s a us1 vs q ks x)
        (rounds_break n fuel q vs ls (omega (arith, lens, lens2, length-append us1 vs)) y))

pub read_form : {a : Sort} (g : Grammar a) (us behind : List Lexeme) (r : TypeOf a) (ms : List Mark)
    → Form g us behind r ms → read g (us ++ behind) ≡ got r ms behind
read_form (Done v) us behind r ms (e, i, m) = rw (e, i, m)
read_form (One value) us behind r ms (t, e, takes, m) = rw (e, m, takes)
read_form (Then first next) us behind r ms (q, us1, vs, ks, ls, e, m, x, y) =
    rw (e, m) (joined (read first) (λ v ts. read (next v) ts) us1 vs behind q r ks ls
    (read_form first us1 (vs ++ behind) q ks x) (read_form (next q) vs behind r ls y))
read_form (Marked mark rest) us behind r ms (ls, m, h) = rw (m, read_form rest us behind r ls h)
read_form (Loop a test item s) us behind r ms (n, h) =
    rounds_form test (λ s v. Form (item s v)) (λ s v ts. read (item s v) ts) (λ s v. read_form (item s v)) n
    (length (us ++ behind)) s us behind r ms (omega (arith, length-append us behind)) h

pub read_stops : {a : Sort} (g : Grammar a) (us : List Lexeme) (ms : List Mark) → Stops g us ms → read g us ≡ short ms
read_stops (Done v) us ms h = absurd h
read_stops (One value) us ms (e, m) = rw (e, m)
read_stops (Then first next) us ms (inl h) = rw (read_stops first us ms h)
read_stops (Then first next) us ms (inr (q, us1, vs, ks, ls, e, m, x, y)) =
    rw (e, m) (joined_short (read first) (λ v ts. read (next v) ts) us1 vs q ks ls (read_form first us1 vs q ks x)
    (read_stops (next q) vs ls y))
read_stops (Marked mark rest) us ms (ls, m, h) = rw (m, read_stops rest us ls h)
read_stops (Loop a test item s) us ms (n, h) =
    rounds_break test (λ s v. Form (item s v)) (λ s v ts. read (item s v) ts) (λ s v. read_form (item s v))
    (λ s v. Stops (item s v)) (λ s v. read_stops (item s v)) n (length us) s us ms (omega arith) h
