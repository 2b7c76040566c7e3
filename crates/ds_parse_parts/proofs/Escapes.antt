-- The first byte that a text stands for, and the others.
use Rattle.std.proofs.Common.{◌≡◌, ℕ, ◌+◌, ◌*◌, ◌<◌, Bool, true, false, cond, List, [], ◌∷◌, length, Option, Some}
use Rattle.std.proofs.Common.{None, refl, ◌∙◌, ap, arith}
use Rattle.ds_grammar.specs.Texts.{is_double, is_coded, hexadecimal, text_value}
use Rattle.ds_parse_parts.specs.Texts.{next_byte}

-- the bytes stand for this byte and what these others stand for, which are fewer
pub record Front (bytes : List ℕ) (b : ℕ) (rest : List ℕ) : Type 0 where
  pub value : text_value bytes ≡ b ∷ text_value rest
  pub fewer : length rest < length bytes

some_pair : (b c : ℕ) (bs cs : List ℕ) → (let o : Option (ℕ × List ℕ) = Some (b, bs) in o) ≡ Some (c, cs) → (b ≡ c)
    × (bs ≡ cs)
some_pair b c bs cs h =
    let p : (let x : ℕ × List ℕ = (b, bs) in x) ≡ (c, cs) =
    cc in (ap (λ (x : ℕ × List ℕ). x.0) p, ap (λ (x : ℕ × List ℕ). x.1) p)

of_pair : (bytes : List ℕ) (b c : ℕ) (bs cs : List ℕ) → text_value bytes ≡ b ∷ text_value bs
    → length bs < length bytes → (let o : Option (ℕ × List ℕ) = Some (b, bs) in o) ≡ Some (c, cs) → Front bytes c cs
of_pair bytes b c bs cs v l h =
    let p = some_pair b c bs cs h in
    record {
      value = v ∙ ap (λ (x : ℕ). x ∷ text_value bs) p.0
          ∙ ap (λ (xs : List ℕ). c ∷ text_value xs) p.1;
      fewer = omega (arith, l, ap length p.1);
    }

-- a byte and the bytes behind its spelling
abbrev Step : Type 0
Step = Option (ℕ × List ℕ)

abbrev step : ℕ → List ℕ → Step
step b bs = Some (b, bs)

two_by : (b c : ℕ) (t : Bool) (x : ℕ) (rest : List ℕ) → is_double b c ≡ t
    → cond t (step 92 []) (step b (c ∷ [])) ≡ step x rest → Front (b ∷ c ∷ []) x rest
unfolding text_value
two_by b c true x rest e h =
    of_pair (b ∷ c ∷ []) 92 x [] rest (ap (λ t. cond t (92 ∷ []) (b ∷ c ∷ [])) e) (omega arith) h
two_by b c false x rest e h =
    of_pair (b ∷ c ∷ []) b x (c ∷ []) rest (ap (λ t. cond t (92 ∷ []) (b ∷ c ∷ [])) e) (omega arith) h

abbrev three : Bool → Bool → ℕ → ℕ → ℕ → List ℕ → List ℕ
three t u b c d ds = cond t (92 ∷ text_value (d ∷ ds))
    (cond u ((16 * hexadecimal c + hexadecimal d) ∷ text_value ds) (b ∷ text_value (c ∷ d ∷ ds)))

three_by : (b c d : ℕ) (ds : List ℕ) (t u : Bool) (x : ℕ) (rest : List ℕ) → is_double b c ≡ t → is_coded b c d ≡ u
    → cond t (step 92 (d ∷ ds)) (cond u (step (16 * hexadecimal c + hexadecimal d) ds) (step b (c ∷ d ∷ ds)))
    ≡ step x rest → Front (b ∷ c ∷ d ∷ ds) x rest
unfolding text_value
three_by b c d ds true u x rest e f h =
    of_pair (b ∷ c ∷ d ∷ ds) 92 x (d ∷ ds) rest (ap (λ t. three t (is_coded b c d) b c d ds) e) (omega arith) h
three_by b c d ds false true x rest e f h =
    of_pair (b ∷ c ∷ d ∷ ds) (16 * hexadecimal c + hexadecimal d) x ds rest
    (ap (λ t. three t (is_coded b c d) b c d ds) e ∙ ap (λ u. three false u b c d ds) f) (omega arith) h
three_by b c d ds false false x rest e f h =
    of_pair (b ∷ c ∷ d ∷ ds) b x (c ∷ d ∷ ds) rest
    (ap (λ t. three t (is_coded b c d) b c d ds) e ∙ ap (λ u. three false u b c d ds) f) (omega arith) h

pub front : (bytes : List ℕ) (x : ℕ) (rest : List ℕ) → next_byte bytes ≡ Some (x, rest) → Front bytes x rest
unfolding text_value
front [] x rest h = absurd cc
front (b ∷ []) x rest h = of_pair (b ∷ []) b x [] rest refl (omega arith) h
front (b ∷ c ∷ []) x rest h = two_by b c (is_double b c) x rest refl h
front (b ∷ c ∷ d ∷ ds) x rest h = three_by b c d ds (is_double b c) (is_coded b c d) x rest refl refl h

some_none : (p : ℕ × List ℕ) → (let o : Option (ℕ × List ℕ) = Some p in o) ≡ None → ⊥
some_none p h = cc

two_none : (t : Bool) (p q : ℕ × List ℕ) → cond t (Some p) (Some q) ≡ None → ⊥
two_none true p q h = some_none p h
two_none false p q h = some_none q h

three_none : (t u : Bool) (p q r : ℕ × List ℕ) → cond t (Some p) (cond u (Some q) (Some r)) ≡ None → ⊥
three_none true u p q r h = some_none p h
three_none false true p q r h = some_none q h
three_none false false p q r h = some_none r h

pub no_front : (bytes : List ℕ) → next_byte bytes ≡ None → text_value bytes ≡ []
unfolding text_value
no_front [] h = refl
no_front (b ∷ []) h = absurd (some_none (b, []) h)
no_front (b ∷ c ∷ []) h = absurd (two_none (is_double b c) (92, []) (b, c ∷ []) h)
no_front (b ∷ c ∷ d ∷ ds) h = absurd (three_none (is_double b c) (is_coded b c d) (92, d ∷ ds)
    (16 * hexadecimal c + hexadecimal d, ds) (b, c ∷ d ∷ ds) h)
