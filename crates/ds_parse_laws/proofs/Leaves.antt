-- Names, literals and values are within their bounds.
use Rattle.std.proofs.Common.{◌≡◌, ℕ, ◌<◌, ◌≤◌, ◌+◌, ◌*◌, ◌%◌, ◌^◌, Bool, true, false, cond, nat_lt, ltb, leb, List}
use Rattle.std.proofs.Common.{[], ◌∷◌, take, refl, sym, subst, inl, inr, ◌⊎◌, arith}
use Rattle.std.specs.Prelude.{All, Option, Some, None, option_map, option_and_then, codes}
use Rattle.std.specs.Str.{bytes_eq}
use Rattle.std.specs.List.{list_all}
use Rattle.std.proofs.lemmas.List.Elements.{All-nil, All-cons, All-head, All-tail, All-take}
use Rattle.ds_lex.specs.Number.{number_of}
use Rattle.ds_lex.specs.Bytes.{is_digit}
use Rattle.ds_lex.specs.declared.token.TokenKind.{TokenKind}
use Rattle.ds_lex.specs.declared.token.TokenKind.TheVariants as kind
use Rattle.ds_ast.specs.declared.name.Name.{Name}
use Rattle.ds_ast.specs.declared.name.Name.TheVariants as name
use Rattle.ds_ast.specs.declared.ty.Scalar.{Scalar}
use Rattle.ds_ast.specs.declared.ty.Scalar.TheVariants.{I1, I8, I16, I32, I64, Ptr}
use Rattle.ds_ast.specs.declared.value.Value.{Value}
use Rattle.ds_ast.specs.declared.value.Value.TheVariants as value
use Rattle.ds_ast.specs.Bounds.{IsName, IsValue, width}
use Rattle.ds_grammar.specs.declared.fault.Mark.{Mark}
use Rattle.ds_grammar.specs.Texts.{text_of, text_value, is_hexadecimal, hexadecimal, is_coded, is_double}
use Rattle.ds_grammar.specs.Tokens.{name_of, is_text, token_name, width_of, literal, value_of, value_words}
use Rattle.ds_grammar.specs.Tokens.{with_range, range_mark, lookup, is_truth}
use Rattle.ds_grammar.specs.Rows.{local_name}
use Rattle.ds_grammar.specs.Rows as rows
use Rattle.ds_grammar.specs.Instructions.{global_name, local, global, target, typed_value}
use Rattle.ds_parse_laws.proofs.Within.{Within, done, one, skip, marked, ◌⨾◌}

abbrev Bytes : List ℕ → Type 0
Bytes bs = All (λ b. b < 2 ^ 8) bs

-- what an option that was mapped had
pub mapped : {A B : Type 0} (f : A → B) (o : Option A) (b : B) → option_map f o ≡ Some b → (a : A) × (o ≡ Some a)
    × (b ≡ f a)
mapped f None b e = absurd (cc (e))
mapped f (Some a) b e = (a, refl, cc (e))

-- both ways of a test
pub chosen : {A : Type 0} (c : Bool) (x y z : A) → cond c x y ≡ z → ((c ≡ true) × (x ≡ z)) ⊎ ((c ≡ false) × (y ≡ z))
chosen true x y z e = inl (refl, e)
chosen false x y z e = inr (refl, e)

pub below_true : (m n : ℕ) → ltb m n ≡ true → m < n
below_true m n e = grind (arith, e)

pub most_true : (m n : ℕ) → leb m n ≡ true → m ≤ n
most_true m n e = grind (arith, e)

-- a digit has at most four bits
hexadecimal_small : (b : ℕ) → is_hexadecimal b ≡ true → hexadecimal b < 16
hexadecimal_small b e = grind (arith, e)

-- TEXTS

text_bytes : (bs : List ℕ) → Bytes bs → Bytes (text_value bs)
unfolding text_value
text_bytes [] h = h
text_bytes (b ∷ []) h = h
text_bytes (b ∷ c ∷ []) h = by (is_double b c)
  where
    by : (d : Bool) → Bytes (cond d (92 ∷ []) (b ∷ text_value (c ∷ [])))
    by true = All-cons (λ b. b < 2 ^ 8) 92 [] (omega arith) (All-nil (λ b. b < 2 ^ 8))
    by false = h
text_bytes (b ∷ c ∷ d ∷ ds) h =
    let h1 = All-tail (λ b. b < 2 ^ 8) b (c ∷ d ∷ ds) h in
    let h2 = All-tail (λ b. b < 2 ^ 8) c (d ∷ ds) h1 in
    by (is_double b c) (is_coded b c d) refl (text_bytes (c ∷ d ∷ ds) h1) (text_bytes (d ∷ ds) h2)
    (text_bytes ds (All-tail (λ b. b < 2 ^ 8) d ds h2))
  where
    by : (x y : Bool) → is_coded b c d ≡ y → Bytes (text_value (c ∷ d ∷ ds)) → Bytes (text_value (d ∷ ds))
        → Bytes (text_value ds)
        → Bytes (cond x (92 ∷ text_value (d ∷ ds)) (cond y ((16 * hexadecimal c + hexadecimal d) ∷ text_value ds)
        (b ∷ text_value (c ∷ d ∷ ds))))
    by true y e h1 h2 h3 = All-cons (λ b. b < 2 ^ 8) 92 (text_value (d ∷ ds)) (omega arith) h2
    by false true e h1 h2 h3 =
        let x = hexadecimal_small c (grind (arith, e)) in
        let y = hexadecimal_small d (grind (arith, e)) in
        All-cons (λ b. b < 2 ^ 8) (16 * hexadecimal c + hexadecimal d) (text_value ds) (omega (arith, x, y)) h3
    by false false e h1 h2 h3 =
        All-cons (λ b. b < 2 ^ 8) b (text_value (c ∷ d ∷ ds)) (All-head (λ b. b < 2 ^ 8) b (c ∷ d ∷ ds) h) h1

pub text_is : (bs : List ℕ) → Bytes bs → Bytes (text_of bs)
text_is [] h = h
text_is (q ∷ bs) h = text_bytes (take _ bs) (All-take (λ b. b < 2 ^ 8) _ bs (All-tail (λ b. b < 2 ^ 8) q bs h))

-- NAMES

numbered_name : (o : Option ℕ) (n : Name) → option_and_then
    (λ n. cond (nat_lt n (2 ^ 32)) (Some (name.Number n)) None) o ≡ Some n → IsName n
numbered_name None n e = absurd (cc (e))
numbered_name (Some m) n e = by (chosen (nat_lt m (2 ^ 32)) (Some (name.Number m)) None (Some n) e)
  where
    by : ((nat_lt m (2 ^ 32) ≡ true) × (Some (name.Number m) ≡ Some n))
        ⊎ ((nat_lt m (2 ^ 32) ≡ false) × (None ≡ Some n)) → IsName n
    by (inl (c, f)) = let same : name.Number m ≡ n = cc (f) in subst IsName same (below_true m (2 ^ 32) c)
    by (inr (c, f)) = absurd (cc (f))

pub name_is : (bs : List ℕ) (n : Name) → Bytes bs → name_of bs ≡ Some n → IsName n
unfolding name_of
name_is bs n h e = by (list_all is_digit bs) (is_text bs) e
  where
    by : (x y : Bool) → cond x (option_and_then (λ n. cond (nat_lt n (2 ^ 32)) (Some (name.Number n)) None)
        (number_of bs)) (cond y (Some (name.Text (text_of bs))) (Some (name.Text bs))) ≡ Some n → IsName n
    by true y e = numbered_name (number_of bs) n e
    by false true e = let same : name.Text (text_of bs) ≡ n = cc (e) in subst IsName same (text_is bs h)
    by false false e = let same : name.Text bs ≡ n = cc (e) in subst IsName same h

pub token_name_is : (bs : List ℕ) (n : Name) → Bytes bs → token_name bs ≡ Some n → IsName n
token_name_is [] n h e = absurd (cc (e))
token_name_is (b ∷ bs) n h e = name_is bs n (All-tail (λ b. b < 2 ^ 8) b bs h) e

pub local_name_is : (k : TokenKind) (bs : List ℕ) (n : Name) → Bytes bs → local_name k bs ≡ Some n → IsName n
local_name_is kind.Local bs n h e = token_name_is bs n h e
local_name_is other bs n h e = absurd (cc (e))

pub global_name_is : (k : TokenKind) (bs : List ℕ) (n : Name) → Bytes bs → global_name k bs ≡ Some n → IsName n
global_name_is kind.Global bs n h e = token_name_is bs n h e
global_name_is other bs n h e = absurd (cc (e))

pub local_within : Within local IsName
unfolding local
local_within = one (λ t v s e. local_name_is t.kind t.bytes v s e)

pub global_within : Within global IsName
unfolding global
global_within = one (λ t v s e. global_name_is t.kind t.bytes v s e)

pub target_within : Within target IsName
unfolding target
target_within = skip (λ u. local_within)

-- VALUES

pub width_same : (s : Scalar) → width_of s ≡ width s
width_same I1 = refl
width_same I8 = refl
width_same I16 = refl
width_same I32 = refl
width_same I64 = refl
width_same Ptr = refl

pub kept_below : (s : Scalar) (n : ℕ) → n % 2 ^ width_of s < 2 ^ width s
kept_below I1 n = omega arith
kept_below I8 n = omega arith
kept_below I16 n = omega arith
kept_below I32 n = omega arith
kept_below I64 n = omega arith
kept_below Ptr n = omega arith

one_below : (s : Scalar) → 1 < 2 ^ width s
one_below I1 = omega arith
one_below I8 = omega arith
one_below I16 = omega arith
one_below I32 = omega arith
one_below I64 = omega arith
one_below Ptr = omega arith

zero_below : (s : Scalar) → 0 < 2 ^ width s
zero_below s = let one_is = one_below s in omega (arith, one_is)

word_value : (s : Scalar) (bs : List ℕ) (v : Value × Bool) → lookup (value_words s) bs ≡ Some v → IsValue (width s) v.0
word_value s bs v e = by (bytes_eq bs (codes "true")) (bytes_eq bs (codes "false")) (bytes_eq bs (codes "null"))
    (bytes_eq bs (codes "undef")) e
  where
    is : (w : Value) (b : Bool) → Some (w, b) ≡ Some v → IsValue (width s) w → IsValue (width s) v.0
    is w b e h = let same : w ≡ v.0 = cc (e) in subst (IsValue (width s)) same h

    by : (p q r t : Bool) → cond p (Some (value.Int 1, is_truth s))
        (cond q (Some (value.Int 0, is_truth s)) (cond r (Some (value.Null, true))
        (cond t (Some (value.Undef, true)) None))) ≡ Some v → IsValue (width s) v.0
    by true q r t e = is (value.Int 1) (is_truth s) e (one_below s)
    by false true r t e = is (value.Int 0) (is_truth s) e (zero_below s)
    by false false true t e = is value.Null true e tt
    by false false false true e = is value.Undef true e tt
    by false false false false e = absurd (cc (e))

pub value_is : (s : Scalar) (k : TokenKind) (bs : List ℕ) (at : ℕ) (v : Value × Mark) → Bytes bs
    → value_of s k bs at ≡ Some v → IsValue (width s) v.0
value_is s kind.Number bs at v h e =
    let (n, i, same) = mapped (literal s bs at) (number_of bs) v e in
    subst (λ v. IsValue (width s) v.0) (sym same) (kept_below s n)
value_is s kind.Word bs at v h e =
    let (w, i, same) = mapped (with_range at) (lookup (value_words s) bs) v e in
    subst (λ v. IsValue (width s) v.0) (sym same) (word_value s bs w i)
value_is s kind.Local bs at v h e =
    let (n, i, same) = mapped (λ n. (value.Local n, range_mark at true)) (token_name bs) v e in
    subst (λ v. IsValue (width s) v.0) (sym same) (token_name_is bs n h i)
value_is s kind.Global bs at v h e =
    let (n, i, same) = mapped (λ n. (value.Global n, range_mark at true)) (token_name bs) v e in
    subst (λ v. IsValue (width s) v.0) (sym same) (token_name_is bs n h i)
value_is s other bs at v h e = absurd (cc (e))

pub value_within : (s : Scalar) → Within (rows.value s) (IsValue (width s))
unfolding rows.value
value_within s = ◌⨾◌ {Q = λ found. IsValue (width s) found.0} (one (λ t v b e. value_is s t.kind t.bytes t.at v b e))
    (λ found i. marked (λ w. done found.0 i))

pub typed_within : (s : Scalar) → Within (typed_value s) (IsValue (width s))
unfolding typed_value
typed_within s = skip (λ u. value_within s)
