-- The tokens of a text are of bytes, and no more than its bytes.
use Rattle.std.proofs.Common.{◌≡◌, ℕ, zero, suc, ◌<◌, ◌≤◌, ◌+◌, ◌-◌, ◌^◌, Bool, true, false, List, [], ◌∷◌, length}
use Rattle.std.proofs.Common.{map, take, drop, refl, ap, inl, inr, arith, length-drop}
use Rattle.std.specs.Prelude.{All, MatchBool, slice_range}
use Rattle.std.proofs.lemmas.List.{length-append}
use Rattle.std.proofs.lemmas.List.Elements.{All-take, All-drop, All-nil, All-cons}
use Rattle.ds_lex.specs.declared.token.TokenKind.{TokenKind}
use Rattle.ds_lex.specs.declared.token.TokenKind.TheVariants.{Word, Label, Local, Global, Attr, Meta, Number, Text}
use Rattle.ds_lex.specs.declared.token.TokenKind.TheVariants.{CText, Punct, End}
use Rattle.ds_lex.specs.declared.token.Token.{Token}
use Rattle.ds_lex.specs.Lexed.{IsSpelling, Lexed, LexedFrom, is_end}
use Rattle.ds_grammar.specs.Lexemes.{lexeme, lexemes_from}
use Rattle.ds_parse_laws.specs.Laws.{TokensAreWithinBounds, TextsAreWithinBounds}
use Rattle.ds_parse_laws.proofs.Within.{AreShort, IsBytes}

-- the end alone is spelled by no bytes
no_bytes : (k : TokenKind) → IsSpelling k [] → is_end k ≡ true
no_bytes Word h = absurd h
no_bytes Label (name, e, h) = let lens = ap length e in absurd (omega (arith, lens, length-append name (58 ∷ [])))
no_bytes Local h = absurd h
no_bytes Global h = absurd h
no_bytes Attr h = absurd h
no_bytes Meta h = absurd h
no_bytes Number (inl h) = absurd h
no_bytes Number (inr h) = absurd h
no_bytes Text h = absurd h
no_bytes CText h = absurd h
no_bytes Punct h = absurd h
no_bytes End h = refl

-- a token that is not the end has a byte
has_byte : (n : ℕ) (bytes : List ℕ) (k : TokenKind) → IsSpelling k (take n bytes) → is_end k ≡ false → 0 < n
has_byte zero bytes k h e = absurd (cc (e, no_bytes k h))
has_byte (suc n) bytes k h e = omega arith

-- no more tokens than bytes, and the end
few_tokens : (text : List ℕ) (at : ℕ) (ts : List Token) → at ≤ length text → LexedFrom text at ts
    → length ts + at ≤ length text + 1
few_tokens text at [] le h = absurd h
few_tokens text at (t ∷ us) le h = by (is_end t.kind) refl h.1 (λ le k. few_tokens text t.end us le k)
  where
    by : (b : Bool) → is_end t.kind ≡ b → MatchBool b (us ≡ []) (LexedFrom text t.end us)
        → (t.end ≤ length text → LexedFrom text t.end us → length us + t.end ≤ length text + 1)
        → length (t ∷ us) + at ≤ length text + 1
    by true e k go = let lens = ap length k in omega (arith, lens, le)
    by false e k go =
        let some = has_byte (t.end - t.start) (drop t.start text) t.kind h.0.is.longest.spelled e in
        let inside : t.end ≤ length text =
        omega (arith, h.0.ordered, h.0.gap.within, h.0.is.longest.within, length-drop t.start text) in
        let rest = go inside k in
        let behind = h.0.gap.behind in
        omega (arith, some, rest, behind)

fewer : (n : ℕ) (ts : List Token) (text : List ℕ) → length (map (lexeme text) (take n ts)) ≤ n
fewer zero ts text = omega arith
fewer (suc n) [] text = omega arith
fewer (suc n) (t ∷ ts) text = let r = fewer n ts text in omega (arith, r)

token_bytes : (text : List ℕ) (ts : List Token) → All (λ b. b < 2 ^ 8) text → All IsBytes (map (lexeme text) ts)
token_bytes text [] h = All-nil IsBytes
token_bytes text (t ∷ ts) h =
    All-cons IsBytes (lexeme text t) (map (lexeme text) ts)
    (All-take (λ b. b < 2 ^ 8) (t.end - t.start) (drop t.start text) (All-drop (λ b. b < 2 ^ 8) t.start text h))
    (token_bytes text ts h)

short_text : (text : List ℕ) (ts : List Token) → All (λ b. b < 2 ^ 8) text → length text < 2 ^ 32 → Lexed text ts
    → AreShort (lexemes_from text ts 0)
short_text text ts h lt lexed =
    let few = few_tokens text 0 ts (omega arith) lexed in
    let less = fewer (length ts - 1 - 0) ts text in
    record { bytes = token_bytes text (slice_range ts 0 (length ts - 1)) h; few = omega (arith, few, less, lt) }

pub texts_within : TokensAreWithinBounds → TextsAreWithinBounds
texts_within tokens text m h lt t =
    let s = short_text text t.tokens h lt t.lexed in
    tokens (lexemes_from text t.tokens 0) m t.marks s.bytes s.few t.form t.within
