-- A text has one list of tokens.
use Rattle.std.proofs.Common.{◌≡◌, ℕ, ◌+◌, ◌-◌, Bool, true, false, List, [], ◌∷◌, sym, ◌∙◌, ap, subst}
use Rattle.std.specs.Prelude.{MatchBool}
use Rattle.ds_lex.specs.declared.token.Token.{Token}
use Rattle.ds_lex.specs.Lexed.{IsTokenAt, LexedFrom, is_end}
use Rattle.ds_lex.proofs.Places.{gap_end, one_token, same_token}

-- the token behind a place is the one that the scanner finds there
found : (text : List ℕ) (at : ℕ) (t u : Token) → IsTokenAt text at t → IsTokenAt text at u
    → (let f : Token = record { kind = t.kind; start = gap_end text at; end = gap_end text at + (t.end - t.start) } in
    f) ≡ u
found text at t u h k =
    let p = one_token text at t h in
    let q = one_token text at u k in
    same_token u t.kind (gap_end text at) (t.end - t.start) q.0 (sym p.1 ∙ q.1) k.ordered

one_at : (text : List ℕ) (at : ℕ) (t u : Token) → IsTokenAt text at t → IsTokenAt text at u → t ≡ u
one_at text at t u h k = sym (found text at t t h h) ∙ found text at t u h k

-- nothing stands behind the end, and behind another token what its tokens say
behind : (b : Bool) (ts us : List Token) (L M : Type 0) → (L → M → ts ≡ us) → MatchBool b (ts ≡ []) L
    → MatchBool b (us ≡ []) M → ts ≡ us
behind true ts us L M f h k = h ∙ sym k
behind false ts us L M f h k = f h k

pub unique : (text : List ℕ) (at : ℕ) (ts us : List Token) → LexedFrom text at ts → LexedFrom text at us → ts ≡ us
unique text at [] us h k = absurd h
unique text at (t ∷ ts) [] h k = absurd k
unique text at (t ∷ ts) (u ∷ us) h k =
    let same = one_at text at t u h.0 k.0 in
    let P : Token → Type 0 = λ x. MatchBool (is_end x.kind) (us ≡ []) (LexedFrom text x.end us) in
    let rest = behind (is_end t.kind) ts us (LexedFrom text t.end ts) (LexedFrom text t.end us)
    (unique text t.end ts us) h.1 (subst P (sym same) k.1) in
    ap (λ (x : Token). x ∷ ts) same ∙ ap (λ (xs : List Token). u ∷ xs) rest
