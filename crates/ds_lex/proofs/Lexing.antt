-- From the tokens up to a place to those of the whole text, and to its fault.
use Rattle.std.proofs.Common.{◌≡◌, ℕ, ◌+◌, ◌-◌, ◌<◌, ◌≤◌, Bool, true, false, List, [], ◌∷◌, ◌++◌, length, take, drop}
use Rattle.std.proofs.Common.{Result, Ok, Err, suc, zero, refl, sym, ◌∙◌, ap, subst, append_assoc, arith}
use Rattle.std.specs.Prelude.{MatchBool, IfOk, IfErr}
use Rattle.std.specs.Result.{IsErr, IsErrAnd}
use Rattle.ds_lex.specs.declared.fault.LexFault.{LexFault}
use Rattle.ds_lex.specs.declared.token.TokenKind.{TokenKind}
use Rattle.ds_lex.specs.declared.token.TokenKind.TheVariants.{Word, Label, Local, Global, Attr, Meta, Number, Text}
use Rattle.ds_lex.specs.declared.token.TokenKind.TheVariants.{CText, Punct, End}
use Rattle.ds_lex.specs.declared.token.Token.{Token}
use Rattle.ds_lex.specs.Lexed.{IsSpelling, IsTokenAt, LexedFrom, is_end}
use Rattle.ds_lex.specs.Fault.{FaultFrom, HasFault}
use Rattle.ds_lex.proofs.Fronts.{end_only}
use Rattle.ds_lex.proofs.Places.{token_within, one_token, one_fault, same_token, ok_is_no_err}

-- the first token behind the place, or the fault there, if there is one
abbrev pub Next : Type 0
Next = Result Token LexFault

-- what is known of it
pub record Known (text : List ℕ) (at : ℕ) (next : Next) : Type 0 where
  pub found : IfOk next (λ token. IsTokenAt text at token)
  pub only : (t : Token) → IsTokenAt text at t → next ≡ Ok t
  pub fault : IfErr next (λ fault. FaultFrom text at [] fault)
  pub only_fault : (f : LexFault) → FaultFrom text at [] f → next ≡ Err f

-- the tokens found so far are those up to the place, and what they have behind the place the text has behind them
pub record Lexing (text : List ℕ) (at : ℕ) (tokens : List Token) : Type 0 where
  pub within : at ≤ length text
  pub found : (ts : List Token) → LexedFrom text at ts → LexedFrom text 0 (tokens ++ ts)
  pub only : (ts : List Token) → LexedFrom text 0 ts → (rest : List Token) × (ts ≡ tokens ++ rest)
      × LexedFrom text at rest
  pub fault : (ts : List Token) (f : LexFault) → FaultFrom text at ts f → FaultFrom text 0 (tokens ++ ts) f
  pub only_fault : (ts : List Token) (f : LexFault) → FaultFrom text 0 ts f → (rest : List Token)
      × FaultFrom text at rest f

pub lexing_begins : (text : List ℕ) → Lexing text 0 []
lexing_begins text = record {
  within = omega arith;
  found = λ ts h. h;
  only = λ ts h.
      (ts, refl, h);
  fault = λ ts f h. h;
  only_fault = λ ts f h. (ts, h);
}

-- the one token behind the place
pub record OnlyToken (text : List ℕ) (at : ℕ) (t : Token) : Type 0 where
  pub is : IsTokenAt text at t
  pub only : (u : Token) → IsTokenAt text at u → t ≡ u
  pub no_fault : (f : LexFault) → FaultFrom text at [] f → ⊥

ok_same : (t u : Token) → (let r : Next = Ok t in r) ≡ Ok u → t ≡ u
ok_same t u h = cc

ok_err : (t : Token) (f : LexFault) → (let r : Next = Ok t in r) ≡ Err f → ⊥
ok_err t f h = cc

pub only_token : (text : List ℕ) (at : ℕ) (next : Next) (t : Token) → Known text at next → next ≡ Ok t
    → OnlyToken text at t
only_token text at next t k e =
    let P : Next → Type 0 = λ r. IfOk r (λ token. IsTokenAt text at token) in
    record {
      is = subst P e k.found;
      only = λ u h. ok_same t u (sym e ∙ k.only u h);
      no_fault = λ f h. ok_err t f (sym e ∙ k.only_fault f h);
    }

-- the one fault behind the place
pub record OnlyFault (text : List ℕ) (at : ℕ) (f : LexFault) : Type 0 where
  pub is : FaultFrom text at [] f
  pub only : (g : LexFault) → FaultFrom text at [] g → f ≡ g
  pub no_token : (t : Token) → IsTokenAt text at t → ⊥

err_same : (f g : LexFault) → (let r : Next = Err f in r) ≡ Err g → f ≡ g
err_same f g h = cc

pub only_fault : (text : List ℕ) (at : ℕ) (next : Next) (f : LexFault) → Known text at next → next ≡ Err f
    → OnlyFault text at f
only_fault text at next f k e =
    let P : Next → Type 0 = λ r. IfErr r (λ fault. FaultFrom text at [] fault) in
    record {
      is = subst P e k.fault;
      only = λ g h. err_same f g (sym e ∙ k.only_fault g h);
      no_token = λ t h. ok_err t f (sym (k.only t h) ∙ e);
    }

followed : (text : List ℕ) (t : Token) (ts : List Token) (b : Bool) → is_end t.kind ≡ b
    → MatchBool (is_end t.kind) (ts ≡ []) (LexedFrom text t.end ts) → MatchBool b (ts ≡ []) (LexedFrom text t.end ts)
followed text t ts b e h = let P : Bool → Type 0 = λ b. MatchBool b (ts ≡ []) (LexedFrom text t.end ts) in subst P e h

follows : (text : List ℕ) (t : Token) (ts : List Token) (b : Bool) → is_end t.kind ≡ b
    → MatchBool b (ts ≡ []) (LexedFrom text t.end ts) → MatchBool (is_end t.kind) (ts ≡ []) (LexedFrom text t.end ts)
follows text t ts b e h =
    let P : Bool → Type 0 = λ b. MatchBool b (ts ≡ []) (LexedFrom text t.end ts) in subst P (sym e) h

-- the tokens behind the place begin with the one token
first : (text : List ℕ) (at : ℕ) (t : Token) (rest : List Token) (b : Bool) → OnlyToken text at t → is_end t.kind ≡ b
    → LexedFrom text at rest
    → (more : List Token) × (rest ≡ t ∷ more) × MatchBool b (more ≡ []) (LexedFrom text t.end more)
first text at t [] b o e h = absurd h
first text at t (u ∷ us) b o e h =
    let same : t ≡ u = o.only u h.0 in
    let P : Token → Type 0 = λ x. MatchBool (is_end x.kind) (us ≡ []) (LexedFrom text x.end us) in
    (us, ap (λ x. x ∷ us) (sym same), followed text t us b e (subst P (sym same) h.1))

-- the fault behind the place is one behind the token
fault_behind : (text : List ℕ) (at : ℕ) (t : Token) (rest : List Token) (f : LexFault) → OnlyToken text at t
    → FaultFrom text at rest f → (more : List Token) × FaultFrom text t.end more f
fault_behind text at t [] f o h = absurd (o.no_fault f h)
fault_behind text at t (u ∷ us) f o h =
    let P : Token → Type 0 = λ x. FaultFrom text x.end us f in (us, subst P (sym (o.only u h.0)) h.2)

-- behind the end there is no fault
fault_not_end : (text : List ℕ) (at : ℕ) (t : Token) (rest : List Token) (f : LexFault) → OnlyToken text at t
    → is_end t.kind ≡ true → FaultFrom text at rest f → ⊥
fault_not_end text at t [] f o e h = o.no_fault f h
fault_not_end text at t (u ∷ us) f o e h =
    let same = ap (λ (x : Token). is_end x.kind) (o.only u h.0) in let no = h.1 in cc

pub lexing_more : (text : List ℕ) (at : ℕ) (tokens : List Token) (t : Token) → Lexing text at tokens
    → OnlyToken text at t → is_end t.kind ≡ false → Lexing text t.end (tokens ++ t ∷ [])
lexing_more text at tokens t l o e = record {
  within = token_within text at t o.is;
  found = λ ts h. let P : List Token → Type 0 = LexedFrom text 0 in
      subst P (sym (append_assoc tokens (t ∷ []) ts)) (l.found (t ∷ ts) (o.is, follows text t ts false e h));
  only = λ ts h.
      let p = l.only ts h in
      let q = first text at t p.0 false o e p.2 in
      (q.0, p.1 ∙ ap (λ r. tokens ++ r) q.1 ∙ sym (append_assoc tokens (t ∷ []) q.0), q.2);
  fault = λ ts f h. let P : List Token → Type 0 = λ us. FaultFrom text 0 us f in
      subst P (sym (append_assoc tokens (t ∷ []) ts)) (l.fault (t ∷ ts) f (o.is, e, h));
  only_fault = λ ts f h. let p = l.only_fault ts f h in fault_behind text at t p.0 f o p.1;
}

pub lexed_last : (text : List ℕ) (at : ℕ) (tokens : List Token) (t : Token) → Lexing text at tokens
    → OnlyToken text at t → is_end t.kind ≡ true → LexedFrom text 0 (tokens ++ t ∷ [])
lexed_last text at tokens t l o e = l.found (t ∷ []) (o.is, follows text t [] true e refl)

pub lexed_only : (text : List ℕ) (at : ℕ) (tokens : List Token) (t : Token) → Lexing text at tokens
    → OnlyToken text at t → is_end t.kind ≡ true → (ts : List Token) → LexedFrom text 0 ts → tokens ++ t ∷ [] ≡ ts
lexed_only text at tokens t l o e ts h =
    let p = l.only ts h in
    let q = first text at t p.0 true o e p.2 in
    sym (p.1 ∙ ap (λ r. tokens ++ r) (q.1 ∙ ap (λ (m : List Token). t ∷ m) q.2))

pub lexed_no_fault : (text : List ℕ) (at : ℕ) (tokens : List Token) (t : Token) → Lexing text at tokens
    → OnlyToken text at t → is_end t.kind ≡ true → (f : LexFault) → HasFault text f → ⊥
lexed_no_fault text at tokens t l o e f h = let p = l.only_fault h.0 f h.1 in fault_not_end text at t p.0 f o e p.1

none_behind : (text : List ℕ) (at : ℕ) (rest : List Token) → ((t : Token) → IsTokenAt text at t → ⊥)
    → LexedFrom text at rest → ⊥
none_behind text at [] n h = h
none_behind text at (t ∷ ts) n h = n t h.0

pub faulty_never : (text : List ℕ) (at : ℕ) (tokens : List Token) (f : LexFault) → Lexing text at tokens
    → OnlyFault text at f → (ts : List Token) → LexedFrom text 0 ts → ⊥
faulty_never text at tokens f l o ts h = let p = l.only ts h in none_behind text at p.0 o.no_token p.2

pub faulty : (text : List ℕ) (at : ℕ) (tokens : List Token) (f : LexFault) → Lexing text at tokens
    → OnlyFault text at f → HasFault text f
faulty text at tokens f l o = (tokens ++ [], l.fault [] f o.is)

this_fault : (text : List ℕ) (at : ℕ) (rest : List Token) (f g : LexFault) → OnlyFault text at f
    → FaultFrom text at rest g → f ≡ g
this_fault text at [] f g o h = o.only g h
this_fault text at (t ∷ ts) f g o h = absurd (o.no_token t h.0)

pub faulty_only : (text : List ℕ) (at : ℕ) (tokens : List Token) (f : LexFault) → Lexing text at tokens
    → OnlyFault text at f → (g : LexFault) → HasFault text g → f ≡ g
faulty_only text at tokens f l o g h = let p = l.only_fault h.0 g h.1 in this_fault text at p.0 f g o p.1

no_empty : (k : TokenKind) → is_end k ≡ false → IsSpelling k [] → ⊥
no_empty k e s = let same = ap is_end (end_only k s) in cc

no_bytes : (k : TokenKind) (n : ℕ) (bytes : List ℕ) → is_end k ≡ false → IsSpelling k (take n bytes) → 0 < n
no_bytes k zero bytes e s = absurd (no_empty k e s)
no_bytes k (suc n) bytes e s = omega arith

-- a token other than the end has a byte
pub not_empty : (text : List ℕ) (at : ℕ) (t : Token) → IsTokenAt text at t → is_end t.kind ≡ false → at < t.end
not_empty text at t h e =
    let p = no_bytes t.kind (t.end - t.start) (drop t.start text) e h.is.longest.spelled in
    omega (arith, p, h.gap.behind, h.ordered)

pub is_no_end : (k : TokenKind) → (k ≡ End → ⊥) → is_end k ≡ false
is_no_end Word h = refl
is_no_end Label h = refl
is_no_end Local h = refl
is_no_end Global h = refl
is_no_end Attr h = refl
is_no_end Meta h = refl
is_no_end Number h = refl
is_no_end Text h = refl
is_no_end CText h = refl
is_no_end Punct h = refl
is_no_end End h = absurd (h refl)

-- a fault that was passed on
pub passed_on : (r : Result (List Token) LexFault) (f : LexFault) → IsErr r × IsErrAnd r (λ g. g ≡ f) → r ≡ Err f
passed_on (Ok ts) f h = absurd (let e = h.0 in cc)
passed_on (Err g) f h = let err : LexFault → Result (List Token) LexFault = λ g. Err g in ap err h.1

same_next : (text : List ℕ) (at : ℕ) (t u : Token) → IsTokenAt text at t → IsTokenAt text at u → t ≡ u
same_next text at t u h g =
    let p = one_token text at t h in
    let q = one_token text at u g in
    let e : t.start + (t.end - t.start) ≡ t.end = omega (arith, h.ordered) in
    let make : ℕ → Token = λ n. record { kind = t.kind; start = t.start; end = n } in
    ap make (sym e) ∙ same_token u t.kind t.start (t.end - t.start) (sym p.0 ∙ q.0) (sym p.1 ∙ q.1) g.ordered

-- no tokens and no fault stand behind one place
pub apart : (text : List ℕ) (at : ℕ) (ts us : List Token) (f : LexFault) → LexedFrom text at ts
    → FaultFrom text at us f → ⊥
apart text at [] us f l h = l
apart text at (t ∷ ts) [] f l h = ok_is_no_err _ _ (sym (one_token text at t l.0).1 ∙ (one_fault text at f h).found)
apart text at (t ∷ ts) (u ∷ us) f l h =
    let e : t ≡ u = same_next text at t u l.0 h.0 in
    let P : Token → Type 0 = λ x. FaultFrom text x.end us f in
    let no = ap (λ (x : Token). is_end x.kind) e ∙ h.1 in
    apart text t.end ts us f (followed text t ts false no l.1) (subst P (sym e) h.2)
