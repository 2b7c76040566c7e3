-- A token that begins with %, @, #, ! or a quote is the one found, or there is none.
use Rattle.std.proofs.Common.{◌≡◌, ℕ, ◌<◌, ◌≤◌, Bool, true, false, ◌⊎◌, cond, eqb, List, [], ◌∷◌, length, take}
use Rattle.std.proofs.Common.{Option, Some, None, Ok, Err, suc, zero, refl, ap, subst, inl, inr, arith}
use Rattle.std.proofs.lemmas.Bool.Decides.{nat_tests}
use Rattle.ds_lex.specs.declared.bytes.ByteClass.TheVariants.{Percent, At, Hash, Bang}
use Rattle.ds_lex.specs.declared.bytes.RunOf.TheVariants.{NameBytes, Digits}
use Rattle.ds_lex.specs.declared.token.TokenKind.{TokenKind}
use Rattle.ds_lex.specs.declared.token.TokenKind.TheVariants.{Local, Global, Attr, Meta}
use Rattle.ds_lex.specs.declared.words.Flaw.TheVariants as flaw
use Rattle.ds_lex.specs.Bytes.{class_of}
use Rattle.ds_lex.specs.Number.{is_small}
use Rattle.ds_lex.specs.Lexed.{IsDigits, IsAnyName, IsMetaName, IsNameInRange}
use Rattle.ds_lex.specs.Fault.{BeginsNone}
use Rattle.ds_lex.specs.Scan.{run_len, text_len, starts_name, numbered, named_by, unplain, named, attribute}
use Rattle.ds_lex.specs.Scan.{metadata_len}
use Rattle.ds_lex.proofs.Runs.{run}
use Rattle.ds_lex.proofs.Firsts.{First, is_sigil}
use Rattle.ds_lex.proofs.Forms.{Forms}
use Rattle.ds_lex.proofs.Texts.{text_is}
use Rattle.ds_lex.proofs.Judged.{Only, Judged, only_behind, none_behind}
use Rattle.ds_lex.proofs.Names.{name_len, digits_len, text_front, name_here, digits_here, small_in_range}
use Rattle.ds_lex.proofs.Names.{small_out_of_range}
use Rattle.ds_lex.proofs.Letters.{less_or_same, some_same, none_some, tails}

-- where the first i bytes are a name of any kind, that is this one
name_only : (bs : List ℕ) (i : ℕ) → i ≤ length bs → starts_name bs ≡ true → IsAnyName (take i bs)
    → i ≤ run_len NameBytes bs
name_only bs i l h s = elim s [
  | inl x ↦ (name_len bs i l x).1
  | inr r ↦ elim r [
    | inl x ↦ absurd (let e = (digits_len bs i l x).0 in cc)
    | inr x ↦ absurd (let e = (text_front bs i l x).0 in cc)
  ]
]

digits_only : (bs : List ℕ) (i : ℕ) → i ≤ length bs → starts_name bs ≡ false → 0 < run_len Digits bs
    → IsAnyName (take i bs) → i ≤ run_len Digits bs
digits_only bs i l h d s = elim s [
  | inl x ↦ absurd (let e = (name_len bs i l x).0 in cc)
  | inr r ↦ elim r [
    | inl x ↦ (digits_len bs i l x).2
    | inr x ↦ absurd (let e = (text_front bs i l x).2 in omega (arith, e, d))
  ]
]

text_only : (bs : List ℕ) (i : ℕ) → i ≤ length bs → starts_name bs ≡ false → run_len Digits bs ≡ 0
    → IsAnyName (take i bs) → text_len bs ≡ Some i
text_only bs i l h d s = elim s [
  | inl x ↦ absurd (let e = (name_len bs i l x).0 in cc)
  | inr r ↦ elim r [
    | inl x ↦ absurd (let p = digits_len bs i l x in omega (arith, p.1, p.2, d))
    | inr x ↦ (text_front bs i l x).3
  ]
]

-- the range of the name behind the first byte
abbrev BehindFirst : List ℕ → Type 0
BehindFirst bytes = (first : ℕ) (name : List ℕ) → bytes ≡ first ∷ name → IsNameInRange name

behind_first : (b : ℕ) (bs : List ℕ) → IsNameInRange bs → BehindFirst (b ∷ bs)
behind_first b bs r first name e =
    let P : List ℕ → Type 0 = λ name. IsNameInRange name in subst P (tails b first bs name e).1 r

not_digits : (bs : List ℕ) (i : ℕ) → i ≤ length bs → (starts_name bs ≡ true) ⊎ (run_len Digits bs ≡ 0)
    → IsNameInRange (take i bs)
not_digits bs i l h d = elim h [
  | inl e ↦ absurd (let p = (digits_len bs i l d).0 in cc)
  | inr e ↦ absurd (let p = digits_len bs i l d in omega (arith, p.1, p.2, e))
]

-- What a token that begins with a sigil is, said once for both of its kinds.
abbrev pub Sigiled : ℕ → List ℕ → TokenKind → Type 0
Sigiled b bs kind = (n : ℕ) → n ≤ length bs → IsAnyName (take n bs)
    → ((i : ℕ) → i ≤ length bs → IsAnyName (take i bs) → (i < n) ⊎ (i ≡ n)) → Only (b ∷ bs) kind (suc n)

local_only : (b : ℕ) (bs : List ℕ) → class_of b ≡ Percent → Sigiled b bs Local
local_only b bs c n l s h = only_behind b bs Percent Local n c l (c, s)
    (λ other i w f. elim (h i w f.1) [ inl x ↦ inl x | inr x ↦ inr (x, f.0) ])

global_only : (b : ℕ) (bs : List ℕ) → class_of b ≡ At → Sigiled b bs Global
global_only b bs c n l s h =
    only_behind b bs At Global n c l (c, s) (λ other i w f. elim (h i w f.1) [ inl x ↦ inl x | inr x ↦ inr (x, f.0) ])

-- no token begins with the byte, where no name follows
abbrev pub Unnamed : ℕ → List ℕ → Type 0
Unnamed b bs = ((i : ℕ) → i ≤ length bs → IsAnyName (take i bs) → ⊥) → BeginsNone (b ∷ bs)

-- what a sigil and its kind of token have
pub record IsSigil (b : ℕ) (bs : List ℕ) (kind : TokenKind) : Type 0 where
  pub only : Sigiled b bs kind
  pub first : First is_sigil (b ∷ bs)
  pub none : Unnamed b bs
  pub token : (n : ℕ) → Only (b ∷ bs) kind (suc n) → IsNameInRange (take n bs) → Judged (b ∷ bs) (Ok (kind, suc n))
  pub flawed : (n : ℕ) → Only (b ∷ bs) kind (suc n) → (IsNameInRange (take n bs) → ⊥)
      → Judged (b ∷ bs) (Err flaw.Number)

local_sigil : (b : ℕ) (bs : List ℕ) → class_of b ≡ Percent → IsSigil b bs Local
local_sigil b bs c = record {
  only = local_only b bs c;
  first = ap is_sigil c;
  none = λ h. none_behind b bs Percent c (λ other i w f. h i w f.1);
  token = λ n o r. (o, tt, behind_first b (take n bs) r);
  flawed = λ n o r. (Local, suc n, omega arith, o, inr (λ q. r (q b (take n bs) refl)));
}

global_sigil : (b : ℕ) (bs : List ℕ) → class_of b ≡ At → IsSigil b bs Global
global_sigil b bs c = record {
  only = global_only b bs c;
  first = ap is_sigil c;
  none = λ h. none_behind b bs At c (λ other i w f. h i w f.1);
  token = λ n o r. (o, tt, behind_first b (take n bs) r);
  flawed = λ n o r. (Global, suc n, omega arith, o, inr (λ q. r (q b (take n bs) refl)));
}

same_or_less : (i n : ℕ) → i ≤ n → (i < n) ⊎ (i ≡ n)
same_or_less i n l = elim (less_or_same i n (n ≡ n) l refl) [ inl x ↦ inl x | inr x ↦ inr x.0 ]

plain_name : (b : ℕ) (bs : List ℕ) (kind : TokenKind) → IsSigil b bs kind → starts_name bs ≡ true
    → Judged (b ∷ bs) (Ok (kind, suc (run_len NameBytes bs)))
plain_name b bs kind k h =
    let n = run_len NameBytes bs in
    let w = (run NameBytes bs).within in
    k.token n (k.only n w (inl (name_here bs h)) (λ i l s. same_or_less i n (name_only bs i l h s)))
    (not_digits bs n w (inl h))

number_by : (b : ℕ) (bs : List ℕ) (kind : TokenKind) (n : ℕ) → IsSigil b bs kind → Only (b ∷ bs) kind (suc n)
    → IsDigits (take n bs)
    → (t : Bool) → is_small (take n bs) ≡ t → Judged (b ∷ bs) (cond t (Ok (kind, suc n)) (Err flaw.Number))
number_by b bs kind n k o d true s = k.token n o (small_in_range (take n bs) s)
number_by b bs kind n k o d false s = k.flawed n o (small_out_of_range (take n bs) s d)

number_name : (b : ℕ) (bs : List ℕ) (kind : TokenKind) → IsSigil b bs kind → starts_name bs ≡ false
    → 0 < run_len Digits bs
    → Judged (b ∷ bs) (numbered kind (suc (run_len Digits bs)) (take (run_len Digits bs) bs))
unfolding numbered
number_name b bs kind k h p =
    let n = run_len Digits bs in
    let d = digits_here bs p in
    let o = k.only n (run Digits bs).within (inr (inl d)) (λ i l s. same_or_less i n (digits_only bs i l h p s)) in
    number_by b bs kind n k o d (is_small (take n bs)) refl

text_name : (b : ℕ) (bs : List ℕ) (kind : TokenKind) → IsSigil b bs kind → starts_name bs ≡ false
    → run_len Digits bs ≡ 0 → (o : Option ℕ) → text_len bs ≡ o → Judged (b ∷ bs) (named_by kind o)
text_name b bs kind k h z (Some n) e =
    let t = text_is bs n e in
    k.token n (k.only n t.within (inr (inr t.text))
    (λ i l s. inr (some_same (text_len bs) i n (text_only bs i l h z s) e))) (not_digits bs n t.within (inr z))
text_name b bs kind k h z None e = (k.first, k.none (λ i l s. none_some (text_len bs) i e (text_only bs i l h z s)))

unplain_name : (b : ℕ) (bs : List ℕ) (kind : TokenKind) → IsSigil b bs kind → starts_name bs ≡ false → (t : Bool)
    → eqb (run_len Digits bs) 0 ≡ t
    → Judged (b ∷ bs) (cond t (named_by kind (text_len bs))
    (numbered kind (suc (run_len Digits bs)) (take (run_len Digits bs) bs)))
unplain_name b bs kind k h true e =
    let z : run_len Digits bs ≡ 0 = grind (arith, nat_tests) in text_name b bs kind k h z (text_len bs) refl
unplain_name b bs kind k h false e =
    let p : 0 < run_len Digits bs = grind (arith, nat_tests) in number_name b bs kind k h p

named_name : (b : ℕ) (bs : List ℕ) (kind : TokenKind) → IsSigil b bs kind → (t : Bool) → starts_name bs ≡ t
    → Judged (b ∷ bs) (cond t (Ok (kind, suc (run_len NameBytes bs))) (unplain kind (run_len Digits bs) bs))
named_name b bs kind k true h = plain_name b bs kind k h
named_name b bs kind k false h = unplain_name b bs kind k h (eqb (run_len Digits bs) 0) refl

pub local : (b : ℕ) (bs : List ℕ) → class_of b ≡ Percent → Judged (b ∷ bs) (named Local bs)
unfolding named
local b bs c = named_name b bs Local (local_sigil b bs c) (starts_name bs) refl

pub global : (b : ℕ) (bs : List ℕ) → class_of b ≡ At → Judged (b ∷ bs) (named Global bs)
unfolding named
global b bs c = named_name b bs Global (global_sigil b bs c) (starts_name bs) refl

-- Attributes.
attr_by : (b : ℕ) (bs : List ℕ) → class_of b ≡ Hash → (t : Bool) → eqb (run_len Digits bs) 0 ≡ t
    → Judged (b ∷ bs) (cond t (Err flaw.Name) (Ok (Attr, suc (run_len Digits bs))))
attr_by b bs c true e =
    let z : run_len Digits bs ≡ 0 = grind (arith, nat_tests) in (
      ap is_sigil c,
      none_behind b bs Hash c (λ other i l s. let p = digits_len bs i l s.1 in
          omega (arith, p.1, p.2, z)),
    )
attr_by b bs c false e =
    let n = run_len Digits bs in
    let z : 0 < n = grind (arith, nat_tests) in
    let others : (other : TokenKind) (i : ℕ) → i ≤ length bs → Forms Hash b (take i bs) other → (i < n)
    ⊎ ((i ≡ n) × (other ≡ Attr)) =
    λ other i l s. less_or_same i n (other ≡ Attr) (digits_len bs i l s.1).2 s.0 in
    (only_behind b bs Hash Attr n c (run Digits bs).within (c, digits_here bs z) others, tt, tt)

pub attr : (b : ℕ) (bs : List ℕ) → class_of b ≡ Hash → Judged (b ∷ bs) (attribute bs)
unfolding attribute
attr b bs c = attr_by b bs c (eqb (run_len Digits bs) 0) refl

-- Metadata.
pub empty_take : (bs : List ℕ) (i : ℕ) → i ≤ length bs → take i bs ≡ [] → i ≡ 0
empty_take bs zero l h = refl
empty_take [] (suc i) l h = absurd (omega (arith, l))
empty_take (b ∷ bs) (suc i) l h = absurd cc

meta_name : (b : ℕ) (bs : List ℕ) → class_of b ≡ Bang → starts_name bs ≡ true
    → Judged (b ∷ bs) (Ok (Meta, suc (run_len NameBytes bs)))
meta_name b bs c h =
    let n = run_len NameBytes bs in
    let others : (other : TokenKind) (i : ℕ) → i ≤ length bs → Forms Bang b (take i bs) other → (i < n)
    ⊎ ((i ≡ n) × (other ≡ Meta)) =
    λ other i l s. less_or_same i n (other ≡ Meta) (elim s.1 [
      | inl x ↦ omega (arith, empty_take bs i l x)
      | inr r ↦ elim r [ inl x ↦ (name_len bs i l x).1 | inr x ↦ absurd (let e = (digits_len bs i l x).0 in cc) ]
    ]) s.0 in
    (only_behind b bs Bang Meta n c (run NameBytes bs).within (c, inr (inl (name_here bs h))) others, tt, tt)

no_name : (bs : List ℕ) → run_len Digits bs ≡ 0 → IsMetaName (take (run_len Digits bs) bs)
no_name bs z = inl (ap (λ (n : ℕ). take n bs) z)

meta_digits_by : (bs : List ℕ) (t : Bool) → eqb (run_len Digits bs) 0 ≡ t → IsMetaName (take (run_len Digits bs) bs)
meta_digits_by bs true e = let z : run_len Digits bs ≡ 0 = grind (arith, nat_tests) in no_name bs z
meta_digits_by bs false e = let z : 0 < run_len Digits bs = grind (arith, nat_tests) in inr (inr (digits_here bs z))

meta_digits : (b : ℕ) (bs : List ℕ) → class_of b ≡ Bang → starts_name bs ≡ false
    → Judged (b ∷ bs) (Ok (Meta, suc (run_len Digits bs)))
meta_digits b bs c h =
    let n = run_len Digits bs in
    let others : (other : TokenKind) (i : ℕ) → i ≤ length bs → Forms Bang b (take i bs) other → (i < n)
    ⊎ ((i ≡ n) × (other ≡ Meta)) =
    λ other i l s. less_or_same i n (other ≡ Meta) (elim s.1 [
      | inl x ↦ omega (arith, empty_take bs i l x)
      | inr r ↦ elim r [ inl x ↦ absurd (let e = (name_len bs i l x).0 in cc) | inr x ↦ (digits_len bs i l x).2 ]
    ]) s.0 in
    (only_behind b bs Bang Meta n c (run Digits bs).within (c, meta_digits_by bs (eqb n 0) refl) others, tt, tt)

meta_by : (b : ℕ) (bs : List ℕ) → class_of b ≡ Bang → (t : Bool) → starts_name bs ≡ t
    → Judged (b ∷ bs) (Ok (Meta, cond t (suc (run_len NameBytes bs)) (suc (run_len Digits bs))))
meta_by b bs c true h = meta_name b bs c h
meta_by b bs c false h = meta_digits b bs c h

pub meta : (b : ℕ) (bs : List ℕ) → class_of b ≡ Bang → Judged (b ∷ bs) (Ok (Meta, metadata_len bs))
unfolding metadata_len
meta b bs c = meta_by b bs c (starts_name bs) refl
