-- Where what is spelled is followed by bytes that no token goes on with, no longer spelling stands there.
use Rattle.std.proofs.Common.{◌≡◌, ℕ, ◌<◌, ◌≤◌, true, false, List, length, take, drop, Some, suc, zero, ap, inl, inr}
use Rattle.std.proofs.Common.{arith}
use Rattle.std.specs.List.{list_all}
use Rattle.ds_lex.specs.declared.bytes.ByteClass.{ByteClass}
use Rattle.ds_lex.specs.declared.bytes.ByteClass.TheVariants.{Blank, Semicolon, Percent, At, Hash, Bang, Quote, Minus}
use Rattle.ds_lex.specs.declared.bytes.ByteClass.TheVariants.{Digit, Letter, Mark, Other}
use Rattle.ds_lex.specs.declared.bytes.RunOf.TheVariants.{NameBytes, Digits}
use Rattle.ds_lex.specs.declared.token.TokenKind.{TokenKind}
use Rattle.ds_lex.specs.Bytes.{belongs}
use Rattle.ds_lex.specs.Lexed.{IsName, IsDigits, IsText, IsAnyName, IsMetaName}
use Rattle.ds_lex.specs.Scan.{run_len, closed_len, text_len, starts_colon}
use Rattle.ds_lex.proofs.Runs.{run_take}
use Rattle.ds_lex.proofs.Forms.{Forms}
use Rattle.ds_lex.proofs.Texts.{closed_only, closed_colon}
use Rattle.ds_lex.proofs.Names.{name_len, digits_len, text_front}
use Rattle.ds_lex.proofs.Letters.{some_same, name_colon, digits_colon}
use Rattle.ds_lex.proofs.Sigils.{empty_take}
use Rattle.ds_lex.proofs.Ends.{Stops, run_stops, text_quote, text_no_colon}

-- nothing is left out before the bytes
stop_here : (bs : List ℕ) (j : ℕ) → j ≡ 0 → Stops (drop j bs) → Stops bs
stop_here bs zero z s = s
stop_here bs (suc j) z s = absurd (omega (arith, z))

colon_at : (bs : List ℕ) (m n : ℕ) → m ≡ n → starts_colon (drop m bs) ≡ true → starts_colon (drop n bs) ≡ false → ⊥
colon_at bs m n e h k = let same = ap (λ (x : ℕ). starts_colon (drop x bs)) e in cc

no_text : (bs : List ℕ) (j i : ℕ) → j ≡ 0 → Stops (drop j bs) → IsText (take i bs) → ⊥
no_text bs j i z s t = let q = text_quote bs i t in let n = (stop_here bs j z s).quote in cc

name_longer : (bs : List ℕ) (j i : ℕ) → j < i → i ≤ length bs → Stops (drop j bs) → IsName (take i bs) → ⊥
name_longer bs j i p l s f = omega (arith, p, (name_len bs i l f).1, run_stops NameBytes bs j s.name)

digits_longer : (bs : List ℕ) (j i : ℕ) → j < i → i ≤ length bs → Stops (drop j bs) → IsDigits (take i bs) → ⊥
digits_longer bs j i p l s f = omega (arith, p, (digits_len bs i l f).2, run_stops Digits bs j s.digits)

text_longer : (bs : List ℕ) (j i : ℕ) → j < i → i ≤ length bs → IsText (take j bs) → IsText (take i bs) → ⊥
text_longer bs j i p l e f =
    omega (arith, p, some_same (text_len bs) j i (text_front bs j (omega (arith, p, l)) e).3 (text_front bs i l f).3)

any_text : (bs : List ℕ) (j i : ℕ) → j < i → i ≤ length bs → IsAnyName (take j bs) → IsText (take i bs) → ⊥
any_text bs j i p l e f =
    let m : j ≤ length bs = omega (arith, p, l) in
    let t = text_front bs i l f in
    elim e [
      | inl x ↦ let n = (name_len bs j m x).0 in let o = t.0 in cc
      | inr r ↦ elim r [
        | inl x ↦ let d = digits_len bs j m x in omega (arith, d.1, d.2, t.2)
        | inr x ↦ text_longer bs j i p l x f
      ]
    ]

any_longer : (bs : List ℕ) (j i : ℕ) → j < i → i ≤ length bs → Stops (drop j bs) → IsAnyName (take j bs)
    → IsAnyName (take i bs) → ⊥
any_longer bs j i p l s e f =
    elim f [
      | inl x ↦ name_longer bs j i p l s x
      | inr r ↦ elim r [ inl x ↦ digits_longer bs j i p l s x | inr x ↦ any_text bs j i p l e x ]
    ]

meta_longer : (bs : List ℕ) (j i : ℕ) → j < i → i ≤ length bs → Stops (drop j bs) → IsMetaName (take i bs) → ⊥
meta_longer bs j i p l s f =
    elim f [
      | inl x ↦ omega (arith, p, empty_take bs i l x)
      | inr r ↦ elim r [ inl x ↦ name_longer bs j i p l s x | inr x ↦ digits_longer bs j i p l s x ]
    ]

-- behind a word, a label or c and a text
word_longer : (b : ℕ) (bs : List ℕ) (other : TokenKind) (j i : ℕ) → j < i → i ≤ length bs → Stops (drop j bs)
    → list_all (belongs NameBytes) (take j bs) ≡ true → Forms Letter b (take i bs) other → ⊥
word_longer b bs other j i p l s e f =
    let m : j ≤ length bs = omega (arith, p, l) in
    let r = run_stops NameBytes bs j s.name in
    elim f [
      | inl x ↦ omega (arith, p, r, run_take NameBytes bs i l x.1)
      | inr q ↦ elim q [
        | inl x ↦ let c =
            name_colon bs i l x.1 in colon_at bs (run_len NameBytes bs) j (omega (arith, p, r, c.0)) c.1 s.colon
        | inr x ↦ no_text bs j i (omega (arith, run_take NameBytes bs j m e, (text_front bs i l x.2).1)) s x.2
      ]
    ]

label_longer : (b : ℕ) (bs : List ℕ) (other : TokenKind) (j i : ℕ) → j < i → i ≤ length bs
    → j ≡ suc (run_len NameBytes bs) → starts_colon (drop (run_len NameBytes bs) bs) ≡ true
    → Forms Letter b (take i bs) other → ⊥
label_longer b bs other j i p l e h f =
    elim f [
      | inl x ↦ omega (arith, p, e, run_take NameBytes bs i l x.1)
      | inr q ↦ elim q [
        | inl x ↦ omega (arith, p, e, (name_colon bs i l x.1).0)
        | inr x ↦ colon_at bs (run_len NameBytes bs) 0 (text_front bs i l x.2).1 h (text_no_colon bs i x.2)
      ]
    ]

ctext_longer : (b : ℕ) (bs : List ℕ) (other : TokenKind) (j i : ℕ) → j < i → i ≤ length bs → IsText (take j bs)
    → Forms Letter b (take i bs) other → ⊥
ctext_longer b bs other j i p l e f =
    let t = text_front bs j (omega (arith, p, l)) e in
    elim f [
      | inl x ↦ omega (arith, p, run_take NameBytes bs i l x.1, t.1)
      | inr q ↦ elim q [
        | inl x ↦ let c = name_colon bs i l x.1 in colon_at bs (run_len NameBytes bs) 0 t.1 c.1 (text_no_colon bs j e)
        | inr x ↦ text_longer bs j i p l e x.2
      ]
    ]

-- behind digits, and a label in digits
number_longer : (b : ℕ) (bs : List ℕ) (other : TokenKind) (j i : ℕ) → j < i → i ≤ length bs → Stops (drop j bs)
    → Forms Digit b (take i bs) other → ⊥
number_longer b bs other j i p l s f =
    let r = run_stops Digits bs j s.digits in
    elim f [
      | inl x ↦ omega (arith, p, r, run_take Digits bs i l x.1)
      | inr x ↦ let c =
          digits_colon bs i l x.1 in colon_at bs (run_len Digits bs) j (omega (arith, p, r, c.0)) c.1 s.colon
    ]

numbered_longer : (b : ℕ) (bs : List ℕ) (other : TokenKind) (j i : ℕ) → j < i → i ≤ length bs
    → j ≡ suc (run_len Digits bs) → Forms Digit b (take i bs) other → ⊥
numbered_longer b bs other j i p l e f =
    elim f [
      | inl x ↦ omega (arith, p, e, run_take Digits bs i l x.1)
      | inr x ↦ omega (arith, p, e, (digits_colon bs i l x.1).0)
    ]

-- behind a text, and a label that is a text
quoted_longer : (b : ℕ) (bs : List ℕ) (other : TokenKind) (j i : ℕ) → j < i → i ≤ length bs → Stops (drop j bs)
    → closed_len bs ≡ Some j → Forms Quote b (take i bs) other → ⊥
quoted_longer b bs other j i p l s e f =
    elim f [
      | inl x ↦ omega (arith, p, some_same (closed_len bs) j i e (closed_only bs i l x.1))
      | inr x ↦ let c =
          closed_colon bs i l x.1 in colon_at bs c.len j (some_same (closed_len bs) c.len j c.closed e) c.colon s.colon
    ]

named_longer : (b : ℕ) (bs : List ℕ) (other : TokenKind) (j n i : ℕ) → j < i → i ≤ length bs → j ≡ suc n
    → closed_len bs ≡ Some n → Forms Quote b (take i bs) other → ⊥
named_longer b bs other j n i p l e h f =
    elim f [
      | inl x ↦ omega (arith, p, e, some_same (closed_len bs) n i h (closed_only bs i l x.1))
      | inr x ↦ let c =
          closed_colon bs i l x.1 in omega (arith, p, e, c.taken, some_same (closed_len bs) c.len n c.closed h)
    ]

pub no_longer : (class : ByteClass) (b : ℕ) (bs : List ℕ) (kind other : TokenKind) (j i : ℕ) → j < i → i ≤ length bs
    → Stops (drop j bs)
    → Forms class b (take j bs) kind → Forms class b (take i bs) other → ⊥
no_longer Letter b bs kind other j i p l s e f =
    elim e [
      | inl x ↦ word_longer b bs other j i p l s x.1 f
      | inr r ↦ elim r [
        | inl x ↦ let c = name_colon bs j (omega (arith, p, l)) x.1 in label_longer b bs other j i p l c.0 c.1 f
        | inr x ↦ ctext_longer b bs other j i p l x.2 f
      ]
    ]
no_longer Digit b bs kind other j i p l s e f =
    elim e [
      | inl x ↦ number_longer b bs other j i p l s f
      | inr x ↦ numbered_longer b bs other j i p l (digits_colon bs j (omega (arith, p, l)) x.1).0 f
    ]
no_longer Quote b bs kind other j i p l s e f =
    elim e [
      | inl x ↦ quoted_longer b bs other j i p l s (closed_only bs j (omega (arith, p, l)) x.1) f
      | inr x ↦ let c =
          closed_colon bs j (omega (arith, p, l)) x.1 in named_longer b bs other j c.len i p l c.taken c.closed f
    ]
no_longer Percent b bs kind other j i p l s e f = any_longer bs j i p l s e.1 f.1
no_longer At b bs kind other j i p l s e f = any_longer bs j i p l s e.1 f.1
no_longer Hash b bs kind other j i p l s e f = digits_longer bs j i p l s f.1
no_longer Bang b bs kind other j i p l s e f = meta_longer bs j i p l s f.1
no_longer Minus b bs kind other j i p l s e f = digits_longer bs j i p l s f.1
no_longer Mark b bs kind other j i p l s e f = omega (arith, p, empty_take bs i l f.1)
no_longer Blank b bs kind other j i p l s e f = e
no_longer Semicolon b bs kind other j i p l s e f = e
no_longer Other b bs kind other j i p l s e f = e
