-- There is one token or one flaw at the front of bytes, and the scanner finds it.
use Rattle.std.proofs.Common.{◌≡◌, ℕ, ◌<◌, ◌≤◌, Bool, true, false, ◌⊎◌, List, [], ◌∷◌, length, take, drop, Ok, Err}
use Rattle.std.proofs.Common.{suc, zero, refl, sym, ◌∙◌, ap, subst, inl, inr, arith}
use Rattle.ds_lex.specs.declared.bytes.ByteClass.{ByteClass}
use Rattle.ds_lex.specs.declared.bytes.ByteClass.TheVariants.{Blank, Semicolon, Percent, At, Hash, Bang, Quote, Minus}
use Rattle.ds_lex.specs.declared.bytes.ByteClass.TheVariants.{Digit, Letter, Mark, Other}
use Rattle.ds_lex.specs.declared.fault.LexFault.{LexFault}
use Rattle.ds_lex.specs.declared.fault.LexFault.TheVariants.{BadByte, BadName, BadNumber, OpenText, Memory}
use Rattle.ds_lex.specs.declared.token.TokenKind.{TokenKind}
use Rattle.ds_lex.specs.declared.token.TokenKind.TheVariants.{End}
use Rattle.ds_lex.specs.declared.words.Flaw.{Flaw}
use Rattle.ds_lex.specs.declared.words.Flaw.TheVariants as flaw
use Rattle.ds_lex.specs.Bytes.{class_of, is_quote}
use Rattle.ds_lex.specs.Lexed.{IsSpelling, IsLongest, IsWhole, IsToken}
use Rattle.ds_lex.specs.Fault.{BeginsNone, Begins, IsNoToken, IsFaultAt}
use Rattle.ds_lex.specs.Scan.{Scanned, fault_of, gap_len, gap_behind}
use Rattle.ds_lex.proofs.Firsts.{First, is_sigil, is_stray, quote_is, begins_stray, begins_sigil, begins_quote}
use Rattle.ds_lex.proofs.Firsts.{first_of}
use Rattle.ds_lex.proofs.Forms.{opened}
use Rattle.ds_lex.proofs.Judged.{Judged, longest, one_longest}
use Rattle.ds_lex.proofs.Fronts.{end_only}

-- why no token begins the bytes
abbrev pub FlawAt : List ℕ → Flaw → Type 0
FlawAt bytes flaw.Byte = First is_stray bytes × BeginsNone bytes
FlawAt bytes flaw.Name = First is_sigil bytes × BeginsNone bytes
FlawAt bytes flaw.Text = First is_quote bytes × BeginsNone bytes
FlawAt bytes flaw.Number = (kind : TokenKind) × (n : ℕ) × (0 < n) × IsLongest bytes kind n × IsNoToken bytes kind n

pub token_is : (bytes : List ℕ) (kind : TokenKind) (n : ℕ) → Judged bytes (Ok (kind, n)) → IsToken bytes kind n
token_is bytes kind n j = record { longest = longest bytes kind n j.0; whole = j.1; in_range = j.2 }

pub flaw_is : (bytes : List ℕ) (f : Flaw) → Judged bytes (Err f) → FlawAt bytes f
flaw_is bytes flaw.Byte j = j
flaw_is bytes flaw.Name j = j
flaw_is bytes flaw.Text j = j
flaw_is bytes flaw.Number j = (j.0, j.1, j.2, longest bytes j.0 j.1 j.3, j.4)

pub fault_is : (text : List ℕ) (start : ℕ) (f : Flaw) → FlawAt (drop start text) f
    → IsFaultAt text start (fault_of f start (length text))
fault_is text start flaw.Byte h = (refl, h.1, begins_stray (drop start text) h.0)
fault_is text start flaw.Name h = (refl, h.1, begins_sigil (drop start text) h.0)
fault_is text start flaw.Text h = (refl, h.1, begins_quote (drop start text) h.0)
fault_is text start flaw.Number h = (refl, h.0, h.1, h.2, h.3, h.4)

-- the flaw that a fault tells
pub record Told (text : List ℕ) (start : ℕ) (fault : LexFault) : Type 0 where
  pub why : Flaw
  pub same : fault ≡ fault_of why start (length text)
  pub flaw : FlawAt (drop start text) why

stray_first : (bytes : List ℕ) → Begins Minus bytes ⊎ Begins Other bytes → First is_stray bytes
stray_first bytes h =
    elim h [ inl x ↦ first_of bytes Minus is_stray refl x | inr x ↦ first_of bytes Other is_stray refl x ]

sigil_first : (bytes : List ℕ) → Begins Percent bytes ⊎ (Begins At bytes ⊎ Begins Hash bytes) → First is_sigil bytes
sigil_first bytes h = elim h [
  | inl x ↦ first_of bytes Percent is_sigil refl x
  | inr r ↦ elim r [ inl x ↦ first_of bytes At is_sigil refl x | inr x ↦ first_of bytes Hash is_sigil refl x ]
]

-- what is no token is none
no_token : (bytes : List ℕ) (kind : TokenKind) (n : ℕ) → IsNoToken bytes kind n → IsToken bytes kind n → ⊥
no_token bytes kind n h t = elim h [ inl x ↦ x t.whole | inr x ↦ x t.in_range ]

pub told : (text : List ℕ) (start : ℕ) (fault : LexFault) → IsFaultAt text start fault → Told text start fault
told text start (BadByte at) h =
    record { why = flaw.Byte; same = ap (λ (n : ℕ). BadByte n) h.0; flaw = (stray_first (drop start text) h.2, h.1) }
told text start (BadName at) h =
    record { why = flaw.Name; same = ap (λ (n : ℕ). BadName n) h.0; flaw = (sigil_first (drop start text) h.2, h.1) }
told text start (OpenText at) h =
    record {
      why = flaw.Text;
      same = ap (λ (n : ℕ). OpenText n) h.0;
      flaw =
          (first_of (drop start text) Quote is_quote refl h.2, h.1);
    }
told text start (BadNumber at) h =
    record { why = flaw.Number; same = ap (λ (n : ℕ). BadNumber n) h.0; flaw = (h.1, h.2, h.3, h.4, h.5) }
told text start Memory h = absurd h

-- no token is empty but the end
whole_end : (kind : TokenKind) (bytes : List ℕ) → kind ≡ End → IsWhole kind bytes → bytes ≡ []
whole_end kind bytes e w = let P : TokenKind → Type 0 = λ k. IsWhole k bytes in subst P e w

begins_none : (bytes : List ℕ) (property : ByteClass → Bool) (kind : TokenKind) (n : ℕ) → First property bytes
    → BeginsNone bytes
    → n ≤ length bytes → IsSpelling kind (take n bytes) → IsWhole kind (drop n bytes) → ⊥
begins_none bytes property kind (suc n) f b l s w = b kind (suc n) (omega arith) l s
begins_none bytes property kind zero f b l s w = let e = whole_end kind bytes (end_only kind s) w in let P : List ℕ
    → Type 0 = λ xs. First property xs in subst P e f

same_token : (kind other : TokenKind) (n m : ℕ) → kind ≡ other → n ≡ m
    → (let r : Scanned = Ok (kind, n) in r) ≡ Ok (other, m)
same_token kind other n m e f =
    let make : TokenKind → ℕ → Scanned = λ k i. Ok (k, i) in ap (λ k. make k n) e ∙ ap (make other) f

pub agrees_token : (bytes : List ℕ) (r : Scanned) (kind : TokenKind) (n : ℕ) → Judged bytes r → IsToken bytes kind n
    → r ≡ Ok (kind, n)
agrees_token bytes (Ok found) kind n j t =
    let p = one_longest bytes found.0 kind found.1 n j.0 t.longest in
    same_token found.0 kind found.1 n (sym p.1) (sym p.0)
agrees_token bytes (Err flaw.Byte) kind n j t =
    absurd (begins_none bytes is_stray kind n j.0 j.1 t.longest.within t.longest.spelled t.whole)
agrees_token bytes (Err flaw.Name) kind n j t =
    absurd (begins_none bytes is_sigil kind n j.0 j.1 t.longest.within t.longest.spelled t.whole)
agrees_token bytes (Err flaw.Text) kind n j t =
    absurd (begins_none bytes is_quote kind n j.0 j.1 t.longest.within t.longest.spelled t.whole)
agrees_token bytes (Err flaw.Number) kind n j t =
    let p = one_longest bytes j.0 kind j.1 n j.3 t.longest in
    let P : TokenKind → ℕ → Type 0 = λ k m. IsToken bytes k m in
    absurd (no_token bytes j.0 j.1 j.4 (subst (λ k. P k j.1) p.1 (subst (P kind) p.0 t)))

-- where bytes begin with two properties
both : (bytes : List ℕ) (p q : ByteClass → Bool) → ((k : ByteClass) → p k ≡ true → q k ≡ true → ⊥) → First p bytes
    → First q bytes → ⊥
both [] p q d f g = f
both (b ∷ bs) p q d f g = d (class_of b) f g

stray_sigil : (k : ByteClass) → is_stray k ≡ true → is_sigil k ≡ true → ⊥
stray_sigil Blank f g = cc
stray_sigil Semicolon f g = cc
stray_sigil Percent f g = cc
stray_sigil At f g = cc
stray_sigil Hash f g = cc
stray_sigil Bang f g = cc
stray_sigil Quote f g = cc
stray_sigil Minus f g = cc
stray_sigil Digit f g = cc
stray_sigil Letter f g = cc
stray_sigil Mark f g = cc
stray_sigil Other f g = cc

stray_quote : (k : ByteClass) → is_stray k ≡ true → is_quote k ≡ true → ⊥
stray_quote k f g = let e = ap is_stray (quote_is k g) in cc

sigil_quote : (k : ByteClass) → is_sigil k ≡ true → is_quote k ≡ true → ⊥
sigil_quote k f g = let e = ap is_sigil (quote_is k g) in cc

no_number : (bytes : List ℕ) → BeginsNone bytes → FlawAt bytes flaw.Number → ⊥
no_number bytes b h = b h.0 h.1 h.2 h.3.within h.3.spelled

pub agrees_flaw : (bytes : List ℕ) (r : Scanned) (f : Flaw) → Judged bytes r → FlawAt bytes f → r ≡ Err f
agrees_flaw bytes (Ok found) flaw.Byte j h =
    absurd (begins_none bytes is_stray found.0 found.1 h.0 h.1 j.0.within j.0.spelled j.1)
agrees_flaw bytes (Ok found) flaw.Name j h =
    absurd (begins_none bytes is_sigil found.0 found.1 h.0 h.1 j.0.within j.0.spelled j.1)
agrees_flaw bytes (Ok found) flaw.Text j h =
    absurd (begins_none bytes is_quote found.0 found.1 h.0 h.1 j.0.within j.0.spelled j.1)
agrees_flaw bytes (Ok found) flaw.Number j h =
    let p = one_longest bytes found.0 h.0 found.1 h.1 j.0 h.3 in
    let P : TokenKind → ℕ → Type 0 = λ k m. IsToken bytes k m in
    absurd (no_token bytes h.0 h.1 h.4 (subst (λ k. P k h.1) (sym p.1)
    (subst (P found.0) (sym p.0) (token_is bytes found.0 found.1 j))))
agrees_flaw bytes (Err flaw.Byte) flaw.Byte j h = refl
agrees_flaw bytes (Err flaw.Byte) flaw.Name j h = absurd (both bytes is_stray is_sigil stray_sigil j.0 h.0)
agrees_flaw bytes (Err flaw.Byte) flaw.Text j h = absurd (both bytes is_stray is_quote stray_quote j.0 h.0)
agrees_flaw bytes (Err flaw.Byte) flaw.Number j h = absurd (no_number bytes j.1 h)
agrees_flaw bytes (Err flaw.Name) flaw.Byte j h = absurd (both bytes is_stray is_sigil stray_sigil h.0 j.0)
agrees_flaw bytes (Err flaw.Name) flaw.Name j h = refl
agrees_flaw bytes (Err flaw.Name) flaw.Text j h = absurd (both bytes is_sigil is_quote sigil_quote j.0 h.0)
agrees_flaw bytes (Err flaw.Name) flaw.Number j h = absurd (no_number bytes j.1 h)
agrees_flaw bytes (Err flaw.Text) flaw.Byte j h = absurd (both bytes is_stray is_quote stray_quote h.0 j.0)
agrees_flaw bytes (Err flaw.Text) flaw.Name j h = absurd (both bytes is_sigil is_quote sigil_quote h.0 j.0)
agrees_flaw bytes (Err flaw.Text) flaw.Text j h = refl
agrees_flaw bytes (Err flaw.Text) flaw.Number j h = absurd (no_number bytes j.1 h)
agrees_flaw bytes (Err flaw.Number) flaw.Byte j h = absurd (h.1 j.0 j.1 j.2 j.3.within j.3.spelled)
agrees_flaw bytes (Err flaw.Number) flaw.Name j h = absurd (h.1 j.0 j.1 j.2 j.3.within j.3.spelled)
agrees_flaw bytes (Err flaw.Number) flaw.Text j h = absurd (h.1 j.0 j.1 j.2 j.3.within j.3.spelled)
agrees_flaw bytes (Err flaw.Number) flaw.Number j h = refl

-- Where a token or a flaw is, no gap is.
gap_of_class : (k : ByteClass) (x y : ℕ) → (k ≡ Blank → ⊥) → (k ≡ Semicolon → ⊥) → gap_behind k x y ≡ 0
gap_of_class Blank x y b s = absurd (b refl)
gap_of_class Semicolon x y b s = absurd (s refl)
gap_of_class Percent x y b s = refl
gap_of_class At x y b s = refl
gap_of_class Hash x y b s = refl
gap_of_class Bang x y b s = refl
gap_of_class Quote x y b s = refl
gap_of_class Minus x y b s = refl
gap_of_class Digit x y b s = refl
gap_of_class Letter x y b s = refl
gap_of_class Mark x y b s = refl
gap_of_class Other x y b s = refl

cons_empty : (b : ℕ) (bs : List ℕ) → b ∷ bs ≡ [] → ⊥
cons_empty b bs h = cc

spelled_no_gap : (bytes : List ℕ) (kind : TokenKind) (n : ℕ) → n ≤ length bytes → IsSpelling kind (take n bytes)
    → IsWhole kind (drop n bytes) ⊎ (0 < n) → gap_len false bytes ≡ 0
unfolding gap_len
spelled_no_gap [] kind n l s w = refl
spelled_no_gap (b ∷ bs) kind zero l s w = absurd
    (elim w [ inl x ↦ cons_empty b bs (whole_end kind (b ∷ bs) (end_only kind s) x) | inr x ↦ omega (arith, x) ])
spelled_no_gap (b ∷ bs) kind (suc n) l s w =
    gap_of_class (class_of b) (gap_len false bs) (gap_len true bs) (λ c. opened kind b (take n bs) Blank c s)
    (λ c. opened kind b (take n bs) Semicolon c s)

first_no_gap : (bytes : List ℕ) (property : ByteClass → Bool) → property Blank ≡ false → property Semicolon ≡ false
    → First property bytes → gap_len false bytes ≡ 0
unfolding gap_len
first_no_gap [] property p q f = refl
first_no_gap (b ∷ bs) property p q f =
    gap_of_class (class_of b) (gap_len false bs) (gap_len true bs) (λ c. let e = ap property c in cc)
    (λ c. let e = ap property c in cc)

pub token_no_gap : (bytes : List ℕ) (kind : TokenKind) (n : ℕ) → IsToken bytes kind n → gap_len false bytes ≡ 0
token_no_gap bytes kind n t = spelled_no_gap bytes kind n t.longest.within t.longest.spelled (inl t.whole)

pub flaw_no_gap : (bytes : List ℕ) (f : Flaw) → FlawAt bytes f → gap_len false bytes ≡ 0
flaw_no_gap bytes flaw.Byte h = first_no_gap bytes is_stray refl refl h.0
flaw_no_gap bytes flaw.Name h = first_no_gap bytes is_sigil refl refl h.0
flaw_no_gap bytes flaw.Text h = first_no_gap bytes is_quote refl refl h.0
flaw_no_gap bytes flaw.Number h = spelled_no_gap bytes h.0 h.1 h.3.within h.3.spelled (inr h.2)
