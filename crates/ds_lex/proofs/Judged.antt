-- What is to be shown of a token found, or of why there is none.
use Rattle.std.proofs.Common.{◌≡◌, ℕ, ◌<◌, ◌≤◌, ◌⊎◌, List, ◌∷◌, length, take, drop, suc, zero, ap, inl, inr, arith}
use Rattle.std.proofs.Common.{Ok, Err}
use Rattle.ds_lex.specs.declared.bytes.ByteClass.{ByteClass}
use Rattle.ds_lex.specs.declared.token.TokenKind.{TokenKind}
use Rattle.ds_lex.specs.declared.words.Flaw.TheVariants as flaw
use Rattle.ds_lex.specs.Bytes.{class_of, is_quote}
use Rattle.ds_lex.specs.Lexed.{IsSpelling, IsLongest, IsWhole, IsInRange}
use Rattle.ds_lex.specs.Fault.{BeginsNone, IsNoToken}
use Rattle.ds_lex.specs.Scan.{Scanned}
use Rattle.ds_lex.proofs.Firsts.{First, is_sigil, is_stray}
use Rattle.ds_lex.proofs.Forms.{Forms, opened}

-- every other spelling at the front of the bytes is a shorter one
pub record Only (bytes : List ℕ) (kind : TokenKind) (n : ℕ) : Type 0 where
  pub within : n ≤ length bytes
  pub spelled : IsSpelling kind (take n bytes)
  pub others : (other : TokenKind) (m : ℕ) → m ≤ length bytes → IsSpelling other (take m bytes) → (m < n)
      ⊎ ((m ≡ n) × (other ≡ kind))

-- what is known of what the scanner found
abbrev pub Judged : List ℕ → Scanned → Type 0
Judged bytes (Ok found) =
    Only bytes found.0 found.1 × IsWhole found.0 (drop found.1 bytes) × IsInRange found.0 (take found.1 bytes)
Judged bytes (Err flaw.Byte) = First is_stray bytes × BeginsNone bytes
Judged bytes (Err flaw.Name) = First is_sigil bytes × BeginsNone bytes
Judged bytes (Err flaw.Text) = First is_quote bytes × BeginsNone bytes
Judged bytes (Err flaw.Number) =
    (kind : TokenKind) × (n : ℕ) × (0 < n) × Only bytes kind n × IsNoToken bytes kind n

shifted : (i n : ℕ) (E : Type 0) → (i < n) ⊎ ((i ≡ n) × E) → (suc i < suc n) ⊎ ((suc i ≡ suc n) × E)
shifted i n E h = elim h [ inl l ↦ inl (omega (arith, l)) | inr p ↦ inr (ap suc p.0, p.1) ]

others_behind : (b : ℕ) (bs : List ℕ) (class : ByteClass) (kind : TokenKind) (n : ℕ) → class_of b ≡ class
    → ((other : TokenKind) (i : ℕ) → i ≤ length bs → Forms class b (take i bs) other → (i < n)
    ⊎ ((i ≡ n) × (other ≡ kind)))
    → (other : TokenKind) (m : ℕ) → m ≤ length (b ∷ bs) → IsSpelling other (take m (b ∷ bs)) → (m < suc n)
    ⊎ ((m ≡ suc n) × (other ≡ kind))
others_behind b bs class kind n c h other zero l s = inl (omega arith)
others_behind b bs class kind n c h other (suc i) l s =
    shifted i n (other ≡ kind) (h other i (omega (arith, l)) (opened other b (take i bs) class c s))

-- a token of one byte of the class and n more
pub only_behind : (b : ℕ) (bs : List ℕ) (class : ByteClass) (kind : TokenKind) (n : ℕ) → class_of b ≡ class
    → n ≤ length bs → IsSpelling kind (b ∷ take n bs)
    → ((other : TokenKind) (i : ℕ) → i ≤ length bs → Forms class b (take i bs) other → (i < n)
    ⊎ ((i ≡ n) × (other ≡ kind)))
    → Only (b ∷ bs) kind (suc n)
only_behind b bs class kind n c l s h =
    record { within = omega (arith, l); spelled = s; others = others_behind b bs class kind n c h }

-- no token begins with a byte of the class
pub none_behind : (b : ℕ) (bs : List ℕ) (class : ByteClass) → class_of b ≡ class
    → ((other : TokenKind) (i : ℕ) → i ≤ length bs → Forms class b (take i bs) other → ⊥) → BeginsNone (b ∷ bs)
none_behind b bs class c h other zero p l s = omega (arith, p)
none_behind b bs class c h other (suc i) p l s = h other i (omega (arith, l)) (opened other b (take i bs) class c s)

not_itself : (n m : ℕ) (E : Type 0) → n < m → (m < n) ⊎ ((m ≡ n) × E) → ⊥
not_itself n m E l h = elim h [ inl g ↦ omega (arith, l, g) | inr p ↦ omega (arith, l, p.0) ]

pub longest : (bytes : List ℕ) (kind : TokenKind) (n : ℕ) → Only bytes kind n → IsLongest bytes kind n
longest bytes kind n o = record {
  within = o.within;
  spelled = o.spelled;
  longest = λ other m l w s. not_itself n m (other ≡ kind) l (o.others other m w s);
}

-- the longest token is the one found
pub one_longest : (bytes : List ℕ) (kind other : TokenKind) (n m : ℕ) → Only bytes kind n → IsLongest bytes other m
    → (m ≡ n) × (other ≡ kind)
one_longest bytes kind other n m o h =
    elim (o.others other m h.within h.spelled) [
      | inl l ↦ absurd (h.longest kind n l o.within o.spelled)
      | inr p ↦ p
    ]
