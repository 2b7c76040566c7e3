-- The token or the fault behind a place of the text.
use Rattle.std.proofs.Common.{◌≡◌, ℕ, ◌+◌, ◌-◌, ◌≤◌, false, List, [], ◌++◌, length, take, drop, Ok, Err, refl, sym}
use Rattle.std.proofs.Common.{◌∙◌, ap, subst, arith, length-drop}
use Rattle.std.specs.List.{slice_range}
use Rattle.std.proofs.lemmas.List.{take-append-drop, drop-drop, length-take-le}
use Rattle.ds_lex.specs.declared.fault.LexFault.{LexFault}
use Rattle.ds_lex.specs.declared.token.TokenKind.{TokenKind}
use Rattle.ds_lex.specs.declared.token.Token.{Token}
use Rattle.ds_lex.specs.declared.words.Flaw.{Flaw}
use Rattle.ds_lex.specs.Lexed.{IsGapFrom, IsToken, IsGap, IsTokenAt}
use Rattle.ds_lex.specs.Fault.{FaultFrom}
use Rattle.ds_lex.specs.Scan.{Scanned, gap_len, token_at, fault_of}
use Rattle.ds_lex.proofs.Gaps.{gap_found, gap_only}
use Rattle.ds_lex.proofs.Judged.{Judged}
use Rattle.ds_lex.proofs.Fronts.{front}
use Rattle.ds_lex.proofs.Agreement.{FlawAt, token_is, flaw_is, fault_is, told, agrees_token, agrees_flaw}
use Rattle.ds_lex.proofs.Agreement.{token_no_gap, flaw_no_gap}

-- a part of the list and what is left behind it
parts : (xs : List ℕ) (i j : ℕ) → i ≤ j → drop i xs ≡ slice_range xs i j ++ drop j xs
parts xs i j h =
    let e : i + (j - i) ≡ j = omega arith in
    sym (take-append-drop (j - i) (drop i xs)) ∙ ap (λ r. slice_range xs i j ++ r)
    (drop-drop (j - i) i xs ∙ ap (λ (n : ℕ). drop n xs) e)

length_part : (xs : List ℕ) (i j : ℕ) → i ≤ j → j ≤ length xs → length (slice_range xs i j) ≡ j - i
length_part xs i j h l = length-take-le (j - i) (drop i xs) (omega (arith, length-drop i xs))

pub part_at : (xs : List ℕ) (i n : ℕ) → slice_range xs i (i + n) ≡ take n (drop i xs)
part_at xs i n = let e : i + n - i ≡ n = omega arith in ap (λ (m : ℕ). take m (drop i xs)) e

-- where the blanks and the comments behind `at` bytes end
abbrev pub gap_end : List ℕ → ℕ → ℕ
gap_end text at = at + gap_len false (drop at text)

pub gap_at : (text : List ℕ) (at : ℕ) → at ≤ length text → IsGap text at (gap_end text at)
gap_at text at h =
    let n = gap_len false (drop at text) in
    let f = gap_found false (drop at text) in
    let P : List ℕ → List ℕ → Type 0 = λ gap rest. IsGapFrom false gap rest in
    record {
      behind = omega arith;
      within = omega (arith, f.within, length-drop at text);
      gap = subst (λ gap. P gap (drop (at + n) text)) (sym (part_at text at n))
          (subst (λ rest. P (take n (drop at text)) rest) (drop-drop n at text) f.gap);
    }

no_gap_left : (text : List ℕ) (at : ℕ) → gap_len false (drop (gap_end text at) text) ≡ 0
no_gap_left text at =
    ap (gap_len false) (sym (drop-drop (gap_len false (drop at text)) at text)) ∙ (gap_found false (drop at text)).rest

-- the scanner's judgement behind the gap
judged_at : (text : List ℕ) (at : ℕ) (r : Scanned) → token_at (drop (gap_end text at) text) ≡ r
    → Judged (drop (gap_end text at) text) r
judged_at text at r e = let P : Scanned → Type 0 = λ r. Judged (drop (gap_end text at) text) r in
    subst P e (front (drop (gap_end text at) text) (no_gap_left text at))

pub found_at : (text : List ℕ) (at : ℕ) (kind : TokenKind) (len : ℕ) → at ≤ length text
    → token_at (drop (gap_end text at) text) ≡ Ok (kind, len)
    → IsTokenAt text at (record { kind = kind; start = gap_end text at; end = gap_end text at + len })
found_at text at kind len h e =
    let start = gap_end text at in
    let t = token_is (drop start text) kind len (judged_at text at (Ok (kind, len)) e) in
    let same : len ≡ start + len - start = omega arith in
    let P : ℕ → Type 0 = λ n. IsToken (drop start text) kind n in
    record { gap = gap_at text at h; ordered = omega arith; is = subst P same t }

-- the token ends in the text
pub token_within : (text : List ℕ) (at : ℕ) (t : Token) → IsTokenAt text at t → t.end ≤ length text
token_within text at t h = omega (arith, h.ordered, h.gap.within, h.is.longest.within, length-drop t.start text)

pub fault_at : (text : List ℕ) (at : ℕ) (f : Flaw) → at ≤ length text → token_at (drop (gap_end text at) text) ≡ Err f
    → FaultFrom text at [] (fault_of f (gap_end text at) (length text))
fault_at text at f h e = (
  gap_end text at,
  gap_at text at h,
  fault_is text (gap_end text at) f
      (flaw_is (drop (gap_end text at) text) f (judged_at text at (Err f) e)),
)

-- a gap that is followed by none is the whole one
one_gap : (text : List ℕ) (at start : ℕ) → IsGap text at start → gap_len false (drop start text) ≡ 0
    → gap_end text at ≡ start
one_gap text at start g z =
    let e = ap (gap_len false) (parts text at start g.behind)
    ∙ gap_only false (slice_range text at start) (drop start text) g.gap z
    ∙ length_part text at start g.behind g.within in
    omega (arith, e, g.behind)

pub one_token : (text : List ℕ) (at : ℕ) (t : Token) → IsTokenAt text at t
    → (gap_end text at ≡ t.start) × (token_at (drop (gap_end text at) text) ≡ Ok (t.kind, t.end - t.start))
one_token text at t h =
    let e = one_gap text at t.start h.gap (token_no_gap (drop t.start text) t.kind (t.end - t.start) h.is) in
    let P : ℕ → Type 0 = λ n. IsToken (drop n text) t.kind (t.end - t.start) in (
      e,
      agrees_token (drop (gap_end text at) text) (token_at (drop (gap_end text at) text)) t.kind (t.end - t.start)
          (judged_at text at (token_at (drop (gap_end text at) text)) refl) (subst P (sym e) h.is),
    )

-- the flaw that a fault behind the place tells
pub record OneFault (text : List ℕ) (at : ℕ) (fault : LexFault) : Type 0 where
  pub why : Flaw
  pub found : token_at (drop (gap_end text at) text) ≡ Err why
  pub same : fault ≡ fault_of why (gap_end text at) (length text)

pub one_fault : (text : List ℕ) (at : ℕ) (fault : LexFault) → FaultFrom text at [] fault → OneFault text at fault
one_fault text at fault h =
    let start = h.0 in
    let t = told text start fault h.2 in
    let e = one_gap text at start h.1 (flaw_no_gap (drop start text) t.why t.flaw) in
    let P : ℕ → Type 0 = λ n. FlawAt (drop n text) t.why in
    record {
      why = t.why;
      found = agrees_flaw (drop (gap_end text at) text) (token_at (drop (gap_end text at) text)) t.why
          (judged_at text at (token_at (drop (gap_end text at) text)) refl) (subst P (sym e) t.flaw);
      same = t.same ∙ ap (λ (n : ℕ). fault_of t.why n (length text)) (sym e);
    }

-- the kind and the length of a token
abbrev pub OkPair : TokenKind → ℕ → Scanned
OkPair kind len = Ok (kind, len)

ok_same : (x y : TokenKind × ℕ) → (let r : Scanned = Ok x in r) ≡ Ok y → x ≡ y
ok_same x y h = cc

-- a token with the kind, the start and the length of t is t
pub same_token : (t : Token) (kind : TokenKind) (start len : ℕ) → start ≡ t.start
    → OkPair kind len ≡ OkPair t.kind (t.end - t.start) → t.start ≤ t.end
    → (let u : Token = record { kind = kind; start = start; end = start + len } in u) ≡ t
same_token t kind start len s h o =
    let x : TokenKind × ℕ = (kind, len) in
    let y : TokenKind × ℕ = (t.kind, t.end - t.start) in
    let p = ok_same x y h in
    let l : len ≡ t.end - t.start = ap (λ (q : TokenKind × ℕ). q.1) p in
    let e : start + len ≡ t.end = omega arith in
    let make : TokenKind → ℕ → ℕ → Token = λ k i j. record { kind = k; start = i; end = j } in
    ap (λ k. make k start (start + len)) (ap (λ (q : TokenKind × ℕ). q.0) p) ∙ ap (λ i. make t.kind i (start + len)) s
    ∙ ap (make t.kind t.start) e

pub ok_is_no_err : (found : TokenKind × ℕ) (f : Flaw) → (let r : Scanned = Ok found in r) ≡ Err f → ⊥
ok_is_no_err found f h = cc

pub same_flaw : (f g : Flaw) → (let r : Scanned = Err f in r) ≡ Err g → f ≡ g
same_flaw f g h = cc
