-- What the scanner finds is the token at the front, or there is none.
use Rattle.std.proofs.Common.{◌≡◌, ℕ, ◌<◌, ◌≤◌, Bool, true, false, ◌⊎◌, cond, List, [], ◌∷◌, ◌++◌, length, take, drop}
use Rattle.std.proofs.Common.{Option, Some, None, Ok, suc, zero, refl, sym, ◌∙◌, ap, subst, inl, inr, arith}
use Rattle.std.proofs.lemmas.Bool.Decides.{nat_tests}
use Rattle.ds_lex.specs.declared.bytes.ByteClass.{ByteClass}
use Rattle.ds_lex.specs.declared.bytes.ByteClass.TheVariants.{Digit, Letter}
use Rattle.ds_lex.specs.declared.bytes.RunOf.TheVariants.{NameBytes, Digits}
use Rattle.ds_lex.specs.declared.token.TokenKind.{TokenKind}
use Rattle.ds_lex.specs.declared.token.TokenKind.TheVariants.{Word, Label, CText}
use Rattle.ds_lex.specs.Bytes.{class_of, stands_in_name, belongs}
use Rattle.ds_lex.specs.Lexed.{IsInRange}
use Rattle.ds_lex.specs.Scan.{run_len, text_len, ctext_len, starts_colon, labelled, worded_by, worded}
use Rattle.ds_lex.proofs.Runs.{run, run_more, run_take, run_ended, take_next, has_next, drop_inside}
use Rattle.ds_lex.proofs.Forms.{Forms, NameColon, DigitsColon}
use Rattle.ds_lex.proofs.Texts.{text_is, ctext_only, ctext_is}
use Rattle.ds_lex.proofs.Judged.{Judged, only_behind}
use Rattle.ds_lex.proofs.Names.{text_front, no_digits}

-- m is below n, or it is n
pub less_or_same : (m n : ℕ) (E : Type 0) → m ≤ n → E → (m < n) ⊎ ((m ≡ n) × E)
less_or_same zero zero E l e = inr (refl, e)
less_or_same zero (suc n) E l e = inl (omega arith)
less_or_same (suc m) zero E l e = absurd (omega (arith, l))
less_or_same (suc m) (suc n) E l e =
    elim (less_or_same m n E (omega (arith, l)) e) [ inl h ↦ inl (omega (arith, h)) | inr p ↦ inr (ap suc p.0, p.1) ]

pub some_same : (o : Option ℕ) (m n : ℕ) → o ≡ Some m → o ≡ Some n → m ≡ n
some_same o m n a b = cc

pub none_some : (o : Option ℕ) (n : ℕ) → o ≡ None → o ≡ Some n → ⊥
none_some o n a b = cc

-- Colons.
pub colon_is : (xs : List ℕ) → starts_colon xs ≡ true → (rest : List ℕ) × (xs ≡ 58 ∷ rest)
colon_is [] h = absurd cc
colon_is (b ∷ bs) h = let e : b ≡ 58 = grind (arith, nat_tests) in (bs, ap (λ (x : ℕ). x ∷ bs) e)

-- where a run of names, and a colon, are the first i bytes, the colon stands behind the run
pub name_colon : (bs : List ℕ) (i : ℕ) → i ≤ length bs → NameColon (take i bs) → (i ≡ suc (run_len NameBytes bs))
    × (starts_colon (drop (run_len NameBytes bs) bs) ≡ true)
unfolding class_of
name_colon bs i l s =
    let e = run_ended NameBytes bs s.0 58 [] i l s.2 refl s.1 in (
      omega (arith, e.taken, e.run),
      ap (λ (n : ℕ). starts_colon (drop n bs)) e.run
          ∙ ap (λ (xs : List ℕ). starts_colon (drop (length s.0) xs)) e.whole
          ∙ ap starts_colon (drop_inside s.0 (58 ∷ e.rest)),
    )

pub digits_colon : (bs : List ℕ) (i : ℕ) → i ≤ length bs → DigitsColon (take i bs) → (i ≡ suc (run_len Digits bs))
    × (starts_colon (drop (run_len Digits bs) bs) ≡ true)
digits_colon bs i l s =
    let e = run_ended Digits bs s.0 58 [] i l s.2 refl s.1 in (
      omega (arith, e.taken, e.run),
      ap (λ (n : ℕ). starts_colon (drop n bs)) e.run
          ∙ ap (λ (xs : List ℕ). starts_colon (drop (length s.0) xs)) e.whole
          ∙ ap starts_colon (drop_inside s.0 (58 ∷ e.rest)),
    )

-- the same end behind two lists
pub tails : (b c : ℕ) (bs cs : List ℕ) → b ∷ bs ≡ c ∷ cs → (b ≡ c) × (bs ≡ cs)
tails b c bs cs h = (cc, cc)

pub same_before : (x y : List ℕ) (e : ℕ) → x ++ e ∷ [] ≡ y ++ e ∷ [] → x ≡ y
same_before [] [] e h = refl
same_before [] (c ∷ []) e h = absurd (let p = tails e c [] (e ∷ []) h in cc)
same_before [] (c ∷ d ∷ cs) e h = absurd (let p = tails e c [] (d ∷ cs ++ e ∷ []) h in cc)
same_before (b ∷ []) [] e h = absurd (let p = tails b e (e ∷ []) [] h in cc)
same_before (b ∷ d ∷ bs) [] e h = absurd (let p = tails b e (d ∷ bs ++ e ∷ []) [] h in cc)
same_before (b ∷ bs) (c ∷ cs) e h =
    let p = tails b c (bs ++ e ∷ []) (cs ++ e ∷ []) h in
    ap (λ (x : ℕ). x ∷ bs) p.0 ∙ ap (λ (xs : List ℕ). c ∷ xs) (same_before bs cs e p.1)

-- the name of a label that begins with a byte of this class
pub label_in_range : (b : ℕ) (bs : List ℕ) (class : ByteClass) → class_of b ≡ class → (class ≡ Digit → ⊥)
    → IsInRange Label (b ∷ bs)
label_in_range b bs class c n [] e d = absurd d
label_in_range b bs class c n (x ∷ xs) e d =
    let p = tails b x bs (xs ++ 58 ∷ []) e in
    no_digits x xs class (ap class_of (sym p.0) ∙ c) n d

-- The token that begins with a letter.
no_letter : (class : ByteClass) → class ≡ Letter → class ≡ Digit → ⊥
no_letter class a b = cc

letter_stands : (b : ℕ) → class_of b ≡ Letter → belongs NameBytes b ≡ true
letter_stands b c = ap stands_in_name c

ctext : (b : ℕ) (bs : List ℕ) (n : ℕ) → class_of b ≡ Letter → ctext_len (b ∷ bs) ≡ Some n
    → Judged (b ∷ bs) (Ok (CText, n))
ctext b bs n c h =
    let t = ctext_is b bs n h in
    let m = t.len in
    let x = text_is bs m t.found in
    let f = text_front bs m x.within x.text in
    let others : (other : TokenKind) (i : ℕ) → i ≤ length bs → Forms Letter b (take i bs) other → (i < m)
    ⊎ ((i ≡ m) × (other ≡ CText)) =
    λ other i l s. elim s [
      | inl w ↦ inl (omega (arith, run_take NameBytes bs i l w.1, f.1, x.some))
      | inr r ↦ elim r [
        | inl w ↦ inl (omega (arith, (name_colon bs i l w.1).0, f.1, x.some))
        | inr w ↦ inr (some_same (text_len bs) i m (text_front bs i l w.2).3 t.found, w.0)
      ]
    ] in
    let P : ℕ → Type 0 = λ k. Judged (b ∷ bs) (Ok (CText, k)) in
    subst P t.one_more (only_behind b bs Letter CText m c x.within (t.c, x.text) others, tt, tt)

word_plain : (b : ℕ) (bs : List ℕ) → class_of b ≡ Letter → ctext_len (b ∷ bs) ≡ None
    → starts_colon (drop (run_len NameBytes bs) bs) ≡ false → Judged (b ∷ bs) (Ok (Word, suc (run_len NameBytes bs)))
word_plain b bs c none h =
    let r = run_len NameBytes bs in
    let u = run NameBytes bs in
    let others : (other : TokenKind) (i : ℕ) → i ≤ length bs → Forms Letter b (take i bs) other → (i < r)
    ⊎ ((i ≡ r) × (other ≡ Word)) =
    λ other i l s. elim s [
      | inl w ↦ less_or_same i r (other ≡ Word) (run_take NameBytes bs i l w.1) w.0
      | inr q ↦ elim q [
        | inl w ↦ absurd (let e = (name_colon bs i l w.1).1 in cc)
        | inr w ↦ absurd (none_some (ctext_len (b ∷ bs)) (suc i) none (ctext_only b bs i l w.1 w.2))
      ]
    ] in
    (only_behind b bs Letter Word r c u.within (c, u.all) others, tt, tt)

word_label : (b : ℕ) (bs : List ℕ) → class_of b ≡ Letter → ctext_len (b ∷ bs) ≡ None
    → starts_colon (drop (run_len NameBytes bs) bs) ≡ true
    → Judged (b ∷ bs) (Ok (Label, suc (suc (run_len NameBytes bs))))
word_label b bs c none h =
    let r = run_len NameBytes bs in
    let u = run NameBytes bs in
    let q = colon_is (drop r bs) h in
    let e = ap (λ (xs : List ℕ). b ∷ xs) (take_next r bs 58 q.0 q.1) in
    let others : (other : TokenKind) (i : ℕ) → i ≤ length bs → Forms Letter b (take i bs) other → (i < suc r)
    ⊎ ((i ≡ suc r) × (other ≡ Label)) =
    λ other i l s. elim s [
      | inl w ↦ inl (omega (arith, run_take NameBytes bs i l w.1))
      | inr q ↦ elim q [
        | inl w ↦ inr ((name_colon bs i l w.1).0, w.0)
        | inr w ↦ absurd (none_some (ctext_len (b ∷ bs)) (suc i) none (ctext_only b bs i l w.1 w.2))
      ]
    ] in (
      only_behind b bs Letter Label (suc r) c (has_next r bs 58 q.0 q.1) (b ∷ take r bs, e, inl (c, u.all)) others,
      tt,
      label_in_range b (take (suc r) bs) Letter c (no_letter Letter refl),
    )

word_by : (b : ℕ) (bs : List ℕ) → class_of b ≡ Letter → ctext_len (b ∷ bs) ≡ None → (t : Bool)
    → starts_colon (drop (run_len NameBytes bs) bs) ≡ t
    → Judged (b ∷ bs) (Ok (cond t (Label, suc (suc (run_len NameBytes bs))) (Word, suc (run_len NameBytes bs))))
word_by b bs c none true h = word_label b bs c none h
word_by b bs c none false h = word_plain b bs c none h

word : (b : ℕ) (bs : List ℕ) (n : ℕ) → n ≡ suc (run_len NameBytes bs) → class_of b ≡ Letter
    → ctext_len (b ∷ bs) ≡ None → Judged (b ∷ bs) (Ok (labelled Word n (b ∷ bs)))
unfolding labelled
word b bs n e c none =
    let P : ℕ → Type 0 = λ n. Judged (b ∷ bs) (Ok (cond (starts_colon (drop n (b ∷ bs))) (Label, suc n) (Word, n))) in
    subst P (sym e) (word_by b bs c none (starts_colon (drop (run_len NameBytes bs) bs)) refl)

letter_by : (b : ℕ) (bs : List ℕ) → class_of b ≡ Letter → (o : Option ℕ) → ctext_len (b ∷ bs) ≡ o
    → Judged (b ∷ bs) (Ok (worded_by o (b ∷ bs)))
letter_by b bs c (Some n) h = ctext b bs n c h
letter_by b bs c None h = word b bs (run_len NameBytes (b ∷ bs)) (run_more NameBytes b bs (letter_stands b c)) c h

pub letter : (b : ℕ) (bs : List ℕ) → class_of b ≡ Letter → Judged (b ∷ bs) (Ok (worded (b ∷ bs)))
unfolding worded
letter b bs c = letter_by b bs c (ctext_len (b ∷ bs)) refl
