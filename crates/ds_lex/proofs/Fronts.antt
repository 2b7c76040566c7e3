-- The token at the front of bytes is the one found, or there is none.
use Rattle.std.proofs.Common.{◌≡◌, ℕ, ◌<◌, ◌≤◌, Bool, true, false, ◌⊎◌, cond, List, [], ◌∷◌, ◌++◌, length, take, drop}
use Rattle.std.proofs.Common.{Option, Some, None, Ok, suc, zero, refl, ap, inl, inr, arith}
use Rattle.ds_lex.specs.declared.bytes.ByteClass.{ByteClass}
use Rattle.ds_lex.specs.declared.bytes.ByteClass.TheVariants.{Blank, Semicolon, Percent, At, Hash, Bang, Quote, Minus}
use Rattle.ds_lex.specs.declared.bytes.ByteClass.TheVariants.{Digit, Letter, Mark, Other}
use Rattle.ds_lex.specs.declared.token.TokenKind.{TokenKind}
use Rattle.ds_lex.specs.declared.token.TokenKind.TheVariants.{Word, Label, Local, Global, Attr, Meta, Number, Text}
use Rattle.ds_lex.specs.declared.token.TokenKind.TheVariants.{CText, Punct, End}
use Rattle.ds_lex.specs.Bytes.{class_of, is_quote}
use Rattle.ds_lex.specs.Lexed.{IsSpelling}
use Rattle.ds_lex.specs.Scan.{closed_len, text_len, starts_colon, labelled, quoted_by, quoted, gap_len, gap_behind}
use Rattle.ds_lex.specs.Scan.{token_of_class, token_at}
use Rattle.ds_lex.proofs.Runs.{take_next, has_next}
use Rattle.ds_lex.proofs.Firsts.{is_stray}
use Rattle.ds_lex.proofs.Forms.{Forms}
use Rattle.ds_lex.proofs.Texts.{closed_only, closed_colon, text_only, text_is, text_here}
use Rattle.ds_lex.proofs.Judged.{Judged, only_behind, none_behind}
use Rattle.ds_lex.proofs.Letters.{some_same, none_some, colon_is, label_in_range, letter}
use Rattle.ds_lex.proofs.Numerals.{digit, sign}
use Rattle.ds_lex.proofs.Sigils.{local, global, attr, meta, empty_take}

-- Texts, and labels that are texts.
quote_is_no_digit : (class : ByteClass) → class ≡ Quote → class ≡ Digit → ⊥
quote_is_no_digit class a b = cc

text_plain : (b : ℕ) (bs : List ℕ) (m : ℕ) → class_of b ≡ Quote → closed_len bs ≡ Some m → m ≤ length bs
    → IsSpelling Text (b ∷ take m bs)
    → starts_colon (drop m bs) ≡ false → Judged (b ∷ bs) (Ok (Text, suc m))
text_plain b bs m c k l s h =
    let others : (other : TokenKind) (i : ℕ) → i ≤ length bs → Forms Quote b (take i bs) other → (i < m)
    ⊎ ((i ≡ m) × (other ≡ Text)) =
    λ other i w f. elim f [
      | inl x ↦ inr (some_same (closed_len bs) i m (closed_only bs i w x.1) k, x.0)
      | inr x ↦
          let q = closed_colon bs i w x.1 in
          let e = ap (λ (n : ℕ). starts_colon (drop n bs)) (some_same (closed_len bs) q.len m q.closed k) in
          absurd (let f = q.colon in cc)
    ] in
    (only_behind b bs Quote Text m c l s others, tt, tt)

text_label : (b : ℕ) (bs : List ℕ) (m : ℕ) → class_of b ≡ Quote → closed_len bs ≡ Some m
    → IsSpelling Text (b ∷ take m bs)
    → starts_colon (drop m bs) ≡ true → Judged (b ∷ bs) (Ok (Label, suc (suc m)))
text_label b bs m c k s h =
    let q = colon_is (drop m bs) h in
    let e = ap (λ (xs : List ℕ). b ∷ xs) (take_next m bs 58 q.0 q.1) in
    let others : (other : TokenKind) (i : ℕ) → i ≤ length bs → Forms Quote b (take i bs) other → (i < suc m)
    ⊎ ((i ≡ suc m) × (other ≡ Label)) =
    λ other i w f. elim f [
      | inl x ↦ inl (omega (arith, some_same (closed_len bs) i m (closed_only bs i w x.1) k))
      | inr x ↦ let q =
          closed_colon bs i w x.1 in inr (omega (arith, q.taken, some_same (closed_len bs) q.len m q.closed k), x.0)
    ] in (
      only_behind b bs Quote Label (suc m) c (has_next m bs 58 q.0 q.1) (b ∷ take m bs, e, inr (inr s)) others,
      tt,
      label_in_range b (take (suc m) bs) Quote c (quote_is_no_digit Quote refl),
    )

text_by : (b : ℕ) (bs : List ℕ) (m : ℕ) → class_of b ≡ Quote → closed_len bs ≡ Some m → m ≤ length bs
    → IsSpelling Text (b ∷ take m bs)
    → (t : Bool) → starts_colon (drop m bs) ≡ t → Judged (b ∷ bs) (Ok (cond t (Label, suc (suc m)) (Text, suc m)))
text_by b bs m c k l s true h = text_label b bs m c k s h
text_by b bs m c k l s false h = text_plain b bs m c k l s h

text : (b : ℕ) (bs : List ℕ) (n : ℕ) → class_of b ≡ Quote → n ≤ length (b ∷ bs) → IsSpelling Text (take n (b ∷ bs))
    → Judged (b ∷ bs) (Ok (labelled Text n (b ∷ bs)))
unfolding labelled
text b bs zero c l s = absurd s
text b bs (suc m) c l s =
    let w : m ≤ length bs = omega (arith, l) in
    text_by b bs m c (closed_only bs m w s.1) w s (starts_colon (drop m bs)) refl

quote_by : (b : ℕ) (bs : List ℕ) → class_of b ≡ Quote → (o : Option ℕ) → text_len (b ∷ bs) ≡ o
    → Judged (b ∷ bs) (quoted_by o (b ∷ bs))
quote_by b bs c (Some n) h = let t = text_is (b ∷ bs) n h in text b bs n c t.within t.text
quote_by b bs c None h = (
  ap is_quote c,
  none_behind b bs Quote c (λ other i l f. elim f [
    | inl x ↦ none_some (text_len (b ∷ bs)) (suc i) h (text_only (b ∷ bs) (suc i) (omega (arith, l)) (c, x.1))
    | inr x ↦ let q =
        closed_colon bs i l x.1 in none_some (text_len (b ∷ bs)) (suc q.len) h (text_here b bs q.len c q.closed)
  ]),
)

quote : (b : ℕ) (bs : List ℕ) → class_of b ≡ Quote → Judged (b ∷ bs) (quoted (b ∷ bs))
unfolding quoted
quote b bs c = quote_by b bs c (text_len (b ∷ bs)) refl

-- Marks.
mark : (b : ℕ) (bs : List ℕ) → class_of b ≡ Mark → Judged (b ∷ bs) (Ok (Punct, 1))
mark b bs c =
    (only_behind b bs Mark Punct 0 c (omega arith) (c, refl) (λ other i l f. inr (empty_take bs i l f.1, f.0)), tt, tt)

-- The end.
no_label : (name : List ℕ) → [] ≡ name ++ 58 ∷ [] → ⊥
no_label [] h = cc
no_label (b ∷ bs) h = cc

pub end_only : (kind : TokenKind) → IsSpelling kind [] → kind ≡ End
end_only Word s = absurd s
end_only Label s = absurd (no_label s.0 s.1)
end_only Local s = absurd s
end_only Global s = absurd s
end_only Attr s = absurd s
end_only Meta s = absurd s
end_only Number s = absurd (elim s [ inl x ↦ x | inr x ↦ x ])
end_only Text s = absurd s
end_only CText s = absurd s
end_only Punct s = absurd s
end_only End s = refl

end_others : (other : TokenKind) (m : ℕ) → m ≤ 0 → IsSpelling other (take m []) → (m < 0) ⊎ ((m ≡ 0) × (other ≡ End))
end_others other zero l s = inr (refl, end_only other s)
end_others other (suc m) l s = absurd (omega (arith, l))

end : Judged [] (Ok (End, 0))
end = (record { within = omega arith; spelled = refl; others = end_others }, refl, tt)

of_class : (b : ℕ) (bs : List ℕ) (k : ByteClass) → class_of b ≡ k
    → gap_behind k (gap_len false bs) (gap_len true bs) ≡ 0 → Judged (b ∷ bs) (token_of_class k b bs)
of_class b bs Letter c g = letter b bs c
of_class b bs Digit c g = digit b bs c
of_class b bs Minus c g = sign b bs c
of_class b bs Percent c g = local b bs c
of_class b bs At c g = global b bs c
of_class b bs Hash c g = attr b bs c
of_class b bs Bang c g = meta b bs c
of_class b bs Quote c g = quote b bs c
of_class b bs Mark c g = mark b bs c
of_class b bs Blank c g = absurd (omega (arith, g))
of_class b bs Semicolon c g = absurd (omega (arith, g))
of_class b bs Other c g = (ap is_stray c, none_behind b bs Other c (λ other i l f. f))

-- where no blank and no comment stands at the front
pub front : (bytes : List ℕ) → gap_len false bytes ≡ 0 → Judged bytes (token_at bytes)
unfolding token_at gap_len
front [] g = end
front (b ∷ bs) g = of_class b bs (class_of b) refl g
