-- A text that is written token by token, each apart from the next, has these tokens.
use Rattle.std.proofs.Common.{◌≡◌, ℕ, ◌+◌, ◌-◌, ◌<◌, ◌≤◌, Bool, true, false, ◌&&◌, ◌⊎◌, List, [], ◌∷◌, ◌++◌, length}
use Rattle.std.proofs.Common.{take, drop, suc, zero, refl, sym, ◌∙◌, ap, subst, inl, inr, arith, length-append}
use Rattle.std.proofs.Common.{length-drop, append_assoc}
use Rattle.std.specs.Prelude.{MatchBool}
use Rattle.std.specs.List.{list_all}
use Rattle.std.proofs.lemmas.List.{drop-drop}
use Rattle.ds_lex.specs.declared.bytes.ByteClass.TheVariants.{Mark}
use Rattle.ds_lex.specs.declared.token.TokenKind.{TokenKind}
use Rattle.ds_lex.specs.declared.token.TokenKind.TheVariants.{Word, Label, Local, Global, Attr, Meta, Number, Text}
use Rattle.ds_lex.specs.declared.token.TokenKind.TheVariants.{CText, Punct, End}
use Rattle.ds_lex.specs.Bytes.{is_blank, class_of}
use Rattle.ds_lex.specs.Lexed.{IsGapFrom, IsSpelling, IsWhole, IsInRange, IsToken, IsGap, IsTokenAt, LexedFrom, is_end}
use Rattle.ds_lex.specs.Written.{Piece, Gap, Written, written, tokens_of, EndsBefore, AreApart}
use Rattle.ds_lex.proofs.Runs.{and_parts, drop_inside}
use Rattle.ds_lex.proofs.Forms.{opened}
use Rattle.ds_lex.proofs.Fronts.{end_only}
use Rattle.ds_lex.proofs.Places.{part_at}
use Rattle.ds_lex.proofs.Sigils.{empty_take}
use Rattle.ds_lex.proofs.Ends.{Stops, stops, stops_number, blank_class}
use Rattle.ds_lex.proofs.Longer.{no_longer}

pub take_inside : (inside rest : List ℕ) → take (length inside) (inside ++ rest) ≡ inside
take_inside [] rest = refl
take_inside (b ∷ bs) rest = ap (λ (xs : List ℕ). b ∷ xs) (take_inside bs rest)

-- a token that is written ends before what no token goes on with, or is a bracket or the like
stopped : (kind : TokenKind) (rest : List ℕ) → EndsBefore kind rest → (kind ≡ Punct) ⊎ Stops rest
stopped Word rest h = inr (stops rest h)
stopped Label rest h = inr (stops rest h)
stopped Local rest h = inr (stops rest h)
stopped Global rest h = inr (stops rest h)
stopped Attr rest h = inr (stops rest h)
stopped Meta rest h = inr (stops rest h)
stopped Number rest h = inr (stops rest h)
stopped Text rest h = inr (stops rest h)
stopped CText rest h = inr (stops rest h)
stopped Punct rest h = inl refl
stopped End rest h = absurd h

pub not_end : (kind : TokenKind) (rest : List ℕ) → EndsBefore kind rest → is_end kind ≡ false
not_end Word rest h = refl
not_end Label rest h = refl
not_end Local rest h = refl
not_end Global rest h = refl
not_end Attr rest h = refl
not_end Meta rest h = refl
not_end Number rest h = refl
not_end Text rest h = refl
not_end CText rest h = refl
not_end Punct rest h = refl
not_end End rest h = absurd h

whole : (kind : TokenKind) (rest : List ℕ) → EndsBefore kind rest → IsWhole kind rest
whole Word rest h = tt
whole Label rest h = tt
whole Local rest h = tt
whole Global rest h = tt
whole Attr rest h = tt
whole Meta rest h = tt
whole Number rest h = stops_number rest (stops rest h)
whole Text rest h = tt
whole CText rest h = tt
whole Punct rest h = tt
whole End rest h = absurd h

-- a mark is a token alone
mark_longer : (kind other : TokenKind) (b : ℕ) (bs : List ℕ) (j i : ℕ) → kind ≡ Punct → j < i → i ≤ length bs
    → IsSpelling kind (b ∷ take j bs) → IsSpelling other (b ∷ take i bs) → ⊥
mark_longer kind other b bs j i k p l e f =
    let P : TokenKind → Type 0 = λ x. IsSpelling x (b ∷ take j bs) in
    let m = subst P k e in
    omega (arith, p, empty_take bs i l (opened other b (take i bs) Mark m.0 f).1)

-- no longer spelling stands where one stands that ends there
longer : (kind other : TokenKind) (b : ℕ) (bs : List ℕ) (j i : ℕ) → (kind ≡ Punct) ⊎ Stops (drop j bs) → j < i
    → i ≤ length bs
    → IsSpelling kind (b ∷ take j bs) → IsSpelling other (b ∷ take i bs) → ⊥
longer kind other b bs j i h p l e f =
    elim h [
      | inl k ↦ mark_longer kind other b bs j i k p l e f
      | inr s ↦ no_longer (class_of b) b bs kind other j i p l s (opened kind b (take j bs) (class_of b) refl e)
          (opened other b (take i bs) (class_of b) refl f)
    ]

longest_by : (kind other : TokenKind) (b : ℕ) (bs : List ℕ) (j m : ℕ) → (kind ≡ Punct) ⊎ Stops (drop j bs) → suc j < m
    → m ≤ suc (length bs)
    → IsSpelling kind (b ∷ take j bs) → IsSpelling other (take m (b ∷ bs)) → ⊥
longest_by kind other b bs j zero h p l e f = omega (arith, p)
longest_by kind other b bs j (suc i) h p l e f = longer kind other b bs j i h (omega (arith, p)) (omega (arith, l)) e f

is_no_end : (kind : TokenKind) → kind ≡ End → is_end kind ≡ false → ⊥
is_no_end kind e h = let f = ap is_end e in cc

-- what is written is a token
pub written_token : (kind : TokenKind) (bytes rest : List ℕ) → IsSpelling kind bytes → IsInRange kind bytes
    → EndsBefore kind rest → IsToken (bytes ++ rest) kind (length bytes)
written_token kind [] rest s r h = absurd (is_no_end kind (end_only kind s) (not_end kind rest h))
written_token kind (b ∷ bs) rest s r h =
    let P : List ℕ → Type 0 = λ xs. IsSpelling kind xs in
    let Q : List ℕ → Type 0 = λ xs. IsInRange kind xs in
    let R : List ℕ → Type 0 = λ xs. EndsBefore kind xs in
    let t = take_inside (b ∷ bs) rest in
    let e = subst P (sym t) s in
    let d = subst R (sym (drop_inside bs rest)) h in
    let st = stopped kind (drop (length bs) (bs ++ rest)) d in
    record {
      longest = record {
        within = omega (arith, length-append bs rest);
        spelled = e;
        longest = λ other m p l f. longest_by kind other b (bs ++ rest) (length bs) m st p l e f;
      };
      whole = whole kind (drop (length bs) (bs ++ rest)) d;
      in_range = subst Q (sym t) r;
    }

-- blanks are a gap
blanks : (gap rest : List ℕ) → list_all is_blank gap ≡ true → IsGapFrom false gap rest
blanks [] rest h = tt
blanks (b ∷ bs) rest h =
    let p = and_parts (is_blank b) (list_all is_blank bs) h in inl (blank_class b p.0, blanks bs rest p.1)

-- where blanks stand behind `at` bytes, and more behind them
pub record Between (text : List ℕ) (at : ℕ) (gap more : List ℕ) : Type 0 where
  pub within : at ≤ length text
  pub behind : drop at text ≡ gap ++ more
  pub blank : list_all is_blank gap ≡ true

gap_of : (text : List ℕ) (at : ℕ) (gap more : List ℕ) → Between text at gap more → IsGap text at (at + length gap)
gap_of text at gap more h =
    let n = length gap in
    let same = part_at text at n ∙ ap (take n) h.behind ∙ take_inside gap more in
    let P : List ℕ → Type 0 = λ xs. IsGapFrom false xs (drop (at + n) text) in
    record {
      behind = omega arith;
      within = omega (arith, h.within, length-drop at text, ap length h.behind, length-append gap more);
      gap = subst P (sym same) (blanks gap (drop (at + n) text) h.blank);
    }

behind_gap : (text : List ℕ) (at : ℕ) (gap more : List ℕ) → Between text at gap more
    → drop (at + length gap) text ≡ more
behind_gap text at gap more h =
    sym (drop-drop (length gap) at text) ∙ ap (drop (length gap)) h.behind ∙ drop_inside gap more

-- the token behind the blanks
token_of : (text : List ℕ) (at : ℕ) (gap more : List ℕ) (kind : TokenKind) (n : ℕ) → Between text at gap more
    → IsToken more kind n
    → IsTokenAt text at (record { kind = kind; start = at + length gap; end = at + length gap + n })
token_of text at gap more kind n h t =
    let s = at + length gap in
    let e : s + n - s ≡ n = omega arith in
    let P : List ℕ → ℕ → Type 0 = λ xs m. IsToken xs kind m in
    record {
      gap = gap_of text at gap more h;
      ordered = omega arith;
      is = subst (λ m. P (drop s text) m) (sym e) (subst (λ xs. P xs n) (sym (behind_gap text at gap more h)) t);
    }

end_token : IsToken [] End 0
end_token = record {
  longest = record {
    within = omega arith;
    spelled = refl;
    longest = λ other m p l s. omega
        (arith, p, l);
  };
  whole = refl;
  in_range = tt;
}

end_at : (text : List ℕ) (at : ℕ) (gap : List ℕ) → Between text at gap []
    → IsTokenAt text at (record { kind = End; start = at + length gap; end = at + length gap })
end_at text at gap h =
    let s = at + length gap in
    let e : s + 0 ≡ s = omega arith in
    let P : ℕ → Type 0 = λ m. IsTokenAt text at (record { kind = End; start = s; end = m }) in
    subst P e (token_of text at gap [] End 0 h end_token)

more_blanks : (text : List ℕ) (at : ℕ) (gap bytes more : List ℕ) → Between text at gap (bytes ++ more)
    → list_all is_blank bytes ≡ true → Between text at (gap ++ bytes) more
more_blanks text at gap bytes more h b = record {
  within = h.within;
  behind = h.behind ∙ sym (append_assoc gap bytes more);
  blank = both_blank gap bytes h.blank b;
}
  where
    both_blank : (xs ys : List ℕ) → list_all is_blank xs ≡ true → list_all is_blank ys ≡ true
        → list_all is_blank (xs ++ ys) ≡ true
    both_blank [] ys p q = q
    both_blank (x ∷ xs) ys p q =
        let r = and_parts (is_blank x) (list_all is_blank xs) p in
        ap (λ t. t && list_all is_blank (xs ++ ys)) r.0 ∙ both_blank xs ys r.1 q

behind_token : (text : List ℕ) (at : ℕ) (gap bytes more : List ℕ) → Between text at gap (bytes ++ more)
    → Between text (at + length gap + length bytes) [] more
behind_token text at gap bytes more h =
    let s = at + length gap in
    record {
      within = omega (
        arith,
        h.within,
        length-drop at text,
        ap length h.behind,
        length-append gap
            (bytes ++ more),
        length-append bytes more,
      );
      behind = sym (drop-drop (length bytes) s text)
          ∙ ap (drop (length bytes)) (behind_gap text at gap (bytes ++ more) h) ∙ drop_inside bytes more;
      blank = refl;
    }

goes_on_by : (b : Bool) (E L : Type 0) → b ≡ false → L → MatchBool b E L
goes_on_by true E L h l = absurd cc
goes_on_by false E L h l = l

pub lexed_behind : (text : List ℕ) (at : ℕ) (gap : List ℕ) (ps : List Piece) → Between text at gap (written ps)
    → AreApart ps → LexedFrom text at (tokens_of (at + length gap) ps)
lexed_behind text at gap [] h a = (end_at text at gap h, refl)
lexed_behind text at gap (Gap bytes ∷ ps) h a =
    let e : at + length (gap ++ bytes) ≡ at + length gap + length bytes = omega (arith, length-append gap bytes) in
    let P : ℕ → Type 0 = λ n. LexedFrom text at (tokens_of n ps) in
    subst P e (lexed_behind text at (gap ++ bytes) ps (more_blanks text at gap bytes (written ps) h a.0) a.1)
lexed_behind text at gap (Written kind bytes ∷ ps) h a =
    let n = at + length gap + length bytes in
    let e : n + 0 ≡ n = omega arith in
    let P : ℕ → Type 0 = λ m. LexedFrom text n (tokens_of m ps) in
    let more = subst P e (lexed_behind text n [] ps (behind_token text at gap bytes (written ps) h) a.3) in (
      token_of text at gap (bytes ++ written ps) kind (length bytes) h
          (written_token kind bytes (written ps) a.0 a.1 a.2),
      goes_on_by (is_end kind) (tokens_of n ps ≡ []) (LexedFrom text n (tokens_of n ps))
          (not_end kind (written ps) a.2) more,
    )
