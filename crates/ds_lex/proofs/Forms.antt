-- What may be spelled behind the first byte, by its class.
use Rattle.std.proofs.Common.{◌≡◌, ℕ, true, ◌⊎◌, List, [], ◌∷◌, ◌++◌, refl, sym, ◌∙◌, ap, subst, inl, inr, arith}
use Rattle.std.proofs.Common.{append_assoc}
use Rattle.std.proofs.lemmas.Bool.Decides.{nat_tests}
use Rattle.std.specs.List.{list_all}
use Rattle.ds_lex.specs.declared.bytes.ByteClass.{ByteClass}
use Rattle.ds_lex.specs.declared.bytes.ByteClass.TheVariants.{Blank, Semicolon, Percent, At, Hash, Bang, Quote, Minus}
use Rattle.ds_lex.specs.declared.bytes.ByteClass.TheVariants.{Digit, Letter, Mark, Other}
use Rattle.ds_lex.specs.declared.bytes.RunOf.TheVariants.{NameBytes, Digits, TextBytes}
use Rattle.ds_lex.specs.declared.token.TokenKind.{TokenKind}
use Rattle.ds_lex.specs.declared.token.TokenKind.TheVariants.{Word, Label, Local, Global, Attr, Meta, Number, Text}
use Rattle.ds_lex.specs.declared.token.TokenKind.TheVariants.{CText, Punct, End}
use Rattle.ds_lex.specs.Bytes.{is_digit, class_of, belongs}
use Rattle.ds_lex.specs.Lexed.{IsWord, IsDigits, IsClosed, IsText, IsAnyName, IsMetaName, IsSpelling}
use Rattle.ds_lex.proofs.Runs.{and_parts}

-- bytes of names and a colon
abbrev pub NameColon : List ℕ → Type 0
NameColon bs = (inside : List ℕ) × (bs ≡ inside ++ 58 ∷ []) × (list_all (belongs NameBytes) inside ≡ true)

-- digits and a colon
abbrev pub DigitsColon : List ℕ → Type 0
DigitsColon bs = (inside : List ℕ) × (bs ≡ inside ++ 58 ∷ []) × (list_all (belongs Digits) inside ≡ true)

-- what stands in a text, a quote and a colon
abbrev pub TextColon : List ℕ → Type 0
TextColon bs = (inside : List ℕ) × (bs ≡ inside ++ 34 ∷ 58 ∷ []) × (list_all (belongs TextBytes) inside ≡ true)

-- the kind and the bytes bs behind a byte b of the class
abbrev pub Forms : ByteClass → ℕ → List ℕ → TokenKind → Type 0
Forms Letter b bs kind =
    ((kind ≡ Word) × (list_all (belongs NameBytes) bs ≡ true))
    ⊎ (((kind ≡ Label) × NameColon bs) ⊎ ((kind ≡ CText) × (b ≡ 99) × IsText bs))
Forms Digit b bs kind = ((kind ≡ Number) × (list_all (belongs Digits) bs ≡ true)) ⊎ ((kind ≡ Label) × DigitsColon bs)
Forms Quote b bs kind = ((kind ≡ Text) × IsClosed bs) ⊎ ((kind ≡ Label) × TextColon bs)
Forms Percent b bs kind = (kind ≡ Local) × IsAnyName bs
Forms At b bs kind = (kind ≡ Global) × IsAnyName bs
Forms Hash b bs kind = (kind ≡ Attr) × IsDigits bs
Forms Bang b bs kind = (kind ≡ Meta) × IsMetaName bs
Forms Minus b bs kind = (kind ≡ Number) × IsDigits bs
Forms Mark b bs kind = (kind ≡ Punct) × (bs ≡ [])
Forms Blank b bs kind = ⊥
Forms Semicolon b bs kind = ⊥
Forms Other b bs kind = ⊥

of_class : (known class : ByteClass) (b : ℕ) (bs : List ℕ) (kind : TokenKind) → class_of b ≡ known
    → class_of b ≡ class → Forms known b bs kind → Forms class b bs kind
of_class known class b bs kind e c f = let P : ByteClass → Type 0 = λ k. Forms k b bs kind in subst P (sym e ∙ c) f

-- a digit is of the class of digits
pub digit_class : (b : ℕ) → is_digit b ≡ true → class_of b ≡ Digit
unfolding class_of
digit_class b h = grind (arith, nat_tests)

c_class : class_of 99 ≡ Letter
unfolding class_of
c_class = refl

heads : (b c : ℕ) (bs cs : List ℕ) → b ∷ bs ≡ c ∷ cs → (b ≡ c) × (bs ≡ cs)
heads b c bs cs h = (cc, cc)

labelled : (b : ℕ) (bs : List ℕ) (class : ByteClass) → class_of b ≡ class → (name : List ℕ) → b ∷ bs ≡ name ++ 58 ∷ []
    → IsWord name ⊎ (IsDigits name ⊎ IsText name) → Forms class b bs Label
labelled b bs class c [] e w = elim w [ inl x ↦ absurd x | inr r ↦ elim r [ inl x ↦ absurd x | inr x ↦ absurd x ] ]
labelled b bs class c (n ∷ ns) e w =
    let p = heads b n bs (ns ++ 58 ∷ []) e in
    elim w [
      | inl x ↦ of_class Letter class b bs Label (ap class_of p.0 ∙ x.0) c (inr (inl (refl, (ns, p.1, x.1))))
      | inr r ↦ elim r [
        | inl x ↦
            let q = and_parts (is_digit n) (list_all (belongs Digits) ns) x in
            of_class Digit class b bs Label (ap class_of p.0 ∙ digit_class n q.0) c (inr (refl, (ns, p.1, q.1)))
        | inr x ↦
            let inside = x.1.0 in
            let e2 = p.1 ∙ ap (λ (xs : List ℕ). xs ++ 58 ∷ []) x.1.1 ∙ append_assoc inside (34 ∷ []) (58 ∷ []) in
            of_class Quote class b bs Label (ap class_of p.0 ∙ x.0) c (inr (refl, (inside, e2, x.1.2)))
      ]
    ]

pub opened : (kind : TokenKind) (b : ℕ) (bs : List ℕ) (class : ByteClass) → class_of b ≡ class
    → IsSpelling kind (b ∷ bs) → Forms class b bs kind
opened Word b bs class c s = of_class Letter class b bs Word s.0 c (inl (refl, s.1))
opened Label b bs class c s = labelled b bs class c s.0 s.1 s.2
opened Local b bs class c s = of_class Percent class b bs Local s.0 c (refl, s.1)
opened Global b bs class c s = of_class At class b bs Global s.0 c (refl, s.1)
opened Attr b bs class c s = of_class Hash class b bs Attr s.0 c (refl, s.1)
opened Meta b bs class c s = of_class Bang class b bs Meta s.0 c (refl, s.1)
opened Number b bs class c s =
    elim s [
      | inl x ↦
          let q = and_parts (is_digit b) (list_all (belongs Digits) bs) x in
          of_class Digit class b bs Number (digit_class b q.0) c (inl (refl, q.1))
      | inr x ↦ of_class Minus class b bs Number x.0 c (refl, x.1)
    ]
opened Text b bs class c s = of_class Quote class b bs Text s.0 c (inl (refl, s.1))
opened CText b bs class c s =
    of_class Letter class b bs CText (ap class_of s.0 ∙ c_class) c (inr (inr (refl, s.0, s.1)))
opened Punct b bs class c s = of_class Mark class b bs Punct s.0 c (refl, s.1)
opened End b bs class c s = absurd cc
