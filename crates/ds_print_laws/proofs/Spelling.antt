-- The tokens of a text that is written piece by piece are those of the pieces, and what is read of them the text
-- spells.
use Rattle.std.proofs.Common.{◌≡◌, ℕ, ◌+◌, ◌-◌, List, [], ◌∷◌, ◌++◌, length, map, take, refl, sym, ap, ◌∙◌, subst}
use Rattle.std.proofs.Common.{arith, length-append, append-nil}
use Rattle.std.proofs.Math.Seq.{take-append_seam}
use Rattle.std.proofs.lemmas.List.{take-map, length-map}
use Rattle.ds_lex.specs.declared.token.TokenKind.{TokenKind}
use Rattle.ds_lex.specs.declared.token.TokenKind.TheVariants.{End}
use Rattle.ds_lex.specs.declared.token.Token.{Token}
use Rattle.ds_lex.specs.Lexed.{spelling}
use Rattle.ds_lex.specs.Written.{Piece, Gap, Written, written, tokens_of, spelled_from, WrittenIsSpelled}
use Rattle.ds_lex.specs.Written.{WrittenIsLexed}
use Rattle.ds_grammar.specs.Sort.{Lexeme}
use Rattle.ds_grammar.specs.Lexemes.{lexeme, lexemes}
use Rattle.ds_grammar.specs.Form.{Form}
use Rattle.ds_grammar.specs.Functions.{module_text}
use Rattle.ds_grammar.specs.Laws.{Answers, ReadingIsExact}
use Rattle.ds_print.specs.Canonical.{module_pieces, canon}
use Rattle.ds_print_laws.specs.Placed.{placed}
use Rattle.ds_print_laws.specs.Laws.{CanonicalTokensAreRead, PlacedAreLexemes, ApartTextsAreSpelled}

-- a kind, bytes and a place as a token
abbrev as_lexeme : TokenKind × List ℕ × ℕ → Lexeme
as_lexeme s = record { kind = s.0; bytes = s.1; at = s.2 }

-- the tokens of pieces are what is spelled, but for the end of the text
spelled_is : (at : ℕ) (ps : List Piece) → (last : Lexeme)
    × (map as_lexeme (spelled_from at ps) ≡ placed at ps ++ last ∷ [])
spelled_is at [] = (as_lexeme (End, [], at), refl)
spelled_is at (Gap bytes ∷ ps) = spelled_is (at + length bytes) ps
spelled_is at (Written k bytes ∷ ps) =
    let x = spelled_is (at + length bytes) ps in (x.0, ap (λ ts. as_lexeme (k, bytes, at) ∷ ts) x.1)

as_lexemes : (text : List ℕ) (ts : List Token)
    → map as_lexeme (map (λ t. (t.kind, spelling text t, t.start)) ts) ≡ lexemes text ts
as_lexemes text [] = refl
as_lexemes text (t ∷ ts) = ap (λ xs. lexeme text t ∷ xs) (as_lexemes text ts)

but_last_of : (xs : List Lexeme) (last : Lexeme) (n : ℕ) → n ≡ length (xs ++ last ∷ [])
    → take (n - 1 - 0) (xs ++ last ∷ []) ≡ xs
but_last_of xs last n e =
    let m : n - 1 - 0 ≡ length xs = omega (arith, e, length-append xs (last ∷ [])) in
    ap (λ k. take k (xs ++ last ∷ [])) m ∙ take-append_seam xs (last ∷ [])

module _ (spelled : WrittenIsSpelled) where
  all_lexemes : (ps : List Piece) → (last : Lexeme)
      × (lexemes (written ps) (tokens_of 0 ps) ≡ placed 0 ps ++ last ∷ [])
  all_lexemes ps = let x = spelled_is 0 ps in (
    x.0,
    sym (as_lexemes (written ps) (tokens_of 0 ps))
        ∙ (ap (map as_lexeme) (spelled ps) ∙ x.1),
  )

  pub placed_are_lexemes : PlacedAreLexemes
  placed_are_lexemes ps =
      let x = all_lexemes ps in
      let ts = tokens_of 0 ps in
      sym (take-map (lexeme (written ps)) (length ts - 1 - 0) ts)
      ∙ (ap (take (length ts - 1 - 0)) x.1 ∙ but_last_of (placed 0 ps) x.0 (length ts)
      (sym (length-map ts (lexeme (written ps))) ∙ ap length x.1))

  module _ (lexed : WrittenIsLexed) (read : CanonicalTokensAreRead) (exact : ReadingIsExact) where
    -- what is read of all tokens, with nothing out of its bound, the text spells
    pub apart_texts_spelled : ApartTextsAreSpelled
    unfolding canon
    apart_texts_spelled m bounds apart =
        let ps = module_pieces m in
        let ts = placed 0 ps in
        let x = subst (Answers module_text ts 0) (read m 0 bounds) (exact _ module_text ts 0) in
        let whole : ts ≡ x.0 = x.2.whole ∙ append-nil x.0 in
        record {
          tokens = tokens_of 0 ps;
          lexed = lexed ps apart;
          marks = x.1;
          form = subst (λ us. Form module_text us [] m x.1) (sym (placed_are_lexemes ps ∙ whole)) x.3;
          within = x.4;
        }
