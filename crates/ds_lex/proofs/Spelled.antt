-- The spelling of each token of a text that is written token by token is what was written.
use Rattle.std.proofs.Common.{◌≡◌, ℕ, ◌+◌, ◌-◌, List, [], ◌∷◌, ◌++◌, length, take, drop, sym, ◌∙◌, ap, map, arith}
use Rattle.std.specs.List.{slice_range}
use Rattle.std.proofs.lemmas.List.{drop-drop}
use Rattle.ds_lex.specs.declared.token.TokenKind.{TokenKind}
use Rattle.ds_lex.specs.declared.token.TokenKind.TheVariants.{End}
use Rattle.ds_lex.specs.declared.token.Token.{Token}
use Rattle.ds_lex.specs.Lexed.{spelling}
use Rattle.ds_lex.specs.Written.{Piece, Gap, Written, written, tokens_of, spelled_from}
use Rattle.ds_lex.proofs.Runs.{drop_inside}
use Rattle.ds_lex.proofs.Places.{part_at}
use Rattle.ds_lex.proofs.Apart.{take_inside}

-- the kind, the bytes and the place of a token
abbrev Spelled : Type 0
Spelled = TokenKind × List ℕ × ℕ

abbrev spelled_in : List ℕ → Token → Spelled
spelled_in text t = (t.kind, spelling text t, t.start)

part_written : (text : List ℕ) (at : ℕ) (bytes more : List ℕ) → drop at text ≡ bytes ++ more
    → slice_range text at (at + length bytes) ≡ bytes
part_written text at bytes more h =
    part_at text at (length bytes) ∙ ap (take (length bytes)) h ∙ take_inside bytes more

part_empty : (text : List ℕ) (at : ℕ) → slice_range text at at ≡ []
part_empty text at = let e : at - at ≡ 0 = omega arith in ap (λ (n : ℕ). take n (drop at text)) e

behind_written : (text : List ℕ) (at : ℕ) (bytes more : List ℕ) → drop at text ≡ bytes ++ more
    → drop (at + length bytes) text ≡ more
behind_written text at bytes more h =
    sym (drop-drop (length bytes) at text) ∙ ap (drop (length bytes)) h ∙ drop_inside bytes more

pub spelled_behind : (text : List ℕ) (at : ℕ) (ps : List Piece) → drop at text ≡ written ps
    → map (spelled_in text) (tokens_of at ps) ≡ spelled_from at ps
spelled_behind text at [] h =
    let make : List ℕ → List Spelled = λ xs. (End, xs, at) ∷ [] in
    ap make (part_empty text at)
spelled_behind text at (Gap bytes ∷ ps) h =
    spelled_behind text (at + length bytes) ps (behind_written text at bytes (written ps) h)
spelled_behind text at (Written kind bytes ∷ ps) h =
    let n = at + length bytes in
    let make : List ℕ → List Spelled = λ xs. (kind, xs, at) ∷ map (spelled_in text) (tokens_of n ps) in
    let rest = spelled_behind text n ps (behind_written text at bytes (written ps) h) in
    let first : Spelled = (kind, bytes, at) in
    ap make (part_written text at bytes (written ps) h) ∙ ap (λ (xs : List Spelled). first ∷ xs) rest
