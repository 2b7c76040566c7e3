-- The tokens of a text lie in it.
use Rattle.std.proofs.Common.{◌≡◌, ℕ, ◌≤◌, Bool, true, false, List, [], ◌∷◌, length, take, drop, subst, sym, arith}
use Rattle.std.proofs.Common.{length-drop}
use Rattle.std.proofs.lemmas.List.Elements.{All-cons, All-drop, All-take}
use Rattle.std.specs.Prelude.{MatchBool}
use Rattle.std.specs.List.{All}
use Rattle.ds_lex.specs.declared.token.Token.{Token}
use Rattle.ds_lex.specs.Lexed.{Lexed, LexedFrom, is_end}
use Rattle.ds_grammar.specs.Laws.{TokensLieInside}

abbrev IsInside : List ℕ → Token → Type 0
IsInside text t = (t.start ≤ t.end) × (t.end ≤ length text)

no_token : (P : Token → Type 0) → All P []
no_token P k d h = absurd (omega (arith, h))

inside_behind : (text : List ℕ) (t : Token) (us : List Token) (b : Bool)
    → MatchBool b (us ≡ []) (LexedFrom text t.end us) → (LexedFrom text t.end us → All (IsInside text) us)
    → All (IsInside text) us
inside_behind text t us true h go =
    let P : List Token → Type 0 = All (IsInside text) in subst P (sym h) (no_token (IsInside text))
inside_behind text t us false h go = go h

inside_from : (text : List ℕ) (at : ℕ) (ts : List Token) → LexedFrom text at ts → All (IsInside text) ts
inside_from text at [] h = absurd h
inside_from text at (t ∷ us) h =
    All-cons (IsInside text) t us (
      h.0.ordered,
      omega
          (arith, h.0.ordered, h.0.gap.within, h.0.is.longest.within, length-drop t.start text),
    )
    (inside_behind text t us (is_end t.kind) h.1 (λ m. inside_from text t.end us m))

pub tokens_inside : TokensLieInside
tokens_inside text ts h n at =
    All-take (IsInside text) n (drop at ts) (All-drop (IsInside text) at ts (inside_from text 0 ts h))
