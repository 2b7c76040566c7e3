-- What a grammar reads of pieces, whatever stands behind them and wherever they stand: the value, and the pieces that
-- are left.
use Rattle.std.proofs.Common.{◌≡◌, ℕ, ◌+◌, Bool, true, List, [], ◌∷◌, length, refl, ap, sym, subst, ◌∙◌}
use Rattle.std.specs.Prelude.{◌<◌, ◌^◌, Option, Some, None, Ok, decimal}
use Rattle.ds_lex.specs.Lexed.{IsDigits}
use Rattle.ds_lex.specs.Written.{Piece, Gap, Written, DecimalsAreRead, NegativesAreRead}
use Rattle.ds_lex.specs.declared.token.TokenKind.{TokenKind}
use Rattle.ds_grammar.specs.Sort.{Lexeme, Sort, TypeOf}
use Rattle.ds_grammar.specs.declared.fault.Breach.{Breach}
use Rattle.ds_grammar.specs.declared.fault.Mark.{Mark}
use Rattle.ds_grammar.specs.Grammar.{Grammar, Done, One, Then, Marked, Loop, optional}
use Rattle.ds_grammar.specs.Reading.{start, worse, first_value, then_at, took_at, optional_at, value_at}
use Rattle.ds_grammar.specs.Laws.{RunsTakeItems, RunsEnd, OptionalsAreRead}
use Rattle.ds_print_laws.specs.Placed.{placed}

-- the laws of the crates below that what follows uses
pub record Known : Type 0 where
  pub items : RunsTakeItems
  pub ends : RunsEnd
  pub optionals : OptionalsAreRead
  pub digits : (n : ℕ) → n < 2 ^ 64 → IsDigits (decimal n)
  pub decimals : DecimalsAreRead
  pub negatives : NegativesAreRead

-- the grammar reads this value of the pieces, and these others are left
pub record Gets {a : Sort} (g : Grammar a) (ps : List Piece) (v : TypeOf a) (qs : List Piece) : Type 0 where
  pub is : (at end : ℕ) → (behind : ℕ) × (value_at g (start (placed at ps) end) ≡ Ok (v, start (placed behind qs) end))

-- a token at a place
abbrev pub token : TokenKind → List ℕ → ℕ → Lexeme
token k bytes at = record { kind = k; bytes = bytes; at = at }

-- the first token of the pieces has no value
abbrev pub NoneBegins : {A : Type 0} → (Lexeme → Option A) → List Piece → Type 0
NoneBegins test ps = (at : ℕ) → first_value test (placed at ps) ≡ None

never_first : {A : Type 0} (ts : List Lexeme) → first_value {A = A} (λ t. None) ts ≡ None
never_first [] = refl
never_first (t ∷ ts) = refl

-- what no token begins
pub never : {A : Type 0} (ps : List Piece) → NoneBegins {A = A} (λ t. None) ps
never ps = λ at. never_first (placed at ps)

pub done : {a : Sort} (v : TypeOf a) (ps : List Piece) → Gets (Done v) ps v ps
done v ps = record { is = λ at end. (at, refl) }

-- blanks before a token are nothing
pub gap : {a : Sort} {g : Grammar a} {ps qs : List Piece} {v : TypeOf a} {bytes : List ℕ} → Gets g ps v qs
    → Gets g (Gap bytes ∷ ps) v qs
gap {bytes = bytes} h = record { is = λ at end. h.is (at + length bytes) end }

-- equal pieces are read alike
pub read_from : {a : Sort} {g : Grammar a} {v : TypeOf a} {qs : List Piece} (ps rs : List Piece) → ps ≡ rs
    → Gets g rs v qs → Gets g ps v qs
read_from {g = g} {v = v} {qs = qs} ps rs e h = subst (λ xs. Gets g xs v qs) (sym e) h

-- one behind the other
infixr 10 ◌⨾◌
pub ◌⨾◌ : {a b : Sort} {first : Grammar a} {next : TypeOf a → Grammar b} {ps qs rs : List Piece} {v : TypeOf a}
    {w : TypeOf b}
    → Gets first ps v qs → Gets (next v) qs w rs → Gets (Then first next) ps w rs
◌⨾◌ {next = next} h k = record {
  is = λ at end. let x = h.is at end in let y = k.is x.0 end in
      (y.0, ap (λ r. then_at r (λ v q. value_at (next v) q)) x.1 ∙ y.1);
}

-- one token
pub one : {a : Sort} {value : Lexeme → Option (TypeOf a)} {k : TokenKind} {bytes : List ℕ} {ps : List Piece}
    {v : TypeOf a}
    → ((at : ℕ) → value (token k bytes at) ≡ Some v) → Gets (One value) (Written k bytes ∷ ps) v ps
one {k = k} {bytes = bytes} {ps = ps} h = record
    { is = λ at end. (at + length bytes, ap (λ o. took_at o (start (placed at (Written k bytes ∷ ps)) end)) (h at)) }

-- a breach is kept where a mark is not within its bound
abbrev worse_by : Breach → Bool → Option Breach
worse_by b w = worse None (record { breach = b; within = w })

-- a mark of something within its bound is nothing
pub marked : {a : Sort} {m : Mark} {g : Grammar a} {ps qs : List Piece} {v : TypeOf a} → m.within ≡ true
    → Gets g ps v qs → Gets (Marked m g) ps v qs
marked {m = m} {g = g} {ps = ps} within h = record {
  is = λ at end. let x = h.is at end in (
    x.0,
    ap
        (λ w. value_at g (record { left = placed at ps; end = end; worst = worse_by m.breach w })) within ∙ x.1,
  );
}

-- one token, whose value has its place in it, and what follows
pub one_at : {a b : Sort} {value : Lexeme → Option (TypeOf a)} {next : TypeOf a → Grammar b} {k : TokenKind}
    {bytes : List ℕ} {ps qs : List Piece} {w : TypeOf b}
    → (v : ℕ → TypeOf a) → ((at : ℕ) → value (token k bytes at) ≡ Some (v at))
    → ((at : ℕ) → Gets (next (v at)) ps w qs) → Gets (Then (One value) next) (Written k bytes ∷ ps) w qs
one_at {next = next} {k = k} {bytes = bytes} {ps = ps} v h then = record {
  is = λ at end. let y = (then at).is (at + length bytes) end in (
    y.0,
    ap (λ o. then_at (took_at o (start (placed at (Written k bytes ∷ ps)) end)) (λ v q. value_at (next v) q))
        (h at) ∙ y.1,
  );
}

-- Runs
module _ (known : Known) where
  -- a run ends where no item begins
  pub run_end : {s a : Sort} {test : TypeOf s → Lexeme → Option (TypeOf a)} {item : TypeOf s → TypeOf a → Grammar s}
      {state : TypeOf s} {ps : List Piece}
      → NoneBegins (test state) ps → Gets (Loop a test item state) ps state ps
  run_end {s = s} {a = a} {test = test} {item = item} {state = state} {ps = ps} h =
      record { is = λ at end. (at, known.ends s a test item state (start (placed at ps) end) (h at)) }

  -- a run goes on behind an item
  pub run_item : {s a : Sort} {test : TypeOf s → Lexeme → Option (TypeOf a)} {item : TypeOf s → TypeOf a → Grammar s}
      {state r w : TypeOf s} {k : TokenKind} {bytes : List ℕ} {ps qs rs : List Piece}
      → (v : ℕ → TypeOf a) → ((at : ℕ) → test state (token k bytes at) ≡ Some (v at))
      → ((at : ℕ) → Gets (item state (v at)) ps r qs) → Gets (Loop a test item r) qs w rs
      → Gets (Loop a test item state) (Written k bytes ∷ ps) w rs
  run_item {s = s} {a = a} {test = test} {item = item} {state = state} {r = r} {k = k} {bytes = bytes} {ps = ps}
      {qs = qs} v h one_more rest = record {
        is = λ at end. let x = (one_more at).is (at + length bytes) end in let y = rest.is x.0 end in (
          y.0,
          known.items s a test item state r (v at) (start (placed at (Written k bytes ∷ ps)) end)
              (start (placed x.0 qs) end) (h at) x.1 ∙ y.1,
        );
      }

  -- a run with something behind it goes on behind an item, of which the state may have its place
  pub run_item_at : {s a b : Sort} {test : TypeOf s → Lexeme → Option (TypeOf a)}
      {item : TypeOf s → TypeOf a → Grammar s} {next : TypeOf s → Grammar b} {state : TypeOf s} {w : TypeOf b}
      {k : TokenKind} {bytes : List ℕ} {ps qs rs : List Piece}
      → (v : ℕ → TypeOf a) (r : ℕ → TypeOf s) → ((at : ℕ) → test state (token k bytes at) ≡ Some (v at))
      → ((at : ℕ) → Gets (item state (v at)) ps (r at) qs)
      → ((at : ℕ) → Gets (Then (Loop a test item (r at)) next) qs w rs)
      → Gets (Then (Loop a test item state) next) (Written k bytes ∷ ps) w rs
  run_item_at {s = s} {a = a} {test = test} {item = item} {next = next} {state = state} {k = k} {bytes = bytes}
      {ps = ps} {qs = qs} v r h one_more rest = record {
        is = λ at end. let x = (one_more at).is (at + length bytes) end in let y = (rest at).is x.0 end in (
          y.0,
          ap (λ r. then_at r (λ v q. value_at (next v) q))
              (known.items s a test item state (r at) (v at) (start (placed at (Written k bytes ∷ ps)) end)
              (start (placed x.0 qs) end) (h at) x.1) ∙ y.1,
        );
      }

  -- a part that is missing
  pub without : {a b : Sort} {test : Lexeme → Option (TypeOf a)} {rest : TypeOf a → Grammar b} {ps : List Piece}
      → NoneBegins test ps → Gets (optional a test rest) ps None ps
  without {a = a} {b = b} {test = test} {rest = rest} {ps = ps} h = record {
    is = λ at end. (
      at,
      known.optionals a b test rest (start (placed at ps) end)
          ∙ ap (λ o. optional_at (λ v q. value_at (rest v) q) o (start (placed at ps) end)) (h at),
    );
  }

  -- a part that is there, of which the first token has its place
  pub with_it : {a b : Sort} {test : Lexeme → Option (TypeOf a)} {rest : TypeOf a → Grammar b} {k : TokenKind}
      {bytes : List ℕ} {ps qs : List Piece} {w : TypeOf b}
      → (v : ℕ → TypeOf a) → ((at : ℕ) → test (token k bytes at) ≡ Some (v at))
      → ((at : ℕ) → Gets (rest (v at)) ps w qs) → Gets (optional a test rest) (Written k bytes ∷ ps) (Some w) qs
  with_it {a = a} {b = b} {test = test} {rest = rest} {k = k} {bytes = bytes} {ps = ps} v h then = record {
    is = λ at end. let x = (then at).is (at + length bytes) end in (
      x.0,
      known.optionals a b test rest (start (placed at (Written k bytes ∷ ps)) end)
          ∙ (ap (λ o. optional_at (λ v q. value_at (rest v) q) o (start (placed at (Written k bytes ∷ ps)) end)) (h at)
          ∙ ap (λ r. then_at r (λ b q. Ok (Some b, q))) x.1),
    );
  }

  -- a part that is there, whose value has its place in it, and what follows
  pub with_it_then : {a b c : Sort} {test : Lexeme → Option (TypeOf a)} {rest : TypeOf a → Grammar b}
      {next : Option (TypeOf b) → Grammar c} {k : TokenKind} {bytes : List ℕ} {ps qs rs : List Piece} {x : TypeOf c}
      → (v : ℕ → TypeOf a) (w : ℕ → TypeOf b) → ((at : ℕ) → test (token k bytes at) ≡ Some (v at))
      → ((at : ℕ) → Gets (rest (v at)) ps (w at) qs) → ((at : ℕ) → Gets (next (Some (w at))) qs x rs)
      → Gets (Then (optional a test rest) next) (Written k bytes ∷ ps) x rs
  with_it_then {a = a} {b = b} {test = test} {rest = rest} {next = next} {k = k} {bytes = bytes} {ps = ps} v w h item
      then = record {
        is = λ at end. let x = (item at).is (at + length bytes) end in let y = (then at).is x.0 end in (
          y.0,
          ap (λ r. then_at r (λ v q. value_at (next v) q))
              (known.optionals a b test rest (start (placed at (Written k bytes ∷ ps)) end)
              ∙ (ap (λ o. optional_at (λ v q. value_at (rest v) q) o (start (placed at (Written k bytes ∷ ps)) end))
              (h at)
              ∙ ap (λ r. then_at r (λ b q. Ok (Some b, q))) x.1)) ∙ y.1,
        );
      }
