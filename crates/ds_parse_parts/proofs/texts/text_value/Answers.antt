use Rattle.std.proofs.Common.{ℕ, List, ◌∷◌, [], ◌++◌, sym, ◌∙◌, ap, append_assoc, append-nil, arith}
use Rattle.ds_grammar.specs.Texts.{text_value}
use Rattle.ds_parse_parts.proofs.Escapes.{front, no_front}
use Rattle.ds_parse_parts.proofs.texts.text_value.Goals as goal

pub loop-byte-smaller : goal.loop-byte-smaller
loop-byte-smaller c =
    let f = front c.loop-byte.rest.now c.in-Some.byte c.in-Some.behind.now (sym c.in-Some.ensures) in
    omega (arith, f.fewer)

pub loop-byte-preserved : goal.loop-byte-preserved
loop-byte-preserved c =
    let f = front c.loop-byte.rest.now c.in-Some.byte c.in-Some.behind.now (sym c.in-Some.ensures) in
    let old = c.loop-byte.value.items in
    let rest = text_value c.in-Some.behind.now in
    ap (λ (xs : List ℕ). xs ++ rest) c.in_ok-push.ensures.items ∙ append_assoc old (c.in-Some.byte ∷ []) rest
    ∙ ap (λ (xs : List ℕ). old ++ xs) (sym f.value) ∙ c.loop-byte.invariant

pub returns : goal.returns
returns c =
    let old = c.loop-byte.value.items in
    sym (append-nil old) ∙ ap (λ (xs : List ℕ). old ++ xs)
    (sym (no_front c.loop-byte.rest.now (sym c.in_default.ensures))) ∙ c.loop-byte.invariant
