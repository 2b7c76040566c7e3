use Rattle.std.proofs.Common.{◌≡◌, ◌⊎◌, Bool, cond, List, ◌∷◌, [], ◌++◌, Result, Err, sym, ◌∙◌, ap, subst, inl, inr}
use Rattle.std.proofs.Common.{arith}
use Rattle.std.specs.Prelude.{IfErr}
use Rattle.ds_lex.specs.declared.token.Token.{Token}
use Rattle.ds_lex.specs.declared.fault.LexFault.{LexFault}
use Rattle.ds_lex.specs.declared.fault.LexFault.TheVariants.{Memory}
use Rattle.ds_lex.specs.Lexed.{LexedFrom, is_end}
use Rattle.ds_lex.specs.Fault.{HasFault}
use Rattle.ds_lex.proofs.Lexing.{Known, Lexing, only_token, only_fault, lexing_more, lexed_last, lexed_only}
use Rattle.ds_lex.proofs.Lexing.{lexed_no_fault, faulty_never, faulty, faulty_only, not_empty, is_no_end, passed_on}
use Rattle.ds_lex.proofs.Places.{token_within}
use Rattle.ds_lex.proofs.scanner.lex.Goals as goal

pub returns-in_err-token-clause-only : goal.returns-in_err-token-clause-only
returns-in_err-token-clause-only c = λ ts h.
    let text = c.args.text.now in
    let at = c.loop-tokens.at in
    let k : Known text at c.next_token.result = record {
      found = c.next_token.ensures.found;
      only = c.next_token.ensures.only;
      fault = c.next_token.ensures.fault;
      only_fault = c.next_token.ensures.only_fault;
    } in
    let o = only_fault text at c.next_token.result c.in_err-token.field-0.0 k c.in_err-token.was in
    absurd (faulty_never text at c.loop-tokens.tokens.items c.in_err-token.field-0.0 c.loop-tokens.invariant o ts h)

pub returns-in_err-token-clause-fault : goal.returns-in_err-token-clause-fault
returns-in_err-token-clause-fault c =
    let text = c.args.text.now in
    let at = c.loop-tokens.at in
    let f = c.in_err-token.field-0.0 in
    let k : Known text at c.next_token.result = record {
      found = c.next_token.ensures.found;
      only = c.next_token.ensures.only;
      fault = c.next_token.ensures.fault;
      only_fault = c.next_token.ensures.only_fault;
    } in
    let o = only_fault text at c.next_token.result f k c.in_err-token.was in
    let P : Result (List Token) LexFault → Type 0 = λ r. IfErr r (λ g. (g ≡ Memory) ⊎ HasFault text g) in
    subst P (sym (passed_on c.from_residual.result f c.from_residual.ensures))
    (inr (faulty text at c.loop-tokens.tokens.items f c.loop-tokens.invariant o))

pub returns-in_err-token-clause-only_fault : goal.returns-in_err-token-clause-only_fault
returns-in_err-token-clause-only_fault c = λ g h.
    let text = c.args.text.now in
    let at = c.loop-tokens.at in
    let f = c.in_err-token.field-0.0 in
    let k : Known text at c.next_token.result = record {
      found = c.next_token.ensures.found;
      only = c.next_token.ensures.only;
      fault = c.next_token.ensures.fault;
      only_fault = c.next_token.ensures.only_fault;
    } in
    let o = only_fault text at c.next_token.result f k c.in_err-token.was in
    let err : LexFault → Result (List Token) LexFault = λ f. Err f in
    inl (passed_on c.from_residual.result f c.from_residual.ensures
    ∙ ap err (faulty_only text at c.loop-tokens.tokens.items f c.loop-tokens.invariant o g h))

pub returns-in-End-clause-tokens : goal.returns-in-End-clause-tokens
returns-in-End-clause-tokens c =
    let text = c.args.text.now in
    let at = c.loop-tokens.at in
    let tokens = c.loop-tokens.tokens.items in
    let t = c.in_ok-token.token in
    let k : Known text at c.next_token.result = record {
      found = c.next_token.ensures.found;
      only = c.next_token.ensures.only;
      fault = c.next_token.ensures.fault;
      only_fault = c.next_token.ensures.only_fault;
    } in
    let o = only_token text at c.next_token.result t k c.in_ok-token.was in
    let e = c.new.ensures ∙ c.push.ensures.items ∙ ap (λ (b : Bool). cond b (tokens ++ t ∷ []) tokens)
    (sym c.in_ok-map_err.ensures.variant) in
    let Q : List Token → Type 0 = λ ts. LexedFrom text 0 ts in
    subst Q (sym e) (lexed_last text at tokens t c.loop-tokens.invariant o (ap is_end c.in-End.is))

pub returns-in-End-clause-only : goal.returns-in-End-clause-only
returns-in-End-clause-only c = λ ts h.
    let text = c.args.text.now in
    let at = c.loop-tokens.at in
    let tokens = c.loop-tokens.tokens.items in
    let t = c.in_ok-token.token in
    let k : Known text at c.next_token.result = record {
      found = c.next_token.ensures.found;
      only = c.next_token.ensures.only;
      fault = c.next_token.ensures.fault;
      only_fault = c.next_token.ensures.only_fault;
    } in
    let o = only_token text at c.next_token.result t k c.in_ok-token.was in
    let e = c.new.ensures ∙ c.push.ensures.items ∙ ap (λ (b : Bool). cond b (tokens ++ t ∷ []) tokens)
    (sym c.in_ok-map_err.ensures.variant) in
    e ∙ lexed_only text at tokens t c.loop-tokens.invariant o (ap is_end c.in-End.is) ts h

pub returns-in-End-clause-only_fault : goal.returns-in-End-clause-only_fault
returns-in-End-clause-only_fault c = λ f h.
    let text = c.args.text.now in
    let at = c.loop-tokens.at in
    let t = c.in_ok-token.token in
    let k : Known text at c.next_token.result = record {
      found = c.next_token.ensures.found;
      only = c.next_token.ensures.only;
      fault = c.next_token.ensures.fault;
      only_fault = c.next_token.ensures.only_fault;
    } in
    let o = only_token text at c.next_token.result t k c.in_ok-token.was in
    absurd (lexed_no_fault text at c.loop-tokens.tokens.items t c.loop-tokens.invariant o (ap is_end c.in-End.is) f h)

pub loop-tokens-smaller : goal.loop-tokens-smaller
loop-tokens-smaller c =
    let text = c.args.text.now in
    let at = c.loop-tokens.at in
    let t = c.in_ok-token.token in
    let k : Known text at c.next_token.result = record {
      found = c.next_token.ensures.found;
      only = c.next_token.ensures.only;
      fault = c.next_token.ensures.fault;
      only_fault = c.next_token.ensures.only_fault;
    } in
    let is = (only_token text at c.next_token.result t k c.in_ok-token.was).is in
    let n = not_empty text at t is (is_no_end t.kind c.in_default.not-End) in
    omega (arith, n, token_within text at t is, c.loop-tokens.invariant.within)

pub loop-tokens-preserved : goal.loop-tokens-preserved
loop-tokens-preserved c =
    let text = c.args.text.now in
    let at = c.loop-tokens.at in
    let tokens = c.loop-tokens.tokens.items in
    let t = c.in_ok-token.token in
    let k : Known text at c.next_token.result = record {
      found = c.next_token.ensures.found;
      only = c.next_token.ensures.only;
      fault = c.next_token.ensures.fault;
      only_fault = c.next_token.ensures.only_fault;
    } in
    let o = only_token text at c.next_token.result t k c.in_ok-token.was in
    let e = c.push.ensures.items ∙ ap (λ (b : Bool). cond b (tokens ++ t ∷ []) tokens)
    (sym c.in_ok-map_err.ensures.variant) in
    let Q : List Token → Type 0 = λ ts. Lexing text t.end ts in
    subst Q (sym e) (lexing_more text at tokens t c.loop-tokens.invariant o (is_no_end t.kind c.in_default.not-End))
