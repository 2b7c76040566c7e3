use Rattle.std.proofs.Common.{ℕ, ◌+◌, false, length, drop, [], Ok, Err, sym, ◌∙◌, ap, subst, arith}
use Rattle.std.proofs.lemmas.List.{take_rest}
use Rattle.ds_lex.specs.declared.token.Token.{Token}
use Rattle.ds_lex.specs.declared.fault.LexFault.{LexFault}
use Rattle.ds_lex.specs.Lexed.{IsTokenAt}
use Rattle.ds_lex.specs.Fault.{FaultFrom}
use Rattle.ds_lex.specs.Scan.{gap_len, token_at, fault_of}
use Rattle.ds_lex.proofs.Lexing.{Next}
use Rattle.ds_lex.proofs.Places.{gap_end, found_at, fault_at, token_within, one_token, one_fault, same_token}
use Rattle.ds_lex.proofs.Places.{ok_is_no_err, same_flaw}
use Rattle.ds_lex.proofs.scanner.next_token.Goals as goal

pub overflow_add-result : goal.overflow_add-result
overflow_add-result c =
    let text = c.args.text.now in
    let at = c.args.at in
    let gap = ap (λ (n : ℕ). at + n) (c.gap_len.ensures.len ∙ ap (gap_len false) (take_rest text at)) in
    let found =
    sym (c.in-Ok.ensures ∙ ap token_at (take_rest text (at + c.gap_len.result) ∙ ap (λ (n : ℕ). drop n text) gap)) in
    omega (
      arith,
      gap,
      token_within text at _ (found_at text at c.in-Ok.kind c.in-Ok.len c.requires.within found),
      c.requires.small,
    )

pub overflow_cast-result-in-Ok : goal.overflow_cast-result-in-Ok
overflow_cast-result-in-Ok c =
    let text = c.args.text.now in
    let at = c.args.at in
    let gap = ap (λ (n : ℕ). at + n) (c.gap_len.ensures.len ∙ ap (gap_len false) (take_rest text at)) in
    let found =
    sym (c.in-Ok.ensures ∙ ap token_at (take_rest text (at + c.gap_len.result) ∙ ap (λ (n : ℕ). drop n text) gap)) in
    omega (
      arith,
      gap,
      token_within text at _ (found_at text at c.in-Ok.kind c.in-Ok.len c.requires.within found),
      c.requires.small,
    )

pub returns-in-Ok-clause-found : goal.returns-in-Ok-clause-found
returns-in-Ok-clause-found c =
    let text = c.args.text.now in
    let at = c.args.at in
    let kind = c.in-Ok.kind in
    let len = c.in-Ok.len in
    let gap = ap (λ (n : ℕ). at + n) (c.gap_len.ensures.len ∙ ap (gap_len false) (take_rest text at)) in
    let found =
    sym (c.in-Ok.ensures ∙ ap token_at (take_rest text (at + c.gap_len.result) ∙ ap (λ (n : ℕ). drop n text) gap)) in
    let P : ℕ → Type 0 = λ n. IsTokenAt text at (record { kind = kind; start = n; end = n + len }) in
    subst P (sym gap) (found_at text at kind len c.requires.within found)

pub returns-in-Ok-clause-only : goal.returns-in-Ok-clause-only
returns-in-Ok-clause-only c = λ t h.
    let text = c.args.text.now in
    let at = c.args.at in
    let gap = ap (λ (n : ℕ). at + n) (c.gap_len.ensures.len ∙ ap (gap_len false) (take_rest text at)) in
    let found =
    c.in-Ok.ensures ∙ ap token_at (take_rest text (at + c.gap_len.result) ∙ ap (λ (n : ℕ). drop n text) gap) in
    let p = one_token text at t h in
    let ok : Token → Next = λ u. Ok u in
    ap ok (same_token t c.in-Ok.kind (at + c.gap_len.result) c.in-Ok.len (gap ∙ p.0) (found ∙ p.1) h.ordered)

pub returns-in-Ok-clause-only_fault : goal.returns-in-Ok-clause-only_fault
returns-in-Ok-clause-only_fault c = λ f h.
    let text = c.args.text.now in
    let at = c.args.at in
    let gap = ap (λ (n : ℕ). at + n) (c.gap_len.ensures.len ∙ ap (gap_len false) (take_rest text at)) in
    let found =
    c.in-Ok.ensures ∙ ap token_at (take_rest text (at + c.gap_len.result) ∙ ap (λ (n : ℕ). drop n text) gap) in
    let p = one_fault text at f h in
    absurd (ok_is_no_err _ _ (found ∙ p.found))

pub returns-in-Err-clause-only : goal.returns-in-Err-clause-only
returns-in-Err-clause-only c = λ t h.
    let text = c.args.text.now in
    let at = c.args.at in
    let gap = ap (λ (n : ℕ). at + n) (c.gap_len.ensures.len ∙ ap (gap_len false) (take_rest text at)) in
    let found =
    c.in-Err.ensures ∙ ap token_at (take_rest text (at + c.gap_len.result) ∙ ap (λ (n : ℕ). drop n text) gap) in
    let p = one_token text at t h in
    absurd (ok_is_no_err _ _ (sym p.1 ∙ sym found))

pub returns-in-Err-clause-fault : goal.returns-in-Err-clause-fault
returns-in-Err-clause-fault c =
    let text = c.args.text.now in
    let at = c.args.at in
    let gap = ap (λ (n : ℕ). at + n) (c.gap_len.ensures.len ∙ ap (gap_len false) (take_rest text at)) in
    let found = sym (c.in-Err.ensures ∙ ap token_at
    (take_rest text (at + c.gap_len.result) ∙ ap (λ (n : ℕ). drop n text) gap)) in
    let P : LexFault → Type 0 = λ f. FaultFrom text at [] f in
    let e = c.fault.ensures ∙ ap (λ (n : ℕ). fault_of c.in-Err.flaw n (length text)) gap in
    subst P (sym e) (fault_at text at c.in-Err.flaw c.requires.within found)

pub returns-in-Err-clause-only_fault : goal.returns-in-Err-clause-only_fault
returns-in-Err-clause-only_fault c = λ f h.
    let text = c.args.text.now in
    let at = c.args.at in
    let gap = ap (λ (n : ℕ). at + n) (c.gap_len.ensures.len ∙ ap (gap_len false) (take_rest text at)) in
    let found =
    c.in-Err.ensures ∙ ap token_at (take_rest text (at + c.gap_len.result) ∙ ap (λ (n : ℕ). drop n text) gap) in
    let p = one_fault text at f h in
    let e = c.fault.ensures ∙ ap (λ (n : ℕ). fault_of c.in-Err.flaw n (length text)) gap in
    let err : LexFault → Next = λ f. Err f in
    ap err (e ∙ ap (λ w. fault_of w (gap_end text at) (length text)) (same_flaw _ _ (found ∙ p.found)) ∙ sym p.same)
