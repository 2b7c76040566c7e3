use Rattle.std.proofs.Common.{◌≡◌, ◌∙◌, ◌-◌, subst, sym, ap, length, take, drop}
use Rattle.std.specs.Prelude.{Ok}
use Rattle.ds_grammar.specs.Lexemes.{lexemes_from, AreInside}
use Rattle.ds_grammar.specs.Reading.{value_at}
use Rattle.ds_grammar.specs.Parsed.{answer}
use Rattle.ds_grammar.specs.Instructions.{instruction}
use Rattle.ds_parse_instr.proofs.Parsing.{length_from, start_is, passed_on, told_on, answered, moved, only_ok}
use Rattle.ds_parse_instr.proofs.Parsing.{only_memory, no_value, only_theirs}
use Rattle.ds_parse_instr.proofs.parser.parse_instr.Goals as goal

pub new-requires-clause-inside : goal.new-requires-clause-inside
new-requires-clause-inside c =
    let all = c.as_slice-all.result.now in
    subst (λ ts. AreInside c.args.text.now (take (length all - 1 - c.args.at.now) (drop c.args.at.now ts)))
    (sym c.as_slice-all.ensures)
    (c.tokens_lie_inside.ensures c.args.text.now c.args.tokens.now c.requires.lexed
    (length all - 1 - c.args.at.now) c.args.at.now)

pub returns-in_err-instr-clause-only : goal.returns-in_err-instr-clause-only
returns-in_err-instr-clause-only c = λ instr n h.
    let ts = lexemes_from c.args.text.now c.args.tokens.now c.args.at.now in
    let s = c.new.ensures ∙ start_is c.args.text.now c.as_slice-all.result.now c.args.tokens.now c.args.at.now
    (length c.args.text.now) c.as_slice-all.ensures in
    passed_on c.from_residual.result _ _ _ c.from_residual.ensures
    (λ x is. is ∙ only_memory instruction ts (length c.args.text.now) c.answers_are_exact.ensures.spelled
    c.new.result s c.in_err-instr.field-0.0 c.in_err-instr.ensures instr n h)

pub returns-clause-spelled : goal.returns-clause-spelled
returns-clause-spelled c =
    let ts = lexemes_from c.args.text.now c.args.tokens.now c.args.at.now in
    let s = c.new.ensures ∙ start_is c.args.text.now c.as_slice-all.result.now c.args.tokens.now c.args.at.now
    (length c.args.text.now) c.as_slice-all.ensures in
    let e = subst (λ p. answer (value_at instruction p) ≡ Ok (c.in_ok-instr.instr, c.in_ok-instr.left)) s
    c.in_ok-instr.ensures in
    let h = answered instruction ts (length c.args.text.now) c.answers_are_exact.ensures.exact c.in_ok-instr.instr
    c.in_ok-instr.left e in (
      h.0,
      h.1,
      let l = length_from c.args.text.now c.args.tokens.now c.args.at.now c.requires.within in
          moved (length c.args.tokens.now) (length c.as_slice-all.result.now) c.args.at.now c.in_ok-instr.left h.0
          (length ts) (ap length c.as_slice-all.ensures) c.requires.within h.2 l,
    )

pub returns-clause-only : goal.returns-clause-only
returns-clause-only c = λ instr n h.
    let ts = lexemes_from c.args.text.now c.args.tokens.now c.args.at.now in
    let s = c.new.ensures ∙ start_is c.args.text.now c.as_slice-all.result.now c.args.tokens.now c.args.at.now
    (length c.args.text.now) c.as_slice-all.ensures in
    let e = subst (λ p. answer (value_at instruction p) ≡ Ok (c.in_ok-instr.instr, c.in_ok-instr.left)) s
    c.in_ok-instr.ensures in
    only_ok instruction ts (length c.args.text.now) c.answers_are_exact.ensures.spelled c.in_ok-instr.instr instr
    c.in_ok-instr.left n e h

pub returns-in_err-instr-clause-only_fault : goal.returns-in_err-instr-clause-only_fault
returns-in_err-instr-clause-only_fault c = λ f h.
    let ts = lexemes_from c.args.text.now c.args.tokens.now c.args.at.now in
    let end = length c.args.text.now in
    let s = c.new.ensures ∙ start_is c.args.text.now c.as_slice-all.result.now c.args.tokens.now c.args.at.now end
    c.as_slice-all.ensures in
    told_on c.from_residual.result c.in_err-instr.field-0.0 f c.from_residual.ensures
    (only_theirs instruction ts end c.answers_are_exact.ensures.fault c.new.result s c.in_err-instr.field-0.0
    c.in_err-instr.ensures f h)

pub returns-clause-only_fault : goal.returns-clause-only_fault
returns-clause-only_fault c = λ f h.
    let ts = lexemes_from c.args.text.now c.args.tokens.now c.args.at.now in
    let end = length c.args.text.now in
    let s = c.new.ensures ∙ start_is c.args.text.now c.as_slice-all.result.now c.args.tokens.now c.args.at.now end
    c.as_slice-all.ensures in
    let e = subst (λ p. answer (value_at instruction p) ≡ Ok (c.in_ok-instr.instr, c.in_ok-instr.left)) s
    c.in_ok-instr.ensures in
    absurd (no_value instruction ts end c.answers_are_exact.ensures.fault c.in_ok-instr.instr c.in_ok-instr.left e f h)
