use Rattle.std.proofs.Common.{◌≡◌, ◌<◌, ◌≤◌, length, slice_index_or, subst, ◌∙◌, ap}
use Rattle.ds_ast.specs.declared.module.Function.{Function}
use Rattle.ds_shape.specs.Placed.{placed_of}
use Rattle.ds_check.specs.Fault.{KeepsAll}
use Rattle.ds_check.specs.Instr.{IsBroken}
use Rattle.ds_shape.specs.Breaches.{kept_all}
use Rattle.ds_check.proofs.Numbered.{numbered}
use Rattle.ds_check.proofs.InOrder.{first_that_breaks, one_more_keeps}
use Rattle.ds_check.proofs.instructions.first_broken_instruction.Goals as goal

pub returns-in-Some-clause-some : goal.returns-in-Some-clause-some
returns-in-Some-clause-some c =
    let many : c.len-number-end.result ≡ length (placed_of c.args.judge.now.function.now) = c.len-number-end.ensures
    ∙ ap (λ (f : Function). length (placed_of f)) c.requires.sites in
    let inside : c.loop-number.number < length (placed_of c.args.judge.now.function.now) =
    subst (λ n. c.loop-number.number < n) many c.loop-number-test.true in
    first_that_breaks c.args.judge.now.entities.now c.args.judge.now.function.now c.loop-number.number inside
    c.loop-number.invariant
    (λ p. numbered c.args.judge.now.function.now c.loop-number.number p inside) c.in-Some.rule
    (λ p. subst (λ r. IsBroken c.args.judge.now.entities.now c.args.judge.now.function.now
    (slice_index_or (placed_of c.args.judge.now.function.now) c.loop-number.number p) r)
    c.in-Some.is (c.in_ok-rule.ensures p))

pub loop-number-preserved : goal.loop-number-preserved
loop-number-preserved c =
    let many : c.len-number-end.result ≡ length (placed_of c.args.judge.now.function.now) = c.len-number-end.ensures
    ∙ ap (λ (f : Function). length (placed_of f)) c.requires.sites in
    let inside : c.loop-number.number < length (placed_of c.args.judge.now.function.now) =
    subst (λ n. c.loop-number.number < n) many c.loop-number-test.true in
    one_more_keeps c.args.judge.now.entities.now c.args.judge.now.function.now c.loop-number.number inside
    c.loop-number.invariant
    (λ p. numbered c.args.judge.now.function.now c.loop-number.number p inside)
    (λ p. subst (λ r. IsBroken c.args.judge.now.entities.now c.args.judge.now.function.now
    (slice_index_or (placed_of c.args.judge.now.function.now) c.loop-number.number p) r)
    c.in-None.is (c.in_ok-rule.ensures p))

pub returns-clause-none : goal.returns-clause-none
returns-clause-none c =
    let many : c.len-number-end.result ≡ length (placed_of c.args.judge.now.function.now) = c.len-number-end.ensures
    ∙ ap (λ (f : Function). length (placed_of f)) c.requires.sites in
    kept_all (KeepsAll c.args.judge.now.entities.now c.args.judge.now.function.now)
    (placed_of c.args.judge.now.function.now) c.loop-number.number
    (subst (λ n. n ≤ c.loop-number.number) many c.loop-number-test.false) c.loop-number.invariant
