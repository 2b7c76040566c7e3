use Rattle.std.proofs.Common.{◌<◌, ◌≤◌, length, sym, ap, subst, true≢false, ◌∙◌}
use Rattle.std.specs.Prelude.{All}
use Rattle.ds_ast.specs.declared.module.Function.{Function}
use Rattle.ds_shape.specs.Placed.{placed_of, KeepsTargets, IsTarget}
use Rattle.ds_shape.specs.Flow.{targets_of}
use Rattle.ds_shape.specs.Breaches.{kept_all}
use Rattle.ds_check_blocks.proofs.Branched.{breaks_at, keeps_at}
use Rattle.ds_check_blocks.proofs.labels.first_bad_label.Goals as goal

pub returns-then-not-keeps_targets-clause-some : goal.returns-then-not-keeps_targets-clause-some
returns-then-not-keeps_targets-clause-some c =
    let inside : c.loop-number.number < length (placed_of c.args.sites.now) =
    subst (λ n. c.loop-number.number < n) c.len-number-end.ensures c.loop-number-test.true in
    breaks_at c.args.sites.now c.args.function.now c.loop-number.number c.instr_at-instr.result.now c.requires.sites
    inside c.instr_at-instr.ensures c.loop-number.invariant
    (λ all. true≢false (sym
    (c.keeps_targets.ensures.1
    (subst (λ (f : Function). All (IsTarget f) (targets_of c.instr_at-instr.result.now.op)) (sym c.requires.locals)
    all)) ∙ c.if-not-keeps_targets.true))

pub loop-number-preserved : goal.loop-number-preserved
loop-number-preserved c =
    let inside : c.loop-number.number < length (placed_of c.args.sites.now) =
    subst (λ n. c.loop-number.number < n) c.len-number-end.ensures c.loop-number-test.true in
    keeps_at c.args.sites.now c.args.function.now c.loop-number.number c.instr_at-instr.result.now c.requires.sites
    inside c.instr_at-instr.ensures c.loop-number.invariant
    (subst (λ (f : Function). All (IsTarget f) (targets_of c.instr_at-instr.result.now.op)) c.requires.locals
    (c.keeps_targets.ensures.0 c.if-not-keeps_targets.false))

pub returns-clause-none : goal.returns-clause-none
returns-clause-none c =
    let far : length (placed_of c.args.function.now) ≤ c.loop-number.number =
    subst (λ n. n ≤ c.loop-number.number)
    (c.len-number-end.ensures ∙ ap (λ (f : Function). length (placed_of f)) c.requires.sites)
    c.loop-number-test.false in
    kept_all (KeepsTargets c.args.function.now) (placed_of c.args.function.now) c.loop-number.number far
    c.loop-number.invariant
