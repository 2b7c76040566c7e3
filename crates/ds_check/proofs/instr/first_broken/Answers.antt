use Rattle.std.proofs.Common.{sym, subst, true≢false, ◌∙◌}
use Rattle.std.specs.Prelude.{All}
use Rattle.ds_ast.specs.declared.module.Function.{Function}
use Rattle.ds_shape.specs.Placed.{values_of, IsDefined}
use Rattle.ds_check.proofs.Judged.{none_broken, phi_broken}
use Rattle.ds_check.proofs.instr.first_broken.Goals as goal

pub returns-then-not-branch-2 : goal.returns-then-not-branch-2
returns-then-not-branch-2 c =
    phi_broken c.args.judge.now.entities.now c.args.judge.now.function.now c.args.op.now c.args.number c.args.site
    (subst (λ (f : Function). All (IsDefined c.args.judge.now.entities.now f) (values_of c.args.op.now))
    c.requires.locals (c.are_operands_defined.ensures.0 c.if-not-are_operands_defined.false))
    (c.in_ok-keeps_types.ensures.0 c.if-not-branch.false)
    (λ n p site same kept. true≢false
    (sym ((c.in_ok-keeps_phi.ensures n p site same).1 kept) ∙ c.if-not-branch-2.true))

pub returns : goal.returns
returns c =
    none_broken c.args.judge.now.entities.now c.args.judge.now.function.now c.args.op.now c.args.number c.args.site
    (subst (λ (f : Function). All (IsDefined c.args.judge.now.entities.now f) (values_of c.args.op.now))
    c.requires.locals (c.are_operands_defined.ensures.0 c.if-not-are_operands_defined.false))
    (c.in_ok-keeps_types.ensures.0 c.if-not-branch.false)
    (λ n p site same. (c.in_ok-keeps_phi.ensures n p site same).0 c.if-not-branch-2.false)
