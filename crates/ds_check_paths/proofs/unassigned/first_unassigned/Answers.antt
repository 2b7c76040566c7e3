use Rattle.std.proofs.Common.{◌↔◌, ◌∙◌, sym, subst, ℕ, IsTrue}
use Rattle.ds_ast.specs.declared.module.Function.{Function}
use Rattle.ds_check_blocks.specs.Sites.{IsSite}
use Rattle.ds_shape.specs.Placed.{Placed, KeepsAssigned}
use Rattle.ds_check_paths.proofs.Told.{stands_at_site, some_site, first_breach, one_more, all_kept}
use Rattle.ds_check_paths.proofs.unassigned.first_unassigned.Goals as goal

pub keeps_assigned-requires : goal.keeps_assigned-requires
keeps_assigned-requires c =
    some_site c.in_ok-flow.flow c.loop-number.number c.site.result
    (stands_at_site c.in_ok-flow.flow c.args.sites.now (c.requires.same.1 ∙ sym c.in_ok-flow.ensures)
    c.loop-number.number c.len-number-end.result c.len-number-end.ensures
    c.loop-number-test.true c.site.result c.site.ensures)

pub returns-then-not-branch-clause-some : goal.returns-then-not-branch-clause-some
returns-then-not-branch-clause-some c =
    first_breach c.args.function.now c.loop-number.number c.site.result
    (stands_at_site c.args.function.now c.args.sites.now c.requires.same.1 c.loop-number.number c.len-number-end.result
    c.len-number-end.ensures c.loop-number-test.true c.site.result c.site.ensures)
    c.loop-number.invariant c.in_ok-keeps_assigned.field-0
    (subst (λ (f : Function). (n : ℕ) (p : Placed) → IsSite f n c.site.result p
    → (IsTrue c.in_ok-keeps_assigned.field-0 ↔ KeepsAssigned f p)) c.in_ok-flow.ensures c.in_ok-keeps_assigned.ensures)
    c.if-not-branch.true

pub loop-number-preserved : goal.loop-number-preserved
loop-number-preserved c =
    one_more c.args.function.now c.loop-number.number c.site.result
    (stands_at_site c.args.function.now c.args.sites.now c.requires.same.1 c.loop-number.number c.len-number-end.result
    c.len-number-end.ensures c.loop-number-test.true c.site.result c.site.ensures)
    c.loop-number.invariant c.in_ok-keeps_assigned.field-0
    (subst (λ (f : Function). (n : ℕ) (p : Placed) → IsSite f n c.site.result p
    → (IsTrue c.in_ok-keeps_assigned.field-0 ↔ KeepsAssigned f p)) c.in_ok-flow.ensures c.in_ok-keeps_assigned.ensures)
    c.if-not-branch.false

pub returns-clause-none : goal.returns-clause-none
returns-clause-none c =
    all_kept c.args.function.now c.args.sites.now c.requires.same.1 c.loop-number.number c.len-number-end.result
    c.len-number-end.ensures c.loop-number-test.false c.loop-number.invariant
