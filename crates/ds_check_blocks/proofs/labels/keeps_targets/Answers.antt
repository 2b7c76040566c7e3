use Rattle.std.proofs.Common.{◌≤◌, length, sym, refl, subst, true≢false, ◌∙◌}
use Rattle.std.proofs.lemmas.Option.{slice_get_within}
use Rattle.ds_shape.specs.Flow.{targets_of}
use Rattle.ds_shape.specs.Placed.{IsTarget}
use Rattle.ds_shape.specs.Breaches.{kept_more, kept_all, each_standing}
use Rattle.ds_check_blocks.proofs.Standing.{item_at, stands_at}
use Rattle.ds_check_blocks.proofs.labels.keeps_targets.Goals as goal

pub returns-then-not-is_target : goal.returns-then-not-is_target
returns-then-not-is_target c = (
  λ t. absurd (true≢false (sym t)),
  λ all.
      let good : IsTarget c.args.locals.now c.target.result.now =
      each_standing (IsTarget c.args.locals.now) (targets_of c.args.op.now) all c.target.result.now
      (stands_at (targets_of c.args.op.now) c.loop-number.number c.target.result.now c.target.ensures) in
      absurd (true≢false (sym (c.is_target.ensures.1 good) ∙ c.if-not-is_target.true)),
)

pub loop-number-preserved : goal.loop-number-preserved
loop-number-preserved c =
    kept_more (IsTarget c.args.locals.now) (targets_of c.args.op.now) c.loop-number.number c.target.result.now
    (slice_get_within (targets_of c.args.op.now) c.loop-number.number c.target.result.now c.target.ensures)
    (item_at (targets_of c.args.op.now) c.loop-number.number c.target.result.now c.target.ensures)
    c.loop-number.invariant (c.is_target.ensures.0 c.if-not-is_target.false)

pub returns : goal.returns
returns c =
    let far : length (targets_of c.args.op.now) ≤ c.loop-number.number =
    subst (λ n. n ≤ c.loop-number.number) c.target_count-number-end.ensures c.loop-number-test.false in (
      λ t. kept_all (IsTarget c.args.locals.now) (targets_of c.args.op.now) c.loop-number.number far
          c.loop-number.invariant,
      λ all. refl,
    )
