use Rattle.std.proofs.Common.{true≢false, sym}
use Rattle.ds_check_types.proofs.Kept.{again_here, step_here}
use Rattle.ds_check_types.proofs.numbers.are_distinct.Goals as goal

pub returns-then-not-branch : goal.returns-then-not-branch
returns-then-not-branch c =
    let told = c.in_ok-insert.ensures.added in
    let no_distinct = again_here c.loop-case.numbers c.args.cases.now c.loop-case.case-index c.case-item.result
    c.in_ok-insert.field-0 c.loop-case-test.true c.case-item.is told c.if-not-branch.true in
    (λ t. absurd (true≢false (sym t)), λ distinct. absurd (no_distinct (c.loop-case.invariant.0 distinct)))

pub loop-case-preserved : goal.loop-case-preserved
loop-case-preserved c =
    let told = c.in_ok-insert.ensures.added in
    let step = step_here c.loop-case.numbers c.insert.new.self c.args.cases.now c.loop-case.case-index
    c.case-item.result c.in_ok-insert.field-0 c.loop-case-test.true c.case-item.is told c.if-not-branch.false
    c.in_ok-insert.ensures.updates in
    (λ distinct. step.0 (c.loop-case.invariant.0 distinct), λ new. c.loop-case.invariant.1 (step.1 new))
