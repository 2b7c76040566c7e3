use Rattle.std.proofs.Common.{true≢false, sym, ◌∙◌, ap}
use Rattle.ds_check_types.specs.Walking.{next_type}
use Rattle.ds_check_types.proofs.Walked.{walks_from, stops_at}
use Rattle.ds_check_types.proofs.addresses.walks.Goals as goal

pub returns-in-None : goal.returns-in-None
returns-in-None c =
    let none = ap (λ s. next_type s c.loop-index.at.now c.index-item.result) (sym c.requires)
    ∙ sym c.in-None.ensures in
    let stops = stops_at c.args.entities.now c.loop-index.at.now c.args.indices.now c.loop-index.index-index
    c.index-item.result c.loop-index-test.true c.index-item.is none in
    (λ t. absurd (true≢false (sym t)), λ w. absurd (stops (c.loop-index.invariant.0 w)))

pub loop-index-preserved : goal.loop-index-preserved
loop-index-preserved c =
    let one = ap (λ s. next_type s c.loop-index.at.now c.index-item.result) (sym c.requires) ∙ sym c.in-Some.ensures in
    let on = walks_from c.args.entities.now c.loop-index.at.now c.in-Some.next.now c.args.indices.now
    c.loop-index.index-index c.index-item.result c.loop-index-test.true c.index-item.is one in
    (λ w. on.0 (c.loop-index.invariant.0 w), λ w. c.loop-index.invariant.1 (on.1 w))
