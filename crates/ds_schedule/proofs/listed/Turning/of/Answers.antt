use Rattle.std.proofs.Common.{◌≡◌, ◌∙◌, sym, arith, true, false}
use Rattle.std.proofs.lemmas.List.{length-set}
use Rattle.ds_schedule.specs.Kept.{may_by}
use Rattle.ds_schedule.proofs.Turning.{listed_more, listed_all, from_failing}
use Rattle.ds_schedule.proofs.listed.Turning.of.Goals as goal
use Rattle.ds_schedule.proofs.listed.Turning.of.Goals.{then-may_by, else-may_by}

pub loop-thread-preserved : goal.loop-thread-preserved
loop-thread-preserved c =
    let i = c.loop-thread.invariant in
    let test = may_by c.args.given c.args.ended.now in
    let t = c.loop-thread.thread in
    elim c.if-may_by.branch [
      | then-may_by w ↦
          let may : test t ≡ true = sym c.may_by.ensures ∙ w.if-may_by.true in
          rw (w.threads-is, w.count-is) (record {
            few = omega (arith, i.few);
            sixteen = length-set c.loop-thread.threads c.loop-thread.count t ∙ i.sixteen;
            all = listed_more test t c.loop-thread.threads c.loop-thread.count (omega arith) may
                (omega (arith, i.few, i.sixteen)) ∙ i.all;
          })
      | else-may_by w ↦
          let fails : test t ≡ false = sym c.may_by.ensures ∙ w.if-may_by.false in
          rw (w.threads-is, w.count-is, ← from_failing test t (omega arith) fails) (record {
            few = omega (arith, i.few);
            sixteen = i.sixteen;
            all = i.all;
          })
    ]

pub returns : goal.returns
returns c =
    let i = c.loop-thread.invariant in
    listed_all (may_by c.args.given c.args.ended.now) c.loop-thread.thread c.loop-thread.threads c.loop-thread.count
    (omega arith) ∙ i.all
