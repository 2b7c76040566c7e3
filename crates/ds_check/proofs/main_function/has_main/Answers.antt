use Rattle.ds_check.proofs.main_function.has_main.Goals as goal
use Rattle.ds_check.proofs.Main.{found, not_found}

-- src/main_function.rt:31:13
pub returns-then-is_main : goal.returns-then-is_main
returns-then-is_main c = found c.args.module.now c.as_slice-f-items.result.now c.loop-f.f-index c.f-item.result
    c.as_slice-f-items.ensures c.loop-f-test.true c.f-item.is (c.is_main.ensures.0 (c.if-is_main.true))

-- src/main_function.rt:25:1
pub returns : goal.returns
returns c = not_found c.args.module.now c.as_slice-f-items.result.now c.loop-f.f-index c.as_slice-f-items.ensures
    c.loop-f-test.false c.loop-f.invariant
