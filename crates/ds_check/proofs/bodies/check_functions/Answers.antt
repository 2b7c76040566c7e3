use Rattle.std.proofs.Common.{◌≤◌, List, length, subst, inl, inr}
use Rattle.ds_ast.specs.declared.module.Function.{Function}
use Rattle.ds_shape.specs.Accepted.{IsGood}
use Rattle.ds_shape.specs.Breaches.{kept_all}
use Rattle.ds_check.proofs.FunctionsInOrder.{function_stands, first_fault, one_more_good}
use Rattle.ds_check.proofs.bodies.check_functions.Goals as goal

pub check_one-requires-clause-stands : goal.check_one-requires-clause-stands
check_one-requires-clause-stands c =
    function_stands c.args.entities.now c.args.module.now c.requires.module c.as_slice-functions.result.now
    c.as_slice-functions.ensures c.loop-f.f c.index-functions-f.result
    c.loop-f-test.true c.index-functions-f.is

pub returns-in-Err-clause-refused : goal.returns-in-Err-clause-refused
returns-in-Err-clause-refused c = elim c.in-Err.ensures.refused [
  | inl memory ↦ inl memory
  | inr has ↦ inr (first_fault c.args.entities.now c.args.module.now c.requires.module c.as_slice-functions.result.now
      c.as_slice-functions.ensures c.loop-f.f c.index-functions-f.result
      c.loop-f-test.true c.index-functions-f.is c.loop-f.invariant c.in-Err.fault has)
]

pub loop-f-preserved : goal.loop-f-preserved
loop-f-preserved c =
    one_more_good c.args.entities.now c.args.module.now c.requires.module c.as_slice-functions.result.now
    c.as_slice-functions.ensures c.loop-f.f c.index-functions-f.result
    c.loop-f-test.true c.index-functions-f.is c.loop-f.invariant c.in-Ok.ensures.good

pub returns-clause-kept : goal.returns-clause-kept
returns-clause-kept c =
    kept_all (IsGood c.args.module.now) c.args.module.now.functions c.loop-f.f
    (subst (λ (fs : List Function). length fs ≤ c.loop-f.f) c.as_slice-functions.ensures c.loop-f-test.false)
    c.loop-f.invariant
