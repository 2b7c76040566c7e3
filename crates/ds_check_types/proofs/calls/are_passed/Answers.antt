use Rattle.std.proofs.Common.{◌↔◌, IsTrue, true, false, true≢false, sym, refl, subst, arith}
use Rattle.ds_check_types.proofs.Passed.{IsArgument}
use Rattle.ds_check_types.proofs.Pairs.{AreEach, apart_at, one_pair_more, all_pairs}
use Rattle.ds_check_types.proofs.calls.are_passed.Goals as goal

pub returns-then-arguments-params : goal.returns-then-arguments-params
returns-then-arguments-params c =
    let is = IsArgument c.args.entities.now c.args.locals.now c.args.function.now in
    subst (λ ps. IsTrue false ↔ AreEach is c.args.arguments.now ps) c.requires
    (λ t. absurd (true≢false (sym t)), λ each. absurd (c.if-arguments-params.true each.0))

pub returns-then-not-is_argument : goal.returns-then-not-is_argument
returns-then-not-is_argument c =
    let is = IsArgument c.args.entities.now c.args.locals.now c.args.function.now in
    subst (λ ps. IsTrue false ↔ AreEach is c.args.arguments.now ps) c.requires
    (apart_at is c.args.arguments.now c.args.params.now c.loop-i.i c.index-arguments-i.result c.index-params-i.result
    c.is_argument.result
    c.loop-i-test.true c.if-arguments-params.false c.index-arguments-i.is c.index-params-i.is c.is_argument.ensures
    c.if-not-is_argument.true)

pub loop-i-preserved : goal.loop-i-preserved
loop-i-preserved c =
    one_pair_more (IsArgument c.args.entities.now c.args.locals.now c.args.function.now) c.args.arguments.now
    c.args.params.now c.loop-i.i c.index-arguments-i.result c.index-params-i.result c.is_argument.result
    c.loop-i-test.true c.if-arguments-params.false c.index-arguments-i.is c.index-params-i.is c.is_argument.ensures
    c.if-not-is_argument.false c.loop-i.invariant

pub returns : goal.returns
returns c =
    let is = IsArgument c.args.entities.now c.args.locals.now c.args.function.now in
    subst (λ ps. IsTrue true ↔ AreEach is c.args.arguments.now ps) c.requires (
      λ t. all_pairs is c.args.arguments.now c.args.params.now c.if-arguments-params.false
          (λ k d e below. c.loop-i.invariant k d e (omega (arith, below, c.loop-i-test.false))),
      λ each. refl,
    )
