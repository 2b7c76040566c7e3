use Rattle.std.proofs.Common.{[], ◌∷◌, true≢false, sym, ◌∙◌}
use Rattle.ds_shape.specs.Operands.{typed}
use Rattle.ds_shape.specs.Types.{IsTypedOperand}
use Rattle.ds_check_types.proofs.Listed.{first_and, not_first}
use Rattle.ds_check_types.proofs.operands.are_three.Goals as goal

pub returns-then-not-has_type : goal.returns-then-not-has_type
returns-then-not-has_type c =
    not_first (IsTypedOperand c.args.entities.now c.args.locals.now) (typed c.args.first_type c.args.first.now)
    (typed c.args.ty c.args.a.now ∷ typed c.args.ty c.args.b.now ∷ [])
    (λ has. true≢false (sym (c.has_type.ensures.1 has) ∙ c.if-not-has_type.true))

pub returns : goal.returns
returns c = first_and (IsTypedOperand c.args.entities.now c.args.locals.now) (typed c.args.first_type c.args.first.now)
    (typed c.args.ty c.args.a.now ∷ typed c.args.ty c.args.b.now ∷ []) c.are_two.result
    (c.has_type.ensures.0 c.if-not-has_type.false) c.are_two.ensures
