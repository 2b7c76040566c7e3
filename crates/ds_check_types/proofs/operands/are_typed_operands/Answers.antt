use Rattle.std.proofs.Common.{◌↔◌, IsTrue, ◌∷◌, map, sym, subst}
use Rattle.std.specs.Prelude.{All}
use Rattle.ds_ast.specs.declared.operand.Arm.{Arm}
use Rattle.ds_ast.specs.declared.ty.Scalar.TheVariants.{Ptr}
use Rattle.ds_shape.specs.Operands.{operands_of, typed}
use Rattle.ds_shape.specs.Types.{IsTypedOperand}
use Rattle.ds_check_types.proofs.operands.are_typed_operands.Goals as goal

pub returns-in-Bin : goal.returns-in-Bin
returns-in-Bin c =
    subst (λ op. IsTrue c.are_two.result ↔ All (IsTypedOperand c.args.entities.now c.args.locals.now) (operands_of op)) (sym c.in-Bin.is)
    c.are_two.ensures

pub returns-in-Icmp : goal.returns-in-Icmp
returns-in-Icmp c =
    subst (λ op. IsTrue c.are_two-in-Icmp.result ↔ All (IsTypedOperand c.args.entities.now c.args.locals.now) (operands_of op)) (sym c.in-Icmp.is)
    c.are_two-in-Icmp.ensures

pub returns-in-Select : goal.returns-in-Select
returns-in-Select c =
    subst (λ op. IsTrue c.are_three.result ↔ All (IsTypedOperand c.args.entities.now c.args.locals.now)
    (operands_of op)) (sym c.in-Select.is) c.are_three.ensures

pub returns-in-Gep : goal.returns-in-Gep
returns-in-Gep c = subst
    (λ op. IsTrue c.are_base_and_indices.result ↔ All (IsTypedOperand c.args.entities.now c.args.locals.now)
    (operands_of op)) (sym c.in-Gep.is)
    (subst (λ indices. IsTrue c.are_base_and_indices.result ↔ All
    (IsTypedOperand c.args.entities.now c.args.locals.now) (typed Ptr c.in-Gep.base ∷ indices)) c.as_slice.ensures
    c.are_base_and_indices.ensures)

pub returns-in-Phi : goal.returns-in-Phi
returns-in-Phi c = subst
    (λ op. IsTrue c.are_arms.result ↔ All (IsTypedOperand c.args.entities.now c.args.locals.now) (operands_of op))
    (sym c.in-Phi.is)
    (subst (λ arms. IsTrue c.are_arms.result ↔ All (IsTypedOperand c.args.entities.now c.args.locals.now)
    (map (λ (a : Arm). typed c.in-Phi.ty a.value) arms)) c.as_slice-in-Phi.ensures c.are_arms.ensures)

pub returns-in-Rmw : goal.returns-in-Rmw
returns-in-Rmw c = subst
    (λ op. IsTrue c.are_two-in-Rmw.result ↔ All (IsTypedOperand c.args.entities.now c.args.locals.now)
    (operands_of op)) (sym c.in-Rmw.is) c.are_two-in-Rmw.ensures

pub returns-in-Cmpxchg : goal.returns-in-Cmpxchg
returns-in-Cmpxchg c =
    subst (λ op. IsTrue c.are_three-in-Cmpxchg.result ↔ All (IsTypedOperand c.args.entities.now c.args.locals.now)
    (operands_of op)) (sym c.in-Cmpxchg.is) c.are_three-in-Cmpxchg.ensures

pub returns-in-Switch : goal.returns-in-Switch
returns-in-Switch c =
    subst (λ op. IsTrue c.is_one-in-Switch.result ↔ All (IsTypedOperand c.args.entities.now c.args.locals.now)
    (operands_of op)) (sym c.in-Switch.is) c.is_one-in-Switch.ensures
