use Rattle.std.proofs.Common.{◌≡◌, ◌∙◌, List, true, ap, sym, inr}
use denote.Ref.{Bor}
use Rattle.ds_ast.specs.declared.ty.Ty.{Ty}
use Rattle.ds_ast.specs.declared.name.Name.{Name}
use Rattle.ds_shape.specs.Index.{types_in, line_in}
use Rattle.ds_shape.specs.Capped.{extent_in, any_large}
use Rattle.ds_shape.specs.Kept.{IsLarge}
use Rattle.ds_shape.specs.declared.fault.ShapeFault.TheVariants as faults
use Rattle.ds_shape.proofs.Layouts.{first_item, none_more}
use Rattle.ds_shape.proofs.steps.refuse_too_large.Goals as goal

pub returns-then-any_too_large-clause-err : goal.returns-then-any_too_large-clause-err
returns-then-any_too_large-clause-err c =
    let l = c.line-item.result in
    let h = extent_in c.args.names.now c.args.extents.now in
    let large : any_large h (types_in l.types.items) ≡ true =
    ap (λ (ts : List (Bor Ty)). any_large h (types_in ts)) (sym c.as_slice.ensures.value) ∙ sym c.any_too_large.ensures
    ∙ c.if-any_too_large.true in
    inr (
      line_in l,
      ap (λ (n : Name). faults.TooLarge n l.is_struct) c.in_ok-name.ensures,
      first_item (IsLarge c.args.names.now c.args.extents.now) line_in c.args.lines.now c.loop-line.line-index l
          c.loop-line-test.true c.line-item.is c.loop-line.invariant large,
    )

pub returns-clause-ok : goal.returns-clause-ok
returns-clause-ok c =
    none_more (IsLarge c.args.names.now c.args.extents.now) line_in c.args.lines.now c.loop-line.line-index
    c.loop-line-test.false c.loop-line.invariant
