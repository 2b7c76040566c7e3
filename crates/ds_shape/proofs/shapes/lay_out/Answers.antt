use Rattle.std.proofs.Common.{◌≡◌, ◌⊎◌, ◌∙◌, List, ap, subst}
use Rattle.std.specs.Prelude.{All}
use Rattle.ds_ast.specs.declared.module.StructDef.{StructDef}
use Rattle.ds_graph.specs.Graph.{IsOrder}
use Rattle.ds_names.specs.Names.{AreDistinct}
use Rattle.ds_shape.specs.Written.{Line, lines_of, struct_names}
use Rattle.ds_shape.specs.Fault.{HasShapeFault}
use Rattle.ds_shape.specs.Index.{lines_in, holdings}
use Rattle.ds_shape.specs.Capped.{AreRight}
use Rattle.ds_shape.specs.Kept.{IsCycleFault, IsLarge, IsLargeFault}
use Rattle.ds_shape.specs.declared.fault.ShapeFault.{ShapeFault}
use Rattle.ds_shape.specs.declared.fault.ShapeFault.TheVariants.{Memory}
use Rattle.ds_shape.specs.declared.extents.CappedExtent.{CappedExtent}
use Rattle.ds_shape.proofs.Layouts.{refused_unknown, refused_recursive, refused_too_large, has_layout, passed_refused}
use Rattle.ds_shape.proofs.shapes.lay_out.Goals as goal

pub returns-in_err-refuse_unknown-clause-refused : goal.returns-in_err-refuse_unknown-clause-refused
returns-in_err-refuse_unknown-clause-refused c =
    let m = c.args.whole.now in
    let seen = c.as_slice-structs.ensures in
    let names = c.in_ok-names.names in
    let named : names ≡ struct_names m.structs = c.in_ok-names.ensures.ok.0 ∙ ap struct_names seen in
    let distinct : AreDistinct (struct_names m.structs) = subst AreDistinct named c.in_ok-names.ensures.ok.1 in
    let lines = lines_in c.as_slice-written.result.now in
    let written : lines ≡ lines_of m = ap lines_in c.as_slice-written.ensures.value ∙ c.in_ok-lines.ensures in
    let f = c.in_err-refuse_unknown.field-0.0 in
    passed_refused c.from_residual-in_err-refuse_unknown.result (λ (g : ShapeFault). (g ≡ Memory) ⊎ HasShapeFault m g)
    f c.from_residual-in_err-refuse_unknown.ensures
    (refused_unknown m distinct names named lines written f c.in_err-refuse_unknown.ensures.err)

pub returns-in_err-order-clause-refused : goal.returns-in_err-order-clause-refused
returns-in_err-order-clause-refused c =
    let m = c.args.whole.now in
    let seen = c.as_slice-structs.ensures in
    let names = c.in_ok-names.names in
    let named : names ≡ struct_names m.structs = c.in_ok-names.ensures.ok.0 ∙ ap struct_names seen in
    let distinct : AreDistinct (struct_names m.structs) = subst AreDistinct named c.in_ok-names.ensures.ok.1 in
    let lines = lines_in c.as_slice-written.result.now in
    let written : lines ≡ lines_of m = ap lines_in c.as_slice-written.ensures.value ∙ c.in_ok-lines.ensures in
    let f = c.in_err-order.field-0.0 in
    passed_refused c.from_residual-in_err-order.result (λ (g : ShapeFault). (g ≡ Memory) ⊎ HasShapeFault m g) f
    c.from_residual-in_err-order.ensures
    (refused_recursive m distinct names named lines written c.in_ok-refuse_unknown.ensures.ok f
    (subst (λ (s : List StructDef). (f ≡ Memory) ⊎ IsCycleFault s f) seen c.in_err-order.ensures.err))

pub returns-in_err-refuse_too_large-clause-refused : goal.returns-in_err-refuse_too_large-clause-refused
returns-in_err-refuse_too_large-clause-refused c =
    let m = c.args.whole.now in
    let seen = c.as_slice-structs.ensures in
    let names = c.in_ok-names.names in
    let named : names ≡ struct_names m.structs = c.in_ok-names.ensures.ok.0 ∙ ap struct_names seen in
    let distinct : AreDistinct (struct_names m.structs) = subst AreDistinct named c.in_ok-names.ensures.ok.1 in
    let lines = lines_in c.as_slice-written.result.now in
    let written : lines ≡ lines_of m = ap lines_in c.as_slice-written.ensures.value ∙ c.in_ok-lines.ensures in
    let order = c.in_ok-order.order.items in
    let ordered : IsOrder (holdings (struct_names m.structs) m.structs) order =
    subst (λ (s : List StructDef). IsOrder (holdings (struct_names s) s) order) seen c.in_ok-order.ensures.ok in
    let extents = c.in_ok-extents.extents.items in
    let right : AreRight m.structs extents =
    subst (λ (s : List StructDef). AreRight s extents) seen c.in_ok-extents.ensures.right in
    let f = c.in_err-refuse_too_large.field-0.0 in
    passed_refused c.from_residual-in_err-refuse_too_large.result
    (λ (g : ShapeFault). (g ≡ Memory) ⊎ HasShapeFault m g) f c.from_residual-in_err-refuse_too_large.ensures
    (refused_too_large m distinct names named lines written c.in_ok-refuse_unknown.ensures.ok order ordered extents
    right f
    (subst (λ (es : List CappedExtent). (f ≡ Memory) ⊎ IsLargeFault names es lines f) c.as_slice-sizes.ensures.value
    c.in_err-refuse_too_large.ensures.err))

pub returns-clause-laid_out : goal.returns-clause-laid_out
returns-clause-laid_out c =
    let m = c.args.whole.now in
    let seen = c.as_slice-structs.ensures in
    let names = c.in_ok-names.names in
    let named : names ≡ struct_names m.structs = c.in_ok-names.ensures.ok.0 ∙ ap struct_names seen in
    let distinct : AreDistinct (struct_names m.structs) = subst AreDistinct named c.in_ok-names.ensures.ok.1 in
    let lines = lines_in c.as_slice-written.result.now in
    let written : lines ≡ lines_of m = ap lines_in c.as_slice-written.ensures.value ∙ c.in_ok-lines.ensures in
    let order = c.in_ok-order.order.items in
    let ordered : IsOrder (holdings (struct_names m.structs) m.structs) order =
    subst (λ (s : List StructDef). IsOrder (holdings (struct_names s) s) order) seen c.in_ok-order.ensures.ok in
    let extents = c.in_ok-extents.extents.items in
    let right : AreRight m.structs extents =
    subst (λ (s : List StructDef). AreRight s extents) seen c.in_ok-extents.ensures.right in (
      has_layout m distinct names named lines written c.in_ok-refuse_unknown.ensures.ok order ordered extents right
          (subst (λ (es : List CappedExtent). All (λ (l : Line). IsLarge names es l → ⊥) lines)
          c.as_slice-sizes.ensures.value c.in_ok-refuse_too_large.ensures.ok),
      seen,
    )
