use Rattle.std.proofs.Common.{◌<◌, ◌∙◌, List, length, get_or, ap, refl, arith}
use Rattle.std.proofs.lemmas.List.{length-set}
use Rattle.std.proofs.lemmas.List.Elements.{All-set}
use Rattle.ds_ast.specs.declared.name.Name.{Name}
use Rattle.ds_ast.specs.declared.ty.Ty.{Ty}
use Rattle.ds_shape.specs.Capped.{IsShort, capped_extent, capped_fields, extent_in}
use Rattle.ds_shape.specs.Written.{struct_names}
use Rattle.ds_shape.specs.declared.extents.CappedExtent.{CappedExtent}
use Rattle.ds_shape.proofs.Filling.{place_inside, right_step, all_right}
use Rattle.ds_shape.proofs.extents.extents_in_order.Goals as goal

pub bounds-structs-at : goal.bounds-structs-at
bounds-structs-at c =
    place_inside c.args.structs.now c.args.order.now c.requires.ordered c.loop-place.place-index c.loop-place-test.true

pub index_mut-requires : goal.index_mut-requires
index_mut-requires c =
    let h : get_or c.args.order.now c.loop-place.place-index 0 < length c.args.structs.now =
    place_inside c.args.structs.now c.args.order.now c.requires.ordered c.loop-place.place-index c.loop-place-test.true
    in
    omega (arith, h, c.loop-place.invariant.many)

pub loop-place-preserved : goal.loop-place-preserved
loop-place-preserved c =
    let extents = c.loop-place.extents.items in
    let p = get_or c.args.order.now c.loop-place.place-index 0 in
    let e = c.extent_of_fields.result in
    let fields = c.as_slice-in-loop-place.result.now in
    record {
      many = length-set extents p e ∙ c.loop-place.invariant.many;
      short = All-set IsShort extents p e c.extent_of_fields.ensures.short c.loop-place.invariant.short;
      right = right_step c.args.structs.now extents c.args.order.now c.requires.distinct c.requires.ordered
          c.loop-place.invariant.many c.loop-place.place-index c.loop-place-test.true p refl
          c.index-structs-at.result c.index-structs-at.is e
          (c.extent_of_fields.ensures.value ∙ ap
          (λ (ns : List Name). capped_fields (capped_extent (extent_in ns c.as_slice.result.now)) 0 1 fields)
          c.requires.named
          ∙ ap (λ (es : List CappedExtent). capped_fields
          (capped_extent (extent_in (struct_names c.args.structs.now) es)) 0 1 fields) c.as_slice.ensures.value
          ∙ ap (λ (ts : List Ty). capped_fields (capped_extent (extent_in (struct_names c.args.structs.now) extents)) 0
          1 ts) c.as_slice-in-loop-place.ensures)
          c.loop-place.invariant.right;
    }

pub returns-clause-right : goal.returns-clause-right
returns-clause-right c =
    all_right c.args.structs.now c.loop-place.extents.items c.args.order.now c.loop-place.place-index
    c.requires.distinct c.requires.ordered c.loop-place-test.false c.loop-place.invariant.right
