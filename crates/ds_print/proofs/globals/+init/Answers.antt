use Rattle.std.proofs.Common.{◌∷◌, ◌++◌, [], map, take, ◌+◌}
use Rattle.std.specs.Option.{option_copied}
use Rattle.ds_print.specs.Names.{space, punct}
use Rattle.ds_print.specs.Canonical.{element_front, init_pieces, listed_behind_space, or_void}
use Rattle.ds_print.specs.Parts.{part_pieces, parts_in_order}
use Rattle.ds_print.proofs.Pieces.{then, spaced_item, spaced_step}
use Rattle.ds_print.proofs.Parts.{array_init, fields_init, field_more, field_count}
use Rattle.ds_print.proofs.Found.{got}
use Rattle.ds_print.proofs.globals.+init.Goals as goal

pub push_elements-loop-index-preserved : goal.push_elements-loop-index-preserved
push_elements-loop-index-preserved t c =
    spaced_item (part_pieces c.args.lines.now (option_copied c.args.ty)) c.args.parts.now c.loop-index.index _
    c.loop-index-test.true c.index-parts-index.is _ _ _ _ c.loop-index.invariant
    c.in_ok-push_space.ensures c.in_ok-push_part.ensures

pub push_fields-loop-index-preserved : goal.push_fields-loop-index-preserved
push_fields-loop-index-preserved t c =
    let structs = c.args.lines.now in
    let types = c.args.types.now in
    let parts = c.args.parts.now in
    let i = c.loop-index.index in
    spaced_step _ _ _ _ (parts_in_order structs types (take i parts))
    (parts_in_order structs types (take (i + 1) parts))
    (part_pieces structs (option_copied c.get.result) c.index-parts-index.result) i
    (field_more structs types parts i c.index-parts-index.result
    (option_copied c.get.result) c.loop-index-test.true c.index-parts-index.is
    (got types i c.get.result _ c.get.ensures.lookup.1 c.get.ensures.lookup.3))
    (field_count structs types parts i c.loop-index-test.true) c.loop-index.invariant c.in_ok-push_space.ensures
    c.in_ok-push_part.ensures

pub push_init-returns-in_ok-push-in-Array-2 : goal.push_init-returns-in_ok-push-in-Array-2
push_init-returns-in_ok-push-in-Array-2 t c =
    let parts = listed_behind_space (map (part_pieces c.args.lines.now (option_copied c.element_type.result))
    c.as_slice.result.now) in
    let close = space ∷ punct "]" ∷ [] in
    let two = then _ _ _ parts close c.in_ok-push_elements-in-Array.ensures c.in_ok-push-in-Array-2.ensures in
    let one = then _ _ _ (punct "[" ∷ []) (parts ++ close) c.in_ok-push-in-Array.ensures two in
    array_init c.args.lines.now (or_void (option_copied c.args.ty))
    (option_copied c.element_type.result) c.as_slice.result.now c.in-Array.parts c.args.init.now _ _
    c.element_type.ensures
    c.as_slice.ensures c.in-Array.is one

pub push_init-returns-in_ok-push-in-Fields-2 : goal.push_init-returns-in_ok-push-in-Fields-2
push_init-returns-in_ok-push-in-Fields-2 t c =
    let parts =
    listed_behind_space (parts_in_order c.args.lines.now c.field_types.result.now c.as_slice-in-Fields.result.now) in
    let close = space ∷ punct "}" ∷ [] in
    let two = then _ _ _ parts close c.in_ok-push_fields-in-Fields.ensures c.in_ok-push-in-Fields-2.ensures in
    let one = then _ _ _ (punct "{" ∷ []) (parts ++ close) c.in_ok-push-in-Fields.ensures two in
    fields_init c.args.lines.now (or_void (option_copied c.args.ty)) c.field_types.result.now
    c.as_slice-in-Fields.result.now c.in-Fields.parts c.args.init.now _ _ c.field_types.ensures
    c.as_slice-in-Fields.ensures c.in-Fields.is one

pub push_part-returns : goal.push_part-returns
push_part-returns t c =
    then _ _ _ (element_front (option_copied c.args.ty))
    (init_pieces c.args.lines.now (or_void (option_copied c.args.ty)) c.args.part.now) c.in_ok-push_front.ensures
    c.in_ok-push_init.ensures
