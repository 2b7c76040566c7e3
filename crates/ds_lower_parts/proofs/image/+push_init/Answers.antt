use Rattle.std.proofs.Common.{◌≡◌, ◌+◌, ◌<◌, ◌++◌, [], length, drop, OnOk, ap, sym, ◌∙◌, subst, refl, rules, arith}
use Rattle.std.specs.Option.{unwrap_or, option_copied}
use Rattle.ds_ast.specs.Bounds.{element_type, field_types}
use Rattle.ds_shape.specs.Image.{zeros}
use Rattle.ds_shape.specs.Sizes.{layout_of, offset_of}
use Rattle.ds_lower_parts.specs.Bytes.{elements_bytes}
use Rattle.ds_lower_parts.proofs.Imaged.{array_bytes, struct_bytes, element_is, nothing_pushed, fields_end}
use Rattle.ds_lower_parts.proofs.Imaged.{ended, no_fields, no_fields-array, offset_is, begin_on, field_on}
use Rattle.ds_lower_parts.proofs.Sizes.{element_fits}
use Rattle.ds_lower_parts.proofs.image.+push_init.Goals as goal

pub push_array-push_elements-requires : goal.push_array-push_elements-requires
push_array-push_elements-requires t c = (
  search rules,
  element_fits c.args.scope.now.structs c.args.ty.now _ c.get.result.now _ c.elements_fit.ensures c.requires
      c.in-Array.is c.get.ensures,
)

pub push_array-returns-in-Array : goal.push_array-returns-in-Array
push_array-returns-in-Array t c =
    subst (λ o. OnOk c.push_elements.result (c.push_elements.new.bytes.items
    ≡ c.args.bytes.now.items ++ elements_bytes c.args.scope.now o c.args.parts.now))
    (element_is c.args.ty.now _ c.get.result.now _ c.in-Array.is c.get.ensures) c.push_elements.ensures

pub push_array-returns-in-Void : goal.push_array-returns-in-Void
push_array-returns-in-Void t c =
    nothing_pushed c.args.scope.now c.args.bytes.now.items c.args.parts.now
    ∙ ap (λ o. c.args.bytes.now.items ++ elements_bytes c.args.scope.now o c.args.parts.now)
    (sym (ap element_type c.in-Void.is))

pub push_array-returns-in-One : goal.push_array-returns-in-One
push_array-returns-in-One t c =
    nothing_pushed c.args.scope.now c.args.bytes.now.items c.args.parts.now
    ∙ ap (λ o. c.args.bytes.now.items ++ elements_bytes c.args.scope.now o c.args.parts.now)
    (sym (ap element_type c.in-One.is))

pub push_array-returns-in-Struct : goal.push_array-returns-in-Struct
push_array-returns-in-Struct t c =
    nothing_pushed c.args.scope.now c.args.bytes.now.items c.args.parts.now
    ∙ ap (λ o. c.args.bytes.now.items ++ elements_bytes c.args.scope.now o c.args.parts.now)
    (sym (ap element_type c.in-Struct.is))

pub push_init-returns-in-Array : goal.push_init-returns-in-Array
push_init-returns-in-Array t c =
    subst (λ xs. OnOk c.push_array.result (c.push_array.new.bytes.items ≡ c.args.bytes.now.items ++ xs))
    (array_bytes c.args.scope.now c.args.ty.now c.args.init.now c.as_slice.result.now _ c.in-Array.is
    c.as_slice.ensures)
    c.push_array.ensures

pub push_init-returns-in-Fields : goal.push_init-returns-in-Fields
push_init-returns-in-Fields t c =
    subst (λ xs. OnOk c.push_struct.result (c.push_struct.new.bytes.items ≡ c.args.bytes.now.items ++ xs))
    (struct_bytes c.args.scope.now c.args.ty.now c.args.init.now c.as_slice-in-Fields.result.now _ c.in-Fields.is
    c.as_slice-in-Fields.ensures)
    c.push_struct.ensures

pub push_struct-returns-in-Array : goal.push_struct-returns-in-Array
push_struct-returns-in-Array t c =
    no_fields c.push_zeros.result c.args.scope.now c.push_zeros.new.bytes.items c.args.bytes.now.items _
    c.size_of-size.result (unwrap_or (field_types c.args.scope.now.structs c.args.ty.now) []) c.args.parts.now
    (ap (λ x. unwrap_or (field_types c.args.scope.now.structs x) []) c.in-Array.is
    ∙ no_fields-array c.args.scope.now.structs c.in-Array.count c.in-Array.of)
    c.size_of-size.ensures c.push_zeros.ensures

pub push_struct-returns-in-Void : goal.push_struct-returns-in-Void
push_struct-returns-in-Void t c =
    no_fields c.push_zeros-in-Void.result c.args.scope.now c.push_zeros-in-Void.new.bytes.items c.args.bytes.now.items _
    c.size_of-size.result (unwrap_or (field_types c.args.scope.now.structs c.args.ty.now) []) c.args.parts.now
    (ap (λ x. unwrap_or (field_types c.args.scope.now.structs x) []) c.in-Void.is) c.size_of-size.ensures
    c.push_zeros-in-Void.ensures

pub push_struct-returns-in-One : goal.push_struct-returns-in-One
push_struct-returns-in-One t c =
    no_fields c.push_zeros-in-One.result c.args.scope.now c.push_zeros-in-One.new.bytes.items c.args.bytes.now.items _
    c.size_of-size.result (unwrap_or (field_types c.args.scope.now.structs c.args.ty.now) []) c.args.parts.now
    (ap (λ x. unwrap_or (field_types c.args.scope.now.structs x) []) c.in-One.is) c.size_of-size.ensures
    c.push_zeros-in-One.ensures

pub push_fields-returns-then-n-types : goal.push_fields-returns-then-n-types
push_fields-returns-then-n-types t c =
    ended c.push_zeros-then-n-types.result c.args.scope.now c.args.name.now c.loop-n.bytes.items _
    c.args.bytes.now.items
    c.saturating_sub.result c.args.size c.loop-n.at _ c.in-Some.types.now c.args.parts.now c.fields_of.result
    c.in-Some.types c.fields_of.ensures.value c.in-Some.is refl
    (fields_end c.args.scope.now c.args.size c.loop-n.at c.loop-n.n c.in-Some.types.now
    (drop c.loop-n.n c.args.parts.now) c.if-n-types.true)
    c.saturating_sub.ensures c.loop-n.invariant.same c.push_zeros-then-n-types.ensures

pub push_fields-loop-n-preserved : goal.push_fields-loop-n-preserved
push_fields-loop-n-preserved t c =
    let f = c.if-n-types.false in
    let lt : c.loop-n.n < length c.in-Some.types.now = grind arith in
    let fits = c.field_at-ty.ensures.fits in
    let off = offset_is c.args.scope.now c.in-Some.types.now c.args.parts.now c.loop-n.at c.loop-n.n
    c.offset_of-offset.result c.args.size c.field_at-ty.result.now c.index-parts-n.result c.extents_are_computed.ensures
    fits lt c.loop-n-test.true c.field_at-ty.ensures.item c.index-parts-n.is c.loop-n.invariant.begin c.args.name.now
    (sym c.fields_of.ensures.value ∙ ap option_copied c.in-Some.is)
    (c.offset_of-offset.ensures
    ∙ ap (λ k. unwrap_or (offset_of c.args.scope.now.structs c.args.name.now k) 0) c.in_ok-field.ensures.value) in
    let end : c.in_ok-at.at ≡ c.offset_of-offset.result + (layout_of c.args.scope.now.structs
    c.field_at-ty.result.now).size =
    c.in_ok-at.ensures.value ∙ ap (λ k. c.offset_of-offset.result + k) c.size_of.ensures in
    record {
      same = field_on c.args.scope.now c.in-Some.types.now c.args.parts.now c.loop-n.at c.loop-n.n
          c.offset_of-offset.result c.args.size c.field_at-ty.result.now c.index-parts-n.result
          c.extents_are_computed.ensures fits lt c.loop-n-test.true c.field_at-ty.ensures.item c.index-parts-n.is
          c.loop-n.invariant.begin c.loop-n.bytes.items c.push_zeros-in-loop-n.new.bytes.items
          c.push_init.new.bytes.items _ c.in_ok-at.at c.loop-n.invariant.same off
          (c.in_ok-push_zeros.ensures ∙ ap (λ k. c.loop-n.bytes.items ++ zeros k) c.saturating_sub-in-loop-n.ensures)
          c.in_ok-push_init.ensures end;
      begin = begin_on c.args.scope.now c.in-Some.types.now c.args.parts.now c.loop-n.at c.loop-n.n
          c.offset_of-offset.result c.args.size c.field_at-ty.result.now c.index-parts-n.result
          c.extents_are_computed.ensures fits lt c.loop-n-test.true c.field_at-ty.ensures.item c.index-parts-n.is
          c.loop-n.invariant.begin c.in_ok-at.at
          (end ∙ ap (λ o. o + (layout_of c.args.scope.now.structs c.field_at-ty.result.now).size) off);
    }
