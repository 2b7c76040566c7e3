use Rattle.std.proofs.Common.{◌≡◌, ◌↔◌, IsTrue, true, false, true≢false, sym, refl, subst, arith, List}
use Rattle.ds_ast.specs.declared.ty.Ty as ty
use Rattle.ds_ast.specs.declared.init.Init.{Init}
use Rattle.ds_ast.specs.declared.init.Init as init
use Rattle.ds_shape.specs.Types.{IsInitial}
use Rattle.ds_check_types.proofs.Begun.{array_fits, array_apart, struct_fits}
use Rattle.ds_check_types.proofs.Pairs.{AtAny, same_lengths, apart_at, all_pairs, zipped}
use Rattle.ds_check_types.proofs.initial.+is_initial.Goals as goal

pub are_fields-returns-then-types-parts : goal.are_fields-returns-then-types-parts
are_fields-returns-then-types-parts t c = (
  λ no_t. absurd (true≢false (sym no_t)),
  λ pairs. absurd (c.if-types-parts.true
      (same_lengths (IsInitial c.args.entities.now) c.args.types.now c.args.parts.now pairs)),
)

pub are_fields-returns-then-not-is_initial : goal.are_fields-returns-then-not-is_initial
are_fields-returns-then-not-is_initial t c =
    let is = IsInitial c.args.entities.now in
    zipped is c.args.types.now c.args.parts.now false
    (apart_at (AtAny is) c.args.types.now c.args.parts.now c.loop-i.i c.index-types-i.result c.index-parts-i.result
    c.is_initial.result c.loop-i-test.true c.if-types-parts.false c.index-types-i.is
    c.index-parts-i.is c.is_initial.ensures c.if-not-is_initial.true)

pub are_fields-returns : goal.are_fields-returns
are_fields-returns t c =
    let is = IsInitial c.args.entities.now in
    zipped is c.args.types.now c.args.parts.now true (
      λ yes'. all_pairs (AtAny is) c.args.types.now c.args.parts.now c.if-types-parts.false
          (λ k d e below. c.loop-i.invariant k d e (omega (arith, below, c.loop-i-test.false))),
      λ each. refl,
    )

pub is_array-returns-then-parts-count : goal.is_array-returns-then-parts-count
is_array-returns-then-parts-count t c =
    array_fits c.args.entities.now c.args.ty.now c.get.result.now c.in-Array.count c.args.parts.now
    c.are_elements.result
    (subst (λ of. c.args.ty.now ≡ ty.Array c.in-Array.count of) (sym c.get.ensures) c.in-Array.is)
    c.if-parts-count.true c.are_elements.ensures

pub is_array-returns-else-parts-count : goal.is_array-returns-else-parts-count
is_array-returns-else-parts-count t c = array_apart c.args.entities.now c.args.ty.now c.in-Array.of c.in-Array.count
    c.args.parts.now c.in-Array.is c.if-parts-count.false

pub is_initial-returns-in-Array : goal.is_initial-returns-in-Array
is_initial-returns-in-Array t c =
    let fits = subst (λ (parts : List Init). IsTrue c.is_array.result ↔ IsInitial c.args.entities.now c.args.ty.now
    (init.Array parts)) c.as_slice.ensures c.is_array.ensures in
    subst (λ i. IsTrue c.is_array.result ↔ IsInitial c.args.entities.now c.args.ty.now i) (sym c.in-Array.is) fits

pub is_initial-returns-in-Fields : goal.is_initial-returns-in-Fields
is_initial-returns-in-Fields t c =
    let fits = subst (λ (parts : List Init). IsTrue c.is_struct.result ↔ IsInitial c.args.entities.now c.args.ty.now
    (init.Fields parts)) c.as_slice-in-Fields.ensures c.is_struct.ensures in
    subst (λ i. IsTrue c.is_struct.result ↔ IsInitial c.args.entities.now c.args.ty.now i) (sym c.in-Fields.is) fits

pub is_struct-returns-in-Some : goal.is_struct-returns-in-Some
is_struct-returns-in-Some t c = struct_fits c.args.entities.now c.args.ty.now c.in-Some.types.now c.args.parts.now
    c.are_fields.result (sym (c.in-Some.ensures c.args.entities.now c.requires)) c.are_fields.ensures
