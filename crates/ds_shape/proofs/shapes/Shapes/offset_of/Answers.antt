use Rattle.std.proofs.Common.{◌<◌, length, arith}
use Rattle.std.specs.Prelude.{map}
use Rattle.std.proofs.lemmas.List.{length-map}
use Rattle.ds_shape.proofs.Fitting.{row_inside, items_at, field_inside, has_place, offset_exact}
use Rattle.ds_shape.proofs.shapes.Shapes.offset_of.Goals as goal

pub index-requires : goal.index-requires
index-requires c =
    let inside : c.in-Some.place < length (map (λ row. row.items) c.self.inside.offsets.items) =
    row_inside c.self.inside.structs.now c.args.self.now c.self.inside.names c.self.inside.extents.items
    (map (λ row. row.items) c.self.inside.offsets.items) c.self.invariant c.self.view_is
    c.args.name.now c.in-Some.place c.place.result c.place.ensures c.in-Some.is in
    omega (arith, inside, length-map c.self.inside.offsets.items (λ row. row.items))

pub index-requires-in-Some : goal.index-requires-in-Some
index-requires-in-Some c =
    let inside = row_inside c.self.inside.structs.now c.args.self.now c.self.inside.names c.self.inside.extents.items
    (map (λ row. row.items) c.self.inside.offsets.items) c.self.invariant c.self.view_is
    c.args.name.now c.in-Some.place c.place.result c.place.ensures c.in-Some.is in
    let row = items_at (λ row. row.items) c.self.inside.offsets.items c.in-Some.place c.index.result.now inside
    c.index.ensures in
    let within : c.args.field < length c.index.result.now.items =
    field_inside c.self.inside.structs.now c.args.self.now c.self.inside.names c.self.inside.extents.items
    (map (λ row. row.items) c.self.inside.offsets.items) c.self.invariant c.self.view_is
    c.args.name.now c.args.field c.in-Some.place c.place.result c.place.ensures c.in-Some.is c.requires.field
    c.index.result.now.items row in
    omega (arith, within)

pub unreachable-requires : goal.unreachable-requires
unreachable-requires c =
    has_place c.self.inside.structs.now c.args.self.now c.self.inside.names c.self.inside.extents.items
    (map (λ row. row.items) c.self.inside.offsets.items) c.self.invariant c.self.view_is
    c.args.name.now c.args.field c.place.result c.place.ensures c.in-None.is c.requires.field

pub returns : goal.returns
returns c = λ offset begin.
    let inside = row_inside c.self.inside.structs.now c.args.self.now c.self.inside.names c.self.inside.extents.items
    (map (λ row. row.items) c.self.inside.offsets.items) c.self.invariant c.self.view_is
    c.args.name.now c.in-Some.place c.place.result c.place.ensures c.in-Some.is in
    let row = items_at (λ row. row.items) c.self.inside.offsets.items c.in-Some.place c.index.result.now inside
    c.index.ensures in
    offset_exact c.self.inside.structs.now c.args.self.now c.self.inside.names c.self.inside.extents.items
    (map (λ row. row.items) c.self.inside.offsets.items) c.self.invariant c.self.view_is
    c.args.name.now c.args.field c.in-Some.place c.place.result c.place.ensures c.in-Some.is c.requires.field
    c.requires.fits c.index.result.now.items row c.index-in-Some.result.now c.index-in-Some.ensures offset begin
