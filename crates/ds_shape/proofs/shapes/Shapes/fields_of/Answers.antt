use Rattle.std.proofs.Common.{◌<◌, ◌^◌, arith}
use Rattle.std.specs.Prelude.{map}
use Rattle.ds_shape.proofs.Fitting.{place_inside, place_few, fields_found, fields_missing}
use Rattle.ds_shape.proofs.shapes.Shapes.fields_of.Goals as goal

pub offset_bounds-self-inside-place : goal.offset_bounds-self-inside-place
offset_bounds-self-inside-place c =
    let few : c.in-Some.place < 2 ^ 32 =
    place_few c.self.inside.structs.now c.args.self.now c.self.inside.names c.self.inside.extents.items
    (map (λ row. row.items) c.self.inside.offsets.items) c.self.invariant c.self.view_is
    c.args.name.now c.in-Some.place c.place.result c.place.ensures c.in-Some.is in
    omega (arith, few)

pub bounds-self-inside-place : goal.bounds-self-inside-place
bounds-self-inside-place c =
    place_inside c.self.inside.structs.now c.args.self.now c.self.inside.names c.self.inside.extents.items
    (map (λ row. row.items) c.self.inside.offsets.items) c.self.invariant c.self.view_is
    c.args.name.now c.in-Some.place c.place.result c.place.ensures c.in-Some.is

pub returns-in-Some : goal.returns-in-Some
returns-in-Some c =
    fields_found c.self.inside.structs.now c.args.self.now c.self.inside.names c.self.inside.extents.items
    (map (λ row. row.items) c.self.inside.offsets.items) c.self.invariant c.self.view_is
    c.args.name.now c.in-Some.place c.place.result c.place.ensures c.in-Some.is c.index-self-place.result
    c.index-self-place.is c.as_slice.result.now c.as_slice.ensures

pub returns-in-None : goal.returns-in-None
returns-in-None c =
    fields_missing c.self.inside.structs.now c.args.self.now c.self.inside.names c.self.inside.extents.items
    (map (λ row. row.items) c.self.inside.offsets.items) c.self.invariant c.self.view_is
    c.args.name.now c.place.result c.place.ensures c.in-None.is
