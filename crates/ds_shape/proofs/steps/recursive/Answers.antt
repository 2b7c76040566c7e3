use Rattle.std.proofs.Common.{◌∙◌, ap, sym, refl, inr}
use Rattle.std.proofs.lemmas.List.{get_or-map}
use Rattle.ds_ast.specs.declared.module.StructDef.{StructDef}
use Rattle.ds_shape.proofs.Holding.{cycle_inside}
use Rattle.ds_shape.proofs.steps.recursive.Goals as goal

pub bounds-structs-place : goal.bounds-structs-place
bounds-structs-place c = cycle_inside c.args.structs.now c.requires.distinct c.args.place c.requires.cycle.cycle

pub returns-in-Ok : goal.returns-in-Ok
returns-in-Ok c =
    let inside = cycle_inside c.args.structs.now c.requires.distinct c.args.place c.requires.cycle.cycle in
    let line = c.index-structs-place.result in
    inr (
      c.in-Ok.name,
      c.args.place,
      refl,
      inside,
      c.in-Ok.ensures ∙ ap (λ (s : StructDef). s.name) c.index-structs-place.is
          ∙ sym (get_or-map (λ (s : StructDef). s.name) c.args.structs.now c.args.place line c.in-Ok.name inside),
      c.requires.cycle,
    )
