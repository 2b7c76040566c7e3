use Rattle.std.proofs.Common.{◌∙◌, List, sym, ap}
use Rattle.std.specs.Prelude.{flat_map}
use Rattle.std.specs.Option.{option_copied}
use denote.Ref.{Bor}
use Rattle.ds_ast.specs.declared.ty.Ty.{Ty}
use Rattle.ds_shape.specs.Written.{Line, struct_in}
use Rattle.ds_shape.specs.Index.{types_in, line_in, first_unplaced}
use Rattle.ds_shape.proofs.Lists.{unplaced_behind, unplaced_here}
use Rattle.ds_shape.proofs.index.first_unknown.Goals as goal

pub returns-in-Some : goal.returns-in-Some
returns-in-Some c =
    unplaced_here c.args.names.now line_in (λ (x : Line). flat_map struct_in x.types) c.args.lines.now
    c.loop-line.line-index c.line-item.result c.loop-line-test.true c.line-item.is c.loop-line.invariant
    c.in-Some.name.now
    (ap (λ (ts : List (Bor Ty)). first_unplaced c.args.names.now (flat_map struct_in (types_in ts)))
    (sym c.as_slice.ensures.value) ∙ sym c.unknown_in_types.ensures ∙ ap option_copied c.in-Some.is)

pub loop-line-preserved : goal.loop-line-preserved
loop-line-preserved c =
    unplaced_behind c.args.names.now line_in (λ (x : Line). flat_map struct_in x.types) c.args.lines.now
    c.loop-line.line-index c.line-item.result c.loop-line-test.true c.line-item.is c.loop-line.invariant
    (ap (λ (ts : List (Bor Ty)). first_unplaced c.args.names.now (flat_map struct_in (types_in ts)))
    (sym c.as_slice.ensures.value) ∙ sym c.unknown_in_types.ensures ∙ ap option_copied c.in_default.is)
