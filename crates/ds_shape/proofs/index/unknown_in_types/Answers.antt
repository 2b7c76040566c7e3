use Rattle.std.proofs.Common.{◌∙◌, sym, ap}
use Rattle.std.specs.Option.{option_copied}
use denote.Ref.{Bor}
use Rattle.ds_ast.specs.declared.ty.Ty.{Ty}
use Rattle.ds_shape.specs.Written.{struct_in}
use Rattle.ds_shape.proofs.Lists.{unplaced_behind, unplaced_here}
use Rattle.ds_shape.proofs.index.unknown_in_types.Goals as goal

pub returns-in-Some : goal.returns-in-Some
returns-in-Some c =
    unplaced_here c.args.names.now (λ (t : Bor Ty). t.now) struct_in c.args.types.now c.loop-ty.ty-index
    c.ty-item.result c.loop-ty-test.true c.ty-item.is c.loop-ty.invariant c.in-Some.name.now
    (sym c.unknown_in.ensures ∙ ap option_copied c.in-Some.is)

pub loop-ty-preserved : goal.loop-ty-preserved
loop-ty-preserved c =
    unplaced_behind c.args.names.now (λ (t : Bor Ty). t.now) struct_in c.args.types.now c.loop-ty.ty-index
    c.ty-item.result c.loop-ty-test.true c.ty-item.is c.loop-ty.invariant
    (sym c.unknown_in.ensures ∙ ap option_copied c.in_default.is)
