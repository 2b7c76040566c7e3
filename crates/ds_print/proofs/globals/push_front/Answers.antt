use Rattle.std.proofs.Common.{◌∷◌, []}
use Rattle.ds_print.specs.Names.{space}
use Rattle.ds_print.specs.Canonical.{type_pieces}
use Rattle.ds_print.proofs.Pieces.{then}
use Rattle.ds_print.proofs.Parts.{front_is_written}
use Rattle.ds_print.proofs.globals.push_front.Goals as goal

pub returns-in_ok-push-in-Some : goal.returns-in_ok-push-in-Some
returns-in_ok-push-in-Some c =
    front_is_written c.in-Some.ty c.args.ty _ _ c.in-Some.is
    (then _ _ _ (type_pieces c.in-Some.ty.now) (space ∷ []) c.in_ok-push_type-in-Some.ensures
    c.in_ok-push-in-Some.ensures)
