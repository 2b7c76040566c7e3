use Rattle.std.proofs.Common.{◌∙◌}
use Rattle.ds_print.proofs.Whole.{whole}
use Rattle.ds_print.proofs.module.print.Goals as goal

pub returns : goal.returns
returns c =
    c.from_vec.ensures ∙ whole c.args.module.now _ _ _ _ _ _ _ _ c.as_slice-2.ensures
    (c.in_ok-lines.ensures ∙ c.as_slice.ensures) c.as_slice-3.ensures c.as_slice-4.ensures c.new-text.ensures.items
    c.in_ok-push_structs.ensures c.in_ok-push_globals.ensures c.in_ok-push_functions.ensures
