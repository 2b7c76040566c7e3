use Rattle.std.specs.Prelude.{Some}
use Rattle.ds_check_types.proofs.values.is_local_of.Goals as goal

pub returns : goal.returns
returns c =
    let known = c.defined.ensures (Some c.args.ty) in
    (λ t. known.0 (c.is_of.ensures.0 t), λ d. c.is_of.ensures.1 (known.1 d))
