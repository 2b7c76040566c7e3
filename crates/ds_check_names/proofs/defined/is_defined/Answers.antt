use Rattle.std.proofs.Common.{sym, ◌∙◌, subst}
use Rattle.std.specs.Prelude.{Option}
use Rattle.ds_shape.specs.declared.local.LocalType.{LocalType}
use Rattle.ds_shape.specs.Types.{Defines}
use Rattle.ds_shape.specs.Placed.{IsDefined}
use Rattle.ds_check_names.proofs.Meant.{is_found}
use Rattle.ds_check_names.proofs.defined.is_defined.Goals as goal

pub returns-in-Local : goal.returns-in-Local
returns-in-Local c =
    let found = is_found c.defined.result (λ (t : Option LocalType). Defines c.args.locals.now c.in-Local.name t)
    c.defined.ensures in (
      λ e. subst (IsDefined c.args.entities.now c.args.locals.now) (sym c.in-Local.is)
          (found.0 (sym c.is_some.ensures ∙ e)),
      λ h. c.is_some.ensures ∙ found.1 (subst (IsDefined c.args.entities.now c.args.locals.now) c.in-Local.is h),
    )
