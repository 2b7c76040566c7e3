use Rattle.ds_lower_parts.proofs.Addresses.{item_fits}
use Rattle.ds_lower_parts.proofs.image.field_at.Goals as goal

pub returns-clause-fits : goal.returns-clause-fits
returns-clause-fits c =
    item_fits c.args.scope.now c.args.name.now c.args.types.now c.args.number c.index-types-number.result
    c.fields_fit.ensures
    c.whole-whole.ensures.layout c.requires.fields c.requires.inside c.index-types-number.is
