use Rattle.ds_lower_parts.proofs.Sizes.{field_fits}
use Rattle.ds_lower_parts.proofs.leaps.field_leap.Goals as goal

pub returns-in_ok-field-in-Some-nth-clause-fits : goal.returns-in_ok-field-in-Some-nth-clause-fits
returns-in_ok-field-in-Some-nth-clause-fits c =
    field_fits c.args.scope.now c.args.name.now c.fields_of.result c.in-Some.fields c.nth.result c.in-Some-nth.next
    c.args.number c.fields_fit.ensures c.fields_of.ensures.layout c.fields_of.ensures.value c.in-Some.is c.nth.ensures
    c.in-Some-nth.is
