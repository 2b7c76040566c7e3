use Rattle.ds_lower_parts.proofs.Sizes.{element_fits, element_step_is}
use Rattle.ds_lower_parts.proofs.leaps.leap_into.Goals as goal

pub element_leap-requires : goal.element_leap-requires
element_leap-requires c =
    element_fits c.args.scope.now.structs c.args.ty.now _ c.get.result.now _ c.elements_fit.ensures c.requires
    c.in-Array.is
    c.get.ensures

pub returns-in-Array-clause-leap : goal.returns-in-Array-clause-leap
returns-in-Array-clause-leap c =
    element_step_is c.args.scope.now.structs c.args.ty.now _ c.get.result.now _ c.args.index.now _ c.in-Array.is
    c.get.ensures c.element_leap.ensures.step

pub returns-in-Array-clause-fits : goal.returns-in-Array-clause-fits
returns-in-Array-clause-fits c = c.element_leap.ensures.fits
