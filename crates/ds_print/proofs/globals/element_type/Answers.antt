use Rattle.ds_print.proofs.Parts.{element_of}
use Rattle.ds_print.proofs.globals.element_type.Goals as goal

pub returns-in-Array : goal.returns-in-Array
returns-in-Array c = element_of c.in-Array.count c.get.result.now c.in-Array.of c.in-Some.ty c.args.ty c.get.ensures
    c.in-Array.is c.in-Some.is
