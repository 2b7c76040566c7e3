use Rattle.ds_check_names.proofs.Meant.{defined_by, undefined_by}
use Rattle.ds_check_names.proofs.locals.Locals.defined.Goals as goal

pub returns-in-Some : goal.returns-in-Some
returns-in-Some c = defined_by c.args.self.now c.args.name.now c.meaning.result c.meaning.ensures c.in-Some.meaning
    c.value_type.result c.in-Some.is c.value_type.ensures

pub returns-in-None : goal.returns-in-None
returns-in-None c = undefined_by c.args.self.now c.args.name.now c.meaning.result c.meaning.ensures c.in-None.is
