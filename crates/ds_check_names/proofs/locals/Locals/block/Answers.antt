use Rattle.ds_check_names.proofs.Meant.{numbered_by, no_number}
use Rattle.ds_check_names.proofs.locals.Locals.block.Goals as goal

pub returns-in-Some : goal.returns-in-Some
returns-in-Some c = numbered_by c.args.self.now c.args.name.now c.meaning.result c.meaning.ensures c.in-Some.meaning
    c.block_number.result c.in-Some.is c.block_number.ensures

pub returns-in-None : goal.returns-in-None
returns-in-None c = no_number c.args.self.now c.args.name.now c.meaning.result c.meaning.ensures c.in-None.is
