use Rattle.ds_check.proofs.Numbered.{few_of}
use Rattle.ds_check.proofs.bodies.check_one.Goals as goal

pub check_function-requires-clause-few : goal.check_function-requires-clause-few
check_function-requires-clause-few c =
    few_of c.args.entities.now c.args.function.now c.requires.bounds c.requires.stands c.requires.few
