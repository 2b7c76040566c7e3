use Rattle.ds_ast.proofs.Compared.{tells_equal}
use Rattle.ds_ast.proofs.part.equals.Goals as goal

pub returns-clause-test : goal.returns-clause-test
returns-clause-test g c = tells_equal _ c.args.a.now c.args.b.now c.is_same.result c.is_same.ensures
