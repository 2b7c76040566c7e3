use Rattle.std.proofs.Common.{◌≡◌, List, IfOk, subst}
use Rattle.ds_ast.specs.declared.name.Name.{Name}
use Rattle.ds_lower.proofs.Cellnames.{firsts_same}
use Rattle.ds_lower.proofs.local.firsts_of.Goals as goal

pub returns : goal.returns
returns c =
    subst (λ (xs : List Name). IfOk c.new.result (λ names. names ≡ xs))
    (firsts_same c.args.function.now c.as_slice.result.now c.as_slice-2.result.now _ _ c.as_slice.ensures
    c.as_slice-2.ensures c.in_ok-names.ensures c.in_ok-push_all.ensures)
    c.new.ensures
