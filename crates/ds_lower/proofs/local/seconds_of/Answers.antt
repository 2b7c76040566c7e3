use Rattle.std.proofs.Common.{◌≡◌, List, IfOk, subst, ap}
use Rattle.ds_ast.specs.declared.name.Name.{Name}
use Rattle.ds_names.specs.Places.{nows}
use Rattle.ds_lower.proofs.Cellnames.{seconds_same}
use Rattle.ds_lower.proofs.local.seconds_of.Goals as goal

pub returns : goal.returns
returns c =
    subst (λ (xs : List Name). IfOk c.new.result (λ names. names ≡ xs))
    (seconds_same c.args.function.now c.as_slice.result.now _ _ c.as_slice.ensures
    (ap (λ xs. nows xs) c.new-names.ensures.items) c.in_ok-push_all.ensures)
    c.new.ensures
