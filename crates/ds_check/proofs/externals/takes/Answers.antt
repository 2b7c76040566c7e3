use Rattle.std.proofs.Common.{◌≡◌, ◌↔◌, IsTrue, List, subst}
use Rattle.ds_ast.specs.declared.module.Param.{Param}
use Rattle.std.specs.Prelude.{map}
use Rattle.ds_check.proofs.externals.takes.Goals as goal

-- src/externals.rt:32:1
pub returns : goal.returns
returns c = subst (λ (ps : List Param). IsTrue c.have_types.result ↔ (map (λ (p : Param). p.ty) ps ≡ c.args.types.now))
    c.as_slice.ensures c.have_types.ensures
