use Rattle.std.proofs.Common.{◌≡◌, ◌++◌, map, sym, ap, ◌∙◌, subst, refl}
use Rattle.ds_ast.specs.declared.module.GlobalDef.{GlobalDef}
use Rattle.ds_ast.specs.declared.module.Function.{Function}
use Rattle.ds_names.specs.Names.{AreDistinct}
use Rattle.ds_check_names.proofs.Faults.{passed_same}
use Rattle.ds_check_names.proofs.entities.Entities.new.Goals as goal

pub returns-in_err-put_functions-clause-refused : goal.returns-in_err-put_functions-clause-refused
returns-in_err-put_functions-clause-refused c =
    let globals : c.put_globals.new.names ≡ map (λ (g : GlobalDef). g.name) c.args.module.now.globals =
    c.in_ok-put_globals.ensures.put ∙ ap (λ ns. ns ++ map (λ (g : GlobalDef). g.name) c.as_slice.result.now)
    c.new-names.ensures
    ∙ ap (map (λ (g : GlobalDef). g.name)) c.as_slice.ensures in
    passed_same c.from_residual-in_err-put_functions.result c.in_err-put_functions.field-0.0 _ _
    (ap (λ ns. ns ++ map (λ (f : Function). f.name) c.as_slice-2.result.now) globals
    ∙ ap (λ fs. map (λ (g : GlobalDef). g.name) c.args.module.now.globals ++ map (λ (f : Function). f.name) fs)
    c.as_slice-2.ensures)
    c.from_residual-in_err-put_functions.ensures c.in_err-put_functions.ensures.refused

pub invariant_of-result : goal.invariant_of-result
invariant_of-result c =
    let globals : c.put_globals.new.names ≡ map (λ (g : GlobalDef). g.name) c.args.module.now.globals =
    c.in_ok-put_globals.ensures.put ∙ ap (λ ns. ns ++ map (λ (g : GlobalDef). g.name) c.as_slice.result.now)
    c.new-names.ensures
    ∙ ap (map (λ (g : GlobalDef). g.name)) c.as_slice.ensures in (
      c.in_ok-put_functions.ensures.put ∙ ap (λ ns. ns ++ map (λ (f : Function). f.name) c.as_slice-2.result.now)
          globals
          ∙ ap (λ fs. map (λ (g : GlobalDef). g.name) c.args.module.now.globals ++ map (λ (f : Function). f.name) fs)
          c.as_slice-2.ensures,
      c.in_ok-put_functions.ensures.each_once
          (c.in_ok-put_globals.ensures.each_once (subst AreDistinct (sym c.new-names.ensures) tt)),
    )

pub returns-clause-named : goal.returns-clause-named
returns-clause-named c = let all = invariant_of-result c in (refl, subst AreDistinct all.0 all.1)
