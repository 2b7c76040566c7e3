use Rattle.std.proofs.Common.{sym, ◌∙◌, subst, refl}
use Rattle.ds_ast.specs.declared.module.Function.{Function}
use Rattle.ds_names.specs.Names.{AreDistinct}
use Rattle.ds_check_names.specs.Entries.{names_of, block_entries}
use Rattle.ds_check_names.proofs.Entered.{names_put}
use Rattle.ds_check_names.proofs.Faults.{passed_on, passed_same}
use Rattle.ds_check_names.proofs.locals.Locals.new.Goals as goal

pub returns-in_err-put_parameters-clause-refused : goal.returns-in_err-put_parameters-clause-refused
returns-in_err-put_parameters-clause-refused c =
    let f : Function = c.args.function.now in
    passed_on c.from_residual.result c.in_err-put_parameters.field-0.0 _ (names_of (block_entries 0 f.blocks)) _
    (names_put f c.new.result _ c.as_slice.result.now f.blocks c.new.ensures c.as_slice.ensures refl refl)
    c.from_residual.ensures c.in_err-put_parameters.ensures.refused

pub returns-in_err-put_blocks-clause-refused : goal.returns-in_err-put_blocks-clause-refused
returns-in_err-put_blocks-clause-refused c =
    passed_same c.from_residual-in_err-put_blocks.result c.in_err-put_blocks.field-0.0 _ _
    (names_put c.args.function.now c.new.result _ c.as_slice.result.now c.as_slice-2.result.now c.new.ensures
    c.as_slice.ensures c.as_slice-2.ensures
    c.in_ok-put_parameters.ensures.names)
    c.from_residual-in_err-put_blocks.ensures c.in_err-put_blocks.ensures.refused

pub returns-clause-named : goal.returns-clause-named
returns-clause-named c = (
  refl,
  subst AreDistinct
      (c.in_ok-put_blocks.ensures.names
      ∙ names_put c.args.function.now c.new.result _ c.as_slice.result.now c.as_slice-2.result.now c.new.ensures
      c.as_slice.ensures c.as_slice-2.ensures c.in_ok-put_parameters.ensures.names)
      (c.in_ok-put_blocks.ensures.each_once
      (c.in_ok-put_parameters.ensures.each_once (subst AreDistinct (sym c.new.ensures) tt))),
)
