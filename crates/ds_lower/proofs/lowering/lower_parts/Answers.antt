use Rattle.std.proofs.Common.{List, map, sym, ap, subst, ◌∙◌}
use Rattle.std.specs.Prelude.{All, flat_map}
use Rattle.ds_ast.specs.declared.module.GlobalDef.{GlobalDef}
use Rattle.ds_shape.specs.Image.{words_of_global}
use Rattle.ds_meaning.specs.Program.{main_number}
use Rattle.ds_lower_parts.specs.Bytes.{address_in}
use Rattle.ds_code.specs.Lowering.{lowered_function}
use Rattle.ds_ast.specs.declared.module.Module.{Module}
use Rattle.ds_ast.specs.declared.module.Function.{Function}
use Rattle.ds_ast.specs.declared.module.Block.{Block}
use Rattle.ds_lower.specs.Known.{AllFit}
use Rattle.ds_lower.proofs.Typed.{all_fit, global_fits}
use Rattle.ds_lower.proofs.lowering.lower_parts.Goals as goal

pub lower_functions-requires : goal.lower_functions-requires
lower_functions-requires c =
    subst (λ (fs : List Function). All (λ (f : Function). All (λ (b : Block). AllFit c.in_ok-scope.scope.structs b.code)
    f.blocks) fs) (sym c.as_slice-listed.ensures)
    (subst (λ (w : Module). All (λ (f : Function). All (λ (b : Block). AllFit w.structs b.code) f.blocks)
    c.args.whole.now.functions) (sym c.in_ok-scope.ensures)
    (all_fit c.args.whole.now c.written_types_fit.ensures c.requires.layout))

pub image_of-requires : goal.image_of-requires
image_of-requires c = λ n d lt.
    global_fits c.args.whole.now c.in_ok-scope.scope.structs c.as_slice-2.result.now n d c.written_types_fit.ensures
    c.requires.layout (ap (λ (w : Module). w.structs) c.in_ok-scope.ensures) c.as_slice-2.ensures lt

pub returns-clause-lowered : goal.returns-clause-lowered
returns-clause-lowered c = record {
  main = c.in_ok-main_number.ensures ∙ ap (λ (w : Module). main_number w) c.in_ok-scope.ensures;
  image = c.in_ok-image_of.ensures
      ∙ ap (λ (gs : List GlobalDef).
      flat_map (words_of_global c.in_ok-scope.scope.structs (address_in c.in_ok-scope.scope)) gs) c.as_slice-2.ensures
      ∙ ap (λ (w : Module). flat_map (words_of_global w.structs (address_in w)) c.args.whole.now.globals)
      c.in_ok-scope.ensures;
  names = c.in_ok-names_of.ensures
      ∙ ap (λ (fs : List Function). map (λ (f : Function). f.name) fs) c.as_slice-listed.ensures;
  functions = c.in_ok-functions.ensures
      ∙ ap (λ (fs : List Function). map (lowered_function c.in_ok-scope.scope) fs) c.as_slice-listed.ensures
      ∙ ap (λ (w : Module). map (lowered_function w) c.args.whole.now.functions) c.in_ok-scope.ensures;
}
