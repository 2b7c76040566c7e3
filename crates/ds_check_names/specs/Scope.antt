-- What names mean: those of globals and functions in a module, and local names in a function.
use Rattle.std.specs.Prelude.{◌≡◌, Some, slice_get}
use Rattle.ds_ast.specs.declared.name.Name.{Name}
use Rattle.ds_ast.specs.declared.instr.Instr.{Instr}
use Rattle.ds_ast.specs.declared.module.Module.{Module}
use Rattle.ds_ast.specs.declared.module.Function.{Function}
use Rattle.ds_ast.specs.declared.module.Param.{Param}
use Rattle.ds_ast.specs.declared.module.Block.{Block}
use Rattle.ds_shape.specs.declared.local.LocalType.TheVariants.{Plain}
use Rattle.ds_shape.specs.Types.{Stands, result_type}
use Rattle.ds_check_names.specs.declared.meaning.Meaning.{Meaning}
use Rattle.ds_check_names.specs.declared.meaning.Meaning.TheVariants.{Parameter, Label, Result}

-- the one function of the module that has the name
pub record IsFunctionOf (m : Module) (name : Name) (g : Function) : Type 0 where
  pub stands : Stands g m.functions
  pub called : g.name ≡ name
  pub alone : (h : Function) → Stands h m.functions → h.name ≡ name → h ≡ g

-- what the name means in the function
abbrev pub Means : Function → Name → Meaning → Type 0
Means f name (Parameter t) = (p : Param) × Stands p f.params × (p.name ≡ name) × (t ≡ Plain p.ty)
Means f name (Label b) = (c : Block) × (slice_get f.blocks b ≡ Some c) × (c.name ≡ name)
Means f name (Result t b k) =
    (c : Block) × (i : Instr) × (slice_get f.blocks b ≡ Some c) × (slice_get c.code k ≡ Some i)
    × (i.result ≡ Some name) × (t ≡ result_type i.op)
