-- Where instructions stand, and the numbers of functions and globals.
use Rattle.std.specs.Prelude.{ℕ, suc, ◌+◌, nat_lt, List, [], ◌∷◌, length, take, map, flat_map, Option, if◌then◌else◌}
use Rattle.std.specs.List.{slice_get}
use Rattle.ds_ast.specs.declared.name.Name.{Name}
use Rattle.ds_ast.specs.declared.instr.Instr.{Instr}
use Rattle.ds_ast.specs.declared.module.Module.{Module}
use Rattle.ds_ast.specs.declared.module.GlobalDef.{GlobalDef}
use Rattle.ds_ast.specs.declared.module.Function.{Function}
use Rattle.ds_ast.specs.declared.module.Block.{Block}
use Rattle.ds_names.specs.Names.{place_of}
use Rattle.ds_shape.specs.Sizes.{◌>>=◌}
use Rattle.ds_shape.specs.Flow.{arms_of}

-- the number of the function of the name among all, declared ones too
abbrev pub function_number : Module → Name → Option ℕ
function_number m name = place_of (map (λ (f : Function). f.name) m.functions) name

-- the number of the global of the name
abbrev pub global_number : Module → Name → Option ℕ
global_number m name = place_of (map (λ (g : GlobalDef). g.name) m.globals) name

-- where an instruction stands: the number of its function among all, of its block there, and how many stand before it
-- in the block
pub record Site : Type 0 where
  pub function : ℕ
  pub block : ℕ
  pub index : ℕ

-- the function of a site
abbrev pub function_at : Module → Site → Option Function
function_at m site = slice_get m.functions site.function

-- its block
abbrev pub block_at : Module → Site → Option Block
block_at m site = function_at m site >>= (λ (f : Function). slice_get f.blocks site.block)

-- its instruction
abbrev pub instruction_at : Module → Site → Option Instr
instruction_at m site = block_at m site >>= (λ (b : Block). slice_get b.code site.index)

-- how many instructions stand in the function before the block of this number
abbrev pub instructions_before : Function → ℕ → ℕ
instructions_before f block = length (flat_map (λ (b : Block). b.code) (take block f.blocks))

-- the number of its instruction in the function, in the order of the text
abbrev pub instruction_number : Function → Site → ℕ
instruction_number f site = instructions_before f site.block + site.index

-- how many phis these instructions begin with
abbrev pub phis_before : List Instr → ℕ
phis_before [] = 0
phis_before (i ∷ code) = if nat_lt 0 (length (arms_of i.op)) then suc (phis_before code) else 0

-- how many phis stand at the front of the block
abbrev pub front_phis : Block → ℕ
front_phis b = phis_before b.code
