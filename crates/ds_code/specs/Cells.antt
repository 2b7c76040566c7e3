-- The cells of a frame. A parameter and the result of an instruction have one each, in the order of the text; behind
-- these stand those of the second parts of what cmpxchg gives.
use Rattle.std.specs.Prelude.{ℕ, zero, suc, ◌+◌, nat_lt, if◌then◌else◌, List, [], ◌++◌, map, flat_map, length, Option}
use Rattle.std.specs.Option.{unwrap_or, option_map, option_to_list}
use Rattle.ds_ast.specs.declared.name.Name.{Name}
use Rattle.ds_ast.specs.declared.instr.Instr.{Instr}
use Rattle.ds_ast.specs.declared.module.Function.{Function}
use Rattle.ds_ast.specs.declared.module.Param.{Param}
use Rattle.ds_names.specs.Names.{place_of}
use Rattle.ds_shape.specs.Types.{instructions_of}
use Rattle.ds_meaning.specs.Frames.{parts_of}

-- the names whose first and second parts have cells
pub record Cells : Type 0 where
  pub firsts : List Name
  pub seconds : List Name

-- the name of the instruction's result, where that has more parts than so many
abbrev pub name_past : ℕ → Instr → List Name
name_past n i = if nat_lt n (length (parts_of i.op)) then option_to_list i.result else []

-- the names of parameters
abbrev pub parameter_names : Function → List Name
parameter_names f = map (λ (p : Param). p.name) f.params

-- the names of a function, in the order of their cells
abbrev pub cells_for : Function → Cells
cells_for f = record {
  firsts = parameter_names f ++ flat_map (name_past 0) (instructions_of f);
  seconds = flat_map (name_past 1) (instructions_of f);
}

-- how many cells there are
abbrev pub cell_total : Cells → ℕ
cell_total c = length c.firsts + length c.seconds

-- the first place of the name, and 0 where it has none
abbrev pub place_or : List Name → Name → ℕ
place_or names name = unwrap_or (place_of names name) 0

-- the cell of a part of a name
abbrev pub cell_of : Cells → Name → (part : ℕ) → ℕ
cell_of c name zero = place_or c.firsts name
cell_of c name (suc part) = length c.firsts + place_or c.seconds name

-- the cell of a part of a result, where it has a name
abbrev pub result_cell : Cells → Option Name → (part : ℕ) → Option ℕ
result_cell c name part = option_map (λ (x : Name). cell_of c x part) name
