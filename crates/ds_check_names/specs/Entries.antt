-- The local names of a function with their meanings, in the order of the text.
use Rattle.std.specs.Prelude.{ℕ, suc, List, [], ◌∷◌, ◌++◌, map, Option, Some, None}
use Rattle.std.specs.Option.{option_to_list}
use Rattle.ds_ast.specs.declared.name.Name.{Name}
use Rattle.ds_ast.specs.declared.instr.Instr.{Instr}
use Rattle.ds_ast.specs.declared.module.Function.{Function}
use Rattle.ds_ast.specs.declared.module.Param.{Param}
use Rattle.ds_ast.specs.declared.module.Block.{Block}
use Rattle.ds_shape.specs.declared.local.LocalType.{LocalType}
use Rattle.ds_shape.specs.declared.local.LocalType.TheVariants.{Plain}
use Rattle.ds_shape.specs.Types.{result_type}
use Rattle.ds_check_names.specs.declared.meaning.Meaning.{Meaning}
use Rattle.ds_check_names.specs.declared.meaning.Meaning.TheVariants.{Parameter, Label, Result}

-- a name and what it means
pub record Entry : Type 0 where
  pub name : Name
  pub meaning : Meaning

abbrev pub names_of : List Entry → List Name
names_of entries = map (λ (e : Entry). e.name) entries

abbrev pub meanings_of : List Entry → List Meaning
meanings_of entries = map (λ (e : Entry). e.meaning) entries

-- parameters
abbrev pub parameter_entries : List Param → List Entry
parameter_entries [] = []
parameter_entries (p ∷ ps) = record { name = p.name; meaning = Parameter (Plain p.ty) } ∷ parameter_entries ps

-- the result of an instruction, if it has one: that of this number in the block of this number
abbrev pub result_entries : ℕ → ℕ → Instr → List Entry
result_entries block index i =
    map (λ (n : Name). record { name = n; meaning = Result (result_type i.op) block index }) (option_to_list i.result)

-- the results of instructions, of which the first has this number in the block
abbrev pub code_entries : ℕ → ℕ → List Instr → List Entry
code_entries block index [] = []
code_entries block index (i ∷ is) = result_entries block index i ++ code_entries block (suc index) is

-- the label and the results of a block of this number
abbrev pub block_entry : ℕ → Block → List Entry
block_entry number c = record { name = c.name; meaning = Label number } ∷ code_entries number 0 c.code

-- labels and results of blocks, of which the first has this number
abbrev pub block_entries : ℕ → List Block → List Entry
block_entries number [] = []
block_entries number (c ∷ cs) = block_entry number c ++ block_entries (suc number) cs

-- all of a function
abbrev pub entries_of : Function → List Entry
entries_of f = parameter_entries f.params ++ block_entries 0 f.blocks

-- the type of a value that has this meaning: none where it is a label
abbrev pub value_type : Meaning → Option (Option LocalType)
value_type (Parameter t) = Some (Some t)
value_type (Label b) = None
value_type (Result t b k) = Some t

-- the number of the block, where the meaning is a label
abbrev pub block_number : Meaning → Option ℕ
block_number (Parameter t) = None
block_number (Label b) = Some b
block_number (Result t b k) = None
