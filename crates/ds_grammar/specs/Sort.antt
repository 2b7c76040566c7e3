-- The kinds of values that parts of a text have.
use Rattle.std.specs.Prelude.{ℕ, Bool, List, Option}
use Rattle.ds_lex.specs.declared.token.TokenKind.{TokenKind}
use Rattle.ds_ast.specs.declared.name.Name.{Name}
use Rattle.ds_ast.specs.declared.ty.Scalar.{Scalar}
use Rattle.ds_ast.specs.declared.value.Value.{Value}
use Rattle.ds_ast.specs.declared.ty.Ty.{Ty}
use Rattle.ds_ast.specs.declared.operand.Operand.{Operand}
use Rattle.ds_ast.specs.declared.operand.Arm.{Arm}
use Rattle.ds_ast.specs.declared.words.Cond.{Cond}
use Rattle.ds_ast.specs.declared.words.RmwOp.{RmwOp}
use Rattle.ds_ast.specs.declared.instr.Op.{Op}
use Rattle.ds_ast.specs.declared.instr.Instr.{Instr}
use Rattle.ds_grammar.specs.declared.fault.Mark.{Mark}
use Rattle.ds_grammar.specs.declared.item.RunItem.{RunItem}
use Rattle.ds_grammar.specs.declared.item.Ending.{Ending}
use Rattle.ds_grammar.specs.declared.item.Behind.{Behind}
use Rattle.ds_grammar.specs.declared.item.Stage.{Stage}
use Rattle.ds_grammar.specs.declared.item.Head.{Head}
use Rattle.ds_grammar.specs.declared.item.Begin.{Begin}
use Rattle.ds_grammar.specs.declared.item.InitHead.{InitHead}
use Rattle.ds_grammar.specs.declared.item.Entity.{Entity}
use Rattle.ds_ast.specs.declared.init.Init.{Init}
use Rattle.ds_ast.specs.declared.module.Module.{Module}
use Rattle.ds_ast.specs.declared.module.StructDef.{StructDef}
use Rattle.ds_ast.specs.declared.module.GlobalDef.{GlobalDef}
use Rattle.ds_ast.specs.declared.module.Function.{Function}
use Rattle.ds_ast.specs.declared.module.Param.{Param}
use Rattle.ds_ast.specs.declared.module.Block.{Block}

-- a token of a text: its kind, its bytes, and the place in the text where it begins
pub record Lexeme : Type 0 where
  pub kind : TokenKind
  pub bytes : List ℕ
  pub at : ℕ

-- the parameters so far, the counter of their function's names, and the mark of a number that the last one takes
-- where it ends
pub record Params : Type 0 where
  pub params : List Param
  pub counter : ℕ
  pub pending : List Mark

-- the body of a function so far: the blocks that have ended, the one that has not, and the counter of the function's
-- names
pub record Body : Type 0 where
  pub blocks : List Block
  pub open_block : Option Block
  pub counter : ℕ

-- the names of the types that values of parts of a text may have
pub data Sort : Type 0 where
  no_value a_flag a_number a_token a_mark : Sort
  a_name a_scalar a_ty a_value a_cond a_rmw_op an_operand an_arm an_op an_instr : Sort
  a_run_item an_ending a_behind a_stage a_head : Sort
  an_init a_struct a_global a_param a_block a_function a_module a_begin an_init_head an_entity some_params
      a_body : Sort
  both_of : Sort → Sort → Sort
  list_of : Sort → Sort
  maybe : Sort → Sort

-- the type of the values of a sort
abbrev pub TypeOf : Sort → Type 0
TypeOf no_value = Unit {0}
TypeOf a_flag = Bool
TypeOf a_number = ℕ
TypeOf a_token = Lexeme
TypeOf a_mark = Mark
TypeOf a_name = Name
TypeOf a_scalar = Scalar
TypeOf a_ty = Ty
TypeOf a_value = Value
TypeOf a_cond = Cond
TypeOf a_rmw_op = RmwOp
TypeOf an_operand = Operand
TypeOf an_arm = Arm
TypeOf an_op = Op
TypeOf an_instr = Instr
TypeOf a_run_item = RunItem
TypeOf an_ending = Ending
TypeOf a_behind = Behind
TypeOf a_stage = Stage
TypeOf a_head = Head
TypeOf an_init = Init
TypeOf a_struct = StructDef
TypeOf a_global = GlobalDef
TypeOf a_param = Param
TypeOf a_block = Block
TypeOf a_function = Function
TypeOf a_module = Module
TypeOf a_begin = Begin
TypeOf an_init_head = InitHead
TypeOf an_entity = Entity
TypeOf some_params = Params
TypeOf a_body = Body
TypeOf (both_of a b) = TypeOf a × TypeOf b
TypeOf (list_of a) = List (TypeOf a)
TypeOf (maybe a) = Option (TypeOf a)
