-- Types and instructions are written apart.
use Rattle.std.proofs.Common.{ℕ, ◌≤◌, ◌^◌, List, [], ◌∷◌, ◌++◌, map, refl, arith}
use Rattle.std.specs.Prelude.{All, Option, Some, None, IfSome, flat_map}
use Rattle.ds_lex.specs.Bytes.{class_of}
use Rattle.ds_lex.specs.Written.{Piece}
use Rattle.ds_ast.specs.declared.name.Name.{Name}
use Rattle.ds_ast.specs.declared.ty.Scalar.{Scalar}
use Rattle.ds_ast.specs.declared.ty.Scalar.TheVariants.{I1, Ptr}
use Rattle.ds_ast.specs.declared.ty.Ty.{Ty, Void, One, Struct, Array', more_of-Ty, end_of-Ty}
use Rattle.ds_ast.specs.declared.value.Value.{Value}
use Rattle.ds_ast.specs.declared.operand.Operand.{Operand}
use Rattle.ds_ast.specs.declared.operand.Arm.{Arm}
use Rattle.ds_ast.specs.declared.instr.Op.{Op}
use Rattle.ds_ast.specs.declared.instr.Op.TheVariants.{Bin, Icmp, Select, Cast, Alloca, Load, Store, Gep, Call, Phi}
use Rattle.ds_ast.specs.declared.instr.Op.TheVariants.{Rmw, Cmpxchg, Extract, Fence, Ret, Br, CondBr, Switch}
use Rattle.ds_ast.specs.declared.instr.Op.TheVariants.{Unreachable}
use Rattle.ds_ast.specs.Bounds.{IsName, IsType, IsNamed, IsValue, IsOperand, IsArm, IsCase, IsOp, width, counts}
use Rattle.ds_ast.specs.Bounds.{innermost}
use Rattle.ds_print.specs.Names.{space, punct, scalar, value, global}
use Rattle.ds_print.specs.Canonical.{more_listed, listed, type_pieces, operand_pieces, typed, target, arm_pieces}
use Rattle.ds_print.specs.Canonical.{case_pieces, optional_operand, returned, op_pieces}
use Rattle.ds_print_laws.proofs.Alls.{all_first, all_rest}
use Rattle.ds_print_laws.proofs.Behind.{Apart, Behind, ArePieces, apart, put, put_all, in_a_row, blank, comma_blank}
use Rattle.ds_print_laws.proofs.Behind.{opening, closing, opening_square, closing_square, opening_curly}
use Rattle.ds_print_laws.proofs.Behind.{closing_curly, more_apart, listed_apart}
use Rattle.ds_print_laws.proofs.Spelled_names.{Numerals, local_is, global_is}
use Rattle.ds_print_laws.proofs.Spelled_values.{word_is, scalar_is, bin_op_is, cast_op_is, cond_is, rmw_op_is}
use Rattle.ds_print_laws.proofs.Spelled_values.{number_is, integer_is, value_is}

module _ (numerals : Numerals) where
  -- TYPES

  typed_by : (t : Ty) (ps : List Piece) → All (λ count. count ≤ 2 ^ 31) (counts t) → IsNamed (innermost t) → Behind ps
      → Apart (type_pieces t ++ ps)
  unfolding class_of
  typed_by Void ps h named k = put (word_is _ refl) k
  typed_by (One s) ps h named k = put (scalar_is s) k
  typed_by (Struct name) ps h named k = put (local_is numerals name named) k
  typed_by (Array' n _ (more_of-Ty of end_of-Ty)) ps h named k =
      let le = all_first (λ count. count ≤ 2 ^ 31) n (counts of) h in
      apart (opening_square (put (number_is numerals n (omega (arith, le))) (blank (put (word_is _ refl) (blank
      (in_a_row (type_pieces of) (punct "]" ∷ []) ps
      (typed_by of _ (all_rest (λ count. count ≤ 2 ^ 31) n (counts of) h) named (closing_square (apart k)))))))))

  pub type_is : (t : Ty) → IsType t → ArePieces (type_pieces t)
  type_is t h = record { before = λ ps k. typed_by t ps h.elements h.name k }

  -- OPERANDS

  typed_is : (s : Scalar) (v : Value) → IsValue (width s) v → ArePieces (typed s v)
  typed_is s v h = record { before = λ ps k. put (scalar_is s) (blank (put (value_is numerals s v h) k)) }

  operand_is : (o : Operand) → IsOperand o → ArePieces (operand_pieces o)
  operand_is o h = typed_is o.ty o.value h

  target_apart : (name : Name) (ps : List Piece) → IsName name → Behind ps → Apart (target name ++ ps)
  unfolding class_of
  target_apart name ps h k = put (word_is _ refl) (blank (put (local_is numerals name h) k))

  arm_is : (s : Scalar) (a : Arm) → IsArm s a → ArePieces (arm_pieces s a)
  arm_is s a h = record {
    before = λ ps k. apart (opening_square (apart (blank (put (value_is numerals s a.value h.0) (comma_blank
        (put (local_is numerals a.from h.1) (blank (apart (closing_square (apart k))))))))));
  }

  cases_apart : (s : Scalar) (cs : List (ℕ × Name)) (ps : List Piece) → All (IsCase s) cs → Behind ps
      → Behind (flat_map (case_pieces s) cs ++ ps)
  cases_apart s [] ps h k = k
  cases_apart s (c ∷ cs) ps h k =
      let is_case = all_first (IsCase s) c cs h in
      blank (put (scalar_is s) (blank (put (integer_is numerals s c.0 is_case.0) (comma_blank
      (target_apart c.1 _ is_case.1 (cases_apart s cs ps (all_rest (IsCase s) c cs h) k))))))

  optional_apart : (o : Option Operand) (ps : List Piece) → IfSome o IsOperand → Behind ps
      → Behind (optional_operand o ++ ps)
  optional_apart None ps h k = k
  optional_apart (Some o) ps h k = comma_blank (put_all (operand_pieces o) (operand_is o h) k)

  returned_apart : (o : Option Operand) (ps : List Piece) → IfSome o IsOperand → Behind ps → Apart (returned o ++ ps)
  unfolding class_of
  returned_apart None ps h k = put (word_is _ refl) k
  returned_apart (Some o) ps h k = put_all (operand_pieces o) (operand_is o h) k

  -- INSTRUCTIONS

  pub op_apart : (o : Op) (ps : List Piece) → IsOp o → Behind ps → Apart (op_pieces o ++ ps)
  unfolding class_of
  op_apart (Bin o s a b) ps h k = put (bin_op_is o)
      (blank (put (scalar_is s) (blank (put (value_is numerals s a h.0)
      (comma_blank (put (value_is numerals s b h.1) k))))))
  op_apart (Icmp c s a b) ps h k =
      put (word_is _ refl) (blank (put (cond_is c) (blank
      (put (scalar_is s) (blank (put (value_is numerals s a h.0)
      (comma_blank (put (value_is numerals s b h.1) k))))))))
  op_apart (Select c s a b) ps h k =
      put (word_is _ refl) (blank (put (scalar_is I1) (blank (put (value_is numerals I1 c h.0) (comma_blank
      (put (scalar_is s) (blank (put (value_is numerals s a h.1)
      (comma_blank (put (scalar_is s) (blank (put (value_is numerals s b h.2) k))))))))))))
  op_apart (Cast o from a to) ps h k =
      put (cast_op_is o) (blank (put (scalar_is from)
      (blank (put (value_is numerals from a h) (blank (put (word_is _ refl) (blank (put (scalar_is to) k))))))))
  op_apart (Alloca t count) ps h k = put (word_is _ refl)
      (blank (in_a_row (type_pieces t) (optional_operand count) ps
      (put_all (type_pieces t) (type_is t h.0) (optional_apart count ps h.1 k))))
  op_apart (Load s at) ps h k =
      put (word_is _ refl) (blank (put (scalar_is s)
      (comma_blank (put (scalar_is Ptr) (blank (put (value_is numerals Ptr at h) k))))))
  op_apart (Store s v at) ps h k =
      put (word_is _ refl) (blank (put (scalar_is s)
      (blank (put (value_is numerals s v h.0) (comma_blank
      (put (scalar_is Ptr) (blank (put (value_is numerals Ptr at h.1) k))))))))
  op_apart (Gep t base indices) ps h k =
      put (word_is _ refl) (blank (in_a_row (type_pieces t)
      (punct "," ∷ space ∷ scalar Ptr ∷ space ∷ value Ptr base ∷ more_listed (map operand_pieces indices)) ps
      (put_all (type_pieces t) (type_is t h.0) (comma_blank
      (put (scalar_is Ptr) (blank (put (value_is numerals Ptr base h.1)
      (more_apart operand_pieces IsOperand operand_is indices h.2 k))))))))
  op_apart (Call t callee args) ps h k =
      let callee_pieces = space ∷ global callee ∷ punct "(" ∷ listed (map operand_pieces args) in
      put (word_is _ refl) (blank (in_a_row (type_pieces t ++ callee_pieces) (punct ")" ∷ []) ps
      (in_a_row (type_pieces t) callee_pieces (punct ")" ∷ ps) (put_all (type_pieces t) (type_is t h.0) (blank
      (put (global_is numerals callee h.1) (opening
      (listed_apart operand_pieces IsOperand operand_is args h.2 (closing (apart k))))))))))
  op_apart (Phi s arms) ps h k =
      put (word_is _ refl) (blank (put (scalar_is s)
      (blank (listed_apart (arm_pieces s) (IsArm s) (arm_is s) arms h.1 k))))
  op_apart (Rmw o at s v) ps h k =
      put (word_is _ refl) (blank (put (rmw_op_is o)
      (blank (put (scalar_is Ptr) (blank (put (value_is numerals Ptr at h.0) (comma_blank
      (put (scalar_is s) (blank (put (value_is numerals s v h.1) (blank (put (word_is _ refl) k))))))))))))
  op_apart (Cmpxchg at s expected new) ps h k =
      put (word_is _ refl) (blank (put (scalar_is Ptr) (blank (put (value_is numerals Ptr at h.0) (comma_blank
      (put (scalar_is s) (blank (put (value_is numerals s expected h.1) (comma_blank
      (put (scalar_is s) (blank (put (value_is numerals s new h.2)
      (blank (put (word_is _ refl) (blank (put (word_is _ refl) k))))))))))))))))
  op_apart (Extract s of index) ps h k =
      let le = h.1 in
      put (word_is _ refl) (blank (apart (opening_curly
      (apart (blank (put (scalar_is s) (comma_blank (put (scalar_is I1) (blank (apart (closing_curly (apart (blank
      (put (local_is numerals of h.0) (comma_blank (put
      (number_is numerals index (omega (arith, le))) k))))))))))))))))
  op_apart Fence ps h k = put (word_is _ refl) (blank (put (word_is _ refl) k))
  op_apart (Ret v) ps h k = put (word_is _ refl) (blank (returned_apart v ps h k))
  op_apart (Br l) ps h k = put (word_is _ refl) (blank (target_apart l ps h k))
  op_apart (CondBr c first second) ps h k =
      put (word_is _ refl) (blank (put (scalar_is I1)
      (blank (put (value_is numerals I1 c h.0) (comma_blank
      (target_apart first _ h.1 (comma_blank (target_apart second ps h.2 k))))))))
  op_apart (Switch s v other cs) ps h k =
      put (word_is _ refl) (blank (put (scalar_is s)
      (blank (put (value_is numerals s v h.0) (comma_blank (target_apart other _ h.1 (blank (apart (opening_square
      (in_a_row (flat_map (case_pieces s) cs) (space ∷ punct "]" ∷ []) ps
      (apart (cases_apart s cs _ h.2 (blank (apart (closing_square (apart k))))))))))))))))
  op_apart Unreachable ps h k = put (word_is _ refl) k
