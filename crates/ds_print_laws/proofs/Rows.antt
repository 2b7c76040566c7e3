-- The rows of instructions, each behind its word.
use Rattle.std.proofs.Common.{◌≡◌, ℕ, ◌<◌, ◌≤◌, ◌%◌, ◌^◌, true, false, List, [], ◌∷◌, ◌++◌, map, refl, ap, arith, leb}
use Rattle.std.proofs.Common.{le-leb, mod-eq_of_lt}
use Rattle.std.specs.Prelude.{All, IfSome, Option, Some, None, option_map, flat_map}
use Rattle.ds_lex.specs.Written.{Piece}
use Rattle.ds_ast.specs.declared.name.Name.{Name}
use Rattle.ds_ast.specs.declared.ty.Scalar.{Scalar}
use Rattle.ds_ast.specs.declared.ty.Scalar.TheVariants.{I1, I8, I16, I32, I64, Ptr}
use Rattle.ds_ast.specs.declared.ty.Ty.{Ty, Void}
use Rattle.ds_ast.specs.declared.value.Value.{Value}
use Rattle.ds_ast.specs.declared.operand.Operand.{Operand}
use Rattle.ds_ast.specs.declared.operand.Arm.{Arm}
use Rattle.ds_ast.specs.declared.words.BinOp.{BinOp}
use Rattle.ds_ast.specs.declared.words.CastOp.{CastOp}
use Rattle.ds_ast.specs.declared.words.Cond.{Cond}
use Rattle.ds_ast.specs.declared.words.Cond.TheVariants.{Eq, Ne, Ugt, Uge, Ult, Ule, Sgt, Sge, Slt, Sle}
use Rattle.ds_ast.specs.declared.words.RmwOp.{RmwOp}
use Rattle.ds_ast.specs.declared.words.RmwOp.TheVariants as rmw
use Rattle.ds_ast.specs.declared.instr.Op.TheVariants as op
use Rattle.ds_ast.specs.Bounds.{IsName, IsType, IsValue, IsOperand, IsArm, IsCase, width, has_values}
use Rattle.ds_grammar.specs.Sort.{a_scalar, maybe}
use Rattle.ds_grammar.specs.Grammar.{One}
use Rattle.ds_grammar.specs.Tokens.{range_mark}
use Rattle.ds_grammar.specs.Instructions.{condition, rmw_op, ordering, operand_trail, operands_from, arm_trail}
use Rattle.ds_grammar.specs.Instructions.{binary_row, cast_row, icmp_row, select_row, alloca_row, load_row, store_row}
use Rattle.ds_grammar.specs.Instructions.{gep_row, call_row, phi_row, rmw_row, cmpxchg_row, part_number, extract_row}
use Rattle.ds_grammar.specs.Instructions.{fence_row, ret_row, br_row, cases, switch_row, unreachable_row}
use Rattle.ds_grammar.specs.Instructions as rows
use Rattle.ds_grammar.specs.declared.fault.Mark.{Mark}
use Rattle.ds_grammar.specs.Types.{type_of, arrays_from}
use Rattle.ds_print.specs.Names as print
use Rattle.ds_print.specs.Canonical.{more_listed, listed, type_pieces, cond_word, rmw_op_word, operand_pieces}
use Rattle.ds_print.specs.Canonical.{arm_pieces, case_pieces, optional_operand, returned, target}
use Rattle.ds_print_laws.proofs.Gets.{Known, Gets, gap, done, one, one_at, marked, run_end, ◌⨾◌}
use Rattle.ds_print_laws.proofs.Alls.{all_first, all_rest}
use Rattle.ds_print_laws.proofs.Values.{done_as, scalar_read, same_scalar_read, value_read, local_read, global_read}
use Rattle.ds_print_laws.proofs.Values.{typed_read, target_read}
use Rattle.ds_print_laws.proofs.Types.{type_read, type_with_values_read, void_closed}
use Rattle.ds_print_laws.proofs.Ends.{EndsInstruction, no_ignored, no_endings, no_ordering, no_atomic_before}
use Rattle.ds_print_laws.proofs.Ends.{none_before_scalar, none_before_type, none_before_cond, none_before_rmw}
use Rattle.ds_print_laws.proofs.Lists.{operands_read, operand_read, arm_read, arms_read, arguments_read, cases_read}

condition_read : (c : Cond) (ps : List Piece) → Gets condition (print.spelled (cond_word c) ∷ ps) c ps
unfolding condition
condition_read Eq ps = one (λ at. refl)
condition_read Ne ps = one (λ at. refl)
condition_read Ugt ps = one (λ at. refl)
condition_read Uge ps = one (λ at. refl)
condition_read Ult ps = one (λ at. refl)
condition_read Ule ps = one (λ at. refl)
condition_read Sgt ps = one (λ at. refl)
condition_read Sge ps = one (λ at. refl)
condition_read Slt ps = one (λ at. refl)
condition_read Sle ps = one (λ at. refl)

rmw_op_read : (o : RmwOp) (ps : List Piece) → Gets rmw_op (print.spelled (rmw_op_word o) ∷ ps) o ps
unfolding rmw_op
rmw_op_read rmw.Xchg ps = one (λ at. refl)
rmw_op_read rmw.Add ps = one (λ at. refl)
rmw_op_read rmw.Sub ps = one (λ at. refl)
rmw_op_read rmw.And ps = one (λ at. refl)
rmw_op_read rmw.Or ps = one (λ at. refl)
rmw_op_read rmw.Xor ps = one (λ at. refl)
rmw_op_read rmw.Umax ps = one (λ at. refl)
rmw_op_read rmw.Umin ps = one (λ at. refl)

seq_cst_read : (ps : List Piece) → Gets ordering (print.word "seq_cst" ∷ ps) tt ps
unfolding ordering
seq_cst_read ps = one (λ at. refl)

module _ (known : Known) (ps : List Piece) (ends : EndsInstruction ps) where
  pub binary_read : (o : BinOp) (s : Scalar) (a b : Value) → IsValue (width s) a → IsValue (width s) b
      → Gets (binary_row o) (print.space ∷ print.scalar s ∷ print.space ∷ print.value s a ∷ print.punct "," ∷
      print.space ∷ print.value s b ∷ ps) (op.Bin o s a b) ps
  unfolding binary_row
  binary_read o s a b ia ib =
      gap (none_before_scalar known s _ ⨾ (scalar_read s _ ⨾ gap
      (value_read known s a _ ia ⨾ (one {v = tt} (λ at. refl) ⨾ gap (value_read known s b ps ib
      ⨾ (no_endings known ps ends ⨾ done (op.Bin o s a b) ps))))))

  pub cast_read : (o : CastOp) (from : Scalar) (a : Value) (to : Scalar) → IsValue (width from) a
      → Gets (cast_row o) (print.space ∷ print.scalar from ∷ print.space ∷ print.value from a ∷ print.space ∷
      print.word "to" ∷ print.space ∷ print.scalar to ∷ ps) (op.Cast o from a to) ps
  unfolding cast_row
  cast_read o from a to ia =
      gap (none_before_scalar known from _ ⨾ (scalar_read from _ ⨾ gap
      (value_read known from a _ ia ⨾ gap (one {v = tt} (λ at. refl) ⨾ gap (scalar_read to ps
      ⨾ (no_endings known ps ends ⨾ done (op.Cast o from a to) ps))))))

  pub icmp_read : (c : Cond) (s : Scalar) (a b : Value) → IsValue (width s) a → IsValue (width s) b
      → Gets icmp_row (print.space ∷ print.spelled (cond_word c) ∷ print.space ∷ print.scalar s ∷ print.space ∷
      print.value s a ∷ print.punct "," ∷ print.space ∷ print.value s b ∷ ps) (op.Icmp c s a b) ps
  unfolding icmp_row
  icmp_read c s a b ia ib =
      gap (none_before_cond known c _ ⨾ (condition_read c _ ⨾ gap
      (scalar_read s _ ⨾ gap (value_read known s a _ ia ⨾
      (one {v = tt} (λ at. refl) ⨾ gap (value_read known s b ps ib
      ⨾ (no_endings known ps ends ⨾ done (op.Icmp c s a b) ps)))))))

  pub select_read : (c : Value) (s : Scalar) (a b : Value) → IsValue 1 c → IsValue (width s) a → IsValue (width s) b
      → Gets select_row (print.space ∷ print.scalar I1 ∷ print.space ∷ print.value I1 c ∷ print.punct "," ∷
      print.space ∷ print.scalar s ∷ print.space ∷ print.value s a ∷ print.punct "," ∷ print.space ∷ print.scalar s ∷
      print.space ∷ print.value s b ∷ ps) (op.Select c s a b) ps
  unfolding select_row
  select_read c s a b ic ia ib =
      gap (typed_read known I1 c _ ic ⨾ (one {v = tt} (λ at. refl) ⨾ gap
      (scalar_read s _ ⨾ gap (value_read known s a _ ia ⨾
      (one {v = tt} (λ at. refl) ⨾ gap (typed_read known s b ps ib
      ⨾ (no_endings known ps ends ⨾ done (op.Select c s a b) ps)))))))

  pub load_read : (s : Scalar) (a : Value) → IsValue 64 a
      → Gets load_row (print.space ∷ print.scalar s ∷ print.punct "," ∷ print.space ∷ print.scalar Ptr ∷ print.space ∷
      print.value Ptr a ∷ ps) (op.Load s a) ps
  unfolding load_row
  load_read s a ia =
      gap (no_atomic_before known s _ ⨾ (none_before_scalar known s _ ⨾
      (scalar_read s _ ⨾ (one {v = tt} (λ at. refl) ⨾ gap (typed_read known Ptr a ps ia
      ⨾ (no_ordering known ps ends ⨾ (no_endings known ps ends ⨾ done (op.Load s a) ps)))))))

  pub store_read : (s : Scalar) (v a : Value) → IsValue (width s) v → IsValue 64 a
      → Gets store_row (print.space ∷ print.scalar s ∷ print.space ∷ print.value s v ∷ print.punct "," ∷ print.space ∷
      print.scalar Ptr ∷ print.space ∷ print.value Ptr a ∷ ps) (op.Store s v a) ps
  unfolding store_row
  store_read s v a iv ia =
      gap (no_atomic_before known s _ ⨾ (none_before_scalar known s _ ⨾
      (scalar_read s _ ⨾ gap (value_read known s v _ iv ⨾ (one {v = tt} (λ at. refl)
      ⨾ gap (typed_read known Ptr a ps ia ⨾ (no_ordering known ps ends ⨾
      (no_endings known ps ends ⨾ done (op.Store s v a) ps))))))))

  pub rmw_read : (o : RmwOp) (a : Value) (s : Scalar) (v : Value) → IsValue 64 a → IsValue (width s) v
      → Gets rmw_row (print.space ∷ print.spelled (rmw_op_word o) ∷ print.space ∷ print.scalar Ptr ∷ print.space ∷
      print.value Ptr a ∷ print.punct "," ∷ print.space ∷ print.scalar s ∷ print.space ∷ print.value s v ∷ print.space
      ∷ print.word "seq_cst" ∷ ps) (op.Rmw o a s v) ps
  unfolding rmw_row
  rmw_read o a s v ia iv =
      gap (none_before_rmw known o _ ⨾ (rmw_op_read o _ ⨾ gap
      (typed_read known Ptr a _ ia ⨾ (one {v = tt} (λ at. refl) ⨾ gap
      (scalar_read s _ ⨾ gap (value_read known s v _ iv
      ⨾ gap (seq_cst_read ps ⨾ (no_endings known ps ends ⨾ done (op.Rmw o a s v) ps))))))))

  pub cmpxchg_read : (a : Value) (s : Scalar) (expected new : Value) → IsValue 64 a → IsValue (width s) expected
      → IsValue (width s) new
      → Gets cmpxchg_row (print.space ∷ print.scalar Ptr ∷ print.space ∷ print.value Ptr a ∷ print.punct "," ∷
      print.space ∷ print.scalar s ∷ print.space ∷ print.value s expected ∷ print.punct "," ∷ print.space ∷
      print.scalar s ∷ print.space ∷ print.value s new
      ∷ print.space ∷ print.word "seq_cst" ∷ print.space ∷ print.word "seq_cst" ∷ ps) (op.Cmpxchg a s expected new) ps
  unfolding cmpxchg_row
  cmpxchg_read a s expected new ia ie iv =
      gap (none_before_scalar known Ptr _ ⨾ (typed_read known Ptr a _ ia ⨾
      (one {v = tt} (λ at. refl) ⨾ gap (scalar_read s _ ⨾ gap (value_read known s expected _ ie
      ⨾ (one {v = tt} (λ at. refl) ⨾ gap (typed_read known s new _ iv ⨾ gap
      (seq_cst_read _ ⨾ gap (seq_cst_read ps ⨾ (no_endings known ps ends ⨾ done
      (op.Cmpxchg a s expected new) ps))))))))))

  pub fence_read : Gets fence_row (print.space ∷ print.word "seq_cst" ∷ ps) op.Fence ps
  unfolding fence_row
  fence_read = gap (seq_cst_read ps ⨾ (no_endings known ps ends ⨾ done op.Fence ps))

  pub unreachable_read : Gets unreachable_row ps op.Unreachable ps
  unfolding unreachable_row
  unreachable_read = no_endings known ps ends ⨾ done op.Unreachable ps

  pub alloca_read : (t : Ty) (count : Option Operand) → IsType t → IfSome count IsOperand
      → Gets alloca_row (print.space ∷ type_pieces t ++ (optional_operand count ++ ps)) (op.Alloca t count) ps
  unfolding alloca_row operand_trail operands_from
  alloca_read t None it ic = gap (type_read known t ps it ⨾
      ((run_end known (ends.no_ending false) ⨾ done [] ps) ⨾ done (op.Alloca t None) ps))
  alloca_read t (Some o) it ic = gap (type_read known t _ it ⨾
      ((operand_read known o ps ic ends ⨾ done (o ∷ []) ps) ⨾ done (op.Alloca t (Some o)) ps))

  pub gep_read : (t : Ty) (base : Value) (indices : List Operand) → IsType t → IsValue 64 base → All IsOperand indices
      → Gets gep_row (print.space ∷ type_pieces t ++
      (print.punct "," ∷ print.space ∷ print.scalar Ptr ∷ print.space ∷ print.value Ptr base ∷ more_listed
      (map operand_pieces indices) ++ ps)) (op.Gep t base indices) ps
  unfolding gep_row operand_trail
  gep_read t base indices it ib ii =
      gap (none_before_type known t _ ⨾ (type_read known t _ it ⨾
      (one {v = tt} (λ at. refl) ⨾ gap (typed_read known Ptr base _ ib
      ⨾ ((operands_read known [] indices ps ii ends ⨾ done indices ps) ⨾ done (op.Gep t base indices) ps)))))

  pub phi_read : (s : Scalar) (a : Arm) (arms : List Arm) → All (IsArm s) (a ∷ arms)
      → Gets phi_row (print.space ∷ print.scalar s ∷ print.space ∷ arm_pieces s a
      ++ (more_listed (map (arm_pieces s) arms) ++ ps)) (op.Phi s (a ∷ arms)) ps
  unfolding phi_row arm_trail
  phi_read s a arms h =
      gap (scalar_read s _ ⨾ gap (one {v = tt} (λ at. refl) ⨾ (arm_read known s a _ (all_first (IsArm s) a arms h)
      ⨾ ((arms_read known s (a ∷ []) arms ps (all_rest (IsArm s) a arms h) ends ⨾ done (a ∷ arms) ps) ⨾ done
      (op.Phi s (a ∷ arms)) ps))))

  -- the index of extractvalue
  part_read : (n : ℕ) (qs : List Piece) → n ≤ 1 → Gets part_number (print.number n ∷ qs) n qs
  unfolding part_number
  part_read n qs le =
      let small : n < 2 ^ 64 = omega (arith, le) in
      let within : n < 2 ^ 32 = omega (arith, le) in
      one_at (λ at. (n % 2 ^ 32, range_mark at (leb n 1)))
      (λ at. ap (option_map (λ n. (n % 2 ^ 32, range_mark at (leb n 1)))) (known.decimals n small))
      (λ at. marked (le-leb n 1 le) (done_as (n % 2 ^ 32) n qs (mod-eq_of_lt within)))

  pub extract_read : (s : Scalar) (name : Name) (n : ℕ) → IsName name → n ≤ 1
      → Gets extract_row (print.space ∷ print.punct "{" ∷ print.space ∷ print.scalar s ∷ print.punct "," ∷ print.space
      ∷ print.scalar I1 ∷ print.space ∷ print.punct "}" ∷ print.space ∷ print.local name ∷ print.punct "," ∷
      print.space ∷ print.number n ∷ ps) (op.Extract s name n) ps
  unfolding extract_row
  extract_read s name n iname le =
      gap (one {v = tt} (λ at. refl) ⨾ gap (scalar_read s _ ⨾
      (one {v = tt} (λ at. refl) ⨾ gap (same_scalar_read I1 _ ⨾ gap
      (one {v = tt} (λ at. refl) ⨾ gap (local_read known name _ iname
      ⨾ (one {v = tt} (λ at. refl) ⨾ gap (part_read n ps le ⨾
      (no_endings known ps ends ⨾ done (op.Extract s name n) ps)))))))))

  returned_scalar : (s : Scalar) (qs : List Piece)
      → Gets (One {a = maybe a_scalar} (λ t. rows.returned t.kind t.bytes)) (print.scalar s ∷ qs) (Some s) qs
  returned_scalar I1 qs = one (λ at. refl)
  returned_scalar I8 qs = one (λ at. refl)
  returned_scalar I16 qs = one (λ at. refl)
  returned_scalar I32 qs = one (λ at. refl)
  returned_scalar I64 qs = one (λ at. refl)
  returned_scalar Ptr qs = one (λ at. refl)

  pub ret_read : (o : Option Operand) → IfSome o IsOperand
      → Gets ret_row (print.space ∷ returned o ++ ps) (op.Ret o) ps
  unfolding ret_row
  ret_read None h =
      gap (one {v = None} (λ at. refl) ⨾ (done None ps ⨾ (no_endings known ps ends ⨾ done (op.Ret None) ps)))
  ret_read (Some o) h = gap (returned_scalar o.ty _ ⨾
      (gap (value_read known o.ty o.value ps h ⨾ done (Some o) ps) ⨾
      (no_endings known ps ends ⨾ done (op.Ret (Some o)) ps)))

  pub br_read : (name : Name) → IsName name → Gets br_row (print.space ∷ target name ++ ps) (op.Br name) ps
  unfolding br_row
  br_read name h = gap (one {v = false} (λ at. refl) ⨾ gap
      (local_read known name ps h ⨾ (no_endings known ps ends ⨾ done (op.Br name) ps)))

  pub cond_br_read : (c : Value) (first second : Name) → IsValue 1 c → IsName first → IsName second
      → Gets br_row (print.space ∷ print.scalar I1 ∷ print.space ∷ print.value I1 c ∷ print.punct "," ∷ print.space ∷
      print.word "label" ∷ print.space ∷ print.local first ∷ print.punct "," ∷ print.space ∷ print.word "label" ∷
      print.space ∷ print.local second ∷ ps) (op.CondBr c first second) ps
  unfolding br_row
  cond_br_read c first second ic i1 i2 =
      gap (one {v = true} (λ at. refl) ⨾ gap (value_read known I1 c _ ic ⨾
      (one {v = tt} (λ at. refl) ⨾ gap (target_read known first _ i1 ⨾
      (one {v = tt} (λ at. refl) ⨾ gap (target_read known second ps i2
      ⨾ (no_endings known ps ends ⨾ done (op.CondBr c first second) ps)))))))

  pub switch_read : (s : Scalar) (v : Value) (other : Name) (cs : List (ℕ × Name)) → IsValue (width s) v
      → IsName other → All (IsCase s) cs
      → Gets switch_row (print.space ∷ print.scalar s ∷ print.space ∷ print.value s v ∷ print.punct "," ∷ print.space
      ∷ print.word "label" ∷ print.space ∷ print.local other ∷ print.space ∷ print.punct "[" ∷ flat_map
      (case_pieces s) cs ++ print.space ∷ print.punct "]" ∷ ps) (op.Switch s v other cs) ps
  unfolding switch_row cases
  switch_read s v other cs iv io ics =
      gap (scalar_read s _ ⨾ gap (value_read known s v _ iv ⨾
      (one {v = tt} (λ at. refl) ⨾ gap (target_read known other _ io ⨾ gap
      (one {v = tt} (λ at. refl) ⨾ (cases_read known s [] cs ps ics
      ⨾ gap (one {v = tt} (λ at. refl) ⨾ (no_endings known ps ends ⨾ done (op.Switch s v other cs) ps))))))))

  -- the type, the function and the arguments of a call
  pub call_read : (t : Ty) (callee : Name) (args : List Operand) → has_values t ≡ true → IsType t → IsName callee
      → All IsOperand args
      → Gets (call_row true []) (print.space ∷ type_pieces t
      ++ (print.space ∷ print.global callee ∷ print.punct "(" ∷ listed (map operand_pieces args)
      ++ print.punct ")" ∷ ps)) (op.Call t callee args) ps
  unfolding call_row
  call_read t callee args values it ic ia =
      gap (none_before_type known t _ ⨾ (type_with_values_read known t _ values it ⨾ gap
      (global_read known callee _ ic ⨾ (one {v = tt} (λ at. refl) ⨾ (arguments_read known args ps ia
      ⨾ (one {v = tt} (λ at. refl) ⨾ (no_ignored known ps (ends.no_run false) ⨾
      (no_endings known ps ends ⨾ done (op.Call t callee args) ps))))))))

  -- the same without a result
  pub taking_call_read : (marks : List Mark) (callee : Name) (args : List Operand) → IsName callee → All IsOperand args
      → Gets (call_row false marks) (print.space ∷ type_pieces Void
      ++ (print.space ∷ print.global callee ∷ print.punct "(" ∷ listed (map operand_pieces args)
      ++ print.punct ")" ∷ ps)) (op.Call Void callee args) ps
  unfolding call_row type_of arrays_from
  taking_call_read [] callee args ic ia =
      gap (none_before_type known Void _ ⨾ ((run_end known (λ at. refl) ⨾
      (one {v = Void} (λ at. refl) ⨾ void_closed known _)) ⨾ gap
      (global_read known callee _ ic ⨾ (one {v = tt} (λ at. refl) ⨾ (arguments_read known args ps ia
      ⨾ (one {v = tt} (λ at. refl) ⨾ (no_ignored known ps (ends.no_run false) ⨾
      (no_endings known ps ends ⨾ done (op.Call Void callee args) ps))))))))
  taking_call_read (m ∷ ms) callee args ic ia =
      gap (none_before_type known Void _ ⨾ ((run_end known (λ at. refl) ⨾
      (one {v = Void} (λ at. refl) ⨾ void_closed known _)) ⨾ gap
      (global_read known callee _ ic ⨾ (one {v = tt} (λ at. refl) ⨾ (arguments_read known args ps ia
      ⨾ (one {v = tt} (λ at. refl) ⨾ (no_ignored known ps (ends.no_run false) ⨾
      (no_endings known ps ends ⨾ done (op.Call Void callee args) ps))))))))
