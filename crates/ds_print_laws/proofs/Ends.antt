-- What begins no item of a run.
use Rattle.std.proofs.Common.{ℕ, ◌+◌, Bool, true, false, not, eqb, List, ◌∷◌, ◌++◌, length, refl}
use Rattle.std.specs.Prelude.{Option, None, codes}
use Rattle.ds_lex.specs.Written.{Piece, Gap}
use Rattle.ds_ast.specs.declared.ty.Ty.{Ty, Void, One, Struct, Array', more_of-Ty, end_of-Ty}
use Rattle.ds_ast.specs.declared.ty.Scalar.{Scalar}
use Rattle.ds_ast.specs.declared.ty.Scalar.TheVariants.{I1, I8, I16, I32, I64, Ptr}
use Rattle.ds_ast.specs.declared.value.Value.{Value}
use Rattle.ds_ast.specs.declared.value.Value.TheVariants.{Int, Null, Undef, Local, Global}
use Rattle.ds_ast.specs.declared.words.Cond.{Cond}
use Rattle.ds_ast.specs.declared.words.Cond.TheVariants.{Eq, Ne, Ugt, Uge, Ult, Ule, Sgt, Sge, Slt, Sle}
use Rattle.ds_ast.specs.declared.words.RmwOp.{RmwOp}
use Rattle.ds_ast.specs.declared.words.RmwOp.TheVariants as rmw
use Rattle.ds_grammar.specs.declared.item.RunItem.{RunItem}
use Rattle.ds_grammar.specs.Sort.{Lexeme}
use Rattle.ds_grammar.specs.Tokens.{text_words, is_ignored_word, word_in}
use Rattle.ds_grammar.specs.Rows.{fact, is_word, run_item, ignored_run, ignored_from, ending_item, endings}
use Rattle.ds_grammar.specs.Rows.{endings_from}
use Rattle.ds_grammar.specs.Instructions.{ordering_words, optional_atomic, optional_ordering}
use Rattle.ds_print.specs.Names as print
use Rattle.ds_print.specs.Canonical.{type_pieces, cond_word, rmw_op_word}
use Rattle.ds_print_laws.proofs.Gets.{Known, Gets, NoneBegins, run_end, without}

-- an item of a run of ignored words, where a group may stand or not
abbrev pub run_test : Bool → Lexeme → Option RunItem
run_test after_word t = run_item after_word t.kind t.bytes

-- the pieces go on with nothing that an instruction may end in
pub record EndsInstruction (ps : List Piece) : Type 0 where
  pub no_ending : (in_attrs : Bool) → NoneBegins (λ t. ending_item in_attrs t.kind t.bytes) ps
  pub no_run : (after_word : Bool) → NoneBegins (run_test after_word) ps
  pub no_ordering : NoneBegins (λ t. word_in ordering_words t.kind t.bytes) ps

pub ends_gap : (bytes : List ℕ) (ps : List Piece) → EndsInstruction ps → EndsInstruction (Gap bytes ∷ ps)
ends_gap bytes ps h = record {
  no_ending = λ b at. h.no_ending b (at + length bytes);
  no_run = λ b at. h.no_run b (at + length bytes);
  no_ordering = λ at. h.no_ordering (at + length bytes);
}

-- the type of a register is no item
pub scalar_no_run : (s : Scalar) (b : Bool) (ps : List Piece) → NoneBegins (run_test b) (print.scalar s ∷ ps)
unfolding is_ignored_word text_words
scalar_no_run I1 b ps = λ at. refl
scalar_no_run I8 b ps = λ at. refl
scalar_no_run I16 b ps = λ at. refl
scalar_no_run I32 b ps = λ at. refl
scalar_no_run I64 b ps = λ at. refl
scalar_no_run Ptr b ps = λ at. refl

pub scalar_no_atomic : (s : Scalar) (ps : List Piece)
    → NoneBegins (λ t. fact (is_word (codes "atomic") t.kind t.bytes)) (print.scalar s ∷ ps)
scalar_no_atomic I1 ps = λ at. refl
scalar_no_atomic I8 ps = λ at. refl
scalar_no_atomic I16 ps = λ at. refl
scalar_no_atomic I32 ps = λ at. refl
scalar_no_atomic I64 ps = λ at. refl
scalar_no_atomic Ptr ps = λ at. refl

pub type_no_run : (t : Ty) (b : Bool) (ps : List Piece) → NoneBegins (run_test b) (type_pieces t ++ ps)
unfolding is_ignored_word text_words
type_no_run Void b ps = λ at. refl
type_no_run (One s) b ps = scalar_no_run s b ps
type_no_run (Struct name) b ps = λ at. refl
type_no_run (Array' n _ (more_of-Ty of end_of-Ty)) true ps = λ at. refl
type_no_run (Array' n _ (more_of-Ty of end_of-Ty)) false ps = λ at. refl

truth_no_run : (t b : Bool) (ps : List Piece) → NoneBegins (run_test b) (print.truth t ∷ ps)
unfolding is_ignored_word text_words
truth_no_run true b ps = λ at. refl
truth_no_run false b ps = λ at. refl

integer_no_run : (s : Scalar) (n : ℕ) (b : Bool) (ps : List Piece)
    → NoneBegins (run_test b) (print.integer_operand s n ∷ ps)
integer_no_run I1 n b ps = truth_no_run (not (eqb n 0)) b ps
integer_no_run I8 n b ps = λ at. refl
integer_no_run I16 n b ps = λ at. refl
integer_no_run I32 n b ps = λ at. refl
integer_no_run I64 n b ps = λ at. refl
integer_no_run Ptr n b ps = λ at. refl

-- a value is no item
pub value_no_run : (s : Scalar) (v : Value) (b : Bool) (ps : List Piece)
    → NoneBegins (run_test b) (print.value s v ∷ ps)
unfolding is_ignored_word text_words
value_no_run s (Int n) b ps = integer_no_run s n b ps
value_no_run s Null b ps = λ at. refl
value_no_run s Undef b ps = λ at. refl
value_no_run s (Local name) b ps = λ at. refl
value_no_run s (Global name) b ps = λ at. refl

pub cond_no_run : (c : Cond) (b : Bool) (ps : List Piece) → NoneBegins (run_test b) (print.spelled (cond_word c) ∷ ps)
unfolding is_ignored_word text_words
cond_no_run Eq b ps = λ at. refl
cond_no_run Ne b ps = λ at. refl
cond_no_run Ugt b ps = λ at. refl
cond_no_run Uge b ps = λ at. refl
cond_no_run Ult b ps = λ at. refl
cond_no_run Ule b ps = λ at. refl
cond_no_run Sgt b ps = λ at. refl
cond_no_run Sge b ps = λ at. refl
cond_no_run Slt b ps = λ at. refl
cond_no_run Sle b ps = λ at. refl

pub rmw_no_run : (o : RmwOp) (b : Bool) (ps : List Piece)
    → NoneBegins (run_test b) (print.spelled (rmw_op_word o) ∷ ps)
unfolding is_ignored_word text_words
rmw_no_run rmw.Xchg b ps = λ at. refl
rmw_no_run rmw.Add b ps = λ at. refl
rmw_no_run rmw.Sub b ps = λ at. refl
rmw_no_run rmw.And b ps = λ at. refl
rmw_no_run rmw.Or b ps = λ at. refl
rmw_no_run rmw.Xor b ps = λ at. refl
rmw_no_run rmw.Umax b ps = λ at. refl
rmw_no_run rmw.Umin b ps = λ at. refl

module _ (known : Known) where
  -- no ignored word stands there
  pub no_ignored : (ps : List Piece) → NoneBegins (run_test false) ps → Gets ignored_run ps false ps
  unfolding ignored_from
  no_ignored ps h = run_end known h

  pub no_endings : (ps : List Piece) → EndsInstruction ps → Gets endings ps false ps
  unfolding endings_from
  no_endings ps h = run_end known (h.no_ending false)

  pub no_atomic : (ps : List Piece) → NoneBegins (λ t. fact (is_word (codes "atomic") t.kind t.bytes)) ps
      → Gets optional_atomic ps None ps
  unfolding optional_atomic
  no_atomic ps h = without known h

  pub no_ordering : (ps : List Piece) → EndsInstruction ps → Gets optional_ordering ps None ps
  unfolding optional_ordering
  no_ordering ps h = without known h.no_ordering

  pub none_before_scalar : (s : Scalar) (ps : List Piece)
      → Gets ignored_run (print.scalar s ∷ ps) false (print.scalar s ∷ ps)
  none_before_scalar s ps = no_ignored (print.scalar s ∷ ps) (scalar_no_run s false ps)

  pub none_before_type : (t : Ty) (ps : List Piece)
      → Gets ignored_run (type_pieces t ++ ps) false (type_pieces t ++ ps)
  none_before_type t ps = no_ignored (type_pieces t ++ ps) (type_no_run t false ps)

  pub none_before_cond : (c : Cond) (ps : List Piece)
      → Gets ignored_run (print.spelled (cond_word c) ∷ ps) false (print.spelled (cond_word c) ∷ ps)
  none_before_cond c ps = no_ignored (print.spelled (cond_word c) ∷ ps) (cond_no_run c false ps)

  pub none_before_rmw : (o : RmwOp) (ps : List Piece)
      → Gets ignored_run (print.spelled (rmw_op_word o) ∷ ps) false (print.spelled (rmw_op_word o) ∷ ps)
  none_before_rmw o ps = no_ignored (print.spelled (rmw_op_word o) ∷ ps) (rmw_no_run o false ps)

  pub no_atomic_before : (s : Scalar) (ps : List Piece)
      → Gets optional_atomic (print.scalar s ∷ ps) None (print.scalar s ∷ ps)
  no_atomic_before s ps = no_atomic (print.scalar s ∷ ps) (scalar_no_atomic s ps)
