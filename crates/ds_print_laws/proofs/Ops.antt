-- Operations with their first words.
use Rattle.std.proofs.Common.{◌≡◌, ℕ, Bool, true, false, List, [], ◌∷◌, ◌++◌, map, refl, ap, ◌∙◌, append_assoc, arith}
use Rattle.std.specs.Prelude.{Some, flat_map, codes}
use Rattle.ds_lex.specs.Written.{Piece}
use Rattle.ds_lex.specs.declared.token.TokenKind.TheVariants as kind
use Rattle.ds_ast.specs.declared.ty.Ty.{Ty, Void, One, Struct, Array'}
use Rattle.ds_ast.specs.declared.instr.Op.{Op}
use Rattle.ds_ast.specs.declared.instr.Op.TheVariants.{Bin, Icmp, Select, Cast, Alloca, Load, Store, Gep, Call, Phi}
use Rattle.ds_ast.specs.declared.instr.Op.TheVariants.{Rmw, Cmpxchg, Extract, Fence, Ret, Br, CondBr, Switch}
use Rattle.ds_ast.specs.declared.instr.Op.TheVariants.{Unreachable}
use Rattle.ds_ast.specs.Bounds.{IsOp, has_result}
use Rattle.ds_grammar.specs.declared.fault.Mark.{Mark}
use Rattle.ds_grammar.specs.declared.item.Head.{Head}
use Rattle.ds_grammar.specs.declared.item.Head.TheVariants as head
use Rattle.ds_grammar.specs.Sort.{an_op}
use Rattle.ds_grammar.specs.Grammar.{Grammar}
use Rattle.ds_grammar.specs.Instructions.{head_of, row_of}
use Rattle.ds_print.specs.Names as print
use Rattle.ds_print.specs.Canonical.{bin_op_word, cast_op_word, op_pieces, type_pieces, optional_operand, listed}
use Rattle.ds_print.specs.Canonical.{operand_pieces, case_pieces}
use Rattle.ds_print_laws.proofs.Gets.{Known, Gets}
use Rattle.ds_print_laws.proofs.Ends.{EndsInstruction}
use Rattle.ds_print_laws.proofs.Heads.{bin_op_begins, cast_op_begins}
use Rattle.ds_print_laws.proofs.Rows as rows

-- the pieces of an operation are a word and what the row reads that the word begins, whatever the marks of a number
-- that it may take
pub record Row (named : Bool) (reads : List Mark → Head → Grammar an_op) (o : Op) (ps : List Piece) : Type 0 where
  pub bytes : List ℕ
  pub rest : List Piece
  pub head : Head
  pub whole : op_pieces o ++ ps ≡ print.spelled bytes ∷ rest
  pub begins : head_of named kind.Word bytes ≡ Some head
  pub read : (marks : List Mark) → Gets (reads marks head) rest o ps

abbrev call_whole : (t : Ty) (callee : _) (args : List _) (ps : List Piece) → op_pieces (Call t callee args) ++ ps
    ≡ print.word "call" ∷ print.space ∷ type_pieces t
    ++ (print.space ∷ print.global callee ∷ print.punct "(" ∷ listed (map operand_pieces args) ++ print.punct ")" ∷ ps)
call_whole t callee args ps =
    ap (λ xs. print.word "call" ∷ print.space ∷ xs)
    (append_assoc (type_pieces t ++ (print.space ∷ print.global callee ∷ print.punct "(" ∷ listed
    (map operand_pieces args))) (print.punct ")" ∷ []) ps
    ∙ append_assoc (type_pieces t) (print.space ∷ print.global callee ∷ print.punct "(" ∷ listed
    (map operand_pieces args)) (print.punct ")" ∷ ps))

module _ (known : Known) where
  -- an operation with a result, whose name stands before it
  pub named_row : (o : Op) (ps : List Piece) → IsOp o → has_result o ≡ true → EndsInstruction ps
      → Row true (λ marks. row_of true []) o ps
  named_row (Bin o s a b) ps h r ends = record {
    bytes = bin_op_word o;
    rest = _;
    head = head.Binary o;
    whole = refl;
    begins = bin_op_begins o;
    read = λ marks. rows.binary_read known ps ends o s a b h.0 h.1;
  }
  named_row (Icmp c s a b) ps h r ends = record {
    bytes = codes "icmp";
    rest = _;
    head = head.Icmp;
    whole = refl;
    begins = refl;
    read = λ marks. rows.icmp_read
        known ps ends c s a b h.0 h.1;
  }
  named_row (Select c s a b) ps h r ends = record {
    bytes = codes "select";
    rest = _;
    head = head.Select;
    whole = refl;
    begins = refl;
    read = λ marks.
        rows.select_read known ps ends c s a b h.0 h.1 h.2;
  }
  named_row (Cast o from a to) ps h r ends = record {
    bytes = cast_op_word o;
    rest = _;
    head = head.Cast o;
    whole = refl;
    begins = cast_op_begins o;
    read = λ marks.
        rows.cast_read known ps ends o from a to h;
  }
  named_row (Alloca t count) ps h r ends = record {
    bytes = codes "alloca";
    rest = _;
    head = head.Alloca;
    whole =
        ap (λ xs. print.word "alloca" ∷ print.space ∷ xs) (append_assoc (type_pieces t) (optional_operand count) ps);
    begins = refl;
    read = λ marks. rows.alloca_read known ps ends t count h.0 h.1;
  }
  named_row (Load s a) ps h r ends = record {
    bytes = codes "load";
    rest = _;
    head = head.Load;
    whole = refl;
    begins =
        refl;
    read = λ marks. rows.load_read known ps ends s a h;
  }
  named_row (Store s v a) ps h r ends = absurd cc
  named_row (Gep t base indices) ps h r ends = record {
    bytes = codes "getelementptr";
    rest = _;
    head = head.Gep;
    whole = ap (λ xs. print.word "getelementptr" ∷ print.space ∷ xs) (append_assoc (type_pieces t) _ ps);
    begins = refl;
    read = λ marks. rows.gep_read known ps ends t base indices h.0 h.1 h.2;
  }
  named_row (Call t callee args) ps h r ends = record {
    bytes = codes "call";
    rest = _;
    head = head.Call;
    whole = call_whole t callee args ps;
    begins = refl;
    read = λ marks. rows.call_read known ps ends t callee args r h.0 h.1 h.2;
  }
  named_row (Phi s []) ps h r ends = let none = h.0 in absurd (omega (arith, none))
  named_row (Phi s (a ∷ arms)) ps h r ends = record {
    bytes = codes "phi";
    rest = _;
    head = head.Phi;
    whole = refl;
    begins = refl;
    read = λ marks. rows.phi_read
        known ps ends s a arms h.1;
  }
  named_row (Rmw o a s v) ps h r ends = record {
    bytes = codes "atomicrmw";
    rest = _;
    head = head.Rmw;
    whole = refl;
    begins = refl;
    read = λ marks. rows.rmw_read known ps ends o a s v h.0 h.1;
  }
  named_row (Cmpxchg a s expected new) ps h r ends = record {
    bytes = codes "cmpxchg";
    rest = _;
    head = head.Cmpxchg;
    whole = refl;
    begins = refl;
    read = λ marks.
        rows.cmpxchg_read known ps ends a s expected new h.0 h.1 h.2;
  }
  named_row (Extract s name n) ps h r ends = record {
    bytes = codes "extractvalue";
    rest = _;
    head = head.Extract;
    whole = refl;
    begins = refl;
    read = λ marks.
        rows.extract_read known ps ends s name n h.0 h.1;
  }
  named_row Fence ps h r ends = absurd cc
  named_row (Ret v) ps h r ends = absurd cc
  named_row (Br name) ps h r ends = absurd cc
  named_row (CondBr c first second) ps h r ends = absurd cc
  named_row (Switch s v other cs) ps h r ends = absurd cc
  named_row Unreachable ps h r ends = absurd cc

  call_row : (t : Ty) (callee : _) (args : List _) (ps : List Piece) → IsOp (Call t callee args)
      → has_result (Call t callee args) ≡ false → EndsInstruction ps → Row false (row_of false) (Call t callee args) ps
  call_row Void callee args ps h r ends = record {
    bytes = codes "call";
    rest = _;
    head = head.Call;
    whole = call_whole Void callee args ps;
    begins = refl;
    read = λ marks. rows.taking_call_read known ps ends marks callee args h.1 h.2;
  }
  call_row (One s) callee args ps h r ends = absurd cc
  call_row (Array' n _ of) callee args ps h r ends = absurd cc
  call_row (Struct name) callee args ps h r ends = absurd cc

  -- an operation without a result
  pub other_row : (o : Op) (ps : List Piece) → IsOp o → has_result o ≡ false → EndsInstruction ps
      → Row false (row_of false) o ps
  other_row (Store s v a) ps h r ends = record {
    bytes = codes "store";
    rest = _;
    head = head.Store;
    whole = refl;
    begins = refl;
    read = λ marks. rows.store_read known ps ends s v a h.0 h.1;
  }
  other_row (Call t callee args) ps h r ends = call_row t callee args ps h r ends
  other_row Fence ps h r ends = record {
    bytes = codes "fence";
    rest = _;
    head = head.Fence;
    whole = refl;
    begins =
        refl;
    read = λ marks. rows.fence_read known ps ends;
  }
  other_row (Ret v) ps h r ends = record {
    bytes = codes "ret";
    rest = _;
    head = head.Ret;
    whole = refl;
    begins =
        refl;
    read = λ marks. rows.ret_read known ps ends v h;
  }
  other_row (Br name) ps h r ends = record {
    bytes = codes "br";
    rest = _;
    head = head.Br;
    whole = refl;
    begins =
        refl;
    read = λ marks. rows.br_read known ps ends name h;
  }
  other_row (CondBr c first second) ps h r ends = record {
    bytes = codes "br";
    rest = _;
    head = head.Br;
    whole = refl;
    begins = refl;
    read = λ marks. rows.cond_br_read
        known ps ends c first second h.0 h.1 h.2;
  }
  other_row (Switch s v other cs) ps h r ends = record {
    bytes = codes "switch";
    rest = _;
    head = head.Switch;
    whole = ap (λ xs. print.word "switch" ∷ print.space ∷ print.scalar s ∷ print.space ∷ print.value s v ∷ print.punct
        "," ∷ print.space ∷ print.word "label" ∷ print.space ∷ print.local other ∷ print.space ∷ print.punct "[" ∷ xs)
        (append_assoc (flat_map (case_pieces s) cs) (print.space ∷ print.punct "]" ∷ []) ps);
    begins = refl;
    read = λ marks. rows.switch_read known ps ends s v other cs h.0 h.1 h.2;
  }
  other_row Unreachable ps h r ends = record {
    bytes = codes "unreachable";
    rest = _;
    head = head.Unreachable;
    whole =
        refl;
    begins = refl;
    read = λ marks. rows.unreachable_read known ps ends;
  }
  other_row (Bin o s a b) ps h r ends = absurd cc
  other_row (Icmp c s a b) ps h r ends = absurd cc
  other_row (Select c s a b) ps h r ends = absurd cc
  other_row (Cast o from a to) ps h r ends = absurd cc
  other_row (Alloca t count) ps h r ends = absurd cc
  other_row (Load s a) ps h r ends = absurd cc
  other_row (Gep t base indices) ps h r ends = absurd cc
  other_row (Phi s arms) ps h r ends = absurd cc
  other_row (Rmw o a s v) ps h r ends = absurd cc
  other_row (Cmpxchg a s expected new) ps h r ends = absurd cc
  other_row (Extract s name n) ps h r ends = absurd cc
