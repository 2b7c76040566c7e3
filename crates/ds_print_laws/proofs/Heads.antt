-- The words that begin instructions.
use Rattle.std.proofs.Common.{◌≡◌, ℕ, Bool, true, false, List, ◌∷◌, ◌++◌, refl}
use Rattle.std.specs.Prelude.{Some, None, codes}
use Rattle.ds_lex.specs.Written.{Piece}
use Rattle.ds_lex.specs.declared.token.TokenKind.TheVariants as kind
use Rattle.ds_ast.specs.declared.name.Name.{Name}
use Rattle.ds_ast.specs.declared.words.BinOp.{BinOp}
use Rattle.ds_ast.specs.declared.words.BinOp.TheVariants as bin
use Rattle.ds_ast.specs.declared.words.CastOp.{CastOp}
use Rattle.ds_ast.specs.declared.words.CastOp.TheVariants as cast
use Rattle.ds_ast.specs.declared.instr.Op.{Op}
use Rattle.ds_ast.specs.declared.instr.Op.TheVariants.{Bin, Icmp, Select, Cast, Alloca, Load, Store, Gep, Call, Phi}
use Rattle.ds_ast.specs.declared.instr.Op.TheVariants.{Rmw, Cmpxchg, Extract, Fence, Ret, Br, CondBr, Switch}
use Rattle.ds_ast.specs.declared.instr.Op.TheVariants.{Unreachable}
use Rattle.ds_grammar.specs.declared.item.Head.TheVariants as head
use Rattle.ds_grammar.specs.Tokens.{is_ignored_word, text_words, word_in}
use Rattle.ds_grammar.specs.Rows.{run_item, ending_item}
use Rattle.ds_grammar.specs.Instructions.{ordering_words, head_of}
use Rattle.ds_print.specs.Names as print
use Rattle.ds_print.specs.Canonical.{bin_op_word, cast_op_word, op_pieces}
use Rattle.ds_print_laws.proofs.Ends.{EndsInstruction}

pub bin_op_begins : (o : BinOp) → head_of true kind.Word (bin_op_word o) ≡ Some (head.Binary o)
bin_op_begins bin.Add = refl
bin_op_begins bin.Sub = refl
bin_op_begins bin.Mul = refl
bin_op_begins bin.And = refl
bin_op_begins bin.Or = refl
bin_op_begins bin.Xor = refl
bin_op_begins bin.Shl = refl
bin_op_begins bin.Lshr = refl
bin_op_begins bin.Ashr = refl
bin_op_begins bin.Udiv = refl
bin_op_begins bin.Sdiv = refl
bin_op_begins bin.Urem = refl
bin_op_begins bin.Srem = refl

pub cast_op_begins : (o : CastOp) → head_of true kind.Word (cast_op_word o) ≡ Some (head.Cast o)
cast_op_begins cast.Zext = refl
cast_op_begins cast.Sext = refl
cast_op_begins cast.Trunc = refl
cast_op_begins cast.PtrToInt = refl
cast_op_begins cast.IntToPtr = refl

-- a word that is no ordering and no item of a run
pub word_ends : (bytes : List ℕ) (ps : List Piece) → ((b : Bool) → run_item b kind.Word bytes ≡ None)
    → word_in ordering_words kind.Word bytes ≡ None → EndsInstruction (print.spelled bytes ∷ ps)
word_ends bytes ps no_run no_ordering =
    record { no_ending = λ b at. refl; no_run = λ b at. no_run b; no_ordering = λ at. no_ordering }

bin_op_ends : (o : BinOp) (ps : List Piece) → EndsInstruction (print.spelled (bin_op_word o) ∷ ps)
unfolding is_ignored_word text_words
bin_op_ends bin.Add ps = word_ends (codes "add") ps (λ b. refl) refl
bin_op_ends bin.Sub ps = word_ends (codes "sub") ps (λ b. refl) refl
bin_op_ends bin.Mul ps = word_ends (codes "mul") ps (λ b. refl) refl
bin_op_ends bin.And ps = word_ends (codes "and") ps (λ b. refl) refl
bin_op_ends bin.Or ps = word_ends (codes "or") ps (λ b. refl) refl
bin_op_ends bin.Xor ps = word_ends (codes "xor") ps (λ b. refl) refl
bin_op_ends bin.Shl ps = word_ends (codes "shl") ps (λ b. refl) refl
bin_op_ends bin.Lshr ps = word_ends (codes "lshr") ps (λ b. refl) refl
bin_op_ends bin.Ashr ps = word_ends (codes "ashr") ps (λ b. refl) refl
bin_op_ends bin.Udiv ps = word_ends (codes "udiv") ps (λ b. refl) refl
bin_op_ends bin.Sdiv ps = word_ends (codes "sdiv") ps (λ b. refl) refl
bin_op_ends bin.Urem ps = word_ends (codes "urem") ps (λ b. refl) refl
bin_op_ends bin.Srem ps = word_ends (codes "srem") ps (λ b. refl) refl

cast_op_ends : (o : CastOp) (ps : List Piece) → EndsInstruction (print.spelled (cast_op_word o) ∷ ps)
unfolding is_ignored_word text_words
cast_op_ends cast.Zext ps = word_ends (codes "zext") ps (λ b. refl) refl
cast_op_ends cast.Sext ps = word_ends (codes "sext") ps (λ b. refl) refl
cast_op_ends cast.Trunc ps = word_ends (codes "trunc") ps (λ b. refl) refl
cast_op_ends cast.PtrToInt ps = word_ends (codes "ptrtoint") ps (λ b. refl) refl
cast_op_ends cast.IntToPtr ps = word_ends (codes "inttoptr") ps (λ b. refl) refl

-- nothing that an instruction begins with is anything that one ends in
pub op_ends : (o : Op) (ps : List Piece) → EndsInstruction (op_pieces o ++ ps)
unfolding is_ignored_word text_words
op_ends (Bin o s a b) ps = bin_op_ends o _
op_ends (Icmp c s a b) ps = word_ends (codes "icmp") _ (λ b. refl) refl
op_ends (Select c s a b) ps = word_ends (codes "select") _ (λ b. refl) refl
op_ends (Cast o from a to) ps = cast_op_ends o _
op_ends (Alloca t count) ps = word_ends (codes "alloca") _ (λ b. refl) refl
op_ends (Load s a) ps = word_ends (codes "load") _ (λ b. refl) refl
op_ends (Store s v a) ps = word_ends (codes "store") _ (λ b. refl) refl
op_ends (Gep t base indices) ps = word_ends (codes "getelementptr") _ (λ b. refl) refl
op_ends (Call t callee args) ps = word_ends (codes "call") _ (λ b. refl) refl
op_ends (Phi s arms) ps = word_ends (codes "phi") _ (λ b. refl) refl
op_ends (Rmw o a s v) ps = word_ends (codes "atomicrmw") _ (λ b. refl) refl
op_ends (Cmpxchg a s expected new) ps = word_ends (codes "cmpxchg") _ (λ b. refl) refl
op_ends (Extract s name n) ps = word_ends (codes "extractvalue") _ (λ b. refl) refl
op_ends Fence ps = word_ends (codes "fence") _ (λ b. refl) refl
op_ends (Ret v) ps = word_ends (codes "ret") _ (λ b. refl) refl
op_ends (Br name) ps = word_ends (codes "br") _ (λ b. refl) refl
op_ends (CondBr c first second) ps = word_ends (codes "br") _ (λ b. refl) refl
op_ends (Switch s v other cs) ps = word_ends (codes "switch") _ (λ b. refl) refl
op_ends Unreachable ps = word_ends (codes "unreachable") _ (λ b. refl) refl

-- a local name ends an instruction, and so does a label or a global name
pub local_ends : (name : Name) (ps : List Piece) → EndsInstruction (print.local name ∷ ps)
local_ends name ps = record { no_ending = λ b at. refl; no_run = λ b at. refl; no_ordering = λ at. refl }

pub global_ends : (name : Name) (ps : List Piece) → EndsInstruction (print.global name ∷ ps)
global_ends name ps = record { no_ending = λ b at. refl; no_run = λ b at. refl; no_ordering = λ at. refl }

pub label_ends : (name : Name) (ps : List Piece) → EndsInstruction (print.label name ∷ ps)
label_ends name ps = record { no_ending = λ b at. refl; no_run = λ b at. refl; no_ordering = λ at. refl }

close_no_ending : (b : Bool) → ending_item b kind.Punct (codes "}") ≡ None
close_no_ending true = refl
close_no_ending false = refl

close_no_run : (b : Bool) → run_item b kind.Punct (codes "}") ≡ None
close_no_run true = refl
close_no_run false = refl

pub close_ends : (ps : List Piece) → EndsInstruction (print.punct "}" ∷ ps)
close_ends ps =
    record { no_ending = λ b at. close_no_ending b; no_run = λ b at. close_no_run b; no_ordering = λ at. refl }
