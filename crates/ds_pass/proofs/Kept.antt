-- A module within its bounds is within them with its notes.
use Rattle.std.proofs.Common.{◌≡◌, ◌<◌, ◌≤◌, ◌^◌, ℕ, Bool, true, false, List, [], ◌∷◌, ◌++◌, map, refl, sym, ap, ◌∙◌}
use Rattle.std.proofs.Common.{subst, lit<, lit≤, true≢false}
use Rattle.std.specs.Prelude.{All, flat_map, codes}
use Rattle.std.specs.Option.{option_to_list}
use Rattle.std.proofs.lemmas.List.Elements.{All-nil, All-cons, All-head, All-tail, All-append, All-map}
use Rattle.std.proofs.lemmas.List.Elements.{All-from_recursion}
use Rattle.ds_ast.specs.declared.name.Name.{Name}
use Rattle.ds_ast.specs.declared.name.Name.TheVariants.{Number}
use Rattle.ds_ast.specs.declared.ty.Scalar.{Scalar}
use Rattle.ds_ast.specs.declared.ty.Scalar.TheVariants.{I1, I8, I16, I32, I64, Ptr}
use Rattle.ds_ast.specs.declared.ty.Ty as ty
use Rattle.ds_ast.specs.declared.value.Value.{Value}
use Rattle.ds_ast.specs.declared.words.RmwOp.TheVariants.{Xchg, Add, Sub, And, Or, Xor, Umax, Umin}
use Rattle.ds_ast.specs.declared.instr.Op.{Op}
use Rattle.ds_ast.specs.declared.instr.Op.TheVariants.{Bin, Icmp, Select, Cast, Alloca, Load, Store, Gep, Call, Phi}
use Rattle.ds_ast.specs.declared.instr.Op.TheVariants.{Rmw, Cmpxchg, Extract, Fence, Ret, Br, CondBr, Switch}
use Rattle.ds_ast.specs.declared.instr.Op.TheVariants.{Unreachable}
use Rattle.ds_ast.specs.declared.instr.Instr.{Instr}
use Rattle.ds_ast.specs.declared.module.Module.{Module}
use Rattle.ds_ast.specs.declared.module.Function.{Function}
use Rattle.ds_ast.specs.declared.module.Param.{Param}
use Rattle.ds_ast.specs.declared.module.Block.{Block}
use Rattle.ds_ast.specs.Bounds.{IsName, IsType, IsValue, width, IsOperand, IsOp, is_terminator, IsInstr, IsEnded}
use Rattle.ds_ast.specs.Bounds.{IsBlock, names_of_block, numbers, IsCounted, IsFunction, Bounds}
use Rattle.ds_pass.specs.Noted.{note_name, pointer, note, note_of, notes_behind, noted_instr, noted_block}
use Rattle.ds_pass.specs.Noted.{noted_function, declaration, noted}

-- WHAT STANDS BEHIND AN INSTRUCTION

-- what is true of no note and of one is true of the note of a value
noted_value : (P : List Instr → Type 0) (s : Scalar) (at value : Value) → P []
    → (IsValue 64 at → IsValue 64 value → P (note at value ∷ [])) → IsValue 64 at → IsValue (width s) value
    → P (note_of s at value)
noted_value P I1 at value none one a v = none
noted_value P I8 at value none one a v = none
noted_value P I16 at value none one a v = none
noted_value P I32 at value none one a v = none
noted_value P I64 at value none one a v = none
noted_value P Ptr at value none one a v = one a v

-- what is true of no note behind any instruction, and of one behind an instruction that is no terminator, is true of
-- what stands behind each
by_notes : (P : Bool → List Instr → Type 0) → ((b : Bool) → P b [])
    → ((at value : Value) → IsValue 64 at → IsValue 64 value → P false (note at value ∷ [])) → (op : Op) → IsOp op
    → P (is_terminator op) (notes_behind op)
by_notes P none one (Bin op s a b) h = none false
by_notes P none one (Icmp condition s a b) h = none false
by_notes P none one (Select c s a b) h = none false
by_notes P none one (Cast op from a to) h = none false
by_notes P none one (Alloca t count) h = none false
by_notes P none one (Load s at) h = none false
by_notes P none one (Store s value at) h = noted_value (P false) s at value (none false) (one at value) h.1 h.0
by_notes P none one (Gep t base indices) h = none false
by_notes P none one (Call result callee args) h = none false
by_notes P none one (Phi s arms) h = none false
by_notes P none one (Rmw Xchg at s value) h = noted_value (P false) s at value (none false) (one at value) h.0 h.1
by_notes P none one (Rmw Add at s value) h = none false
by_notes P none one (Rmw Sub at s value) h = none false
by_notes P none one (Rmw And at s value) h = none false
by_notes P none one (Rmw Or at s value) h = none false
by_notes P none one (Rmw Xor at s value) h = none false
by_notes P none one (Rmw Umax at s value) h = none false
by_notes P none one (Rmw Umin at s value) h = none false
by_notes P none one (Cmpxchg at s expected written) h =
    noted_value (P false) s at written (none false) (one at written) h.0 h.2
by_notes P none one (Extract s of index) h = none false
by_notes P none one Fence h = none false
by_notes P none one (Ret operand) h = none true
by_notes P none one (Br target) h = none true
by_notes P none one (CondBr c target other) h = none true
by_notes P none one (Switch s value other cases) h = none true
by_notes P none one Unreachable h = none true

-- NOTES ARE WITHIN THEIR BOUNDS

abbrev IsByte : ℕ → Type 0
IsByte byte = byte < 2 ^ 8

name_is : IsName note_name
name_is =
    All-from_recursion IsByte (codes "ds_note")
    (lit< tt, (lit< tt, (lit< tt, (lit< tt, (lit< tt, (lit< tt, (lit< tt, tt)))))))

abbrev IsCount : ℕ → Type 0
IsCount count = count ≤ 2 ^ 31

void_is : IsType ty.Void
void_is = record { depth = lit≤ tt; elements = All-nil IsCount; name = tt }

note_is : (at value : Value) → IsValue 64 at → IsValue 64 value → IsInstr (note at value)
note_is at value a v = record {
  given = (
    void_is,
    name_is,
    All-cons IsOperand (pointer at) (pointer value ∷ []) a
        (All-cons IsOperand (pointer value) [] v (All-nil IsOperand)),
  );
  has_name = refl;
  name = tt;
}

notes_are : (op : Op) → IsOp op → All IsInstr (notes_behind op)
notes_are = by_notes (λ b notes. All IsInstr notes) (λ b. All-nil IsInstr)
    (λ at value a v. All-cons IsInstr (note at value) [] (note_is at value a v) (All-nil IsInstr))

-- so is code with its notes
code_is : (code : List Instr) → All IsInstr code → All IsInstr (flat_map noted_instr code)
code_is [] all = All-nil IsInstr
code_is (i ∷ code) all =
    let first : IsInstr i = All-head IsInstr i code all in
    All-cons IsInstr i (notes_behind i.op ++ flat_map noted_instr code) first
    (All-append IsInstr (notes_behind i.op) (flat_map noted_instr code) (notes_are i.op first.given)
    (code_is code (All-tail IsInstr i code all)))

-- NOTES END NO BLOCK

-- nothing stands behind a terminator
last_alone : (op : Op) → IsOp op → is_terminator op ≡ true → notes_behind op ≡ []
last_alone = by_notes (λ b notes. b ≡ true → notes ≡ []) (λ b t. refl) (λ at value a v t. absurd (true≢false (sym t)))

-- what goes on behind an instruction goes on behind its notes
abbrev GoesOn : Instr → List Instr → Type 0
GoesOn i notes =
    (next : Instr) (more : List Instr) → is_terminator i.op ≡ false → IsEnded (next ∷ more)
    → IsEnded (i ∷ (notes ++ next ∷ more))

goes_on : (i : Instr) → IsOp i.op → GoesOn i (notes_behind i.op)
goes_on i h = by_notes (λ b notes. GoesOn i notes) (λ b next more t e. (t, e))
    (λ at value a v next more t e. (t, (refl, e))) i.op h

code_ends : (code : List Instr) → All IsInstr code → IsEnded code → IsEnded (flat_map noted_instr code)
code_ends [] all h = h
code_ends (i ∷ []) all h =
    let first : IsInstr i = All-head IsInstr i [] all in
    subst (λ notes. IsEnded (i ∷ (notes ++ []))) (sym (last_alone i.op first.given h)) h
code_ends (i ∷ j ∷ code) all h =
    let first : IsInstr i = All-head IsInstr i (j ∷ code) all in
    goes_on i first.given j (notes_behind j.op ++ flat_map noted_instr code) h.0
    (code_ends (j ∷ code) (All-tail IsInstr i (j ∷ code) all) h.1)

-- NOTES NAME NOTHING

abbrev result_names : Instr → List Name
result_names i = option_to_list i.result

-- notes in front of code add no name
silent : (op : Op) → IsOp op → (code : List Instr)
    → flat_map result_names (notes_behind op ++ code) ≡ flat_map result_names code
silent =
    by_notes (λ b notes. (code : List Instr) → flat_map result_names (notes ++ code) ≡ flat_map result_names code)
    (λ b code. refl) (λ at value a v code. refl)

code_names : (code : List Instr) → All IsInstr code
    → flat_map result_names (flat_map noted_instr code) ≡ flat_map result_names code
code_names [] all = refl
code_names (i ∷ code) all =
    let first : IsInstr i = All-head IsInstr i code all in
    ap (λ names. result_names i ++ names)
    (silent i.op first.given (flat_map noted_instr code) ∙ code_names code (All-tail IsInstr i code all))

blocks_names : (blocks : List Block) → All IsBlock blocks
    → flat_map names_of_block (map noted_block blocks) ≡ flat_map names_of_block blocks
blocks_names [] all = refl
blocks_names (b ∷ blocks) all =
    let first : IsBlock b = All-head IsBlock b blocks all in
    let rest : flat_map names_of_block (map noted_block blocks) ≡ flat_map names_of_block blocks =
    blocks_names blocks (All-tail IsBlock b blocks all) in
    ap (λ names. b.name ∷ (names ++ flat_map names_of_block (map noted_block blocks)))
    (code_names b.code first.instructions)
    ∙ ap (λ names. b.name ∷ (flat_map result_names b.code ++ names)) rest

-- THE MODULE

block_is : (b : Block) → IsBlock b → IsBlock (noted_block b)
block_is b h = record {
  name = h.name;
  instructions = code_is b.code h.instructions;
  ended = code_ends b.code h.instructions h.ended;
}

blocks_are : (blocks : List Block) → All IsBlock blocks → All IsBlock (map noted_block blocks)
blocks_are blocks all = All-map IsBlock noted_block blocks (λ k d lt. block_is _ (all k d lt))

-- a function with its notes has no blocks only where it has none
none_before : (blocks : List Block) → map noted_block blocks ≡ [] → blocks ≡ []
none_before [] e = refl
none_before (b ∷ blocks) e = cc

function_is : (f : Function) → IsFunction f → IsFunction (noted_function f)
function_is f h = record {
  name = h.name;
  result = h.result;
  parameters = h.parameters;
  blocks = blocks_are f.blocks h.blocks;
  counted = subst (λ names. IsCounted 0 (numbers (map (λ (p : Param). p.name) f.params ++ names)))
      (sym (blocks_names f.blocks h.blocks)) h.counted;
  declared = λ e. h.declared (none_before f.blocks e);
}

abbrev IsParameter : Param → Type 0
IsParameter param = IsName param.name

abbrev parameter : ℕ → Param
parameter n = record { name = Number n; ty = Ptr }

declaration_is : IsFunction declaration
declaration_is = record {
  name = name_is;
  result = void_is;
  parameters = All-cons IsParameter (parameter 0) (parameter 1 ∷ []) (lit< tt)
      (All-cons IsParameter (parameter 1) [] (lit< tt) (All-nil IsParameter));
  blocks = All-nil IsBlock;
  counted = (lit≤ tt, (lit≤ tt, tt));
  declared = λ e. (refl, (refl, tt));
}

pub kept : (m : Module) → Bounds m → Bounds (noted m)
kept m h = record {
  structs = h.structs;
  globals = h.globals;
  functions = All-append IsFunction (map noted_function m.functions) (declaration ∷ [])
      (All-map IsFunction noted_function m.functions (λ k d lt. function_is _ (h.functions k d lt)))
      (All-cons IsFunction declaration [] declaration_is (All-nil IsFunction));
}
