-- The notes of a module write no type but void, so that it has a layout where the module has one.
use Rattle.std.proofs.Common.{◌≡◌, ◌<◌, ◌^◌, ℕ, List, [], ◌∷◌, ◌++◌, ◌⊎◌, inl, inr, map, refl, ap, sym, ◌∙◌, subst}
use Rattle.std.proofs.Common.{append_assoc, append-nil}
use Rattle.std.specs.Prelude.{All, flat_map}
use Rattle.std.proofs.lemmas.List.Elements.{All-nil, All-cons, All-head, All-tail, All-append}
use Rattle.ds_ast.specs.declared.name.Name.{Name}
use Rattle.ds_ast.specs.declared.ty.Scalar.{Scalar}
use Rattle.ds_ast.specs.declared.ty.Scalar.TheVariants.{I1, I8, I16, I32, I64, Ptr}
use Rattle.ds_ast.specs.declared.ty.Ty.{Ty, Void}
use Rattle.ds_ast.specs.declared.value.Value.{Value}
use Rattle.ds_ast.specs.declared.words.RmwOp.TheVariants.{Xchg, Add, Sub, And, Or, Xor, Umax, Umin}
use Rattle.ds_ast.specs.declared.instr.Op.{Op}
use Rattle.ds_ast.specs.declared.instr.Op.TheVariants.{Bin, Icmp, Select, Cast, Alloca, Load, Store, Gep, Call, Phi}
use Rattle.ds_ast.specs.declared.instr.Op.TheVariants.{Rmw, Cmpxchg, Extract, Fence, Ret, Br, CondBr, Switch}
use Rattle.ds_ast.specs.declared.instr.Op.TheVariants.{Unreachable}
use Rattle.ds_ast.specs.declared.instr.Instr.{Instr}
use Rattle.ds_ast.specs.declared.module.Module.{Module}
use Rattle.ds_ast.specs.declared.module.StructDef.{StructDef}
use Rattle.ds_ast.specs.declared.module.GlobalDef.{GlobalDef}
use Rattle.ds_ast.specs.declared.module.Function.{Function}
use Rattle.ds_ast.specs.declared.module.Block.{Block}
use Rattle.ds_shape.specs.Written.{Line, struct_line, global_line, function_line, lines_of, types_of_op}
use Rattle.ds_shape.specs.Written.{types_of_function, struct_in, written_names, IsUnknown, AnyTooLarge}
use Rattle.ds_shape.specs.Accepted.{HasLayout}
use Rattle.ds_pass.specs.Noted.{note_of, notes_behind, noted_instr, noted_block, noted_function, declaration, noted}

-- the first types are the others with some void between them
data Padded : List Ty → List Ty → Type 0 where
  Empty : Padded [] []
  Keeps : (t : Ty) → {ts us : List Ty} → Padded ts us → Padded (t ∷ ts) (t ∷ us)
  Pads : {ts us : List Ty} → Padded ts us → Padded (Void ∷ ts) us

padded_same : (ts : List Ty) → Padded ts ts
padded_same [] = Empty
padded_same (t ∷ ts) = Keeps t (padded_same ts)

-- types put together of padded ones
padded_then : {ts us vs ws : List Ty} → Padded ts us → Padded vs ws → Padded (ts ++ vs) (us ++ ws)
padded_then Empty more = more
padded_then (Keeps t p) more = Keeps t (padded_then p more)
padded_then (Pads p) more = Pads (padded_then p more)

-- INSTRUCTIONS

abbrev types_in : List Instr → List Ty
types_in code = flat_map (λ (i : Instr). types_of_op i.op) code

types_then : (is js : List Instr) → types_in (is ++ js) ≡ types_in is ++ types_in js
types_then [] js = refl
types_then (i ∷ is) js =
    ap (λ w. types_of_op i.op ++ w) (types_then is js)
    ∙ sym (append_assoc (types_of_op i.op) (types_in is) (types_in js))

value_pads : (s : Scalar) (at value : Value) → Padded (types_in (note_of s at value)) []
value_pads I1 at value = Empty
value_pads I8 at value = Empty
value_pads I16 at value = Empty
value_pads I32 at value = Empty
value_pads I64 at value = Empty
value_pads Ptr at value = Pads Empty

-- what stands behind an instruction writes void alone
notes_pad : (op : Op) → Padded (types_in (notes_behind op)) []
notes_pad (Bin op s a b) = Empty
notes_pad (Icmp condition s a b) = Empty
notes_pad (Select c s a b) = Empty
notes_pad (Cast op from a to) = Empty
notes_pad (Alloca t count) = Empty
notes_pad (Load s at) = Empty
notes_pad (Store s value at) = value_pads s at value
notes_pad (Gep t base indices) = Empty
notes_pad (Call result callee args) = Empty
notes_pad (Phi s arms) = Empty
notes_pad (Rmw Xchg at s value) = value_pads s at value
notes_pad (Rmw Add at s value) = Empty
notes_pad (Rmw Sub at s value) = Empty
notes_pad (Rmw And at s value) = Empty
notes_pad (Rmw Or at s value) = Empty
notes_pad (Rmw Xor at s value) = Empty
notes_pad (Rmw Umax at s value) = Empty
notes_pad (Rmw Umin at s value) = Empty
notes_pad (Cmpxchg at s expected written) = value_pads s at written
notes_pad (Extract s of index) = Empty
notes_pad Fence = Empty
notes_pad (Ret operand) = Empty
notes_pad (Br target) = Empty
notes_pad (CondBr c target other) = Empty
notes_pad (Switch s value other cases) = Empty
notes_pad Unreachable = Empty

code_pads : (code : List Instr) → Padded (types_in (flat_map noted_instr code)) (types_in code)
code_pads [] = Empty
code_pads (i ∷ is) =
    let notes : List Instr = notes_behind i.op in
    let one : Padded (types_in (i ∷ notes)) (types_of_op i.op) =
    subst (Padded (types_of_op i.op ++ types_in notes)) (append-nil (types_of_op i.op))
    (padded_then (padded_same (types_of_op i.op)) (notes_pad i.op)) in
    subst (λ ts. Padded ts (types_of_op i.op ++ types_in is)) (sym (types_then (i ∷ notes) (flat_map noted_instr is)))
    (padded_then one (code_pads is))

blocks_pad : (bs : List Block)
    → Padded (flat_map (λ (b : Block). types_in b.code) (map noted_block bs))
    (flat_map (λ (b : Block). types_in b.code) bs)
blocks_pad [] = Empty
blocks_pad (b ∷ bs) = padded_then (code_pads b.code) (blocks_pad bs)

function_pads : (f : Function) → Padded (types_of_function (noted_function f)) (types_of_function f)
function_pads f = Keeps f.result (blocks_pad f.blocks)

-- WHAT PADDING KEEPS

-- void names no struct
same_names : {ts us : List Ty} → Padded ts us → flat_map struct_in ts ≡ flat_map struct_in us
same_names Empty = refl
same_names (Keeps t p) = ap (λ w. struct_in t ++ w) (same_names p)
same_names (Pads p) = same_names p

-- and is not too large
same_sizes : (structs : List StructDef) {ts us : List Ty} → Padded ts us → AnyTooLarge structs ts
    → AnyTooLarge structs us
same_sizes structs Empty large = large
same_sizes structs (Keeps t p) (inl large) = inl large
same_sizes structs (Keeps t p) (inr large) = inr (same_sizes structs p large)
same_sizes structs (Pads p) (inl large) = absurd large
same_sizes structs (Pads p) (inr large) = same_sizes structs p large

-- LINES

abbrev names_in : List Line → List Name
names_in lines = flat_map (λ (l : Line). flat_map struct_in l.types) lines

names_behind : (before after same : List Line) → names_in after ≡ names_in same
    → names_in (before ++ after) ≡ names_in (before ++ same)
names_behind [] after same e = e
names_behind (l ∷ ls) after same e = ap (λ w. flat_map struct_in l.types ++ w) (names_behind ls after same e)

functions_name : (fs : List Function)
    → names_in (map function_line (map noted_function fs ++ declaration ∷ [])) ≡ names_in (map function_line fs)
functions_name [] = refl
functions_name (f ∷ fs) =
    ap (λ w. w ++ names_in (map function_line (map noted_function fs ++ declaration ∷ [])))
    (same_names (function_pads f))
    ∙ ap (λ w. flat_map struct_in (types_of_function f) ++ w) (functions_name fs)

-- the module with its notes writes the names of the same structs
names_same : (m : Module) → written_names (noted m) ≡ written_names m
names_same m =
    names_behind (map struct_line m.structs ++ map global_line m.globals) (map function_line (noted m).functions)
    (map function_line m.functions) (functions_name m.functions)

module _ (structs : List StructDef) where
  abbrev IsFit : Line → Type 0
  IsFit l = AnyTooLarge structs l.types → ⊥

  abbrev AreFit : List Line → Type 0
  AreFit lines = All IsFit lines

  fit_behind : (before after same : List Line) → (AreFit same → AreFit after)
      → AreFit (before ++ same) → AreFit (before ++ after)
  fit_behind [] after same go h = go h
  fit_behind (l ∷ ls) after same go h =
      All-cons IsFit l (ls ++ after) (All-head IsFit l (ls ++ same) h)
      (fit_behind ls after same go (All-tail IsFit l (ls ++ same) h))

  functions_fit : (fs : List Function) → AreFit (map function_line fs)
      → AreFit (map function_line (map noted_function fs ++ declaration ∷ []))
  functions_fit [] h = All-cons IsFit (function_line declaration) [] void_fits (All-nil IsFit)
    where
      void_fits : AnyTooLarge structs (Void ∷ []) → ⊥
      void_fits (inl large) = large
      void_fits (inr large) = large
  functions_fit (f ∷ fs) h =
      All-cons IsFit (function_line (noted_function f))
      (map function_line (map noted_function fs ++ declaration ∷ []))
      (λ large. All-head IsFit (function_line f) (map function_line fs) h (same_sizes structs (function_pads f) large))
      (functions_fit fs (All-tail IsFit (function_line f) (map function_line fs) h))

-- so it has a layout, which is that of the same structs
pub keeps_layout : (m : Module) → HasLayout m → HasLayout (noted m)
keeps_layout m has = record {
  no_twice_type = has.no_twice_type;
  no_unknown = subst (λ names. All (λ name. IsUnknown m name → ⊥) names) (sym (names_same m)) has.no_unknown;
  no_recursive_type = has.no_recursive_type;
  no_too_large =
      fit_behind m.structs (map struct_line m.structs ++ map global_line m.globals)
      (map function_line (noted m).functions) (map function_line m.functions) (functions_fit m.structs m.functions)
      has.no_too_large;
}
