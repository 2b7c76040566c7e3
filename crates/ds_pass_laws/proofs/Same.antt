-- What a module and the same with its notes have in common: values, cells, and what phis take.
use Rattle.std.proofs.Common.{◌≡◌, ℕ, true, false, List, [], ◌∷◌, ◌++◌, ◌⊎◌, inl, inr}
use Rattle.std.proofs.Common.{map, Option, Some, None, refl, ap, sym, ◌∙◌}
use Rattle.std.proofs.lemmas.List.{append_assoc}
use Rattle.std.specs.Prelude.{flat_map}
use Rattle.std.specs.Option.{option_map}
use Rattle.ds_ast.specs.declared.name.Name.{Name}
use Rattle.ds_ast.specs.declared.value.Value.{Value}
use Rattle.ds_ast.specs.declared.value.Value.TheVariants.{Int, Null, Undef, Local, Global}
use Rattle.ds_ast.specs.declared.operand.Operand.{Operand}
use Rattle.ds_ast.specs.declared.ty.Scalar.{Scalar}
use Rattle.ds_ast.specs.declared.ty.Scalar.TheVariants.{I1, I8, I16, I32, I64, Ptr}
use Rattle.ds_ast.specs.declared.words.RmwOp.TheVariants.{Xchg, Add, Sub, And, Or, Xor, Umax, Umin}
use Rattle.ds_ast.specs.declared.instr.Op.{Op}
use Rattle.ds_ast.specs.declared.instr.Op.TheVariants.{Bin, Icmp, Select, Cast, Alloca, Load, Store, Gep, Call, Phi}
use Rattle.ds_ast.specs.declared.instr.Op.TheVariants.{Rmw, Cmpxchg, Extract, Fence, Ret, Br, CondBr, Switch}
use Rattle.ds_ast.specs.declared.instr.Op.TheVariants.{Unreachable}
use Rattle.ds_ast.specs.declared.instr.Instr.{Instr}
use Rattle.ds_ast.specs.declared.module.Module.{Module}
use Rattle.ds_ast.specs.declared.module.Function.{Function}
use Rattle.ds_ast.specs.declared.module.Block.{Block}
use Rattle.ds_ast.specs.declared.module.Param.{Param}
use Rattle.ds_map.specs.Bounds.{Bounds}
use Rattle.ds_shape.specs.Sizes.{◌>>=◌}
use Rattle.ds_meaning.specs.Values.{Environment, Values, operand, sign_extended}
use Rattle.ds_meaning.specs.Frames.{cells_of, cells_of_instruction}
use Rattle.ds_meaning.specs.Control.{Choice, choice_of, chosen, arm_for, phis_by, phi_values, with_value, arguments}
use Rattle.ds_meaning.specs.Memory.{indices_in}
use Rattle.ds_meaning.specs.Program.{context}
use Rattle.ds_pass.specs.Noted.{note_of, notes_behind, noted_block, noted_function, noted}
use Rattle.ds_pass_laws.proofs.Shifted.{with_notes}

-- CELLS: a note has no result

abbrev NoCells : List Instr → Type 0
NoCells [] = Unit {0}
NoCells (i ∷ notes) = (cells_of_instruction i ≡ []) × NoCells notes

one_note : (ty : Scalar) (at value : Value) → NoCells (note_of ty at value)
one_note I1 at value = tt
one_note I8 at value = tt
one_note I16 at value = tt
one_note I32 at value = tt
one_note I64 at value = tt
one_note Ptr at value = (refl, tt)

behind : (op : Op) → NoCells (notes_behind op)
behind (Bin op ty a b) = tt
behind (Icmp condition ty a b) = tt
behind (Select c ty a b) = tt
behind (Cast op from a to) = tt
behind (Alloca ty count) = tt
behind (Load ty at) = tt
behind (Store ty value at) = one_note ty at value
behind (Gep ty base indices) = tt
behind (Call result callee args) = tt
behind (Phi ty arms) = tt
behind (Rmw Xchg at ty value) = one_note ty at value
behind (Rmw Add at ty value) = tt
behind (Rmw Sub at ty value) = tt
behind (Rmw And at ty value) = tt
behind (Rmw Or at ty value) = tt
behind (Rmw Xor at ty value) = tt
behind (Rmw Umax at ty value) = tt
behind (Rmw Umin at ty value) = tt
behind (Cmpxchg at ty expected new) = one_note ty at new
behind (Extract ty of index) = tt
behind Fence = tt
behind (Ret operand) = tt
behind (Br target) = tt
behind (CondBr c target other) = tt
behind (Switch ty value other cases) = tt
behind Unreachable = tt

abbrev cells_in : List Instr → List (Name × ℕ)
cells_in code = flat_map cells_of_instruction code

notes_skipped : (notes rest : List Instr) → NoCells notes → cells_in (notes ++ rest) ≡ cells_in rest
notes_skipped [] rest none = refl
notes_skipped (i ∷ notes) rest none =
    ap (λ (xs : List (Name × ℕ)). xs ++ cells_in (notes ++ rest)) none.0 ∙ notes_skipped notes rest none.1

code_cells : (code : List Instr) → cells_in (with_notes code) ≡ cells_in code
code_cells [] = refl
code_cells (i ∷ code) =
    ap (λ (xs : List (Name × ℕ)). cells_of_instruction i ++ xs)
    (notes_skipped (notes_behind i.op) (with_notes code) (behind i.op) ∙ code_cells code)

cells_append : (xs ys : List Instr) → cells_in (xs ++ ys) ≡ cells_in xs ++ cells_in ys
cells_append [] ys = refl
cells_append (i ∷ xs) ys =
    ap (λ (zs : List (Name × ℕ)). cells_of_instruction i ++ zs) (cells_append xs ys)
    ∙ sym (append_assoc (cells_of_instruction i) (cells_in xs) (cells_in ys))

abbrev code_of : List Block → List Instr
code_of bs = flat_map (λ (b : Block). b.code) bs

block_cells : (bs : List Block) → cells_in (code_of (map noted_block bs)) ≡ cells_in (code_of bs)
block_cells [] = refl
block_cells (b ∷ bs) =
    cells_append (with_notes b.code) (code_of (map noted_block bs))
    ∙ ap (λ (xs : List (Name × ℕ)). xs ++ cells_in (code_of (map noted_block bs))) (code_cells b.code)
    ∙ ap (λ (xs : List (Name × ℕ)). cells_in b.code ++ xs) (block_cells bs)
    ∙ sym (cells_append b.code (code_of bs))

pub cells_same : (f : Function) → cells_of (noted_function f) ≡ cells_of f
cells_same f =
    ap (λ (xs : List (Name × ℕ)). map (λ (p : Param). (p.name, 0)) f.params ++ xs) (block_cells f.blocks)

-- VALUES

pub operand_same : (m : Module) (env : Environment) (ty : Scalar) (v : Value)
    → operand (noted m) env ty v ≡ operand m env ty v
operand_same m env ty (Int n) = refl
operand_same m env ty Null = refl
operand_same m env ty Undef = refl
operand_same m env ty (Local name) = refl
operand_same m env ty (Global name) = refl

module _ (m : Module) (lim : Bounds) (thread : ℕ) where
  pub indices_same : (env : Environment) (os : List Operand)
      → indices_in (context false lim (noted m) thread) env os ≡ indices_in (context true lim m thread) env os
  indices_same env [] = refl
  indices_same env (o ∷ os) =
      ap (λ (x : Option ℕ). x >>= (λ v. option_map (λ (vs : List ℕ). sign_extended o.ty I64 v ∷ vs)
      (indices_in (context false lim (noted m) thread) env os))) (operand_same m env o.ty o.value)
      ∙ ap (λ (x : Option (List ℕ)). operand m env o.ty o.value
      >>= (λ v. option_map (λ (vs : List ℕ). sign_extended o.ty I64 v ∷ vs) x)) (indices_same env os)

  pub arguments_same : (env : Environment) (ps : List Param) (os : List Operand)
      → arguments (context false lim (noted m) thread) env ps os ≡ arguments (context true lim m thread) env ps os
  arguments_same env [] [] = refl
  arguments_same env [] (o ∷ os) = refl
  arguments_same env (p ∷ ps) [] = refl
  arguments_same env (p ∷ ps) (o ∷ os) =
      ap (λ (x : Option ℕ). with_value (Some p.name) x (arguments (context false lim (noted m) thread) env ps os))
      (operand_same m env o.ty o.value)
      ∙ ap (λ (x : Option Values). with_value (Some p.name) (operand m env o.ty o.value) x) (arguments_same env ps os)

  -- PHIS

  chosen_same : (env : Environment) (from : Name) (choice : Choice)
      → chosen (context false lim (noted m) thread) env from choice ≡ chosen (context true lim m thread) env from choice
  chosen_same env from choice = by_arm (arm_for from choice.arms)
    where
      by_arm : (o : Option Value) → (o >>= operand (noted m) env choice.ty) ≡ (o >>= operand m env choice.ty)
      by_arm None = refl
      by_arm (Some v) = operand_same m env choice.ty v

  -- what is no phi ends them, and a phi has no note
  phi_apart : (op : Op) → (choice_of op ≡ None) ⊎ (notes_behind op ≡ [])
  phi_apart (Bin op ty a b) = inl refl
  phi_apart (Icmp condition ty a b) = inl refl
  phi_apart (Select c ty a b) = inl refl
  phi_apart (Cast op from a to) = inl refl
  phi_apart (Alloca ty count) = inl refl
  phi_apart (Load ty at) = inl refl
  phi_apart (Store ty value at) = inl refl
  phi_apart (Gep ty base indices) = inl refl
  phi_apart (Call result callee args) = inl refl
  phi_apart (Phi ty arms) = inr refl
  phi_apart (Rmw op at ty value) = inl refl
  phi_apart (Cmpxchg at ty expected new) = inl refl
  phi_apart (Extract ty of index) = inl refl
  phi_apart Fence = inl refl
  phi_apart (Ret operand) = inl refl
  phi_apart (Br target) = inl refl
  phi_apart (CondBr c target other) = inl refl
  phi_apart (Switch ty value other cases) = inl refl
  phi_apart Unreachable = inl refl

  pub phis_same : (env : Environment) (from : Name) (code : List Instr)
      → phi_values (context false lim (noted m) thread) env from (with_notes code)
      ≡ phi_values (context true lim m thread) env from code
  phis_same env from [] = refl
  phis_same env from (i ∷ code) = by_choice (phi_apart i.op) (phis_same env from code)
    where
      by_value : (rest : Option Values) (o : Option Choice)
          → phis_by (context false lim (noted m) thread) env from i.result o rest
          ≡ phis_by (context true lim m thread) env from i.result o rest
      by_value rest None = refl
      by_value rest (Some choice) = ap (λ (x : Option ℕ). with_value i.result x rest) (chosen_same env from choice)

      by_choice : (choice_of i.op ≡ None) ⊎ (notes_behind i.op ≡ [])
          → phi_values (context false lim (noted m) thread) env from (with_notes code)
          ≡ phi_values (context true lim m thread) env from code
          → phis_by (context false lim (noted m) thread) env from i.result (choice_of i.op)
          (phi_values (context false lim (noted m) thread) env from (notes_behind i.op ++ with_notes code))
          ≡ phis_by (context true lim m thread) env from i.result (choice_of i.op)
          (phi_values (context true lim m thread) env from code)
      by_choice (inl none) rec =
          ap (λ o. phis_by (context false lim (noted m) thread) env from i.result o
          (phi_values (context false lim (noted m) thread) env from (notes_behind i.op ++ with_notes code))) none
          ∙ sym (ap (λ o. phis_by (context true lim m thread) env from i.result o
          (phi_values (context true lim m thread) env from code)) none)
      by_choice (inr none) rec =
          ap (λ (notes : List Instr). phis_by (context false lim (noted m) thread) env from i.result (choice_of i.op)
          (phi_values (context false lim (noted m) thread) env from (notes ++ with_notes code))) none
          ∙ ap (λ o. phis_by (context false lim (noted m) thread) env from i.result (choice_of i.op) o) rec
          ∙ by_value (phi_values (context true lim m thread) env from code) (choice_of i.op)
