-- Which results have cells, and how many cells there are.
use Rattle.std.proofs.Common.{◌≡◌, ℕ, zero, suc, ◌+◌, ◌<◌, Bool, true, false, if◌then◌else◌, nat_lt, List, [], ◌∷◌}
use Rattle.std.proofs.Common.{length}
use Rattle.std.proofs.Common.{map, Option, Some, None, slice_get, refl, ap, sym, ◌∙◌, subst, arith, length-append}
use Rattle.std.specs.Prelude.{flat_map}
use Rattle.std.specs.Option.{option_to_list}
use Rattle.std.proofs.lemmas.Bool.Decides.{nat_tests}
use Rattle.std.proofs.lemmas.List.{length-map}
use Rattle.ds_ast.specs.declared.name.Name.{Name}
use Rattle.ds_ast.specs.declared.instr.Op.{Op}
use Rattle.ds_ast.specs.declared.instr.Op.TheVariants.{Bin, Icmp, Select, Cast, Alloca, Load, Store, Gep, Call, Phi}
use Rattle.ds_ast.specs.declared.instr.Op.TheVariants.{Rmw, Cmpxchg, Extract, Fence, Ret, Br, CondBr, Switch}
use Rattle.ds_ast.specs.declared.instr.Op.TheVariants.{Unreachable}
use Rattle.ds_ast.specs.declared.instr.Instr.{Instr}
use Rattle.ds_ast.specs.declared.module.Function.{Function}
use Rattle.ds_ast.specs.declared.module.Param.{Param}
use Rattle.ds_ast.specs.declared.module.Block.{Block}
use Rattle.ds_names.specs.Names.{AreDistinct}
use Rattle.ds_shape.specs.Types.{instructions_of}
use Rattle.ds_meaning.specs.Control.{Choice, choice_of}
use Rattle.ds_meaning.specs.Frames.{parts_of, cells_named, cell_of_parameter, cells_of_instruction, cells_of}
use Rattle.ds_code.specs.Cells.{Cells, name_past, parameter_names, cells_for, cell_total}
use Rattle.ds_code_laws.proofs.Named.{Stands, at_head, in_left, in_right, place_left, distinct_place}
use Rattle.ds_code_laws.proofs.Held.{HasCellToo}
use Rattle.ds_code_laws.proofs.Copied.{PhisNamed, ParametersNamed}
use Rattle.ds_code_laws.proofs.Found.{get_left, get_right}

-- the parts of the result have cells, as many as it has
pub record Parted (c : Cells) (name : Option Name) (op : Op) : Type 0 where
  pub first : 0 < length (parts_of op) → HasCellToo c name 0
  pub second : 1 < length (parts_of op) → HasCellToo c name 1

-- what stands in a part stands in the whole
flat_stands : (g : Instr → List Name) (is : List Instr) (k : ℕ) (i : Instr) (x : Name) → slice_get is k ≡ Some i
    → Stands (g i) x → Stands (flat_map g is) x
flat_stands g [] k i x e s = absurd (cc)
flat_stands g (j ∷ is) zero i x e s =
    let same : j ≡ i = cc in
    in_left (g j) (flat_map g is) x (subst (λ (u : Instr). Stands (g u) x) (sym same) s)
flat_stands g (j ∷ is) (suc k) i x e s = in_right (g j) (flat_map g is) x (flat_stands g is k i x e s)

-- an instruction of a block is one of the function
pub record Placed (f : Function) (i : Instr) : Type 0 where
  pub number : ℕ
  pub is : slice_get (instructions_of f) number ≡ Some i

placed_in : (bs : List Block) (n : ℕ) (b : Block) (k : ℕ) (i : Instr) → slice_get bs n ≡ Some b
    → slice_get b.code k ≡ Some i
    → (j : ℕ) × (slice_get (flat_map (λ (d : Block). d.code) bs) j ≡ Some i)
placed_in [] n b k i s e = absurd (cc)
placed_in (c ∷ bs) zero b k i s e =
    let same : c ≡ b = cc in (
      k,
      get_left c.code (flat_map (λ (d : Block). d.code) bs) k i
          (subst (λ (u : Block). slice_get u.code k ≡ Some i) (sym same) e),
    )
placed_in (c ∷ bs) (suc n) b k i s e =
    let p = placed_in bs n b k i s e in
    (length c.code + p.0, get_right c.code (flat_map (λ (d : Block). d.code) bs) (length c.code + p.0) p.0 refl ∙ p.1)

pub placed : (f : Function) (n : ℕ) (b : Block) (k : ℕ) (i : Instr) → slice_get f.blocks n ≡ Some b
    → slice_get b.code k ≡ Some i → Placed f i
placed f n b k i s e = let p = placed_in f.blocks n b k i s e in record { number = p.0; is = p.1 }

-- the name of a result that has more parts than so many
past_stands : (past : ℕ) (i : Instr) (x : Name) → i.result ≡ Some x → past < length (parts_of i.op)
    → Stands (name_past past i) x
past_stands past i x e lt = by_test (nat_lt past (length (parts_of i.op))) refl
  where
    by_test : (t : Bool) → nat_lt past (length (parts_of i.op)) ≡ t
        → Stands (if t then option_to_list i.result else []) x
    by_test true f = subst (λ o. Stands (option_to_list o) x) (sym e) (record { place = 0; is = at_head x [] })
    by_test false f = absurd (grind (arith, nat_tests))

-- the parts of the results of a function have cells
pub parted : (f : Function) (i : Instr) → Placed f i → Parted (cells_for f) i.result i.op
parted f i p = record {
  first = λ lt. by_name i.result refl (λ x e. in_right (parameter_names f) (flat_map (name_past 0) (instructions_of
      f)) x
      (flat_stands (name_past 0) (instructions_of f) p.number i x p.is (past_stands 0 i x e lt)));
  second = λ lt. by_second i.result refl (λ x e.
      flat_stands (name_past 1) (instructions_of f) p.number i x p.is (past_stands 1 i x e lt));
}
  where
    by_name : (name : Option Name) → i.result ≡ name
        → ((x : Name) → i.result ≡ Some x → Stands (cells_for f).firsts x) → HasCellToo (cells_for f) name 0
    by_name None e h = tt
    by_name (Some x) e h = h x e

    by_second : (name : Option Name) → i.result ≡ name
        → ((x : Name) → i.result ≡ Some x → Stands (cells_for f).seconds x) → HasCellToo (cells_for f) name 1
    by_second None e h = tt
    by_second (Some x) e h = h x e

-- a phi has one part
phi_parted : (op : Op) (ch : Choice) → choice_of op ≡ Some ch → 0 < length (parts_of op)
phi_parted (Bin op ty a b) ch e = absurd (cc)
phi_parted (Icmp cond ty a b) ch e = absurd (cc)
phi_parted (Select c ty a b) ch e = absurd (cc)
phi_parted (Cast op from a to) ch e = absurd (cc)
phi_parted (Alloca ty count) ch e = absurd (cc)
phi_parted (Load ty at) ch e = absurd (cc)
phi_parted (Store ty v at) ch e = absurd (cc)
phi_parted (Gep ty base indices) ch e = absurd (cc)
phi_parted (Call result callee args) ch e = absurd (cc)
phi_parted (Phi ty arms) ch e = omega arith
phi_parted (Rmw op at ty v) ch e = absurd (cc)
phi_parted (Cmpxchg at ty expected written) ch e = absurd (cc)
phi_parted (Extract ty of index) ch e = absurd (cc)
phi_parted Fence ch e = absurd (cc)
phi_parted (Ret v) ch e = absurd (cc)
phi_parted (Br label) ch e = absurd (cc)
phi_parted (CondBr c first second) ch e = absurd (cc)
phi_parted (Switch ty v other cases) ch e = absurd (cc)
phi_parted Unreachable ch e = absurd (cc)

-- the phis of a block have cells
pub phis_named : (f : Function) (n : ℕ) (b : Block) → slice_get f.blocks n ≡ Some b → PhisNamed (cells_for f) b.code
phis_named f n b s = record {
  each = λ k i ch e g. (parted f i (placed f n b k i s e)).first (phi_parted i.op ch g);
}

get_name : (ps : List Param) (k : ℕ) (p : Param) → slice_get ps k ≡ Some p
    → slice_get (map (λ (q : Param). q.name) ps) k ≡ Some p.name
get_name [] k p e = absurd (cc)
get_name (q ∷ ps) zero p e = let same : q ≡ p = cc in ap (λ (u : Param). Some u.name) same
get_name (q ∷ ps) (suc k) p e = get_name ps k p e

-- parameters whose names are distinct have the first cells
pub parameters_named : (f : Function) → AreDistinct (parameter_names f) → ParametersNamed (cells_for f) 0 f.params
parameters_named f d = record {
  each = λ k p e.
      place_left (parameter_names f) (flat_map (name_past 0) (instructions_of f)) p.name k
      (distinct_place (parameter_names f) k p.name d (get_name f.params k p e))
      ∙ (let s : k ≡ 0 + k = omega arith in ap (λ j. Some j) s);
}

-- THE NUMBER OF CELLS

one_instr : (i : Instr) → length (name_past 0 i) + length (name_past 1 i) ≡ length (cells_of_instruction i)
one_instr i = by_parts i.result i.op
  where
    count : Option Name → List ℕ → ℕ → List Name
    count name parts past = if nat_lt past (length parts) then option_to_list name else []

    by_parts : (name : Option Name) (op : Op)
        → length (count name (parts_of op) 0) + length (count name (parts_of op) 1)
        ≡ length (cells_named name (parts_of op))
    by_parts None (Bin op ty a b) = refl
    by_parts None (Icmp cond ty a b) = refl
    by_parts None (Select c ty a b) = refl
    by_parts None (Cast op from a to) = refl
    by_parts None (Alloca ty number) = refl
    by_parts None (Load ty at) = refl
    by_parts None (Store ty v at) = refl
    by_parts None (Gep ty base indices) = refl
    by_parts None (Call result callee args) = refl
    by_parts None (Phi ty arms) = refl
    by_parts None (Rmw op at ty v) = refl
    by_parts None (Cmpxchg at ty expected written) = refl
    by_parts None (Extract ty of index) = refl
    by_parts None Fence = refl
    by_parts None (Ret v) = refl
    by_parts None (Br label) = refl
    by_parts None (CondBr c first second) = refl
    by_parts None (Switch ty v other cases) = refl
    by_parts None Unreachable = refl
    by_parts (Some x) (Bin op ty a b) = refl
    by_parts (Some x) (Icmp cond ty a b) = refl
    by_parts (Some x) (Select c ty a b) = refl
    by_parts (Some x) (Cast op from a to) = refl
    by_parts (Some x) (Alloca ty number) = refl
    by_parts (Some x) (Load ty at) = refl
    by_parts (Some x) (Store ty v at) = refl
    by_parts (Some x) (Gep ty base indices) = refl
    by_parts (Some x) (Call result callee args) = refl
    by_parts (Some x) (Phi ty arms) = refl
    by_parts (Some x) (Rmw op at ty v) = refl
    by_parts (Some x) (Cmpxchg at ty expected written) = refl
    by_parts (Some x) (Extract ty of index) = refl
    by_parts (Some x) Fence = refl
    by_parts (Some x) (Ret v) = refl
    by_parts (Some x) (Br label) = refl
    by_parts (Some x) (CondBr c first second) = refl
    by_parts (Some x) (Switch ty v other cases) = refl
    by_parts (Some x) Unreachable = refl

all_instrs : (is : List Instr)
    → length (flat_map (name_past 0) is) + length (flat_map (name_past 1) is)
    ≡ length (flat_map cells_of_instruction is)
all_instrs [] = refl
all_instrs (i ∷ is) =
    let a = length-append (name_past 0 i) (flat_map (name_past 0) is) in
    let b = length-append (name_past 1 i) (flat_map (name_past 1) is) in
    let c = length-append (cells_of_instruction i) (flat_map cells_of_instruction is) in
    let one = one_instr i in
    let rest = all_instrs is in
    omega arith

-- a frame of the code has as many cells as one of the module
pub same_cells : (f : Function) → cell_total (cells_for f) ≡ length (cells_of f)
same_cells f =
    let a = length-append (parameter_names f) (flat_map (name_past 0) (instructions_of f)) in
    let b = length-append (map cell_of_parameter f.params) (flat_map cells_of_instruction (instructions_of f)) in
    let c : length (parameter_names f) ≡ length f.params = length-map f.params (λ (p : Param). p.name) in
    let d : length (map cell_of_parameter f.params) ≡ length f.params = length-map f.params cell_of_parameter in
    let e = all_instrs (instructions_of f) in
    omega arith
