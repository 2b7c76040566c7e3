-- Instructions of a function, and the rules that each keeps.
use Rattle.std.proofs.Common.{◌≡◌, ℕ, zero, suc, ◌+◌, true, false, List}
use Rattle.std.proofs.Common.{[], ◌∷◌, ◌++◌, length, take, Option, Some, None}
use Rattle.std.proofs.Common.{slice_get, refl, ap, sym, ◌∙◌, subst, append_assoc, append-nil, inl, inr, ◌⊎◌}
use Rattle.std.proofs.Common.{true≢false, All, is_some}
use Rattle.ds_ast.specs.declared.name.Name.{Name}
use Rattle.ds_ast.specs.declared.instr.Op.{Op}
use Rattle.ds_ast.specs.declared.instr.Op.TheVariants.{Bin, Icmp, Select, Cast, Alloca, Load, Store, Gep, Call, Phi}
use Rattle.ds_ast.specs.declared.instr.Op.TheVariants.{Rmw, Cmpxchg, Extract, Fence, Ret, Br, CondBr, Switch}
use Rattle.ds_ast.specs.declared.instr.Op.TheVariants.{Unreachable}
use Rattle.ds_ast.specs.declared.instr.Instr.{Instr}
use Rattle.ds_ast.specs.declared.module.Module.{Module}
use Rattle.ds_ast.specs.declared.module.Function.{Function}
use Rattle.ds_ast.specs.declared.module.Block.{Block}
use Rattle.ds_ast.specs.Bounds.{IsInstr, IsBlock, IsFunction, IsEnded, is_terminator, has_result}
use Rattle.ds_shape.specs.Types.{Stands}
use Rattle.ds_shape.specs.Flow.{targets_of}
use Rattle.ds_shape.specs.Placed.{Placed, placed_in, placed_from, placed_of}
use Rattle.ds_shape.specs.Breaches.{each_standing}
use Rattle.ds_shape.specs.Accepted.{IsGoodInstr, IsGoodFunction, IsGood, IsWellFormed}
use Rattle.ds_safe_laws.proofs.Lists.{stands_head, stands_tail, stands_left, stands_right, stands_cases, none_stands}
use Rattle.ds_safe_laws.proofs.Lists.{split_at}

-- the instruction behind these of a block is one of the function's
in_block : (number : ℕ) (b : Block) (done front : List Instr) (i : Instr) (back : List Instr)
    → (k : ℕ) × Stands (record { number = k; block = b; front = done ++ front; instr = i })
    (placed_in number b done (front ++ i ∷ back))
in_block number b done [] i back = (
  number,
  subst (λ (is : List Instr). Stands (record { number = number; block = b; front = is; instr = i })
      (placed_in number b done (i ∷ back))) (sym (append-nil done)) (stands_head _ _),
)
in_block number b done (j ∷ front) i back =
    let r = in_block (suc number) b (done ++ j ∷ []) front i back in (
      r.0,
      stands_tail _ _ _ (subst (λ (is : List Instr). Stands (record { number = r.0; block = b; front = is; instr = i })
          (placed_in (suc number) b (done ++ j ∷ []) (front ++ i ∷ back))) (append_assoc done (j ∷ []) front) r.1),
    )

in_blocks : (number : ℕ) (bs : List Block) (b : Block) (front : List Instr) (i : Instr) (back : List Instr)
    → Stands b bs → b.code ≡ front ++ i ∷ back
    → (k : ℕ) × Stands (record { number = k; block = b; front = front; instr = i }) (placed_from number bs)
in_blocks number [] b front i back s e = none_stands b s
in_blocks number (c ∷ bs) b front i back s e =
    by_cases (λ t. in_blocks (number + length c.code) bs b front i back t e) (stands_cases b c bs s)
  where
    by_cases : (Stands b bs → (k : ℕ) × Stands (record { number = k; block = b; front = front; instr = i })
        (placed_from (number + length c.code) bs))
        → (c ≡ b) ⊎ Stands b bs
        → (k : ℕ) × Stands (record { number = k; block = b; front = front; instr = i }) (placed_from number (c ∷ bs))
    by_cases rec (inl same) =
        subst (λ (d : Block). (k : ℕ) × Stands (record { number = k; block = b; front = front; instr = i })
        (placed_in number d [] d.code ++ placed_from (number + length d.code) bs)) (sym same)
        (let r = in_block number b [] front i back in (
          r.0,
          stands_left _ _ _ (subst (λ is. Stands (record { number = r.0; block = b; front = front; instr = i })
              (placed_in number b [] is)) (sym e) r.1),
        ))
    by_cases rec (inr t) =
        let r = rec t in (r.0, stands_right _ _ _ r.1)

-- what a function that is defined keeps
pub record Fine (m : Module) (f : Function) : Type 0 where
  pub bounds : All IsBlock f.blocks
  pub good : IsGoodFunction m f

pub fine : (m : Module) → IsWellFormed m → (f : Function) → Stands f m.functions → (f.blocks ≡ [] → ⊥) → Fine m f
fine m well f s some = record {
  bounds = (each_standing IsFunction m.functions well.bounds.functions f s).blocks;
  good = each_standing (IsGood m) m.functions well.functions f s some;
}

-- an instruction of a block, and the rules that it keeps
abbrev pub at : (number : ℕ) (b : Block) (front : List Instr) (i : Instr) → Placed
at number b front i = record { number = number; block = b; front = front; instr = i }

pub good_instr : (m : Module) (f : Function) → Fine m f → (b : Block) → Stands b f.blocks → (k : ℕ) (i : Instr)
    → slice_get b.code k ≡ Some i → (number : ℕ) × IsGoodInstr m f (at number b (take k b.code) i)
good_instr m f good b s k i e =
    let back = split_at b.code k i e in
    let r = in_blocks 0 f.blocks b (take k b.code) i back.0 s back.1 in
    (r.0, each_standing (IsGoodInstr m f) (placed_of f) good.good.instructions (at r.0 b (take k b.code) i) r.1)

pub bound_instr : (m : Module) (f : Function) → Fine m f → (b : Block) → Stands b f.blocks → (i : Instr)
    → Stands i b.code → IsInstr i
bound_instr m f good b s i t =
    each_standing IsInstr b.code (each_standing IsBlock f.blocks good.bounds b s).instructions i t

-- TERMINATORS

-- behind an instruction that is none stands another
pub ended_next : (is : List Instr) → IsEnded is → (k : ℕ) (i : Instr) → slice_get is k ≡ Some i
    → is_terminator i.op ≡ false → (j : Instr) × (slice_get is (suc k) ≡ Some j)
ended_next [] ended k i e f = absurd ended
ended_next (x ∷ []) ended zero i e f =
    let same : x ≡ i = cc in
    absurd (true≢false (sym ended ∙ ap (λ (y : Instr). is_terminator y.op) same ∙ f))
ended_next (x ∷ []) ended (suc k) i e f = absurd (cc)
ended_next (x ∷ y ∷ is) ended zero i e f = (y, refl)
ended_next (x ∷ y ∷ is) ended (suc k) i e f = ended_next (y ∷ is) ended.1 k i e f

-- a terminator stands last
pub ended_last : (is : List Instr) → IsEnded is → (k : ℕ) (i : Instr) → slice_get is k ≡ Some i
    → is_terminator i.op ≡ true → is ≡ take k is ++ i ∷ []
ended_last [] ended k i e f = absurd ended
ended_last (x ∷ []) ended zero i e f = let same : x ≡ i = cc in ap (λ y. y ∷ []) same
ended_last (x ∷ []) ended (suc k) i e f = absurd (cc)
ended_last (x ∷ y ∷ is) ended zero i e f =
    let same : x ≡ i = cc in
    absurd (true≢false (sym (ap (λ (z : Instr). is_terminator z.op) same ∙ f) ∙ ended.0))
ended_last (x ∷ y ∷ is) ended (suc k) i e f = ap (λ zs. x ∷ zs) (ended_last (y ∷ is) ended.1 k i e f)

pub ended_first : (is : List Instr) → IsEnded is → (i : Instr) × (slice_get is 0 ≡ Some i)
ended_first [] ended = absurd ended
ended_first (x ∷ is) ended = (x, refl)

-- what names a label is a terminator
pub leads_last : (op : Op) (to : Name) → Stands to (targets_of op) → is_terminator op ≡ true
leads_last (Bin op ty a b) to s = none_stands to s
leads_last (Icmp cond ty a b) to s = none_stands to s
leads_last (Select c ty a b) to s = none_stands to s
leads_last (Cast op from a to') to s = none_stands to s
leads_last (Alloca ty count) to s = none_stands to s
leads_last (Load ty at') to s = none_stands to s
leads_last (Store ty value at') to s = none_stands to s
leads_last (Gep ty base indices) to s = none_stands to s
leads_last (Call result callee args) to s = none_stands to s
leads_last (Phi ty arms) to s = none_stands to s
leads_last (Rmw op at' ty value) to s = none_stands to s
leads_last (Cmpxchg at' ty expected new) to s = none_stands to s
leads_last (Extract ty of index) to s = none_stands to s
leads_last Fence to s = none_stands to s
leads_last (Ret value) to s = refl
leads_last (Br label) to s = refl
leads_last (CondBr c first second) to s = refl
leads_last (Switch ty value other cases) to s = refl
leads_last Unreachable to s = refl

-- a terminator has no result
pub last_silent : (op : Op) → is_terminator op ≡ true → has_result op ≡ false
last_silent (Bin op ty a b) e = absurd (true≢false (sym e))
last_silent (Icmp cond ty a b) e = absurd (true≢false (sym e))
last_silent (Select c ty a b) e = absurd (true≢false (sym e))
last_silent (Cast op from a to) e = absurd (true≢false (sym e))
last_silent (Alloca ty count) e = absurd (true≢false (sym e))
last_silent (Load ty at') e = absurd (true≢false (sym e))
last_silent (Store ty value at') e = absurd (true≢false (sym e))
last_silent (Gep ty base indices) e = absurd (true≢false (sym e))
last_silent (Call result callee args) e = absurd (true≢false (sym e))
last_silent (Phi ty arms) e = absurd (true≢false (sym e))
last_silent (Rmw op at' ty value) e = absurd (true≢false (sym e))
last_silent (Cmpxchg at' ty expected new) e = absurd (true≢false (sym e))
last_silent (Extract ty of index) e = absurd (true≢false (sym e))
last_silent Fence e = absurd (true≢false (sym e))
last_silent (Ret value) e = refl
last_silent (Br label) e = refl
last_silent (CondBr c first second) e = refl
last_silent (Switch ty value other cases) e = refl
last_silent Unreachable e = refl

pub nameless : (name : Option Name) → is_some name ≡ false → name ≡ None
nameless None e = refl
nameless (Some x) e = absurd (true≢false e)
