-- One instruction, judged by its rules.
use Rattle.std.proofs.Common.{◌≡◌, ◌↔◌, ◌<◌, ◌≤◌, IsTrue, ℕ, min, Bool, List, [], length, take, slice_index_or, Some}
use Rattle.std.proofs.Common.{None, Result, Ok, Err, sym, ap, ◌∙◌, subst, inl, inr, arith}
use Rattle.std.specs.Prelude.{All, IfOk, slice_get}
use Rattle.std.proofs.lemmas.Option.{slice_get_within, slice_get-get_or}
use Rattle.std.proofs.lemmas.List.{length-take, get_or-take, get_or_default}
use Rattle.std.proofs.lemmas.Bool.{leb-true, le-leb}
use Rattle.std.proofs.lemmas.Bool.Decides.{leb_tells}
use Rattle.std.proofs.Math.Dec.{leb}
use Rattle.ds_ast.specs.declared.instr.Instr.{Instr}
use Rattle.ds_ast.specs.declared.module.Module.{Module}
use Rattle.ds_ast.specs.declared.module.Function.{Function}
use Rattle.ds_ast.specs.declared.module.Block.{Block}
use Rattle.ds_ast.specs.declared.instr.Op.{Op}
use Rattle.std.specs.declared.alloc.AllocError.{AllocError}
use Rattle.ds_shape.specs.Flow.{arms_of}
use Rattle.ds_shape.specs.Types.{IsTypedOp}
use Rattle.ds_shape.specs.Placed.{values_of, Placed, KeepsDefined, KeepsTypes, KeepsPhi, IsPhi, IsGoodPhi, IsDefined}
use Rattle.ds_shape.specs.Placed.{GivesRegister}
use Rattle.ds_check_blocks.specs.declared.sites.Site.{Site}
use Rattle.ds_check_blocks.specs.Sites.{IsSite}
use Rattle.ds_check.specs.Front.{IsFront, AreFronts}
use Rattle.ds_check.specs.declared.instr.Rule.TheVariants.{GoodPhi}
use Rattle.ds_check.specs.Instr.{IsBroken}
use Rattle.ds_check.proofs.PhiFronts.{as_many, front_at}

-- only phis stand before an instruction exactly if it stands at most behind the phis at the front
front_decides : (code : List Instr) (n k : ℕ) (i : Instr) → IsFront code n → slice_get code k ≡ Some i
    → (k ≤ n) ↔ All IsPhi (take k code)
front_decides code n k i front here =
    let inside : k < length code = slice_get_within code k i here in (
      (λ h j d l.
          let lk : length (take k code) ≡ min k (length code) = length-take k code in
          let jk : j < k = omega (arith, l, lk, inside) in
          let jn : j < length (take n code) = let ln : length (take n code) ≡ min n (length code) =
          length-take n code in omega (arith, jk, h, inside, ln) in
          subst IsPhi (get_or-take n code j d (omega (arith, jk, h)) ∙ sym (get_or-take k code j d jk))
          (front.phis j d jn)),
      λ phis. elim (leb_tells k n) [
        | inl le ↦ le.1
        | inr not ↦
            let more : n < k = not.1 in
            let there : n < length code = omega (arith, more, inside) in
            let x : Instr = slice_index_or code n i in
            let lk : length (take k code) ≡ min k (length code) = length-take k code in
            absurd (front.other x (slice_get-get_or code n i there)
            (subst IsPhi (get_or-take k code n i more) (phis n i (omega (arith, lk, more, inside)))))
      ],
    )

module _ (f : Function) (fronts : List ℕ) (are : AreFronts f.blocks fronts) where
  pub block_in : (n : ℕ) (s : Site) (p : Placed) → IsSite f n s p → s.block < length fronts
  block_in n s p site = let e : length fronts ≡ length f.blocks = as_many f.blocks fronts are in
      let h : s.block < length f.blocks = slice_get_within f.blocks s.block p.block site.block in omega (arith, e, h)

  pub behind_phis : (n : ℕ) (s : Site) (p : Placed) → IsSite f n s p
      → IsTrue (leb s.index (slice_index_or fronts s.block 0)) ↔ All IsPhi p.front
  behind_phis n s p site =
      let h = block_in n s p site in
      let front : IsFront p.block.code (slice_index_or fronts s.block 0) =
      front_at f.blocks fronts s.block (slice_index_or fronts s.block 0) p.block are site.block
      (get_or_default fronts s.block 0 (slice_index_or fronts s.block 0) h) in
      let decides = front_decides p.block.code (slice_index_or fronts s.block 0) s.index p.instr front site.instr in
      let same : p.front ≡ take s.index p.block.code = site.front in (
        (λ t. subst (All IsPhi) (sym same) (decides.0 (leb-true s.index (slice_index_or fronts s.block 0) t))),
        λ phis. le-leb s.index (slice_index_or fronts s.block 0) (decides.1 (subst (All IsPhi) same phis)),
      )

-- a phi that is judged is judged by its rule
pub phi_kept : (f : Function) (s : Site) (o : Op) (behind : Bool) (r : Result Bool AllocError) (n : ℕ) (p : Placed)
    → IsSite f n s p → (arms_of o ≡ [] → ⊥)
    → ((n : ℕ) (p : Placed) → IsSite f n s p → (IsTrue behind ↔ All IsPhi p.front))
    → IfOk r (λ good. (c : Block) (front : List Instr) → slice_get f.blocks s.block ≡ Some c
    → (IsTrue behind ↔ All IsPhi front) → (IsTrue good ↔ IsGoodPhi f c front o))
    → IfOk r (λ kept. (n : ℕ) (p : Placed) → IsSite f n s p → o ≡ p.instr.op → (IsTrue kept ↔ KeepsPhi f p))
phi_kept f s o behind (Err e) n p site phi known judged = judged
phi_kept f s o behind (Ok good) n p site phi known judged =
    λ m q there same.
    let g = judged q.block q.front there.block (known m q there) in (
      (λ t is. subst (λ (op : Op). IsGoodPhi f q.block q.front op) same (g.0 t)),
      λ kept. g.1 (subst (λ (op : Op). IsGoodPhi f q.block q.front op) (sym same)
          (kept (λ none. phi (ap arms_of same ∙ none)))),
    )

module _ (m : Module) (f : Function) (o : Op) (number : ℕ) where
  abbrev Typed : Type 0
  Typed = IsTypedOp m f o × (number ≡ 0 → GivesRegister f.result)

  types_of : (s : Site) (p : Placed) → IsSite f number s p → o ≡ p.instr.op → Typed → KeepsTypes m f p
  types_of s p site same typed = (subst (IsTypedOp m f) same typed.0, λ first. typed.1 (sym site.numbered ∙ first))

  defined_of : (p : Placed) → o ≡ p.instr.op → All (IsDefined m f) (values_of o) → KeepsDefined m f p
  defined_of p same all = subst (λ q. All (IsDefined m f) (values_of q)) same all

  -- no rule is broken
  pub none_broken : (s : Site) → All (IsDefined m f) (values_of o) → Typed
      → ((n : ℕ) (p : Placed) → IsSite f n s p → o ≡ p.instr.op → KeepsPhi f p)
      → (p : Placed) → IsSite f number s p → o ≡ p.instr.op → IsBroken m f p None
  none_broken s all typed phi p site same =
      (defined_of p same all, types_of s p site same typed, phi number p site same)

  -- only that of phis is
  pub phi_broken : (s : Site) → All (IsDefined m f) (values_of o) → Typed
      → ((n : ℕ) (p : Placed) → IsSite f n s p → o ≡ p.instr.op → KeepsPhi f p → ⊥)
      → (p : Placed) → IsSite f number s p → o ≡ p.instr.op → IsBroken m f p (Some GoodPhi)
  phi_broken s all typed phi p site same =
      (defined_of p same all, types_of s p site same typed, phi number p site same)
