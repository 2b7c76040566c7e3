-- The phis at the front of blocks, one block more and at one block.
use Rattle.std.proofs.Common.{◌≡◌, ◌<◌, ◌+◌, ◌++◌, ℕ, zero, suc, List, [], ◌∷◌, length, take, slice_index_or, Some}
use Rattle.std.proofs.Common.{refl, sym, ap, ◌∙◌, subst, arith}
use Rattle.std.specs.Prelude.{slice_get}
use Rattle.std.proofs.Math.Seq.{take-suc}
use Rattle.ds_ast.specs.declared.module.Block.{Block}
use Rattle.ds_check.specs.Front.{IsFront, AreFronts}

push_zip : (bs : List Block) (ns : List ℕ) (b : Block) (n : ℕ) → AreFronts bs ns → IsFront b.code n
    → AreFronts (bs ++ b ∷ []) (ns ++ n ∷ [])
push_zip [] [] b n zip front = (front, tt)
push_zip [] (m ∷ ns) b n zip front = absurd zip
push_zip (c ∷ bs) [] b n zip front = absurd zip
push_zip (c ∷ bs) (m ∷ ns) b n zip front = (zip.0, push_zip bs ns b n zip.1 front)

-- each block has a number
pub as_many : (bs : List Block) (ns : List ℕ) → AreFronts bs ns → length ns ≡ length bs
as_many [] [] zip = refl
as_many [] (m ∷ ns) zip = absurd zip
as_many (c ∷ bs) [] zip = absurd zip
as_many (c ∷ bs) (m ∷ ns) zip = ap suc (as_many bs ns zip.1)

-- the number at a place is that of the block there
pub front_at : (bs : List Block) (ns : List ℕ) (k n : ℕ) (b : Block) → AreFronts bs ns → slice_get bs k ≡ Some b
    → n ≡ slice_index_or ns k n → IsFront b.code n
front_at [] ns k n b zip here at = absurd cc
front_at (c ∷ bs) [] k n b zip here at = absurd zip
front_at (c ∷ bs) (m ∷ ns) zero n b zip here at =
    let e : c ≡ b = cc in subst (λ d. IsFront d.code n) e (subst (IsFront c.code) (sym at) zip.0)
front_at (c ∷ bs) (m ∷ ns) (suc k) n b zip here at = front_at bs ns k n b zip.1 here at

pub front_more : (bs : List Block) (i : ℕ) (b : Block) (now new : List ℕ) (n : ℕ) → i < length bs
    → b ≡ slice_index_or bs i b → AreFronts (take i bs) now → IsFront b.code n
    → new ≡ now ++ n ∷ [] → AreFronts (take (i + 1) bs) new
front_more bs i b now new n h is zip front push =
    let next : suc i ≡ i + 1 = omega arith in
    let more : take i bs ++ b ∷ [] ≡ take (i + 1) bs = ap (λ x. take i bs ++ x ∷ []) is ∙ sym (take-suc bs i b h)
    ∙ ap (λ k. take k bs) next in
    subst (λ ns. AreFronts (take (i + 1) bs) ns) (sym push)
    (subst (λ xs. AreFronts xs (now ++ n ∷ [])) more (push_zip (take i bs) now b n zip front))
