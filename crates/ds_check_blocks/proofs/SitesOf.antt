-- One site more, and which instruction stands at which.
use Rattle.std.proofs.Common.{◌≡◌, ◌<◌, ◌+◌, ◌++◌, ℕ, zero, suc, List, [], ◌∷◌, length, take, slice_index_or, sym, ap}
use Rattle.std.proofs.Common.{◌∙◌, arith}
use Rattle.std.proofs.Math.Seq.{take-suc}
use Rattle.std.proofs.lemmas.List.{append_assoc, append-nil, length-take}
use Rattle.ds_ast.specs.declared.module.Block.{Block}
use Rattle.ds_check_blocks.specs.declared.sites.Site.{Site}
use Rattle.ds_check_blocks.specs.Sites.{sites_in, sites_from}

-- ONE MORE

pub one_more : (b k n : ℕ) → sites_in b k (suc n) ≡ sites_in b k n ++ record { block = b; index = k + n } ∷ []
one_more b k zero = let there : k ≡ k + 0 = omega arith in ap (λ i. record { block = b; index = i } ∷ []) there
one_more b k (suc n) =
    let rest : sites_in b (suc k) (suc n) ≡ sites_in b (suc k) n ++ record { block = b; index = suc k + n } ∷ [] =
    one_more b (suc k) n in
    let same : suc k + n ≡ k + suc n = omega arith in
    ap (λ (s : List Site). record { block = b; index = k } ∷ s)
    (rest ∙ ap (λ i. sites_in b (suc k) n ++ record { block = b; index = i } ∷ []) same)

from_more : (n : ℕ) (bs : List Block) (b : Block) → sites_from n (bs ++ b ∷ []) ≡ sites_from n bs
    ++ sites_in (n + length bs) 0 (length b.code)
from_more n [] b = let there : n ≡ n + 0 = omega arith in append-nil (sites_in n 0 (length b.code))
    ∙ ap (λ i. sites_in i 0 (length b.code)) there
from_more n (c ∷ bs) b =
    let rest : sites_from (suc n) (bs ++ b ∷ []) ≡ sites_from (suc n) bs
    ++ sites_in (suc n + length bs) 0 (length b.code) = from_more (suc n) bs b in
    let same : suc n + length bs ≡ n + suc (length bs) = omega arith in
    ap (λ s. sites_in n 0 (length c.code) ++ s)
    (rest ∙ ap (λ i. sites_from (suc n) bs ++ sites_in i 0 (length b.code)) same)
    ∙ sym (append_assoc (sites_in n 0 (length c.code)) (sites_from (suc n) bs)
    (sites_in (n + suc (length bs)) 0 (length b.code)))

-- the sites of one block more
pub block_more : (bs : List Block) (i : ℕ) (b : Block) → i < length bs → b ≡ slice_index_or bs i b
    → sites_from 0 (take (suc i) bs) ≡ sites_from 0 (take i bs) ++ sites_in i 0 (length b.code)
block_more bs i b h is =
    let many : 0 + length (take i bs) ≡ i = grind (arith, length-take i bs) in
    ap (sites_from 0) (take-suc bs i b h) ∙ ap (λ c. sites_from 0 (take i bs ++ c ∷ [])) (sym is)
    ∙ from_more 0 (take i bs) b
    ∙ ap (λ n. sites_from 0 (take i bs) ++ sites_in n 0 (length b.code)) many

pub pushed : (old now new : List Site) (b n : ℕ) → now ≡ old ++ sites_in b 0 n
    → new ≡ now ++ record { block = b; index = n } ∷ [] → new ≡ old ++ sites_in b 0 (n + 1)
pushed old now new b n before push =
    let next : n + 1 ≡ suc n = omega arith in
    let there : 0 + n ≡ n = omega arith in
    let more : sites_in b 0 (n + 1) ≡ sites_in b 0 n ++ record { block = b; index = n } ∷ [] =
    ap (sites_in b 0) next ∙ one_more b 0 n ∙ ap (λ i. sites_in b 0 n ++ record { block = b; index = i } ∷ []) there in
    push ∙ ap (λ s. s ++ record { block = b; index = n } ∷ []) before
    ∙ append_assoc old (sites_in b 0 n) (record { block = b; index = n } ∷ []) ∙ ap (λ s. old ++ s) (sym more)

pub blocks_pushed : (bs : List Block) (i : ℕ) (b : Block) (now new : List Site) (len : ℕ) → i < length bs
    → b ≡ slice_index_or bs i b → now ≡ sites_from 0 (take i bs)
    → len ≡ length b.code → new ≡ now ++ sites_in i 0 len → new ≡ sites_from 0 (take (i + 1) bs)
blocks_pushed bs i b now new len h is before many push =
    let next : suc i ≡ i + 1 = omega arith in
    push ∙ ap (λ s. s ++ sites_in i 0 len) before ∙ ap (λ n. sites_from 0 (take i bs) ++ sites_in i 0 n) many
    ∙ sym (block_more bs i b h is) ∙ ap (λ n. sites_from 0 (take n bs)) next
