-- The sites of a function go along with its placed instructions, one by one.
use Rattle.std.proofs.Common.{◌≡◌, ◌<◌, ◌+◌, ◌++◌, ℕ, zero, suc, List, [], ◌∷◌, length, take, slice_index_or, Some}
use Rattle.std.proofs.Common.{refl, sym, ap, ◌∙◌, subst, arith}
use Rattle.std.specs.Prelude.{slice_get}
use Rattle.std.proofs.Math.Seq.{take-append_seam}
use Rattle.std.proofs.lemmas.List.{append_assoc, length-append}
use Rattle.ds_ast.specs.declared.instr.Instr.{Instr}
use Rattle.ds_ast.specs.declared.module.Function.{Function}
use Rattle.ds_ast.specs.declared.module.Block.{Block}
use Rattle.ds_shape.specs.Placed.{Placed, placed_in, placed_from, placed_of}
use Rattle.ds_check_blocks.specs.declared.sites.Site.{Site}
use Rattle.ds_check_blocks.specs.Sites.{sites_in, sites_from, IsSite}

get_seam : {X : Type 0} (before : List X) (x : X) (after : List X)
    → slice_get (before ++ x ∷ after) (length before) ≡ Some x
get_seam [] x after = refl
get_seam (y ∷ before) x after = get_seam before x after

-- each site is that of the instruction at its place, which is numbered from one on
abbrev GoAlong : Function → ℕ → List Site → List Placed → Type 0
GoAlong f n [] [] = Unit {0}
GoAlong f n [] (p ∷ ps) = ⊥
GoAlong f n (s ∷ ss) [] = ⊥
GoAlong f n (s ∷ ss) (p ∷ ps) = IsSite f n s p × GoAlong f (suc n) ss ps

in_block : (f : Function) (b : ℕ) (c : Block) (n : ℕ) (front rest : List Instr) → slice_get f.blocks b ≡ Some c
    → c.code ≡ front ++ rest
    → GoAlong f n (sites_in b (length front) (length rest)) (placed_in n c front rest)
in_block f b c n front [] here is = tt
in_block f b c n front (i ∷ rest) here is =
    let site : IsSite f n (record { block = b; index = length front })
    (record { number = n; block = c; front = front; instr = i }) =
    record {
      numbered = refl;
      block = here;
      instr = ap (λ code. slice_get code (length front)) is ∙ get_seam front i rest;
      front = sym (take-append_seam front (i ∷ rest)) ∙ ap (take (length front)) (sym is);
    } in
    let many : length (front ++ i ∷ []) ≡ suc (length front) = length-append front (i ∷ []) ∙ omega arith in (
      site,
      subst (λ k. GoAlong f (suc n) (sites_in b k (length rest)) (placed_in (suc n) c (front ++ i ∷ []) rest)) many
          (in_block f b c (suc n) (front ++ i ∷ []) rest here (is ∙ sym (append_assoc front (i ∷ []) rest))),
    )

go_behind : (f : Function) (n : ℕ) (ss : List Site) (ps : List Placed) (ts : List Site) (qs : List Placed)
    → GoAlong f n ss ps → GoAlong f (n + length ps) ts qs
    → GoAlong f n (ss ++ ts) (ps ++ qs)
go_behind f n [] [] ts qs a b = let e : n + 0 ≡ n = omega arith in subst (λ k. GoAlong f k ts qs) e b
go_behind f n [] (p ∷ ps) ts qs a b = absurd a
go_behind f n (s ∷ ss) [] ts qs a b = absurd a
go_behind f n (s ∷ ss) (p ∷ ps) ts qs a b =
    let e : n + suc (length ps) ≡ suc n + length ps = omega arith in
    (a.0, go_behind f (suc n) ss ps ts qs a.1 (subst (λ k. GoAlong f k ts qs) e b))

many_placed : (n : ℕ) (c : Block) (front rest : List Instr) → length (placed_in n c front rest) ≡ length rest
many_placed n c front [] = refl
many_placed n c front (i ∷ rest) = ap suc (many_placed (suc n) c (front ++ i ∷ []) rest)

from_blocks : (f : Function) (n : ℕ) (before bs : List Block) → f.blocks ≡ before ++ bs
    → GoAlong f n (sites_from (length before) bs) (placed_from n bs)
from_blocks f n before [] is = tt
from_blocks f n before (b ∷ bs) is =
    let here : slice_get f.blocks (length before) ≡ Some b = ap (λ cs. slice_get cs (length before)) is
    ∙ get_seam before b bs in
    let many : length (before ++ b ∷ []) ≡ suc (length before) = length-append before (b ∷ []) ∙ omega arith in
    let rest : GoAlong f (n + length b.code) (sites_from (length (before ++ b ∷ [])) bs)
    (placed_from (n + length b.code) bs) =
    from_blocks f (n + length b.code) (before ++ b ∷ []) bs (is ∙ sym (append_assoc before (b ∷ []) bs)) in
    go_behind f n (sites_in (length before) 0 (length b.code)) (placed_in n b [] b.code)
    (sites_from (suc (length before)) bs) (placed_from (n + length b.code) bs)
    (in_block f (length before) b n [] b.code here refl)
    (subst (λ k. GoAlong f (n + k) (sites_from (suc (length before)) bs) (placed_from (n + length b.code) bs))
    (sym (many_placed n b [] b.code))
    (subst (λ k. GoAlong f (n + length b.code) (sites_from k bs) (placed_from (n + length b.code) bs)) many rest))

go_many : (f : Function) (n : ℕ) (ss : List Site) (ps : List Placed) → GoAlong f n ss ps → length ss ≡ length ps
go_many f n [] [] a = refl
go_many f n [] (p ∷ ps) a = absurd a
go_many f n (s ∷ ss) [] a = absurd a
go_many f n (s ∷ ss) (p ∷ ps) a = ap suc (go_many f (suc n) ss ps a.1)

go_at : (f : Function) (n i : ℕ) (ss : List Site) (ps : List Placed) (s : Site) (p : Placed) → GoAlong f n ss ps
    → i < length ps
    → IsSite f (n + i) (slice_index_or ss i s) (slice_index_or ps i p)
go_at f n i [] [] s p a h = absurd (omega (arith, h))
go_at f n i [] (q ∷ ps) s p a h = absurd a
go_at f n i (t ∷ ss) [] s p a h = absurd a
go_at f n zero (t ∷ ss) (q ∷ ps) s p a h = let e : n ≡ n + 0 = omega arith in subst (λ k. IsSite f k t q) e a.0
go_at f n (suc i) (t ∷ ss) (q ∷ ps) s p a h =
    let e : suc n + i ≡ n + suc i = omega arith in
    subst (λ k. IsSite f k (slice_index_or ss i s) (slice_index_or ps i p)) e
    (go_at f (suc n) i ss ps s p a.1 (omega (arith, h)))

-- there are as many sites as placed instructions
pub many_sites : (f : Function) (ss : List Site) → ss ≡ sites_from 0 f.blocks → length ss ≡ length (placed_of f)
many_sites f ss is =
    ap length is ∙ go_many f 0 (sites_from 0 f.blocks) (placed_of f) (from_blocks f 0 [] f.blocks refl)

-- and the one of a number is that of the instruction of this number
pub site_of : (f : Function) (ss : List Site) (i : ℕ) (s : Site) (p : Placed) → ss ≡ sites_from 0 f.blocks
    → i < length (placed_of f) → s ≡ slice_index_or ss i s
    → IsSite f i s (slice_index_or (placed_of f) i p)
site_of f ss i s p is h at =
    let first : 0 + i ≡ i = omega arith in
    subst (λ t. IsSite f i t (slice_index_or (placed_of f) i p)) (sym (at ∙ ap (λ ts. slice_index_or ts i s) is))
    (subst (λ k. IsSite f k (slice_index_or (sites_from 0 f.blocks) i s) (slice_index_or (placed_of f) i p)) first
    (go_at f 0 i (sites_from 0 f.blocks) (placed_of f) s p (from_blocks f 0 [] f.blocks refl) h))
