-- Labels that may be branched to, and the instructions that name them.
use Rattle.std.proofs.Common.{◌≡◌, ◌<◌, ◌+◌, ◌↔◌, ℕ, zero, suc, List, [], ◌∷◌, length, slice_index_or, slice_get}
use Rattle.std.proofs.Common.{Option, Some, None, refl, sym, ap, ◌∙◌, subst, false, true≢false, arith}
use Rattle.std.specs.Prelude.{IsTrue, ltb, All, take}
use Rattle.std.proofs.lemmas.Bool.{lt-ltb, ltb-true}
use Rattle.std.proofs.lemmas.Option.{slice_get_within}
use Rattle.ds_ast.specs.declared.name.Name.{Name}
use Rattle.ds_ast.specs.declared.instr.Instr.{Instr}
use Rattle.ds_ast.specs.declared.module.Function.{Function}
use Rattle.ds_ast.specs.declared.module.Block.{Block}
use Rattle.ds_shape.specs.Flow.{targets_of}
use Rattle.ds_shape.specs.Placed.{Placed, placed_of, BreaksFirst, KeepsTargets, IsTarget}
use Rattle.ds_check_names.specs.Scope.{Means}
use Rattle.ds_check_names.specs.declared.meaning.Meaning.TheVariants.{Label}
use Rattle.ds_check_blocks.specs.declared.sites.Site.{Site}
use Rattle.ds_check_blocks.specs.Sites.{IsSite, sites_from}
use Rattle.ds_check_blocks.proofs.Along.{many_sites, site_of}
use Rattle.ds_shape.specs.Breaches.{breach_at, kept_more}
use Rattle.ds_check_blocks.proofs.Standing.{some_is, stands_at, number_of, item_at, got_at, there_is}

begins : {X : Type 0} (xs : List X) (x : X) → slice_get xs 0 ≡ Some x → (rest : List X) × (xs ≡ x ∷ rest)
begins [] x e = cc
begins (y ∷ xs) x e = (xs, cc)

module _ (f : Function) (label : Name) (r : Option ℕ) (named : (b : ℕ) → r ≡ Some b ↔ Means f label (Label b)) where
  one_number : (i j : ℕ) → r ≡ Some i → r ≡ Some j → i ≡ j
  one_number i j a b = some_is i j (sym a ∙ b)

  pub target_by : (number : ℕ) → r ≡ Some number → IsTrue (ltb 0 number) ↔ IsTarget f label
  target_by number is = (λ t. there (ltb-true 0 number t), λ a. lt-ltb 0 number (back a))
    where
      there : 0 < number → IsTarget f label
      there h =
          let m : Means f label (Label number) = (named number).0 is in (
            m.0,
            stands_at f.blocks number m.0 m.1,
            m.2,
            λ entry.
                let zero_is : number ≡ 0 =
                one_number number 0 is ((named 0).1 (m.0, ap (λ bs. slice_get bs 0) entry.1, m.2)) in
                omega (arith, h, zero_is),
          )

      back : IsTarget f label → 0 < number
      back a =
          let k : (k : ℕ) × (slice_get f.blocks k ≡ Some a.0) = number_of f.blocks a.0 a.1 in
          subst (λ n. 0 < n) (one_number k.0 number ((named k.0).1 (a.0, k.1, a.2)) is) (later k.0 k.1)
        where
          later : (k : ℕ) → slice_get f.blocks k ≡ Some a.0 → 0 < k
          later zero e = absurd (a.3 (begins f.blocks a.0 e))
          later (suc k) e = omega arith

  pub no_target : r ≡ None → IsTrue false ↔ IsTarget f label
  no_target none = (
    λ t. absurd (true≢false (sym t)),
    λ a.
        let k : (k : ℕ) × (slice_get f.blocks k ≡ Some a.0) = number_of f.blocks a.0 a.1 in
        let both : ◌≡◌ {A = Option ℕ} None (Some k.0) = sym none ∙ (named k.0).1 (a.0, k.1, a.2) in cc,
  )

-- INSTRUCTIONS BY NUMBER

-- what stands at a site
module _ (f g : Function) (n : ℕ) (s : Site) (is : f ≡ g) (h : n < length (placed_of f))
    (all : (p : Placed) → IsSite f n s (slice_index_or (placed_of f) n p)) where
  pub block_inside : s.block < length g.blocks
  block_inside =
      let p : (p : Placed) × (slice_get (placed_of f) n ≡ Some p) = there_is (placed_of f) n h in
      let there = (all p.0).block in
      subst (λ (x : Function). s.block < length x.blocks) is
      (slice_get_within f.blocks s.block (slice_index_or (placed_of f) n p.0).block there)

  same_block : (p : Placed) (c : Block) → c ≡ slice_index_or g.blocks s.block c
      → (slice_index_or (placed_of f) n p).block ≡ c
  same_block p c at =
      let b = (slice_index_or (placed_of f) n p).block in
      some_is b c (sym (all p).block ∙ ap (λ (x : Function). slice_get x.blocks s.block) is
      ∙ got_at g.blocks s.block c block_inside at)

  pub index_inside : (c : Block) → c ≡ slice_index_or g.blocks s.block c → s.index < length c.code
  index_inside c at =
      let p : (p : Placed) × (slice_get (placed_of f) n ≡ Some p) = there_is (placed_of f) n h in
      let q = slice_index_or (placed_of f) n p.0 in
      let there = (all p.0).instr in
      slice_get_within c.code s.index q.instr
      (subst (λ (b : Block). slice_get b.code s.index ≡ Some q.instr) (same_block p.0 c at) there)

  pub instr_there : (c : Block) (i : Instr) → c ≡ slice_index_or g.blocks s.block c
      → i ≡ slice_index_or c.code s.index i → (p : Placed) → (slice_index_or (placed_of f) n p).instr ≡ i
  instr_there c i at is_i p =
      let q = slice_index_or (placed_of f) n p in
      item_is (subst (λ (b : Block). slice_get b.code s.index ≡ Some q.instr) (same_block p c at) (all p).instr)
    where
      item_is : {x : Instr} → slice_get c.code s.index ≡ Some x → x ≡ i
      item_is {x} e = some_is x i (sym e ∙ got_at c.code s.index i (index_inside c at) is_i)

-- the instruction of a number has it
pub numbered_at : (f : Function) (n : ℕ) (p : Placed) → n < length (placed_of f)
    → (slice_index_or (placed_of f) n p).number ≡ n
numbered_at f n p h =
    let ss = sites_from 0 f.blocks in
    let s : (s : Site) × (slice_get ss n ≡ Some s) =
    there_is ss n (subst (λ k. n < k) (sym (many_sites f ss refl)) h) in
    let here : IsSite f n s.0 (slice_index_or (placed_of f) n p) =
    site_of f ss n s.0 p refl h (item_at ss n s.0 s.1) in
    here.numbered

-- GOING THROUGH THE INSTRUCTIONS

module _ (f g : Function) (n : ℕ) (i : Instr) (is : f ≡ g) (h : n < length (placed_of f))
    (all : (p : Placed) → (slice_index_or (placed_of f) n p).instr ≡ i) where
  the_item : (p : Placed) × (p ≡ slice_index_or (placed_of g) n p) × (p.instr ≡ i)
  the_item =
      let p : (p : Placed) × (slice_get (placed_of f) n ≡ Some p) = there_is (placed_of f) n h in
      let at : p.0 ≡ slice_index_or (placed_of f) n p.0 = item_at (placed_of f) n p.0 p.1 in
      (p.0, at ∙ ap (λ x. slice_index_or (placed_of x) n p.0) is, ap (λ (q : Placed). q.instr) at ∙ all p.0)

  inside : n < length (placed_of g)
  inside = subst (λ (x : Function). n < length (placed_of x)) is h

  -- the instruction breaks the rule
  pub breaks_at : All (KeepsTargets g) (take n (placed_of g)) → (All (IsTarget g) (targets_of i.op) → ⊥)
      → BreaksFirst (KeepsTargets g) g n
  breaks_at kept breaks =
      let p = the_item in
      let number : p.0.number ≡ n = ap (λ (q : Placed). q.number) p.1 ∙ numbered_at g n p.0 inside in (
        p.0,
        breach_at (KeepsTargets g) (placed_of g) n p.0 inside p.1 kept
            (λ keeps. breaks (subst (λ (j : Instr). All (IsTarget g) (targets_of j.op)) p.2 keeps)),
        sym number,
      )

  -- and keeps it
  pub keeps_at : All (KeepsTargets g) (take n (placed_of g)) → All (IsTarget g) (targets_of i.op)
      → All (KeepsTargets g) (take (n + 1) (placed_of g))
  keeps_at kept keeps =
      let p = the_item in
      kept_more (KeepsTargets g) (placed_of g) n p.0 inside p.1 kept
      (subst (λ (j : Instr). All (IsTarget g) (targets_of j.op)) (sym p.2) keeps)
