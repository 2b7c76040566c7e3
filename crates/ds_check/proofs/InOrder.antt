-- The instructions of a function, judged in the order of their numbers.
use Rattle.std.proofs.Common.{◌≡◌, ◌<◌, ◌≤◌, ◌+◌, ℕ, List, length, take, slice_index_or, Option, Some, None, Result}
use Rattle.std.proofs.Common.{Ok, Err, sym, ap, subst, inl, inr, arith}
use Rattle.std.specs.Prelude.{All, IfOk}
use Rattle.std.proofs.lemmas.Option.{slice_get_cases}
use Rattle.std.proofs.lemmas.List.{get_or_default}
use Rattle.std.specs.declared.alloc.AllocError.{AllocError}
use Rattle.ds_ast.specs.declared.instr.Instr.{Instr}
use Rattle.ds_ast.specs.declared.module.Module.{Module}
use Rattle.ds_ast.specs.declared.module.Function.{Function}
use Rattle.ds_shape.specs.Placed.{Placed, placed_of}
use Rattle.ds_check_blocks.specs.declared.sites.Site.{Site}
use Rattle.ds_check_blocks.specs.Sites.{IsSite}
use Rattle.ds_check.specs.declared.instr.Rule.{Rule}
use Rattle.ds_check.specs.declared.instr.Rule.TheVariants.{Defined, Typed, GoodPhi}
use Rattle.ds_check.specs.Fault.{KeepsAll}
use Rattle.ds_check.specs.Instr.{IsBroken}
use Rattle.ds_check.specs.Broken.{IsFirstBroken}
use Rattle.ds_shape.specs.Breaches.{breach_at, kept_more}

-- a list that is long enough has an item at the place
pub item_at : {X : Type 0} (xs : List X) (i : ℕ) → i < length xs → X
item_at xs i h =
    elim (slice_get_cases xs i).1 [ inl y ↦ y.0 | inr z ↦ absurd (let l : length xs ≤ i = z.0 in omega (arith, l, h)) ]

breaks : (m : Module) (f : Function) (rule : Rule) (p : Placed) → IsBroken m f p (Some rule) → KeepsAll m f p → ⊥
breaks m f Defined p broken all = broken all.0
breaks m f Typed p broken all = broken.1 all.1
breaks m f GoodPhi p broken all = broken.2 all.2

module _ (m : Module) (f : Function) (number : ℕ) (inside : number < length (placed_of f)) where
  -- some instruction stands at the site
  pub some_site : (g : Function) (s : Site) → g ≡ f
      → ((p : Placed) → IsSite g number s (slice_index_or (placed_of g) number p)) → (p : Placed) × IsSite f number s p
  some_site g s same known =
      let p = item_at (placed_of f) number inside in (
        slice_index_or (placed_of f) number p,
        subst (λ h. IsSite h number s (slice_index_or (placed_of h) number p))
            same (known p),
      )

  -- what is told of what stands at the site is told of the instruction of the number
  pub told_at : (g : Function) (s : Site) (i : Instr) (r : Result (Option Rule) AllocError) → g ≡ f
      → ((p : Placed) → IsSite g number s (slice_index_or (placed_of g) number p))
      → ((p : Placed) → (slice_index_or (placed_of g) number p).instr ≡ i)
      → IfOk r (λ rule. (p : Placed) → IsSite f number s p → i.op ≡ p.instr.op → IsBroken m f p rule)
      → IfOk r (λ rule. (p : Placed) → IsBroken m f (slice_index_or (placed_of f) number p) rule)
  told_at g s i (Err e) same known there told = told
  told_at g s i (Ok rule) same known there told = λ p.
      told (slice_index_or (placed_of f) number p)
      (subst (λ h. IsSite h number s (slice_index_or (placed_of h) number p)) same (known p))
      (subst (λ h. i.op ≡ (slice_index_or (placed_of h) number p).instr.op) same
      (ap (λ (j : Instr). j.op) (sym (there p))))

  module _ (kept : All (KeepsAll m f) (take number (placed_of f)))
      (is_numbered : (p : Placed) → (slice_index_or (placed_of f) number p).number ≡ number) where
    -- the first that breaks a rule
    pub first_that_breaks : (rule : Rule)
        → ((p : Placed) → IsBroken m f (slice_index_or (placed_of f) number p) (Some rule))
        → IsFirstBroken m f (record { number = number; rule = rule })
    first_that_breaks rule broken =
        let d = item_at (placed_of f) number inside in
        let p = slice_index_or (placed_of f) number d in (
          p,
          breach_at (KeepsAll m f) (placed_of f) number p inside (get_or_default (placed_of f) number d p inside)
              kept (breaks m f rule p (broken d)),
          broken d,
          sym (is_numbered d),
        )

    pub one_more_keeps : ((p : Placed) → IsBroken m f (slice_index_or (placed_of f) number p) None)
        → All (KeepsAll m f) (take (number + 1) (placed_of f))
    one_more_keeps broken =
        let d = item_at (placed_of f) number inside in
        let p = slice_index_or (placed_of f) number d in
        kept_more (KeepsAll m f) (placed_of f) number p inside (get_or_default (placed_of f) number d p inside) kept
        (broken d)
