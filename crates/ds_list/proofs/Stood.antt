-- What holds of the position at which a thread stood.
use Rattle.std.proofs.Common.{◌≡◌, ℕ, sym, subst}
use Rattle.std.specs.Prelude.{IfSome}
use Rattle.ds_map.specs.Bounds.{Bounds}
use Rattle.ds_plain.specs.declared.ListAt.{ListAt}
use Rattle.ds_plain.specs.Listing.{IsListAt}
use Rattle.ds_list.specs.declared.outcome.ListStep.{ListStep}
use Rattle.ds_list.specs.declared.outcome.ListStep.TheVariants.{ListsOn}
use Rattle.ds_list.specs.Walks.{ListState, lists_at, next_in, state_of, IsNext}

pub stood : (P : Bounds → ListAt → Type 0) (lim : Bounds) (thread : ℕ) (step : ListStep) (at : ListAt) (s : ListState)
    → step ≡ ListsOn at → state_of lim thread step ≡ s → P lim at → IfSome (lists_at s.next) (λ at. P s.lim at)
stood P lim thread step at s is view holds =
    subst (λ (s : ListState). IfSome (lists_at s.next) (λ at. P s.lim at)) view
    (subst (λ (step : ListStep). IfSome (lists_at (next_in step)) (λ at. P lim at)) (sym is) holds)

pub stood_at : (lim : Bounds) (step : ListStep) (at : ListAt) → step ≡ ListsOn at → IsNext lim (next_in step)
    → IsListAt lim at
stood_at lim step at is stands = subst (λ (step : ListStep). IsNext lim (next_in step)) is stands
