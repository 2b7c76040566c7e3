-- The actors of all threads, made one after another.
use Rattle.std.proofs.Common.{◌≡◌, ℕ, zero, suc, ◌+◌, List, [], ◌∷◌, ◌++◌, length, slice_get, Some, refl}
use Rattle.std.proofs.Common.{ap, sym}
use Rattle.std.proofs.Common.{subst, ◌∙◌, inl, inr, ◌⊎◌}
use Rattle.std.proofs.lemmas.List.{length_push}
use Rattle.std.proofs.lemmas.Option.{same_Some, none-some}
use Rattle.ds_map.specs.Bounds.{Bounds}
use Rattle.ds_plain.specs.Thread.{first_thread}
use Rattle.ds_code.specs.declared.functions.CodeParts.{CodeParts}
use Rattle.ds_actor.specs.Actors.{ActorState, first_actor, IsAt}
use Rattle.ds_core.specs.Standing.{IsActor}

-- what stands in a list with one element more
get_push : (xs : List ActorState) (y x : ActorState) (t : ℕ) → slice_get (xs ++ y ∷ []) t ≡ Some x
    → (slice_get xs t ≡ Some x) ⊎ ((length xs ≡ t) × (y ≡ x))
get_push [] y x zero found = inr (refl, same_Some y x found)
get_push [] y x (suc t) found = absurd (none-some x found)
get_push (z ∷ zs) y x zero found = inl found
get_push (z ∷ zs) y x (suc t) found =
    elim (get_push zs y x t found) [ inl here ↦ inl here | inr last ↦ inr (ap suc last.0, last.1) ]

-- so many actors were made
abbrev pub AreFirst : CodeParts → Bounds → (number : ℕ) → List ActorState → Type 0
AreFirst code lim number actors =
    (length actors ≡ number)
    × ((t : ℕ) (actor : ActorState) → slice_get actors t ≡ Some actor → IsActor code lim t (first_thread lim) actor)

made_first : (code : CodeParts) (lim : Bounds) (number : ℕ) (actor : ActorState)
    → actor ≡ first_actor lim number code.row → IsAt code actor (first_thread lim)
    → IsActor code lim number (first_thread lim) actor
made_first code lim number actor is at = record {
  at = at;
  bounds = ap (λ (x : ActorState). x.thread.lim) is;
  number = ap (λ (x : ActorState). x.thread.number) is;
  row = ap (λ (x : ActorState). x.thread.row) is;
}

pub one_first : (code : CodeParts) (lim : Bounds) (number : ℕ) (actors actors' : List ActorState) (actor : ActorState)
    → actors' ≡ actors ++ actor ∷ [] → actor ≡ first_actor lim number code.row → IsAt code actor (first_thread lim)
    → AreFirst code lim number actors → AreFirst code lim (number + 1) actors'
one_first code lim number actors actors' actor more is at first = (
  ap length more ∙ length_push actors actor ∙ ap (λ (n : ℕ). n + 1) first.0,
  λ t x found.
      elim (get_push actors actor x t (ap (λ (l : List ActorState). slice_get l t) (sym more) ∙ found)) [
        | inl here ↦ first.1 t x here
        | inr last ↦
            subst (λ (n : ℕ). IsActor code lim n (first_thread lim) x) (sym first.0 ∙ last.0)
            (subst (λ (z : ActorState). IsActor code lim number (first_thread lim) z) last.1
            (made_first code lim number actor is at))
      ],
)
