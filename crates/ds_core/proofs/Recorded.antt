-- The record of a run in which main has ended.
use Rattle.std.proofs.Common.{◌≡◌, ℕ, ◌<◌, Bool, true, List, []}
use Rattle.std.proofs.Common.{length}
use Rattle.std.proofs.Common.{replicate, map, ap}
use Rattle.std.proofs.Common.{sym, subst}
use Rattle.std.proofs.Common.{◌∙◌, arith, inl, inr}
use Rattle.std.proofs.lemmas.List.{append-nil, get_or-map, length-map}
use Rattle.std.proofs.lemmas.Option.{slice_get_cases}
use Rattle.ds_map.specs.Bounds.{Bounds}
use Rattle.ds_map.specs.Words.{first_words, words as words_of}
use Rattle.ds_step.specs.declared.Step.{Step}
use Rattle.ds_plain.specs.declared.Cue.{Cue}
use Rattle.ds_plain.specs.declared.Position.{Position}
use Rattle.ds_plain.specs.declared.Position.TheVariants.{Start, Access, Malloc, Note, Free, Spawn, Join}
use Rattle.ds_plain.specs.declared.Position.TheVariants.{DrawPrint, StoreEnded, Over, NoRow}
use Rattle.ds_plain.specs.declared.Stop.{Stop}
use Rattle.ds_plain.specs.declared.Stop.TheVariants.{Idle}
use Rattle.ds_plain.specs.Thread.{Thread, first_thread, stop_at, stop_of}
use Rattle.ds_plain.specs.History.{History}
use Rattle.ds_plain.specs.Explained.{HasEnded, IsRecord, stop_in}
use Rattle.ds_plain.specs.Turns.{first_turns, IsTurnByTurn, IsScheduledOrder}
use Rattle.ds_plain.specs.Stands.{Stands}
use Rattle.ds_plain_laws.specs.Laws.{NothingStands, StandingIsRecorded}
use Rattle.ds_code.specs.declared.functions.CodeParts.{CodeParts}
use Rattle.ds_code.specs.CodeProgram.{program_of}
use Rattle.ds_actor.specs.Actors.{ActorState}
use Rattle.ds_schedule.specs.Standing.{Standing, StandsAt, main_has_ended}
use Rattle.ds_core.specs.Fits.{FitsAt, Fits}
use Rattle.ds_core.specs.Standing.{IsActor, AreActors, Runs, actor_stop}
use Rattle.ds_core.proofs.Moves.{fits_first}
use Rattle.ds_core.proofs.Turned.{as_told}

-- before the first step
pub runs_first : NothingStands → (code : CodeParts) (lim : Bounds) (cues : List Cue) (seed : ℕ) (image words : List ℕ)
    (actors : List ActorState) (traces : List (List Step)) (order : List ℕ) (standing : Standing)
    → image ≡ code.image → words ≡ first_words lim image → length words ≡ words_of lim
    → AreActors code lim (λ t. first_thread lim) actors → traces ≡ replicate 16 [] → order ≡ []
    → StandsAt standing (first_turns cues seed) → Runs code lim cues seed words actors traces order standing
runs_first law code lim cues seed image words actors traces order standing same w len are t o at = record {
  history = [];
  threads = λ t. first_thread lim;
  turns = first_turns cues seed;
  whole = len;
  sixteen_traces = ap length t;
  in_order = sym o;
  stands = subst (λ (ws : List ℕ). Stands (program_of lim code) lim traces [] ws (λ u. first_thread lim))
      (sym (w ∙ ap (first_words lim) same))
      (subst (λ (ts : List (List Step)). Stands (program_of lim code) lim ts [] (first_words lim code.image)
      (λ u. first_thread lim)) (sym t) (law (program_of lim code) lim));
  are_actors = are;
  fits = λ t. fits_first lim;
  scheduled = at;
  by_turns = λ more rest. rest;
}

-- a thread that has ended stands so
ended_at : (lim : Bounds) (began : Bool) (p : Position) (units : ℕ) → FitsAt lim true p units
    → HasEnded (stop_at began p)
ended_at lim began (Start at) units fits = cc
ended_at lim began (Access at) units fits = cc
ended_at lim began (Malloc at) units fits = cc
ended_at lim began (Note at) units fits = cc
ended_at lim began (Free at) units fits = cc
ended_at lim began (Spawn at) units fits = cc
ended_at lim began (Join at) units fits = cc
ended_at lim began (DrawPrint value) units fits = cc
ended_at lim began (StoreEnded stop) units fits = cc
ended_at lim began (Over stop) units fits = fits.1
ended_at lim began NoRow units fits = absurd fits

module _ (code : CodeParts) (lim : Bounds) (threads : ℕ → Thread) (actors : List ActorState)
    (are : AreActors code lim threads actors) (stops : List Stop) (stopped : stops ≡ map actor_stop actors) where
  -- each actor stands as its thread does
  stop_there : (t : ℕ) → t < 16 → stop_in stops t ≡ stop_of (threads t)
  stop_there t lt =
      elim (slice_get_cases actors t).1 [
        | inl found ↦
            let is : IsActor code lim t (threads t) found.0 = are.each t found.0 found.2 in
            ap (λ (l : List Stop). stop_in l t) stopped ∙ get_or-map actor_stop actors t found.0 Idle found.1
            ∙ ap actor_stop found.3 ∙ ap (λ (b : Bool). stop_at b found.0.position) is.at.began
            ∙ ap (λ (p : Position). stop_at (threads t).began p) is.at.position
        | inr past ↦ absurd (omega (arith, are.sixteen, past.0, lt))
      ]

  sixteen : length stops ≡ 16
  sixteen = ap length stopped ∙ length-map actors actor_stop ∙ are.sixteen

module _ (law : StandingIsRecorded) (code : CodeParts) (lim : Bounds) (cues : List Cue) (seed : ℕ) (words : List ℕ)
    (actors : List ActorState) (traces : List (List Step)) (order : List ℕ) (standing : Standing)
    (runs : Runs code lim cues seed words actors traces order standing) (stops : List Stop)
    (stopped : stops ≡ map actor_stop actors) where
  pub recorded : IsRecord (program_of lim code) lim stops traces
  recorded =
      (law (program_of lim code) lim stops traces runs.history words runs.threads runs.sixteen_traces
      (stop_there code lim runs.threads actors runs.are_actors stops stopped) runs.stands).0

  pub sixteen_stops : length stops ≡ 16
  sixteen_stops = sixteen code lim runs.threads actors runs.are_actors stops stopped

  pub main_ended : main_has_ended standing ≡ true → HasEnded (stop_in stops 0)
  main_ended told =
      let fits : Fits lim true (runs.threads 0) =
      as_told code lim cues seed words actors traces order standing runs true told in
      subst HasEnded (sym (stop_there code lim runs.threads actors runs.are_actors stops stopped 0 (omega arith)))
      (ended_at lim (runs.threads 0).began (runs.threads 0).position (runs.threads 0).units fits.at)

  pub ordered : main_has_ended standing ≡ true → IsScheduledOrder (program_of lim code) lim cues seed traces order
  ordered told = (
    runs.history,
    runs.in_order,
    runs.stands.interleaves,
    runs.stands.legal,
    subst (λ (h : History). IsTurnByTurn (first_turns cues seed) h) (append-nil runs.history)
        (runs.by_turns [] (sym (runs.scheduled.ended 0 (omega arith)) ∙ told)),
  )
