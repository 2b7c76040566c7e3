-- What stands is a record.
use Rattle.std.proofs.Common.{◌≡◌, ℕ, ◌<◌, List, length, sym, ap, ◌∙◌, refl}
use Rattle.ds_map.specs.Bounds.{Bounds}
use Rattle.ds_step.specs.declared.Step.{Step}
use Rattle.ds_plain.specs.declared.Stop.{Stop}
use Rattle.ds_plain.specs.Behaviour.{Program}
use Rattle.ds_plain.specs.Thread.{Thread, stop_of}
use Rattle.ds_plain.specs.History.{History, threads_of}
use Rattle.ds_plain.specs.Explained.{stop_in, IsRecord, IsLegalOrder}
use Rattle.ds_plain.specs.Stands.{Stands}

module _ (program : Program) (lim : Bounds) (stops : List Stop) (traces : List (List Step)) (h : History)
    (words : List ℕ) (threads : ℕ → Thread) (stands : Stands program lim traces h words threads) where
  pub recorded : length traces ≡ 16 → ((t : ℕ) → t < 16 → stop_in stops t ≡ stop_of (threads t))
      → IsRecord program lim stops traces
  recorded sixteen_traces stopped = record {
    sixteen_traces = sixteen_traces;
    follows = λ t lt. stands.follows t;
    ends = λ t lt. stopped t lt ∙ ap stop_of (sym (stands.at t));
  }

  pub ordered : IsLegalOrder program lim traces (threads_of h)
  ordered = (h, refl, stands.interleaves, stands.legal)
