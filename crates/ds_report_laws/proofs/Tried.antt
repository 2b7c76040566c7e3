-- The reports that were worked out by hand. The run of the example is one of the plain machine.
use Rattle.std.proofs.Common.{◌≡◌, ℕ, Some, None, refl, inl, inr, arith}
use Rattle.std.specs.Fmt.{digits}
use Rattle.ds_map.specs.Bounds.{Bounds}
use Rattle.ds_plain.specs.declared.Stop.TheVariants.{Returned}
use Rattle.ds_plain.specs.declared.Request.{Request}
use Rattle.ds_plain.specs.State.{State, Setting, first_state}
use Rattle.ds_plain.specs.Plain.{AsksFor, request_of, so_far, IsPlainRun}
use Rattle.ds_report_laws.specs.Example.{program, setting, made, TellsARun, TellsATrace}
use Rattle.ds_report_laws.specs.Example.{TellsStopsAndCounts}

-- what a thread asks for at hand
asking : {setting : Setting} {s : State} {t : ℕ} {request : Request} → request_of (s.threads t) ≡ Some request
    → (so_far setting s t).spawned ≡ None → (so_far setting s t).ended ≡ None → AsksFor setting s t request
asking at_hand not_spawned not_ended =
    record { at_hand = at_hand; not_spawned = not_spawned; not_ended = not_ended }

run : (lim : Bounds) → IsPlainRun (setting lim) (first_state program lim) made
run lim = (
  tt,
  (
    ((0, asking refl refl refl), refl, omega arith),
    (
      inr (1, 0, refl, refl, refl),
      (
        tt,
        (
          (asking refl refl refl, refl),
          (
            inl (1, asking refl refl refl, inl refl),
            (
              (λ stopped. stopped, inl (inr (_, refl))),
              (
                (asking refl refl refl, omega arith, omega arith, tt),
                (
                  (asking refl refl refl, refl),
                  (
                    (λ stopped. stopped, inl (inl (Returned None, asking refl refl refl))),
                    tt,
                  ),
                ),
              ),
            ),
          ),
        ),
      ),
    ),
  ),
)

pub tells_run : TellsARun
unfolding digits
tells_run lim = record { run = run lim; told = refl }

pub tells_trace : TellsATrace
unfolding digits
tells_trace lim = record { run = run lim; told = refl }

pub tells_stops : TellsStopsAndCounts
unfolding digits
tells_stops = refl
