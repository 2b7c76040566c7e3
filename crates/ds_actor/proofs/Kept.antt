-- The position of a thread that arrives is one of the program's words.
use Rattle.std.proofs.Common.{◌≡◌, ℕ, suc, ◌+◌, ◌%◌, ◌^◌, false, nat_lt, nat_le, List, []}
use Rattle.std.proofs.Common.{sym, ap, subst, ◌∙◌}
use Rattle.ds_map.specs.Bounds.{Bounds, IsInRange}
use Rattle.ds_alloc_laws.specs.Laws.{ClassesAreFew, MallocsBegin}
use Rattle.ds_plain.specs.declared.Place.{Place}
use Rattle.ds_plain.specs.declared.Stop.TheVariants.{Fuel}
use Rattle.ds_plain.specs.declared.Position.{Position}
use Rattle.ds_plain.specs.declared.Position.TheVariants.{Start, Access, Malloc, Note, Free, Spawn, Join}
use Rattle.ds_plain.specs.declared.Position.TheVariants.{DrawPrint, StoreEnded, Over, NoRow}
use Rattle.ds_plain.specs.Asking.{IsWithin, IsAskedWithin}
use Rattle.ds_plain.specs.Reached.{AreCursors}
use Rattle.ds_plain.specs.Behaviour.{Asked, Asks, Silent, Behaviour, silent, told}
use Rattle.ds_plain.specs.Table.{position_of}
use Rattle.ds_plain.specs.Thread.{Thread, paying}
use Rattle.ds_code.specs.declared.functions.CodeParts.{CodeParts}
use Rattle.ds_code.specs.CodeProgram.{behaves}
use Rattle.ds_frame.specs.Threads.{ThreadState, runs, Comes, Arrival, arrival, arrival_of, out_of_fuel}
use Rattle.ds_frame.specs.Steps.{answered_at}
use Rattle.ds_actor.specs.Actors.{stands_at, wanted_position}
use Rattle.ds_actor.proofs.Arrives.{served}
use Rattle.ds_actor.proofs.Within.{by_test, ask_within, begin_within}

module _ (lim : Bounds) where
  paying_within : (units : ℕ) (p : Position) → IsWithin lim p
      → IsWithin lim (paying lim [] silent units false p).position
  paying_within units p h =
      by_test (λ (a : Thread). IsWithin lim a.position) (nat_lt units lim.fuel)
      (record { rest = silent; position = p; units = units; began = false; cursors = [] })
      (record { rest = silent; position = StoreEnded Fuel; units = units; began = false; cursors = [] }) h tt

  pub stands_within : (units : ℕ) (p : Position) → IsWithin lim p → IsWithin lim (stands_at lim units p)
  stands_within units (Start at) h = paying_within units (Start at) h
  stands_within units (Access at) h = paying_within units (Access at) h
  stands_within units (Malloc at) h = paying_within units (Malloc at) h
  stands_within units (Note at) h = paying_within units (Note at) h
  stands_within units (Free at) h = paying_within units (Free at) h
  stands_within units (Spawn at) h = paying_within units (Spawn at) h
  stands_within units (Join at) h = paying_within units (Join at) h
  stands_within units (DrawPrint value) h = paying_within units (DrawPrint value) h
  stands_within units (StoreEnded stop) h = tt
  stands_within units (Over stop) h = tt
  stands_within units NoRow h = paying_within units NoRow h

  module _ (cursors : List ℕ) (looks : AreCursors lim cursors) where
    arrived_within : (fuel : ℕ) (place : Place) (units : ℕ) (asked : Asked) → IsAskedWithin lim asked
        → IsWithin lim (position_of lim cursors (arrival fuel place units asked).want)
    arrived_within fuel place units (Asks begun there request) h =
        by_test (λ (a : Arrival). IsWithin lim (position_of lim cursors a.want)) (nat_le (units + begun) fuel)
        (record { want = request; place = there; units = units + begun }) (out_of_fuel fuel place) (h cursors looks) tt
    arrived_within fuel place units Silent h = tt

    comes_within : (code : CodeParts) (old new : ThreadState) (rest : Behaviour) (position : Position)
        → position ≡ stands_at lim new.units (wanted_position lim cursors new.want) → Comes code old new rest
        → IsAskedWithin lim (rest []) → IsWithin lim position
    comes_within code old new rest position here c h =
        subst (IsWithin lim)
        (sym (here ∙ ap (λ (n : ThreadState). stands_at lim new.units (wanted_position lim cursors n.want)) c.arrives))
        (stands_within new.units (position_of lim cursors (arrival_of old rest).want)
        (arrived_within old.lim.fuel old.place old.units (rest []) h))

    module _ (few : ClassesAreFew) (begins : MallocsBegin) (range : IsInRange lim) (code : CodeParts) (old mid new : ThreadState)
        (position : Position) (spent : mid ≡ record old { units = suc old.units }) (same : old.lim ≡ lim)
        (here : position ≡ stands_at lim new.units (wanted_position lim cursors new.want)) where
      lim_of : mid.lim ≡ lim
      lim_of = ap (λ (m : ThreadState). m.lim) spent ∙ same

      range_of : IsInRange mid.lim
      range_of = subst IsInRange (sym lim_of) range

      pub begun_within : (function argument : ℕ) → Comes code mid new (behaves (runs code mid) function argument)
          → IsWithin lim position
      begun_within function argument c =
          comes_within code mid new (behaves (runs code mid) function argument) position here c
          (subst (λ (l : Bounds). IsAskedWithin l (behaves (runs code mid) function argument [])) lim_of
          (begin_within few begins (runs code mid) range_of function argument))

      pub resumed_within : (value : ℕ)
          → Comes code mid new (told (served (runs code mid) mid.machine) value) → IsWithin lim position
      resumed_within value c =
          comes_within code mid new (told (served (runs code mid) mid.machine) value) position here c
          (subst (λ (l : Bounds). IsAskedWithin l (told (served (runs code mid) mid.machine) value [])) lim_of
          (ask_within few begins (runs code mid) range_of mid.lim.fuel
          (answered_at (runs code mid) mid.machine (value % 2 ^ 64))))
