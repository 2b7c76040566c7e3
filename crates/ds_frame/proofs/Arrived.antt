-- A thread that begins, or is answered, comes where its behaviour asks.
use Rattle.std.proofs.Common.{◌≡◌, ℕ, zero, suc, ◌+◌, ◌-◌, ◌^◌, ◌<◌, ◌≤◌, Bool, true, false, if◌then◌else◌, nat_le}
use Rattle.std.proofs.Common.{nat_lt, List, [], ◌∷◌, refl, ap, sym, ◌∙◌, subst, arith, mod-eq_of_lt}
use Rattle.std.proofs.lemmas.Bool.Decides.{nat_tests}
use Rattle.ds_map.specs.Bounds.{Bounds}
use Rattle.ds_plain.specs.declared.Place.{Place}
use Rattle.ds_plain.specs.declared.Request.{Request}
use Rattle.ds_plain.specs.declared.Request.TheVariants as requests
use Rattle.ds_plain.specs.declared.Stop.{Stop}
use Rattle.ds_plain.specs.declared.Stop.TheVariants.{Fuel, Trap}
use Rattle.ds_plain.specs.declared.TrapKind.TheVariants.{StackLimit}
use Rattle.ds_plain.specs.declared.Position.TheVariants.{StoreEnded, NoRow}
use Rattle.ds_plain.specs.Behaviour.{Asked, Asks, Silent, Behaviour, told, ask, behaviour}
use Rattle.ds_plain.specs.Table.{position_of}
use Rattle.ds_plain.specs.Thread.{Thread, standing, arriving}
use Rattle.ds_meaning.specs.Meaning.{first_place}
use Rattle.ds_code.specs.declared.functions.CodeParts.{CodeParts}
use Rattle.ds_code.specs.Machine.{Running, Machine}
use Rattle.ds_code.specs.CodeMeaning.{step}
use Rattle.ds_code.specs.CodeProgram.{start, fits, overflows, behaves}
use Rattle.ds_frame.specs.Steps.{answered_at}
use Rattle.ds_frame.specs.Coming.{Standing, comes_from, stops_at_once, begins}
use Rattle.ds_frame.specs.Threads.{ThreadState, runs, at_standing, Arrival, out_of_fuel, arrival, arrival_of}
use Rattle.ds_frame.specs.Threads.{at_arrival, is_stop, Serves, Comes}
use Rattle.ds_frame.proofs.Arrives.{arrival_in, Found, At, Spent, units_are, found, asks_still, asks_later}

-- a thread that has spent these units comes where this behaviour asks
pub record Arrived (r : Running) (place : Place) (units : ℕ) (rest : Behaviour) (s : Standing) : Type 0 where
  pub there : arrival_in s ≡ arrival r.lim.fuel place units (rest [])
  pub serves : is_stop (arrival r.lim.fuel place units (rest [])).want ≡ false → Serves r s.machine rest

-- the fuel pays for the request
paid : (fuel units n : ℕ) (place there : Place) (request : Request) → units + n ≤ fuel
    → record { want = request; place = there; units = units + n } ≡ arrival fuel place units (Asks n there request)
paid fuel units n place there request le = by_test (nat_le (units + n) fuel) refl
  where
    by_test : (t : Bool) → nat_le (units + n) fuel ≡ t
        → let a : Arrival = record { want = request; place = there; units = units + n } in
        a ≡ (if t then record { want = request; place = there; units = units + n } else out_of_fuel fuel place)
    by_test true e = refl
    by_test false e = absurd (grind (arith, nat_tests))

-- the fuel does not pay for it
unpaid : (fuel units n : ℕ) (place there : Place) (request : Request) → fuel < units + n
    → out_of_fuel fuel place ≡ arrival fuel place units (Asks n there request)
unpaid fuel units n place there request lt = by_test (nat_le (units + n) fuel) refl
  where
    by_test : (t : Bool) → nat_le (units + n) fuel ≡ t
        → out_of_fuel fuel place
        ≡ (if t then record { want = request; place = there; units = units + n } else out_of_fuel fuel place)
    by_test true e = absurd (grind (arith, nat_tests))
    by_test false e = refl

none_paid : (fuel units : ℕ) (place : Place) (a : Asked)
    → ((n : ℕ) (there : Place) (request : Request) → a ≡ Asks n there request → fuel < units + n)
    → out_of_fuel fuel place ≡ arrival fuel place units a
none_paid fuel units place (Asks n there request) h = unpaid fuel units n place there request (h n there request refl)
none_paid fuel units place Silent h = refl

-- a stop is no want that is answered
stopped : (a b : Arrival) → a ≡ b → is_stop a.want ≡ true → is_stop b.want ≡ false → ⊥
stopped a b e t f = let same : is_stop a.want ≡ is_stop b.want = ap (λ (x : Arrival). is_stop x.want) e in cc

pub arrives : (r : Running) (place : Place) (units : ℕ) (q : Machine) (rest : Behaviour) → units ≤ r.lim.fuel
    → ((more : List ℕ) → rest more ≡ behaviour (step r) r.lim.fuel q more)
    → Arrived r place units rest (comes_from r place units q)
arrives r place units q rest le same =
    by_asked (ask (step r) (r.lim.fuel - units) q) refl (found r place (r.lim.fuel - units) units q (omega arith))
  where
    fuel : ℕ
    fuel = r.lim.fuel

    by_asked : (a : Asked) → ask (step r) (r.lim.fuel - units) q ≡ a
        → Found r place units (r.lim.fuel - units) q (comes_from r place units q) a
        → Arrived r place units rest (comes_from r place units q)
    by_asked (Asks n there request) e (At lt w h) =
        let still = asks_still r (r.lim.fuel - units) r.lim.fuel q n there request (omega arith) e in
        record {
          there = w ∙ paid r.lim.fuel units n place there request (omega arith)
              ∙ ap (arrival r.lim.fuel place units) (sym (same [] ∙ still.0));
          serves = λ f. λ answer more.
              same (answer ∷ more) ∙ ap (λ x. behaviour (step r) r.lim.fuel x more) (still.1 answer ∙ sym (h answer));
        }
    by_asked Silent e (Spent w) =
        let later : (n : ℕ) (there : Place) (request : Request) → rest [] ≡ Asks n there request
        → r.lim.fuel < units + n =
        λ n there request f.
        let lt = asks_later r (r.lim.fuel - units) r.lim.fuel q n there request e (sym (same []) ∙ f) in
        let over : r.lim.fuel < units + n = omega arith in over in
        let none = none_paid r.lim.fuel units place (rest []) later in
        record {
          there = w ∙ none;
          serves = λ f. absurd (stopped _ _ none refl f);
        }

-- THE FIRST FRAME IS TOO LARGE

stops : (place : Place) (left units function : ℕ) (q : Machine)
    → is_stop (stops_at_once place left units function q).want ≡ true
stops place zero units function q = refl
stops place (suc left) units function q = refl

at_once : (fuel : ℕ) (place : Place) (units function : ℕ) (q : Machine) → units ≤ fuel
    → arrival_in (stops_at_once place (fuel - units) units function q)
    ≡ arrival fuel place units (ask (overflows function) fuel tt)
at_once zero place units function q le =
    let none : 0 - units ≡ 0 = omega arith in
    ap (λ n. arrival_in (stops_at_once place n units function q)) none
    ∙ units_are place (requests.Stop Fuel) units 0 (omega arith)
at_once (suc m) place units function q le = by_left (suc m - units) refl
  where
    stop : Stop
    stop = Trap (record { place = first_place function; kind = StackLimit })

    by_left : (left : ℕ) → suc m - units ≡ left
        → arrival_in (stops_at_once place left units function q)
        ≡ arrival (suc m) place units (ask (overflows function) (suc m) tt)
    by_left zero e =
        units_are place (requests.Stop Fuel) units (suc m) (omega arith)
        ∙ unpaid (suc m) units 1 place (first_place function) _ (omega arith)
    by_left (suc k) e =
        units_are (first_place function) _ (suc units) (units + 1) (omega arith)
        ∙ paid (suc m) units 1 place (first_place function) _ (omega arith)

-- THREADS

comes : (code : CodeParts) (old new : ThreadState) (rest : Behaviour) (s : Standing) → new ≡ at_standing old s
    → Arrived (runs code old) old.place old.units rest s → Comes code old new rest
comes code old new rest s e x =
    let machine : new.machine ≡ s.machine = ap (λ (t : ThreadState). t.machine) e in
    record {
      arrives = e ∙ ap (λ (a : Arrival). at_arrival old a s.machine) x.there
          ∙ ap (at_arrival old (arrival_of old rest)) (sym machine);
      stands = λ cursors. stands_at old.lim cursors rest old.place old.units (rest []);
      serves = λ f. subst (λ (q : Machine). Serves (runs code old) q rest) (sym machine) (x.serves f);
    }
  where
    out : (lim : Bounds) (cursors : List ℕ) (rest : Behaviour)
        → standing lim cursors rest lim.fuel true (position_of lim cursors (requests.Stop Fuel))
        ≡ record { rest = rest; position = StoreEnded Fuel; units = lim.fuel; began = true; cursors = cursors }
    out lim cursors rest = by_test (nat_lt lim.fuel lim.fuel) refl
      where
        by_test : (t : Bool) → nat_lt lim.fuel lim.fuel ≡ t
            → let a : Thread =
            record { rest = rest; position = StoreEnded Fuel; units = lim.fuel; began = true; cursors = cursors } in
            (if t
            then record { rest = rest; position = NoRow; units = lim.fuel; began = true; cursors = cursors } else a)
            ≡ a
        by_test true e = absurd (grind (arith, nat_tests))
        by_test false e = refl

    stands_at : (lim : Bounds) (cursors : List ℕ) (rest : Behaviour) (place : Place) (units : ℕ) (asked : Asked)
        → standing lim cursors rest (arrival lim.fuel place units asked).units true
        (position_of lim cursors (arrival lim.fuel place units asked).want)
        ≡ arriving lim cursors rest units asked
    stands_at lim cursors rest place units Silent = out lim cursors rest
    stands_at lim cursors rest place units (Asks n there request) = by_test (nat_le (units + n) lim.fuel)
      where
        by_test : (t : Bool)
            → let a : Arrival =
            if t then record { want = request; place = there; units = units + n } else out_of_fuel lim.fuel place in
            standing lim cursors rest a.units true (position_of lim cursors a.want)
            ≡ (if t then standing lim cursors rest (units + n) true (position_of lim cursors request)
            else record { rest = rest; position = StoreEnded Fuel; units = lim.fuel; began = true; cursors = cursors })
        by_test true = refl
        by_test false = out lim cursors rest

pub answered_comes : (code : CodeParts) (old new : ThreadState) (value : ℕ) → value < 2 ^ 64
    → old.units ≤ old.lim.fuel
    → new ≡ at_standing old
    (comes_from (runs code old) old.place old.units (answered_at (runs code old) old.machine value))
    → (rest : Behaviour) → Serves (runs code old) old.machine rest → Comes code old new (told rest value)
answered_comes code old new value small le e rest serves =
    let r = runs code old in
    comes code old new (told rest value) _ e
    (arrives r old.place old.units (answered_at r old.machine value) (told rest value) le (λ more.
    serves value more
    ∙ ap (λ a. behaviour (step r) r.lim.fuel (answered_at r old.machine a) more) (mod-eq_of_lt small)))

pub begun_comes : (code : CodeParts) (old new : ThreadState) (function argument : ℕ) → old.units ≤ old.lim.fuel
    → new ≡ at_standing old (begins (runs code old) old.place old.units function argument)
    → Comes code old new (behaves (runs code old) function argument)
begun_comes code old new function argument le e =
    comes code old new (behaves (runs code old) function argument) _ e (by_test (fits code function))
  where
    by_test : (t : Bool) → Arrived (runs code old) old.place old.units
        (if t then behaviour (step (runs code old)) old.lim.fuel (start code function argument)
        else behaviour (overflows function) old.lim.fuel tt)
        (if t then comes_from (runs code old) old.place old.units (start code function argument)
        else stops_at_once old.place (old.lim.fuel - old.units) old.units function (start code function argument))
    by_test true =
        arrives (runs code old) old.place old.units (start code function argument)
        (behaviour (step (runs code old)) old.lim.fuel (start code function argument)) le (λ more. refl)
    by_test false =
        let q = start code function argument in
        let there = at_once old.lim.fuel old.place old.units function q le in
        record {
          there = there;
          serves = λ f.
              absurd (stopped _ _ there (stops old.place (old.lim.fuel - old.units) old.units function q) f);
        }
