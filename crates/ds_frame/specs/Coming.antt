-- Where a thread comes that runs: each instruction costs one unit as it begins.
use Rattle.std.specs.Prelude.{ℕ, zero, suc, ◌-◌, if◌then◌else◌}
use Rattle.ds_plain.specs.declared.Place.{Place}
use Rattle.ds_plain.specs.declared.Request.{Request}
use Rattle.ds_plain.specs.declared.Request.TheVariants as requests
use Rattle.ds_plain.specs.declared.Stop.TheVariants.{Trap, Fuel}
use Rattle.ds_plain.specs.declared.TrapKind.TheVariants.{StackLimit}
use Rattle.ds_plain.specs.Behaviour.{Outcome, Goes, Wants, Stops, Stuck}
use Rattle.ds_meaning.specs.Meaning.{first_place}
use Rattle.ds_code.specs.Machine.{Running, Machine}
use Rattle.ds_code.specs.CodeMeaning.{step}
use Rattle.ds_code.specs.CodeProgram.{start, fits}

-- a thread that asks: what, at which place, the units that it has spent, and where it stands
pub record Standing : Type 0 where
  pub want : Request
  pub place : Place
  pub units : ℕ
  pub machine : Machine

-- a thread that its fuel does not pay for, and that keeps the place that it had
abbrev pub spent : Place → (units : ℕ) → Machine → Standing
spent place units q = record { want = requests.Stop Fuel; place = place; units = units; machine = q }

abbrev pub comes_by : (Machine → Standing) → (fuel : ℕ) → Place → (units : ℕ) → Machine → Outcome Machine → Standing
comes_by go fuel place units q (Goes q') = go q'
comes_by go fuel place units q (Wants there request answered) =
    record { want = request; place = there; units = suc units; machine = q }
comes_by go fuel place units q (Stops there stop) =
    record { want = requests.Stop stop; place = there; units = suc units; machine = q }
comes_by go fuel place units q Stuck = spent place fuel q

-- where a thread comes that has spent these units and may spend so many more. Code with no meaning spends all fuel.
abbrev pub comes : Running → Place → (left units : ℕ) → Machine → Standing
comes r place zero units q = spent place units q
comes r place (suc left) units q = comes_by (comes r place left (suc units)) r.lim.fuel place units q (step r q)

-- the same by the units that it has spent
abbrev pub comes_from : Running → Place → (units : ℕ) → Machine → Standing
comes_from r place units q = comes r place (r.lim.fuel - units) units q

-- a thread whose first frame is too large, at the first instruction of its function
abbrev pub stops_at_once : Place → (left units function : ℕ) → Machine → Standing
stops_at_once place zero units function q = spent place units q
stops_at_once place (suc left) units function q = record {
  want = requests.Stop (Trap (record { place = first_place function; kind = StackLimit }));
  place = first_place function;
  units = suc units;
  machine = q;
}

-- where a thread comes that begins in a function with an argument
abbrev pub begins : Running → Place → (units function argument : ℕ) → Standing
begins r place units function argument =
    if fits r.code function then comes_from r place units (start r.code function argument)
    else stops_at_once place (r.lim.fuel - units) units function (start r.code function argument)
