-- Instructions that ask nothing but to stop stay as they are when they are answered.
use Rattle.std.proofs.Common.{◌≡◌, ℕ, ◌+◌, Bool, true, false, ◌&&◌, if◌then◌else◌, nat_le, nat_lt, List, [], ◌∷◌}
use Rattle.std.proofs.Common.{length, Option, Some, None, refl}
use Rattle.std.specs.Prelude.{Result, Ok, Err}
use Rattle.ds_arith.specs.declared.fault.ArithFault.{ArithFault}
use Rattle.ds_map.specs.Regions.{stack}
use Rattle.ds_plain.specs.declared.Place.{Place}
use Rattle.ds_plain.specs.declared.Stop.{Stop}
use Rattle.ds_plain.specs.Behaviour.{Goes, Stops}
use Rattle.ds_meaning.specs.Control.{ReturnValue}
use Rattle.ds_code.specs.declared.frames.Waiting.{Waiting}
use Rattle.ds_code.specs.declared.sources.Copying.{Copying}
use Rattle.ds_code.specs.declared.ops.Edge.{Edge}
use Rattle.ds_code.specs.declared.ops.CodeInstr.{CodeInstr}
use Rattle.ds_code.specs.declared.functions.CodeFunction.{CodeFunction}
use Rattle.ds_code.specs.Machine.{Running, Machine, top}
use Rattle.ds_code.specs.CodeMeaning.{computes, allocates, branches, waiting, calls, returns}
use Rattle.ds_frame.specs.Steps.{answered_by}

tested : (q q' : Machine) (place : Place) (stop : Stop) (a : ℕ) (t : Bool)
    → answered_by q (if t then Goes q' else Stops place stop) a ≡ q
tested q q' place stop a true = refl
tested q q' place stop a false = refl

pub computes_same : (q : Machine) (i : CodeInstr) (x : Result ℕ ArithFault) (a : ℕ)
    → answered_by q (computes q i x) a ≡ q
computes_same q i (Ok n) a = refl
computes_same q i (Err fault) a = refl

pub allocates_same : (r : Running) (q : Machine) (i : CodeInstr) (words a : ℕ)
    → answered_by q (allocates r q i words) a ≡ q
allocates_same r q i words a = tested q _ _ _ a (nat_le (q.taken + words) (stack r.thread).count)

pub calls_same : (r : Running) (q : Machine) (i : CodeInstr) (number : ℕ) (arguments : List Copying)
    (f : Option CodeFunction) (a : ℕ) → answered_by q (calls r q i number arguments f) a ≡ q
calls_same r q i number arguments None a = refl
calls_same r q i number arguments (Some f) a =
    tested q _ _ _ a (nat_le (top r q + f.cells) 65536 && nat_lt (length (waiting q i)) 1024)

pub returns_same : (q : Machine) (i : CodeInstr) (v : ReturnValue) (ws : List Waiting) (a : ℕ)
    → answered_by q (returns q i v ws) a ≡ q
returns_same q i v [] a = refl
returns_same q i v (w ∷ ws) a = refl

pub branches_same : (q : Machine) (e : Option Edge) (a : ℕ) → answered_by q (branches q e) a ≡ q
branches_same q None a = refl
branches_same q (Some e) a = refl

pub ruleset stays = (computes_same, allocates_same, calls_same, returns_same, branches_same)
