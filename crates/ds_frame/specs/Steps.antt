-- One instruction of a thread on code: what comes of it, and where the thread then stands.
use Rattle.std.specs.Prelude.{ℕ, List, [], map, refl}
use Rattle.std.specs.Coded.{Coded, code_by, coded×, coded_ℕ}
use Rattle.ds_map.specs.Bounds.{Bounds}
use Rattle.ds_map.specs.contracts.bounds.Limits as limits
use Rattle.ds_plain.specs.declared.Request.TheVariants as requests
use Rattle.ds_plain.specs.Behaviour.{Outcome, Goes, Wants, Stops, Stuck}
use Rattle.ds_meaning.specs.Values.{cut}
use Rattle.ds_code.specs.contracts.functions.CodeParts as parts
use Rattle.ds_code.specs.declared.functions.CodeParts.{CodeParts}
use Rattle.ds_code.specs.declared.sources.Copying.{Copying}
use Rattle.ds_code.specs.Machine.{Running, Machine, read}
use Rattle.ds_code.specs.CodeMeaning.{step}
use Rattle.ds_code.specs.CodeProgram.{first_cells}
use Rattle.ds_frame.specs.declared.moved.Moved.{Moved}
use Rattle.ds_frame.specs.declared.moved.Moved.TheVariants as moves

-- a thread of this number runs the code within these limits
abbrev pub running : CodeParts → Bounds → (thread : ℕ) → Running
running code lim thread = record { code = code; lim = lim; thread = thread }

-- what is run is stored as its parts
abbrev pub running_code : Coded Running
running_code =
    code_by (CodeParts × (Bounds × ℕ)) (coded× parts.the_row.coded (coded× limits.the_row.coded coded_ℕ))
    (λ r. (r.code, (r.lim, r.thread))) (λ p. running p.0 p.1.0 p.1.1) (λ _. refl)

-- the values of copies for the frame that begins at a cell
abbrev pub held : (base : ℕ) → (cells : List ℕ) → List Copying → List ℕ
held base cells copies = map (λ (c : Copying). cut c.value.ty (read base cells c.value.from)) copies

-- a thread that has not begun
abbrev pub nowhere : Machine
nowhere = record { function = 0; at = 0; base = 0; taken = 0; cells = first_cells; below = [] }

-- what came of an instruction
abbrev pub moved_by : Outcome Machine → Moved
moved_by (Goes q) = moves.Goes
moved_by (Wants place request answered) = moves.Asks place request
moved_by (Stops place stop) = moves.Asks place (requests.Stop stop)
moved_by Stuck = moves.Stuck

-- where the thread then stands: an instruction that asks stays at hand until it is answered
abbrev pub next_of : Machine → Outcome Machine → Machine
next_of q (Goes q') = q'
next_of q (Wants place request answered) = q
next_of q (Stops place stop) = q
next_of q Stuck = q

-- where the thread stands once the instruction was answered
abbrev pub answered_by : Machine → Outcome Machine → ℕ → Machine
answered_by q (Goes q') answer = q
answered_by q (Wants place request answered) answer = answered answer
answered_by q (Stops place stop) answer = q
answered_by q Stuck answer = q

-- the same of the instruction at hand
abbrev pub answered_at : Running → Machine → ℕ → Machine
answered_at r q answer = answered_by q (step r q) answer
