-- All that a thread of an accepted module asks has a row.
use Rattle.std.proofs.Common.{◌≡◌, ℕ, zero, suc, Bool, true, List, [], ◌∷◌, Option}
use Rattle.std.proofs.Common.{Some, None, refl}
use Rattle.std.specs.Prelude.{All}
use Rattle.ds_ast.specs.declared.instr.Instr.{Instr}
use Rattle.ds_ast.specs.declared.module.Module.{Module}
use Rattle.ds_map.specs.Bounds.{Bounds}
use Rattle.ds_shape.specs.Accepted.{IsGoodExternal}
use Rattle.ds_plain.specs.Asking.{has_row}
use Rattle.ds_plain.specs.Behaviour.{Asked, Asks, Silent, Outcome, Goes, Wants, Stops, Stuck}
use Rattle.ds_plain.specs.Behaviour.{one_more, asked_by, ask, tell, behaviour}
use Rattle.ds_meaning.specs.Frames.{Context, State, Runs, Notes, TooLarge, instruction_of}
use Rattle.ds_meaning.specs.Meaning.{act_at, current, step}
use Rattle.ds_meaning.specs.Program.{context, start}
use Rattle.ds_row_laws.specs.Laws.{AcceptedModulesAskRows}
use Rattle.ds_row_laws.proofs.Acts.{Fits, act_fits, notes_fits}

-- STEPS

module _ (noting : Bool) (m : Module) (lim : Bounds) (cursors : List ℕ) (thread : ℕ)
    (good : All IsGoodExternal m.functions) where
  abbrev c : Context
  c = context noting lim m thread

  step_fits : (s : State) → Fits lim cursors (step c s)
  step_fits (Runs fr below) = by_instruction (instruction_of m fr)
    where
      by_instruction : (o : Option Instr) → Fits lim cursors (act_at c fr below o)
      by_instruction None = tt
      by_instruction (Some i) = act_fits noting m lim cursors thread (current c fr below i.result) good i.op
  step_fits (Notes at value fr below) =
      notes_fits noting m lim cursors thread (current c fr below None) at value
  step_fits (TooLarge function) = refl

-- ALL STEPS

-- one instruction more changes no request
one_more_row : (lim : Bounds) (cursors : List ℕ) (a : Asked) → has_row lim cursors a ≡ true
    → has_row lim cursors (one_more a) ≡ true
one_more_row lim cursors (Asks begun place request) h = h
one_more_row lim cursors Silent h = refl

module _ (lim : Bounds) (cursors : List ℕ) (go : State → Outcome State)
    (fits : (s : State) → Fits lim cursors (go s)) where
  ask_row : (n : ℕ) (s : State) → has_row lim cursors (ask go n s) ≡ true
  ask_row zero s = refl
  ask_row (suc n) s = by_outcome (λ t. ask_row n t) (go s) (fits s)
    where
      by_outcome : ((t : State) → has_row lim cursors (ask go n t) ≡ true) → (o : Outcome State)
          → Fits lim cursors o → has_row lim cursors (asked_by (ask go n) o) ≡ true
      by_outcome rec (Goes t) h = one_more_row lim cursors (ask go n t) (rec t)
      by_outcome rec (Wants place request answered) h = h
      by_outcome rec (Stops place stop) h = h
      by_outcome rec Stuck h = refl

  all_rows : (n : ℕ) (answers : List ℕ) (s : State) → has_row lim cursors (behaviour go n s answers) ≡ true
  all_rows n [] s = ask_row n s
  all_rows n (answer ∷ answers) s = all_rows n answers (tell go n s answer)

-- THE LAW

pub asks_rows : AcceptedModulesAskRows
asks_rows noting m lim accepted thread function argument cursors answers =
    all_rows lim cursors (step (context noting lim m thread))
    (step_fits noting m lim cursors thread accepted.no_bad_external) lim.fuel answers (start m function argument)
