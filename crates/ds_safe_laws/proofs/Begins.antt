-- A thread of a well-formed module has a meaning all along.
use Rattle.std.proofs.Common.{◌≡◌, ℕ, zero, suc, ◌≤◌, Bool, true, false, if◌then◌else◌, List, [], ◌∷◌, take, Some}
use Rattle.std.proofs.Common.{None, slice_get, refl, ap, sym, ◌∙◌, subst, arith, inr}
use Rattle.ds_ast.specs.declared.name.Name.{Name}
use Rattle.ds_ast.specs.declared.ty.Scalar.{Scalar}
use Rattle.ds_ast.specs.declared.value.Value.TheVariants.{Local}
use Rattle.ds_ast.specs.declared.instr.Op.{Op}
use Rattle.ds_ast.specs.declared.instr.Op.TheVariants.{Extract}
use Rattle.ds_ast.specs.declared.instr.Instr.{Instr}
use Rattle.ds_ast.specs.declared.module.Module.{Module}
use Rattle.ds_ast.specs.declared.module.Function.{Function}
use Rattle.ds_ast.specs.declared.module.Block.{Block}
use Rattle.ds_ast.specs.Bounds.{IsInstr, IsOp}
use Rattle.ds_shape.specs.Breaches.{each_standing}
use Rattle.ds_shape.specs.Flow.{IsAssigned}
use Rattle.ds_shape.specs.Operands.{uses_of}
use Rattle.ds_shape.specs.Placed.{IsAssignedUse}
use Rattle.ds_shape.specs.Sizes.{◌>>=◌}
use Rattle.ds_shape.specs.Types.{Stands, KeepsRule}
use Rattle.ds_shape.specs.Accepted.{IsGoodInstr, IsWellFormed}
use Rattle.ds_plain.specs.Behaviour.{Outcome, Goes, Wants, Stops, Stuck, told_by, tell}
use Rattle.ds_meaning.specs.Frames.{Context, Frame, Caller, State, Runs, Notes, TooLarge, blocks_in, block_among}
use Rattle.ds_meaning.specs.Frames.{first_frame, has_room, instruction_of}
use Rattle.ds_meaning.specs.Meaning.{act_at, current, step}
use Rattle.ds_meaning.specs.Program.{context, with_argument, start, start_by}
use Rattle.ds_safe_laws.specs.Means.{MeansBy, MeansNext, Means}
use Rattle.ds_safe_laws.specs.Laws.{DeclaresKnown, WellFormedMeans, AcceptedMeans}
use Rattle.ds_safe_laws.proofs.Lists.{stands_head, stands_left, get_stands, split_at}
use Rattle.ds_safe_laws.proofs.Held.{Bound, use_given, assigned_bound, pair_bound, first_bound}
use Rattle.ds_safe_laws.proofs.Placed.{at, good_instr, bound_instr}
use Rattle.ds_safe_laws.proofs.Reached.{Safe, Reached, AllWait, Inv, next_reached, is_phi, edge_safe, entry_reached}
use Rattle.ds_safe_laws.proofs.Acts.{Ready, act_safe, notes_safe}

-- STEPS

-- what the instruction at hand needs is there
module _ (c : Context) (fr : Frame) (below : List Caller) (r : Reached c.code fr.function fr.block fr.index fr.env)
    (waits : AllWait c.code fr.function below) where
  abbrev front : List Instr
  front = take fr.index r.block.code

  stands : Stands r.instr r.block.code
  stands = get_stands r.block.code fr.index r.instr r.there

  bounds : IsInstr r.instr
  bounds = bound_instr c.code r.f r.keeps r.block r.stands r.instr stands

  rules : (number : ℕ) × IsGoodInstr c.code r.f (at number r.block front r.instr)
  rules = good_instr c.code r.f r.keeps r.block r.stands fr.index r.instr r.there

  -- what stands before it stands in its block
  within : (i : Instr) → Stands i front → Stands i r.block.code
  within i s =
      let back = split_at r.block.code fr.index r.instr r.there in
      subst (λ (is : List Instr). Stands i is) (sym back.1) (stands_left i front (r.instr ∷ back.0) s)

  -- the part that an extractvalue takes
  part_bound : (ty : Scalar) (of : Name) (index : ℕ) → r.instr.op ≡ Extract ty of index → Bound fr.env of index
  part_bound ty of index e =
      let used : IsAssignedUse r.f r.block front (Local of) =
      each_standing (IsAssignedUse r.f r.block front) (uses_of r.instr.op) rules.1.assigned.0 (Local of)
      (subst (λ (op : Op). Stands (Local of) (uses_of op)) (sym e) (stands_head (Local of) [])) in
      let low : IsOp (Extract ty of index) = subst IsOp e bounds.given in
      let rule : KeepsRule c.code r.f (Extract ty of index) = subst (KeepsRule c.code r.f) e rules.1.no_wrong_type.1 in
      by_index (used r.path r.is_path) rule index low.1
    where
      by_index : IsAssigned r.f of r.path front → KeepsRule c.code r.f (Extract ty of index) → (k : ℕ) → k ≤ 1
          → Bound fr.env of k
      by_index a rule zero low = assigned_bound fr.env r.f r.path front of r.covers a
      by_index a rule (suc zero) low =
          pair_bound fr.env r.f r.keeps.good.no_twice_local r.path r.block front of ty r.stands within r.covers
          r.is_path a rule
      by_index a rule (suc (suc k)) low = absurd (omega (arith, low))

  pub ready : Ready c (current c fr below r.instr.result) r.f r.instr.op
  ready = record {
    uses = λ v t. use_given c.code fr.env r.f r.path r.block front v r.covers r.is_path
        (each_standing (IsAssignedUse r.f r.block front) (uses_of r.instr.op) rules.1.assigned.0 v t);
    rule = rules.1.no_wrong_type.1;
    named = bounds.has_name;
    next = λ going env k h. next_reached c.code fr.function fr.block fr.index fr.env env r going k h;
    phi = λ ch e. r.phis.each fr.index r.instr ch r.there e (rules.1.no_bad_phi (is_phi r.instr ch bounds e)).at_front;
    edges = λ to t. edge_safe c (current c fr below r.instr.result) r waits to t;
    parts = part_bound;
  }

  -- it is the one that the frame has at hand
  pub hand : instruction_of c.code fr ≡ Some r.instr
  hand =
      ap (λ o. block_among (blocks_in o) fr.block >>= (λ (b : Block). slice_get b.code fr.index)) r.is
      ∙ ap (λ o. o >>= (λ (b : Block). slice_get b.code fr.index)) r.found ∙ r.there

pub step_safe : (c : Context) → IsWellFormed c.code → DeclaresKnown c.code → (s : State) → Inv c.code s
    → Safe (Inv c.code) (step c s)
step_safe c well known (Runs fr below) i =
    subst (λ o. Safe (Inv c.code) (act_at c fr below o)) (sym (hand c fr below i.0 i.1))
    (act_safe c (current c fr below i.0.instr.result) well known i.0.f i.0.is i.1 i.0.instr.op
    (ready c fr below i.0 i.1))
step_safe c well known (Notes at' value fr below) i =
    notes_safe c (current c fr below None) i.2 at' value i.0 i.1
step_safe c well known (TooLarge function) i = tt

-- ALL STEPS

-- what steps keep has a meaning all along
module _ {S : Type 0} (I : S → Type 0) (go : S → Outcome S) (safe : (s : S) → I s → Safe I (go s)) where
  next_means : (n : ℕ) (s : S) → I s → MeansNext go n s
  next_means zero s i = tt
  next_means (suc n) s i = by_outcome (λ t j. next_means n t j) (go s) (safe s i)
    where
      by_outcome : ((t : S) → I t → MeansNext go n t) → (o : Outcome S) → Safe I o → MeansBy (MeansNext go n) o
      by_outcome rec (Goes t) j = rec t j
      by_outcome rec (Wants place request answered) j = tt
      by_outcome rec (Stops place stop) j = tt
      by_outcome rec Stuck j = absurd j

  tell_keeps : (n : ℕ) (s : S) (answer : ℕ) → I s → I (tell go n s answer)
  tell_keeps zero s answer i = i
  tell_keeps (suc n) s answer i = by_outcome (λ t j. tell_keeps n t answer j) (go s) (safe s i)
    where
      by_outcome : ((t : S) → I t → I (tell go n t answer)) → (o : Outcome S) → Safe I o
          → I (told_by (λ t. tell go n t answer) s answer o)
      by_outcome rec (Goes t) j = rec t j
      by_outcome rec (Wants place request answered) j = j _
      by_outcome rec (Stops place stop) j = i
      by_outcome rec Stuck j = absurd j

  pub all_mean : (n : ℕ) (answers : List ℕ) (s : S) → I s → Means go n s answers
  all_mean n [] s i = next_means n s i
  all_mean n (answer ∷ answers) s i =
      (next_means n s i, all_mean n answers (tell go n s answer) (tell_keeps n s answer i))

-- THE FIRST STATE

start_safe : (m : Module) → IsWellFormed m → (function argument : ℕ) (f : Function)
    → slice_get m.functions function ≡ Some f → (f.blocks ≡ [] → ⊥) → Inv m (start m function argument)
start_safe m well function argument f is some =
    subst (λ o. Inv m (start_by function argument m o)) (sym is) (by_room (has_room m [] f))
  where
    by_blocks : (bs : List Block) → f.blocks ≡ bs
        → Inv m (Runs (first_frame function f (with_argument argument f.params) 0) [])
    by_blocks [] e = absurd (some e)
    by_blocks (b ∷ bs) e =
        (entry_reached m well function f is b bs e _ (λ p s. first_bound argument f.params p s), tt)

    by_room : (t : Bool)
        → Inv m (if t then Runs (first_frame function f (with_argument argument f.params) 0) [] else TooLarge function)
    by_room true = by_blocks f.blocks refl
    by_room false = tt

-- THE LAWS

pub well_formed_means : WellFormedMeans
well_formed_means m well known noting lim thread function argument f answers is some =
    all_mean (Inv m) (step (context noting lim m thread))
    (λ s i. step_safe (context noting lim m thread) well known s i) lim.fuel answers (start m function argument)
    (start_safe m well function argument f is some)

pub accepted_means : AcceptedMeans
accepted_means m noting lim accepted thread function argument f answers is some =
    well_formed_means m accepted.well_formed
    (λ k d low. λ none. inr ((accepted.no_bad_external k d low).1 none))
    noting lim thread function argument f answers is some
