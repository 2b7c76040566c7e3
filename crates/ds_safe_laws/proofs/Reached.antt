-- Where a thread of a well-formed module stands: on a path, on which all that is assigned stands for values.
use Rattle.std.proofs.Common.{◌≡◌, ℕ, suc, false, List, [], ◌∷◌, ◌++◌, length, map, take, Some}
use Rattle.std.proofs.Common.{None, slice_get, refl, ap, sym, ◌∙◌, subst, arith, inl, inr, ◌⊎◌}
use Rattle.std.specs.Option.{option_map}
use Rattle.std.proofs.lemmas.Option.{slice_get-map}
use Rattle.ds_ast.specs.declared.name.Name.{Name}
use Rattle.ds_ast.specs.declared.operand.Arm.{Arm}
use Rattle.ds_ast.specs.declared.instr.Op.TheVariants.{Phi}
use Rattle.ds_ast.specs.declared.instr.Instr.{Instr}
use Rattle.ds_ast.specs.declared.ty.Ty.{Void}
use Rattle.ds_ast.specs.declared.module.Module.{Module}
use Rattle.ds_ast.specs.declared.module.GlobalDef.{GlobalDef}
use Rattle.ds_ast.specs.declared.module.Function.{Function}
use Rattle.ds_ast.specs.declared.module.Param.{Param}
use Rattle.ds_ast.specs.declared.module.Block.{Block}
use Rattle.ds_ast.specs.Bounds.{IsBlock, IsInstr, IsOp, IsEnded, is_terminator}
use Rattle.ds_shape.specs.Types.{Stands}
use Rattle.ds_shape.specs.Flow.{arms_of, targets_of, IsEntry, IsEdge, IsPath}
use Rattle.ds_shape.specs.Placed.{IsTarget, IsPhi, IsGoodPhi, IsAssignedUse, IsAssignedArm}
use Rattle.ds_shape.specs.Breaches.{each_standing}
use Rattle.ds_shape.specs.Site.{function_number}
use Rattle.ds_shape.specs.Sizes.{◌>>=◌}
use Rattle.ds_shape.specs.Accepted.{IsWellFormed}
use Rattle.ds_plain.specs.Behaviour.{Outcome, Goes, Wants, Stops, Stuck}
use Rattle.ds_meaning.specs.Values.{Environment, all_bound}
use Rattle.ds_meaning.specs.Frames.{Context, Caller, State, Runs, Notes}
use Rattle.ds_meaning.specs.Frames.{TooLarge, blocks_in, block_among, block_labelled}
use Rattle.ds_meaning.specs.Frames.{entry_of}
use Rattle.ds_meaning.specs.Steps.{Current}
use Rattle.ds_meaning.specs.Control.{Choice, choice_of, phi_values, arrives, goes_to, ReturnValue, with_returned}
use Rattle.ds_safe_laws.proofs.Lists.{stands_head, stands_cases, none_stands, stands_either}
use Rattle.ds_safe_laws.proofs.Lists.{stands_one, stands_map, get_stands, number_of, take_next}
use Rattle.ds_safe_laws.proofs.Names.{block_there, first_there, distinct_place, distinct_behind, Labels, Entry}
use Rattle.ds_safe_laws.proofs.Names.{label_entry, label_stands, one_thing}
use Rattle.ds_safe_laws.proofs.Held.{Bound, Keeps, Given, use_given, Held, held_none, Covers, covers_keeps, choice_is}
use Rattle.ds_safe_laws.proofs.Held.{PhisHeld, phis_keep, PhiGiven, phis_given, arm_found, keeps_all}
use Rattle.ds_safe_laws.proofs.Placed.{Fine, fine, good_instr, bound_instr, ended_next, ended_last, ended_first}
use Rattle.ds_safe_laws.proofs.Placed.{leads_last, last_silent, nameless}

-- what comes has a meaning and keeps I
abbrev pub Safe : {S : Type 0} → (S → Type 0) → Outcome S → Type 0
Safe I (Goes s) = I s
Safe I (Wants place request answered) = (answer : ℕ) → I (answered answer)
Safe I (Stops place stop) = Unit {0}
Safe I Stuck = ⊥

-- An instruction of a block is at hand. The block was reached by some path, and all that is assigned on it stands for
-- values, and so do the names of the phis at the front of the block.
pub record Reached (m : Module) (number : ℕ) (label : Name) (index : ℕ) (env : Environment) : Type 0 where
  pub f : Function
  pub is : slice_get m.functions number ≡ Some f
  pub keeps : Fine m f
  pub block : Block
  pub found : block_among f.blocks label ≡ Some block
  pub stands : Stands block f.blocks
  pub named : block.name ≡ label
  pub instr : Instr
  pub there : slice_get block.code index ≡ Some instr
  pub path : List Block
  pub is_path : IsPath f path block
  pub covers : Covers env f path (take index block.code)
  pub phis : PhisHeld env block.code

-- a frame goes on, whatever the function of the number returns
pub record Resumes (m : Module) (number : ℕ) (c : Caller) : Type 0 where
  pub f : Function
  pub is : slice_get m.functions number ≡ Some f
  pub back : (value : ReturnValue) → (value ≡ None → f.result ≡ Void)
      → Reached m c.frame.function c.frame.block c.frame.index (with_returned c.gives value c.frame.env)

-- the frames that wait go on, the latest first
abbrev pub AllWait : Module → ℕ → List Caller → Type 0
AllWait m number [] = Unit {0}
AllWait m number (c ∷ cs) = Resumes m number c × AllWait m c.frame.function cs

-- a frame on top of these
abbrev pub Stand : Module → ℕ → Name → ℕ → Environment → List Caller → Type 0
Stand m number label index env below = Reached m number label index env × AllWait m number below

-- all that a thread comes to
abbrev pub Inv : Module → State → Type 0
Inv m (Runs fr below) = Stand m fr.function fr.block fr.index fr.env below
Inv m (Notes at' value fr below) =
    Given m fr.env at' × Given m fr.env value × Stand m fr.function fr.block (suc fr.index) fr.env below
Inv m (TooLarge function) = Unit {0}

-- THE NEXT INSTRUCTION

-- one instruction more, whose result stands for its value
pub covers_push : (env : Environment) (f : Function) (path : List Block) (front : List Instr) (i : Instr)
    → Covers env f path front → Held env i.result i.op → Covers env f path (front ++ i ∷ [])
covers_push env f path front i c h = record {
  params = c.params;
  before = c.before;
  here = λ j s. by_cases j (stands_either j front (i ∷ []) s);
}
  where
    by_cases : (j : Instr) → Stands j front ⊎ Stands j (i ∷ []) → Held env j.result j.op
    by_cases j (inl s) = c.here j s
    by_cases j (inr s) = subst (λ (x : Instr). Held env x.result x.op) (stands_one j i s) h

ended : (m : Module) (f : Function) → Fine m f → (b : Block) → Stands b f.blocks → IsEnded b.code
ended m f keeps b s = (each_standing IsBlock f.blocks keeps.bounds b s).ended

pub next_reached : (m : Module) (number : ℕ) (label : Name) (index : ℕ) (env env' : Environment)
    (r : Reached m number label index env) → is_terminator r.instr.op ≡ false → Keeps env env'
    → Held env' r.instr.result r.instr.op → Reached m number label (suc index) env'
next_reached m number label index env env' r going k h =
    let next = ended_next r.block.code (ended m r.f r.keeps r.block r.stands) index r.instr r.there going in
    record {
      f = r.f;
      is = r.is;
      keeps = r.keeps;
      block = r.block;
      found = r.found;
      stands = r.stands;
      named = r.named;
      instr = next.0;
      there = next.1;
      path = r.path;
      is_path = r.is_path;
      covers = subst (λ is. Covers env' r.f r.path is) (sym (take_next r.block.code index r.instr r.there))
          (covers_push env' r.f r.path (take index r.block.code) r.instr
          (covers_keeps env env' r.f r.path (take index r.block.code) k r.covers) h);
      phis = phis_keep env env' r.block.code k r.phis;
    }

-- PHIS

first_arm : (arms : List Arm) → (arms ≡ [] → ⊥) → (a : Arm) × Stands a arms
first_arm [] some = absurd (some refl)
first_arm (a ∷ arms) some = (a, stands_head a arms)

-- what chooses is a phi
pub is_phi : (i : Instr) (ch : Choice) → IsInstr i → choice_of i.op ≡ Some ch → IsPhi i
is_phi i ch bounds e = λ none.
    let op = choice_is i.op ch e in
    let some : IsOp (Phi ch.ty ch.arms) = subst IsOp op bounds.given in
    let long = some.0 in
    let empty : length ch.arms ≡ 0 = ap length (sym (ap arms_of op) ∙ none) in
    omega arith

-- a phi of a block finds its value where control comes from another
phi_given : (m : Module) (f : Function) → Fine m f → (b d : Block) (path : List Block) (env : Environment)
    → IsPath f path b → Covers env f path b.code → IsEdge f b d → (i : Instr) (ch : Choice) → Stands i d.code
    → choice_of i.op ≡ Some ch → PhiGiven m env b.name ch
phi_given m f keeps b d path env p c edge i ch s e =
    let n = number_of d.code i s in
    let good = good_instr m f keeps d edge.1 n.0 i n.1 in
    let arms : arms_of i.op ≡ ch.arms = ap arms_of (choice_is i.op ch e) in
    let phi = good.1.no_bad_phi (is_phi i ch (bound_instr m f keeps d edge.1 i s) e) in
    let among : Stands b.name (map (λ (a : Arm). a.from) (arms_of i.op)) = (phi.labels b edge.0).0 edge in
    let arm = arm_found ch.arms b.name
    (subst (λ (as' : List Arm). Stands b.name (map (λ (a : Arm). a.from) as')) arms among) in
    let used : IsAssignedUse f b b.code arm.0.value =
    each_standing (IsAssignedArm f) (arms_of i.op) good.1.assigned.1 arm.0
    (subst (λ (as' : List Arm). Stands arm.0 as') (sym arms) arm.1) b edge.0 (sym arm.2) in
    record { value = arm.0.value; arm = arm.3; given = use_given m env f path b b.code arm.0.value c p used }

-- no edge leads to the entry
no_edge : (m : Module) (f : Function) → Fine m f → (b : Block) (bs : List Block) → f.blocks ≡ b ∷ bs → Stands b f.blocks
    → (d : Block) → Stands d f.blocks → (j : Instr) → Stands j d.code → Stands b.name (targets_of j.op) → ⊥
no_edge m f keeps b bs first s d t j u v =
    let n = number_of d.code j u in
    let good = good_instr m f keeps d t n.0 j n.1 in
    let target = each_standing (IsTarget f) (targets_of j.op) good.1.no_bad_block b.name v in
    by_target target.0 target.1 target.2 target.3
  where
    by_target : (x : Block) → Stands x f.blocks → x.name ≡ b.name → (IsEntry f x → ⊥) → ⊥
    by_target x w called other =
        let one : label_entry x ≡ label_entry b =
        one_thing f keeps.good.no_twice_local _ _ (label_stands f x w) (label_stands f b s) called in
        let things : Labels x ≡ Labels b = ap (λ (e : Entry). e.thing) one in
        let same : x ≡ b = cc in
        other (subst (λ (y : Block). IsEntry f y) (sym same) (bs, first))

-- the entry has no phi
no_phi : (m : Module) (f : Function) → Fine m f → (b : Block) (bs : List Block) → f.blocks ≡ b ∷ bs → Stands b f.blocks
    → (k : ℕ) (i : Instr) (ch : Choice) → slice_get b.code k ≡ Some i → choice_of i.op ≡ Some ch → ⊥
no_phi m f keeps b bs first s k i ch at' e =
    let good = good_instr m f keeps b s k i at' in
    let some = is_phi i ch (bound_instr m f keeps b s i (get_stands b.code k i at')) e in
    by_phi (take k b.code) (good.1.no_bad_phi some) (first_arm (arms_of i.op) some)
  where
    by_from : (front : List Instr) → IsGoodPhi f b front i.op → (a : Arm) → Stands a (arms_of i.op)
        → (d : Block) → Stands d f.blocks → d.name ≡ a.from → ⊥
    by_from front phi a t d u called =
        let among : Stands d.name (map (λ (x : Arm). x.from) (arms_of i.op)) =
        subst (λ n. Stands n (map (λ (x : Arm). x.from) (arms_of i.op))) (sym called)
        (stands_map (λ (x : Arm). x.from) a (arms_of i.op) t) in
        let edge = (phi.labels d u).1 among in
        no_edge m f keeps b bs first s d u edge.2 edge.3 edge.4

    by_phi : (front : List Instr) → IsGoodPhi f b front i.op → (a : Arm) × Stands a (arms_of i.op) → ⊥
    by_phi front phi arm =
        let from = each_standing (λ (a : Arm). (d : Block) × Stands d f.blocks × (d.name ≡ a.from)) (arms_of i.op)
        phi.known arm.0 arm.1 in
        by_from front phi arm.0 arm.1 from.0 from.1 from.2

-- EDGES

-- the thread comes to the block of each label that the instruction names
pub edge_safe : (c : Context) (s : Current)
    (r : Reached c.code s.frame.function s.frame.block s.frame.index s.frame.env)
    → AllWait c.code s.frame.function s.below → (to : Name) → Stands to (targets_of r.instr.op)
    → Safe (Inv c.code) (goes_to c s to)
edge_safe c s r waits to t =
    let m = c.code in
    let fr = s.frame in
    let last = leads_last r.instr.op to t in
    let at_hand = get_stands r.block.code fr.index r.instr r.there in
    let bounds = bound_instr m r.f r.keeps r.block r.stands r.instr at_hand in
    let silent = nameless r.instr.result (bounds.has_name ∙ last_silent r.instr.op last) in
    let through : Covers fr.env r.f r.path r.block.code =
    subst (λ is. Covers fr.env r.f r.path is)
    (sym (ended_last r.block.code (ended m r.f r.keeps r.block r.stands) fr.index r.instr r.there last))
    (covers_push fr.env r.f r.path (take fr.index r.block.code) r.instr r.covers
    (held_none fr.env r.instr.result r.instr.op silent)) in
    let good = good_instr m r.f r.keeps r.block r.stands fr.index r.instr r.there in
    let target = each_standing (IsTarget r.f) (targets_of r.instr.op) good.1.no_bad_block to t in
    let d = block_there r.f.blocks to target.0 target.1 target.2 in
    let edge : IsEdge r.f r.block d.block =
    (r.stands, d.stands, r.instr, at_hand, subst (λ n. Stands n (targets_of r.instr.op)) (sym d.named) t) in
    let phis = phis_given c fr.env fr.block d.block.code (λ i ch u e. subst (λ n. PhiGiven m fr.env n ch) r.named
    (phi_given m r.f r.keeps r.block d.block r.path fr.env r.is_path through edge i ch u e)) in
    let first = ended_first d.block.code (ended m r.f r.keeps d.block d.stands) in
    let env = all_bound phis.values fr.env in
    let found : block_labelled m fr.function to ≡ Some d.block =
    ap (λ o. block_among (blocks_in o) to) r.is ∙ d.is in
    subst (λ o. Safe (Inv m) (arrives s to (o >>= (λ (b : Block). phi_values c fr.env fr.block b.code)))) (sym found)
    (subst (λ o. Safe (Inv m) (arrives s to o)) (sym phis.are) (
      record {
        f = r.f;
        is = r.is;
        keeps = r.keeps;
        block = d.block;
        found = d.is;
        stands = d.stands;
        named = d.named;
        instr = first.0;
        there = first.1;
        path = r.block ∷ r.path;
        is_path = (edge, r.is_path);
        covers = further r.f r.block r.path fr.env env (keeps_all phis.values fr.env) through;
        phis = phis.held fr.env;
      },
      waits,
    ))
  where
    further : (f : Function) (b : Block) (path : List Block) (env env' : Environment) → Keeps env env'
        → Covers env f path b.code → Covers env' f (b ∷ path) []
    further f b path env env' k c =
        let d = covers_keeps env env' f path b.code k c in
        record {
          params = d.params;
          before = λ x u i v. by_cases d x i (stands_cases x b path u) v;
          here = λ i u. none_stands i u;
        }
      where
        by_cases : Covers env' f path b.code → (x : Block) (i : Instr) → (b ≡ x) ⊎ Stands x path → Stands i x.code
            → Held env' i.result i.op
        by_cases d x i (inl same) v = d.here i (subst (λ (y : Block). Stands i y.code) (sym same) v)
        by_cases d x i (inr u) v = d.before x u i v

-- FUNCTIONS

-- the number of the function's name is its own
pub function_found : (m : Module) → IsWellFormed m → (g : Function) → Stands g m.functions
    → (n : ℕ) × (function_number m g.name ≡ Some n) × (slice_get m.functions n ≡ Some g)
function_found m well g s =
    let k = number_of m.functions g s in (
      k.0,
      distinct_place (map (λ (f : Function). f.name) m.functions) k.0 g.name
          (distinct_behind (map (λ (x : GlobalDef). x.name) m.globals) (map (λ (f : Function). f.name) m.functions)
          well.no_twice)
          (slice_get-map (λ (f : Function). f.name) m.functions k.0
          ∙ ap (λ o. option_map (λ (f : Function). f.name) o) k.1),
      k.1,
    )

-- a function begins at its entry, where its parameters stand for values
pub entry_reached : (m : Module) → IsWellFormed m → (n : ℕ) (g : Function) → slice_get m.functions n ≡ Some g
    → (b : Block) (bs : List Block) → g.blocks ≡ b ∷ bs → (env : Environment)
    → ((p : Param) → Stands p g.params → Bound env p.name 0) → Reached m n (entry_of g.blocks) 0 env
entry_reached m well n g is b bs same env params =
    let some : g.blocks ≡ [] → ⊥ = λ e. let bad : [] ≡ b ∷ bs = sym e ∙ same in cc in
    let keeps = fine m well g (get_stands m.functions n g is) some in
    let stands : Stands b g.blocks = subst (λ (x : List Block). Stands b x) (sym same) (stands_head b bs) in
    let first = ended_first b.code (ended m g keeps b stands) in
    subst (λ l. Reached m n l 0 env) (sym (ap entry_of same)) (record {
      f = g;
      is = is;
      keeps = keeps;
      block = b;
      found = ap (λ (x : List Block). block_among x b.name) same ∙ first_there b bs;
      stands = stands;
      named = refl;
      instr = first.0;
      there = first.1;
      path = [];
      is_path = (bs, same);
      covers = record {
        params = params;
        before = λ x u. none_stands x u;
        here = λ i u. none_stands i u;
      };
      phis = record { each = λ k i ch at' e front. absurd (no_phi m g keeps b bs same stands k i ch at' e) };
    })
