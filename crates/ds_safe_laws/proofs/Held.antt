-- Names that stand for values.
use Rattle.std.proofs.Common.{◌≡◌, ℕ, zero, suc, Bool, true, false, ◌==◌, ◌&&◌, if◌then◌else◌, List, [], ◌∷◌, take, All}
use Rattle.std.proofs.Common.{Option, Some, None, slice_get, refl, ap, sym, ◌∙◌}
use Rattle.std.proofs.Common.{subst, arith, length, map, inl, inr, ◌⊎◌, true≢false}
use Rattle.std.specs.Option.{option_map}
use Rattle.std.proofs.lemmas.Bool.Decides.{nat_tests}
use Rattle.std.proofs.lemmas.List.Elements.{All-head, All-tail}
use Rattle.ds_ast.specs.declared.name.Name.{Name}
use Rattle.ds_ast.specs.declared.ty.Scalar.{Scalar}
use Rattle.ds_ast.specs.declared.value.Value.{Value}
use Rattle.ds_ast.specs.declared.value.Value.TheVariants.{Int, Null, Undef, Local, Global}
use Rattle.ds_ast.specs.declared.operand.Operand.{Operand}
use Rattle.ds_ast.specs.declared.operand.Arm.{Arm}
use Rattle.ds_ast.specs.declared.instr.Op.{Op}
use Rattle.ds_ast.specs.declared.instr.Op.TheVariants.{Bin, Icmp, Select, Cast, Alloca, Load, Store, Gep, Call, Phi}
use Rattle.ds_ast.specs.declared.instr.Op.TheVariants.{Rmw, Cmpxchg, Extract, Fence, Ret, Br, CondBr, Switch}
use Rattle.ds_ast.specs.declared.instr.Op.TheVariants.{Unreachable}
use Rattle.ds_ast.specs.declared.instr.Instr.{Instr}
use Rattle.ds_ast.specs.declared.module.Module.{Module}
use Rattle.ds_ast.specs.declared.module.Function.{Function}
use Rattle.ds_ast.specs.declared.module.Param.{Param}
use Rattle.ds_ast.specs.declared.module.Block.{Block}
use Rattle.ds_ast.specs.Bounds.{is_name, names_of}
use Rattle.ds_names.specs.Names.{AreDistinct}
use Rattle.ds_shape.specs.declared.local.LocalType.{LocalType}
use Rattle.ds_shape.specs.declared.local.LocalType.TheVariants.{Plain, Pair}
use Rattle.ds_shape.specs.Image.{address_of}
use Rattle.ds_shape.specs.Sizes.{◌>>=◌}
use Rattle.ds_shape.specs.Types.{Stands, result_type, Defines}
use Rattle.ds_shape.specs.Flow.{arms_of, IsPath, IsAssigned}
use Rattle.ds_shape.specs.Placed.{IsPhi, IsAssignedUse}
use Rattle.ds_meaning.specs.Values.{Environment, Values, part_in, bound, all_bound}
use Rattle.ds_meaning.specs.Values.{value_of, operand, cut, global_address}
use Rattle.ds_meaning.specs.Frames.{Context}
use Rattle.ds_meaning.specs.Control.{Choice, choice_of, arm_for, with_value, phis_by, phi_values, arguments}
use Rattle.ds_meaning.specs.Program.{zero_for, with_argument}
use Rattle.ds_safe_laws.proofs.Lists.{stands_head, stands_tail, stands_cases, none_stands}
use Rattle.ds_safe_laws.proofs.Names.{names_decide, itself, Typed, Entry, parameter_entry, result_entry}
use Rattle.ds_safe_laws.proofs.Names.{one_thing, parameter_stands, result_stands, block_of}

-- ENVIRONMENTS

-- the part of the name stands for a value
pub record Bound (env : Environment) (x : Name) (part : ℕ) : Type 0 where
  pub value : ℕ
  pub is : part_in env x part ≡ Some value

-- what stands for a value in the first, does in the second
pub record Keeps (env env' : Environment) : Type 0 where
  pub each : (x : Name) (part : ℕ) → Bound env x part → Bound env' x part

pub keeps_same : (env : Environment) → Keeps env env
keeps_same env = record { each = λ x part b. b }

bound_more : (env : Environment) (y : Name) (q v : ℕ) (x : Name) (p : ℕ) → Bound env x p → Bound ((y, q, v) ∷ env) x p
bound_more env y q v x p b = by_test (is_name y x && q == p) refl
  where
    by_test : (t : Bool) → (is_name y x && q == p) ≡ t → Bound ((y, q, v) ∷ env) x p
    by_test true e = record { value = v; is = ap (λ t. if t then Some v else part_in env x p) e }
    by_test false e = record { value = b.value; is = ap (λ t. if t then Some v else part_in env x p) e ∙ b.is }

pub keeps_bound : (env : Environment) (name : Option Name) (part v : ℕ) → Keeps env (bound name part v env)
keeps_bound env None part v = keeps_same env
keeps_bound env (Some y) part v = record { each = λ x p b. bound_more env y part v x p b }

pub keeps_through : (env env' env'' : Environment) → Keeps env env' → Keeps env' env'' → Keeps env env''
keeps_through env env' env'' k l = record { each = λ x p b. l.each x p (k.each x p b) }

pub keeps_all : (vs : Values) (env : Environment) → Keeps env (all_bound vs env)
keeps_all [] env = keeps_same env
keeps_all (v ∷ vs) env =
    keeps_through env (bound v.0 0 v.1 env) (all_bound vs (bound v.0 0 v.1 env)) (keeps_bound env v.0 0 v.1)
    (keeps_all vs (bound v.0 0 v.1 env))

pub bound_now : (env : Environment) (x : Name) (p v : ℕ) → Bound ((x, p, v) ∷ env) x p
bound_now env x p v =
    let part : (p == p) ≡ true = grind (arith, nat_tests) in
    record {
      value = v;
      is = ap (λ t. if t && p == p then Some v else part_in env x p) (itself x)
          ∙ ap (λ t. if t then Some v else part_in env x p) part;
    }

pub bound_as : (env : Environment) (name : Option Name) (p v : ℕ) (x : Name) → name ≡ Some x
    → Bound (bound name p v env) x p
bound_as env name p v x e = subst (λ o. Bound (bound o p v env) x p) (sym e) (bound_now env x p v)

-- VALUES

-- there is a value
pub record Given (m : Module) (env : Environment) (v : Value) : Type 0 where
  pub value : ℕ
  pub is : value_of m env v ≡ Some value

pub given_keeps : (m : Module) (env env' : Environment) (v : Value) → Keeps env env' → Given m env v → Given m env' v
given_keeps m env env' (Int n) k g = record { value = n; is = refl }
given_keeps m env env' Null k g = record { value = 0; is = refl }
given_keeps m env env' Undef k g = record { value = 0; is = refl }
given_keeps m env env' (Local x) k g =
    let b = k.each x 0 (record { value = g.value; is = g.is }) in record { value = b.value; is = b.is }
given_keeps m env env' (Global x) k g = record { value = g.value; is = g.is }

pub operand_is : (m : Module) (env : Environment) (ty : Scalar) (v : Value) (g : Given m env v)
    → operand m env ty v ≡ Some (cut ty g.value)
operand_is m env ty v g = ap (λ o. option_map (cut ty) o) g.is

-- RESULTS

-- the name of the instruction's result stands for a value; that of a pair for two
pub record Held (env : Environment) (name : Option Name) (op : Op) : Type 0 where
  pub first : (x : Name) → name ≡ Some x → Bound env x 0
  pub second : (x : Name) (s : Scalar) → name ≡ Some x → result_type op ≡ Some (Pair s) → Bound env x 1

pub held_keeps : (env env' : Environment) (name : Option Name) (op : Op) → Keeps env env' → Held env name op
    → Held env' name op
held_keeps env env' name op k h = record {
  first = λ x e. k.each x 0 (h.first x e);
  second = λ x s e t. k.each x 1 (h.second x s e t);
}

pub held_plain : (env : Environment) (name : Option Name) (op : Op) (v : ℕ)
    → ((s : Scalar) → result_type op ≡ Some (Pair s) → ⊥) → Held (bound name 0 v env) name op
held_plain env name op v plain = record {
  first = λ x e. bound_as env name 0 v x e;
  second = λ x s e t. absurd (plain s t);
}

pub held_pair : (env : Environment) (name : Option Name) (op : Op) (v w : ℕ)
    → Held (bound name 1 w (bound name 0 v env)) name op
held_pair env name op v w = record {
  first = λ x e. (keeps_bound (bound name 0 v env) name 1 w).each x 0 (bound_as env name 0 v x e);
  second = λ x s e t. bound_as (bound name 0 v env) name 1 w x e;
}

pub held_none : (env : Environment) (name : Option Name) (op : Op) → name ≡ None → Held env name op
held_none env name op none = record {
  first = λ x e. absurd (let bad : None ≡ Some x = sym none ∙ e in cc);
  second = λ x s e t. absurd (let bad : None ≡ Some x = sym none ∙ e in cc);
}

-- WHAT IS ASSIGNED ON A PATH

-- the parameters stand for values, and so do the results of the path's blocks and of these instructions
pub record Covers (env : Environment) (f : Function) (path : List Block) (front : List Instr) : Type 0 where
  pub params : (p : Param) → Stands p f.params → Bound env p.name 0
  pub before : (b : Block) → Stands b path → (i : Instr) → Stands i b.code → Held env i.result i.op
  pub here : (i : Instr) → Stands i front → Held env i.result i.op

pub covers_keeps : (env env' : Environment) (f : Function) (path : List Block) (front : List Instr) → Keeps env env'
    → Covers env f path front → Covers env' f path front
covers_keeps env env' f path front k c = record {
  params = λ p s. k.each p.name 0 (c.params p s);
  before = λ b s i t. held_keeps env env' i.result i.op k (c.before b s i t);
  here = λ i s. held_keeps env env' i.result i.op k (c.here i s);
}

-- what is assigned stands for a value
pub assigned_bound : (env : Environment) (f : Function) (path : List Block) (front : List Instr) (x : Name)
    → Covers env f path front → IsAssigned f x path front → Bound env x 0
assigned_bound env f path front x c (inl a) = subst (λ y. Bound env y 0) a.2 (c.params a.0 a.1)
assigned_bound env f path front x c (inr (inl a)) = (c.before a.0 a.1 a.2.0 a.2.1).first x a.2.2
assigned_bound env f path front x c (inr (inr a)) = (c.here a.0 a.1).first x a.2

pub use_given : (m : Module) (env : Environment) (f : Function) (path : List Block) (b : Block) (front : List Instr)
    (v : Value) → Covers env f path front → IsPath f path b → IsAssignedUse f b front v → Given m env v
use_given m env f path b front (Int n) c p a = record { value = n; is = refl }
use_given m env f path b front Null c p a = record { value = 0; is = refl }
use_given m env f path b front Undef c p a = record { value = 0; is = refl }
use_given m env f path b front (Local x) c p a =
    let b = assigned_bound env f path front x c (a path p) in record { value = b.value; is = b.is }
use_given m env f path b front (Global x) c p a = record { value = address_of global_address m x; is = refl }

-- the blocks of a path are the function's
pub path_stands : (f : Function) (path : List Block) (c b : Block) → IsPath f path c → Stands b path → Stands b f.blocks
path_stands f [] c b p s = none_stands b s
path_stands f (d ∷ path) c b p s = by_cases (λ t. path_stands f path d b p.1 t) (stands_cases b d path s)
  where
    by_cases : (Stands b path → Stands b f.blocks) → (d ≡ b) ⊎ Stands b path → Stands b f.blocks
    by_cases rec (inl same) = subst (λ x. Stands x f.blocks) same p.0.0
    by_cases rec (inr t) = rec t

-- the instruction that gives a name gives it its type
type_is : (f : Function) → AreDistinct (names_of f) → (b : Block) (i : Instr) (x : Name) (t : Option LocalType)
    → Stands b f.blocks → Stands i b.code → i.result ≡ Some x → Defines f x t → result_type i.op ≡ t
type_is f dist b i x t s u e (inl d) =
    let one : parameter_entry d.0 ≡ result_entry x i.op =
    one_thing f dist _ _ (parameter_stands f d.0 d.1) (result_stands f b i x s u e) d.2 in
    let typed : Typed (Some (Plain d.0.ty)) ≡ Typed (result_type i.op) = ap (λ (y : Entry). y.thing) one in
    (let types : Some (Plain d.0.ty) ≡ result_type i.op = cc in sym types) ∙ sym d.3
type_is f dist b i x t s u e (inr d) =
    let at = block_of f.blocks d.0 d.1 in
    let one : result_entry x d.0.op ≡ result_entry x i.op =
    one_thing f dist _ _ (result_stands f at.0 d.0 x at.1 at.2 d.2) (result_stands f b i x s u e) refl in
    let typed : Typed (result_type d.0.op) ≡ Typed (result_type i.op) = ap (λ (y : Entry). y.thing) one in
    (let types : result_type d.0.op ≡ result_type i.op = cc in sym types) ∙ sym d.3

-- both parts of a pair that is assigned stand for values
pub pair_bound : (env : Environment) (f : Function) → AreDistinct (names_of f) → (path : List Block) (b : Block)
    (front : List Instr) (x : Name) (s : Scalar) → Stands b f.blocks
    → ((i : Instr) → Stands i front → Stands i b.code) → Covers env f path front → IsPath f path b
    → IsAssigned f x path front → Defines f x (Some (Pair s)) → Bound env x 1
pair_bound env f dist path b front x s at within c p (inl a) d = absurd (no_pair d)
  where
    no_pair : Defines f x (Some (Pair s)) → ⊥
    no_pair (inl d) = let bad : Some (Pair s) ≡ Some (Plain d.0.ty) = d.3 in cc
    no_pair (inr d) =
        let at = block_of f.blocks d.0 d.1 in
        let one : parameter_entry a.0 ≡ result_entry x d.0.op =
        one_thing f dist _ _ (parameter_stands f a.0 a.1) (result_stands f at.0 d.0 x at.1 at.2 d.2) a.2 in
        let typed : Typed (Some (Plain a.0.ty)) ≡ Typed (result_type d.0.op) = ap (λ (y : Entry). y.thing) one in
        let types : Some (Plain a.0.ty) ≡ result_type d.0.op = cc in
        let bad : Some (Plain a.0.ty) ≡ Some (Pair s) = types ∙ sym d.3 in cc
pair_bound env f dist path b front x s at within c p (inr (inl a)) d =
    (c.before a.0 a.1 a.2.0 a.2.1).second x s a.2.2
    (type_is f dist a.0 a.2.0 x (Some (Pair s)) (path_stands f path b a.0 p a.1) a.2.1 a.2.2 d)
pair_bound env f dist path b front x s at within c p (inr (inr a)) d =
    (c.here a.0 a.1).second x s a.2 (type_is f dist b a.0 x (Some (Pair s)) at (within a.0 a.1) a.2 d)

-- PHIS

pub choice_is : (op : Op) (ch : Choice) → choice_of op ≡ Some ch → op ≡ Phi ch.ty ch.arms
choice_is (Bin op ty a b) ch e = absurd (cc)
choice_is (Icmp cond ty a b) ch e = absurd (cc)
choice_is (Select c ty a b) ch e = absurd (cc)
choice_is (Cast op from a to) ch e = absurd (cc)
choice_is (Alloca ty count) ch e = absurd (cc)
choice_is (Load ty at) ch e = absurd (cc)
choice_is (Store ty value at) ch e = absurd (cc)
choice_is (Gep ty base indices) ch e = absurd (cc)
choice_is (Call result callee args) ch e = absurd (cc)
choice_is (Phi ty arms) ch e =
    let same : ch ≡ record { ty = ty; arms = arms } = cc in ap (λ (c : Choice). Phi c.ty c.arms) (sym same)
choice_is (Rmw op at ty value) ch e = absurd (cc)
choice_is (Cmpxchg at ty expected new) ch e = absurd (cc)
choice_is (Extract ty of index) ch e = absurd (cc)
choice_is Fence ch e = absurd (cc)
choice_is (Ret value) ch e = absurd (cc)
choice_is (Br label) ch e = absurd (cc)
choice_is (CondBr c first second) ch e = absurd (cc)
choice_is (Switch ty value other cases) ch e = absurd (cc)
choice_is Unreachable ch e = absurd (cc)

-- what chooses nothing is no phi
no_arms : (op : Op) → choice_of op ≡ None → arms_of op ≡ []
no_arms (Bin op ty a b) e = refl
no_arms (Icmp cond ty a b) e = refl
no_arms (Select c ty a b) e = refl
no_arms (Cast op from a to) e = refl
no_arms (Alloca ty count) e = refl
no_arms (Load ty at) e = refl
no_arms (Store ty value at) e = refl
no_arms (Gep ty base indices) e = refl
no_arms (Call result callee args) e = refl
no_arms (Phi ty arms) e = absurd (cc)
no_arms (Rmw op at ty value) e = refl
no_arms (Cmpxchg at ty expected new) e = refl
no_arms (Extract ty of index) e = refl
no_arms Fence e = refl
no_arms (Ret value) e = refl
no_arms (Br label) e = refl
no_arms (CondBr c first second) e = refl
no_arms (Switch ty value other cases) e = refl
no_arms Unreachable e = refl

phi_plain : (op : Op) (ch : Choice) → choice_of op ≡ Some ch → (s : Scalar) → result_type op ≡ Some (Pair s) → ⊥
phi_plain op ch e s t =
    let bad : Some (Plain ch.ty) ≡ Some (Pair s) = sym (ap result_type (choice_is op ch e)) ∙ t in cc

-- the names of the phis at the front stand for values
pub record PhisHeld (env : Environment) (is : List Instr) : Type 0 where
  pub each : (k : ℕ) (i : Instr) (ch : Choice) → slice_get is k ≡ Some i → choice_of i.op ≡ Some ch
      → All IsPhi (take k is) → Held env i.result i.op

pub phis_keep : (env env' : Environment) (is : List Instr) → Keeps env env' → PhisHeld env is → PhisHeld env' is
phis_keep env env' is k h = record {
  each = λ n i ch e g front. held_keeps env env' i.result i.op k (h.each n i ch e g front);
}

-- the phi has an arm for the block, and its value is there
pub record PhiGiven (m : Module) (env : Environment) (from : Name) (ch : Choice) : Type 0 where
  pub value : Value
  pub arm : arm_for from ch.arms ≡ Some value
  pub given : Given m env value

-- what phis take
pub record PhisGiven (c : Context) (env : Environment) (from : Name) (is : List Instr) : Type 0 where
  pub values : Values
  pub are : phi_values c env from is ≡ Some values
  pub held : (env' : Environment) → PhisHeld (all_bound values env') is

pub phis_given : (c : Context) (env : Environment) (from : Name) (is : List Instr)
    → ((i : Instr) (ch : Choice) → Stands i is → choice_of i.op ≡ Some ch → PhiGiven c.code env from ch)
    → PhisGiven c env from is
phis_given c env from [] h =
    record { values = []; are = refl; held = λ env'. record { each = λ k i ch e g front. absurd (cc) } }
phis_given c env from (i ∷ is) h =
    by_choice (choice_of i.op) refl (phis_given c env from is (λ j ch s e. h j ch (stands_tail j i is s) e))
  where
    none : (env' : Environment) → choice_of i.op ≡ None → (k : ℕ) (j : Instr) (ch : Choice)
        → slice_get (i ∷ is) k ≡ Some j → choice_of j.op ≡ Some ch
        → All IsPhi (take k (i ∷ is)) → Held env' j.result j.op
    none env' e zero j ch a g front =
        let same : i ≡ j = cc in
        let bad : None ≡ Some ch = sym e ∙ ap (λ (x : Instr). choice_of x.op) same ∙ g in absurd (cc)
    none env' e (suc k) j ch a g front = absurd (All-head IsPhi i (take k is) front (no_arms i.op e))

    some : (ch : Choice) → choice_of i.op ≡ Some ch → (v : ℕ) (vs : Values)
        → ((env' : Environment) → PhisHeld (all_bound vs env') is)
        → (env' : Environment) (k : ℕ) (j : Instr) (ch' : Choice) → slice_get (i ∷ is) k ≡ Some j
        → choice_of j.op ≡ Some ch' → All IsPhi (take k (i ∷ is))
        → Held (all_bound vs (bound i.result 0 v env')) j.result j.op
    some ch e v vs held env' zero j ch' a g front =
        let same : i ≡ j = cc in
        subst (λ (x : Instr). Held (all_bound vs (bound i.result 0 v env')) x.result x.op) same
        (held_keeps (bound i.result 0 v env') (all_bound vs (bound i.result 0 v env')) i.result i.op
        (keeps_all vs (bound i.result 0 v env')) (held_plain env' i.result i.op v (phi_plain i.op ch e)))
    some ch e v vs held env' (suc k) j ch' a g front =
        (held (bound i.result 0 v env')).each k j ch' a g (All-tail IsPhi i (take k is) front)

    by_choice : (o : Option Choice) → choice_of i.op ≡ o → PhisGiven c env from is → PhisGiven c env from (i ∷ is)
    by_choice None e rest = record {
      values = [];
      are = ap (λ o. phis_by c env from i.result o (phi_values c env from is)) e;
      held = λ env'. record { each = λ k j ch a g front. none env' e k j ch a g front };
    }
    by_choice (Some ch) e rest =
        let g = h i ch (stands_head i is) e in
        let v = cut ch.ty g.given.value in
        record {
          values = (i.result, v) ∷ rest.values;
          are = ap (λ o. phis_by c env from i.result o (phi_values c env from is)) e
              ∙ ap (λ (o : Option Value). with_value i.result (o >>= operand c.code env ch.ty)
              (phi_values c env from is)) g.arm
              ∙ ap (λ o. with_value i.result o (phi_values c env from is)) (operand_is c.code env ch.ty g.value g.given)
              ∙ ap (λ o. with_value i.result (Some v) o) rest.are;
          held = λ env'. record {
            each = λ k j ch' a g' front. some ch e v rest.values rest.held env' k j ch' a g' front;
          };
        }

-- the arm for a block
pub arm_found : (arms : List Arm) (from : Name) → Stands from (map (λ (a : Arm). a.from) arms)
    → (a : Arm) × Stands a arms × (a.from ≡ from) × (arm_for from arms ≡ Some a.value)
arm_found [] from s = none_stands from s
arm_found (d ∷ arms) from s =
    by_test (λ t. arm_found arms from t) (is_name d.from from) refl
    (stands_cases from d.from (map (λ (a : Arm). a.from) arms) s)
  where
    by_test : (Stands from (map (λ (a : Arm). a.from) arms)
        → (a : Arm) × Stands a arms × (a.from ≡ from) × (arm_for from arms ≡ Some a.value))
        → (t : Bool) → is_name d.from from ≡ t → (d.from ≡ from) ⊎ Stands from (map (λ (a : Arm). a.from) arms)
        → (a : Arm) × Stands a (d ∷ arms) × (a.from ≡ from) × (arm_for from (d ∷ arms) ≡ Some a.value)
    by_test rec true e cases = (
      d,
      stands_head d arms,
      (names_decide d.from from).0 e,
      ap (λ t. if t then Some d.value else arm_for from arms) e,
    )
    by_test rec false e (inl same) = absurd (true≢false (sym ((names_decide d.from from).1 same) ∙ e))
    by_test rec false e (inr t) =
        let r = rec t in
        (r.0, stands_tail r.0 d arms r.1, r.2, ap (λ t. if t then Some d.value else arm_for from arms) e ∙ r.3)

-- PARAMETERS

-- what parameters take, where there are as many operands
pub record ArgumentsGiven (c : Context) (env : Environment) (ps : List Param) (os : List Operand) : Type 0 where
  pub values : Values
  pub are : arguments c env ps os ≡ Some values
  pub named : (env' : Environment) (p : Param) → Stands p ps → Bound (all_bound values env') p.name 0

pub arguments_given : (c : Context) (env : Environment) (ps : List Param) (os : List Operand) → length os ≡ length ps
    → ((o : Operand) → Stands o os → Given c.code env o.value) → ArgumentsGiven c env ps os
arguments_given c env [] [] e h = record { values = []; are = refl; named = λ env' p s. none_stands p s }
arguments_given c env [] (o ∷ os) e h = absurd (omega arith)
arguments_given c env (q ∷ ps) [] e h = absurd (omega arith)
arguments_given c env (q ∷ ps) (o ∷ os) e h =
    let g = h o (stands_head o os) in
    let rest = arguments_given c env ps os (omega arith) (λ x s. h x (stands_tail x o os s)) in
    let v = cut o.ty g.value in
    record {
      values = (Some q.name, v) ∷ rest.values;
      are = ap (λ x. with_value (Some q.name) x (arguments c env ps os)) (operand_is c.code env o.ty o.value g)
          ∙ ap (λ x. with_value (Some q.name) (Some v) x) rest.are;
      named = λ env' p s. by_cases v rest.values rest.named env' p (stands_cases p q ps s);
    }
  where
    by_cases : (v : ℕ) (vs : Values)
        → ((env' : Environment) (p : Param) → Stands p ps → Bound (all_bound vs env') p.name 0)
        → (env' : Environment) (p : Param) → (q ≡ p) ⊎ Stands p ps
        → Bound (all_bound vs ((q.name, 0, v) ∷ env')) p.name 0
    by_cases v vs named env' p (inl same) =
        subst (λ (x : Param). Bound (all_bound vs ((q.name, 0, v) ∷ env')) x.name 0) same
        ((keeps_all vs ((q.name, 0, v) ∷ env')).each q.name 0 (bound_now env' q.name 0 v))
    by_cases v vs named env' p (inr t) = named ((q.name, 0, v) ∷ env') p t

-- parameters that are 0 stand for values
zeros_bound : (ps : List Param) (env : Environment) (p : Param) → Stands p ps
    → Bound (all_bound (map zero_for ps) env) p.name 0
zeros_bound [] env p s = none_stands p s
zeros_bound (q ∷ ps) env p s =
    by_cases (λ t. zeros_bound ps ((q.name, 0, 0) ∷ env) p t) (stands_cases p q ps s)
  where
    by_cases : (Stands p ps → Bound (all_bound (map zero_for ps) ((q.name, 0, 0) ∷ env)) p.name 0)
        → (q ≡ p) ⊎ Stands p ps → Bound (all_bound (map zero_for ps) ((q.name, 0, 0) ∷ env)) p.name 0
    by_cases rec (inl same) =
        subst (λ (x : Param). Bound (all_bound (map zero_for ps) ((q.name, 0, 0) ∷ env)) x.name 0) same
        ((keeps_all (map zero_for ps) ((q.name, 0, 0) ∷ env)).each q.name 0 (bound_now env q.name 0 0))
    by_cases rec (inr t) = rec t

-- so do those of a thread
pub first_bound : (argument : ℕ) (ps : List Param) (p : Param) → Stands p ps
    → Bound (all_bound (with_argument argument ps) []) p.name 0
first_bound argument [] p s = none_stands p s
first_bound argument (q ∷ ps) p s = by_cases (stands_cases p q ps s)
  where
    by_cases : (q ≡ p) ⊎ Stands p ps
        → Bound (all_bound (map zero_for ps) ((q.name, 0, cut q.ty argument) ∷ [])) p.name 0
    by_cases (inl same) =
        subst (λ (x : Param). Bound (all_bound (map zero_for ps) ((q.name, 0, cut q.ty argument) ∷ [])) x.name 0) same
        ((keeps_all (map zero_for ps) ((q.name, 0, cut q.ty argument) ∷ [])).each q.name 0
        (bound_now [] q.name 0 (cut q.ty argument)))
    by_cases (inr t) = zeros_bound ps ((q.name, 0, cut q.ty argument) ∷ []) p t
