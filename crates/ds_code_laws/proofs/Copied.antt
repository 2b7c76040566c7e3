-- What phis and parameters take.
use Rattle.std.proofs.Common.{◌≡◌, ℕ, suc, ◌+◌, List, [], ◌∷◌, ◌++◌}
use Rattle.std.proofs.Common.{Option, Some, None, slice_get, refl, ap, sym, ◌∙◌, subst, arith}
use Rattle.std.specs.Prelude.{flat_map}
use Rattle.std.specs.Option.{unwrap_or}
use Rattle.ds_ast.specs.declared.name.Name.{Name}
use Rattle.ds_ast.specs.declared.ty.Scalar.{Scalar}
use Rattle.ds_ast.specs.declared.value.Value.{Value}
use Rattle.ds_ast.specs.declared.operand.Operand.{Operand}
use Rattle.ds_ast.specs.declared.instr.Instr.{Instr}
use Rattle.ds_ast.specs.declared.module.Module.{Module}
use Rattle.ds_ast.specs.declared.module.Param.{Param}
use Rattle.ds_names.specs.Names.{place_of}
use Rattle.ds_shape.specs.Sizes.{◌>>=◌}
use Rattle.ds_meaning.specs.Values.{Environment, Values, operand}
use Rattle.ds_meaning.specs.Frames.{Context}
use Rattle.ds_meaning.specs.Control.{Choice, choice_of, arm_for, chosen, with_value, phis_by, phi_values, arguments}
use Rattle.ds_code.specs.declared.sources.Copying.{Copying}
use Rattle.ds_code.specs.Machine.{Machine, input, all_read}
use Rattle.ds_code.specs.Cells.{Cells, cell_of}
use Rattle.ds_code.specs.Lowering.{input_of, operand_of, front, front_by, arm_copied, phi_copied, copied_at}
use Rattle.ds_code.specs.Lowering.{phis_copied}
use Rattle.ds_code.specs.Lowering.{arguments_of}
use Rattle.ds_code_laws.proofs.Held.{HasCell, HasCellToo, Holds, Matches, Nothing, Nameless, Named, reads}

-- what there is came from something
pub through : {A B : Type 0} (o : Option A) (go : A → Option B) (y : B) → (o >>= go) ≡ Some y
    → (x : A) × (o ≡ Some x) × (go x ≡ Some y)
through None go y e = absurd (cc)
through (Some x) go y e = (x, refl, e)

-- a name with its value before others
record WithValue (name : Option Name) (value : Option ℕ) (rest : Option Values) (ps : Values) : Type 0 where
  v : ℕ
  is : value ≡ Some v
  others : Values
  are : rest ≡ Some others
  all : ps ≡ (name, v) ∷ others

with_parts : (name : Option Name) (value : Option ℕ) (rest : Option Values) (ps : Values)
    → with_value name value rest ≡ Some ps → WithValue name value rest ps
with_parts name value rest ps e =
    let a = through value (λ v. rest >>= (λ vs. Some ((name, v) ∷ vs))) ps e in
    let b = through rest (λ vs. Some ((name, a.0) ∷ vs)) ps a.2 in
    record {
      v = a.0;
      is = a.1;
      others = b.0;
      are = b.1;
      all = let same : (name, a.0) ∷ b.0
          ≡ ps = cc (b.2) in sym same;
    }

-- one copy more in front
one_more : (m : Module) (c : Cells) (q : Machine) (env : Environment) (x : Name) (ty : Scalar) (w : Value) (v : ℕ)
    (ps : Values) (cs : List Copying) → Holds c q.base q.cells env → HasCell c x 0 → operand m env ty w ≡ Some v
    → Matches c ps cs (all_read q cs)
    → Matches c ((Some x, v) ∷ ps) (record { to = cell_of c x 0; value = input_of m c ty w } ∷ cs)
    (all_read q (record { to = cell_of c x 0; value = input_of m c ty w } ∷ cs))
one_more m c q env x ty w v ps cs h s e match =
    subst (λ n. Matches c ((Some x, v) ∷ ps) (record { to = cell_of c x 0; value = input_of m c ty w } ∷ cs)
    (n ∷ all_read q cs)) (sym (reads m c q.base q.cells env ty w v h e)) (Named s match)

-- the names of phis among the instructions have cells
pub record PhisNamed (c : Cells) (is : List Instr) : Type 0 where
  pub each : (k : ℕ) (i : Instr) (ch : Choice) → slice_get is k ≡ Some i → choice_of i.op ≡ Some ch
      → HasCellToo c i.result 0

later : (c : Cells) (i : Instr) (is : List Instr) → PhisNamed c (i ∷ is) → PhisNamed c is
later c i is n = record { each = λ k j ch e g. n.each (suc k) j ch e g }

pub phis_match : (ctx : Context) (c : Cells) (q : Machine) (env : Environment) (from : Name) (is : List Instr) (ps :
    Values)
    → Holds c q.base q.cells env → PhisNamed c is → phi_values ctx env from is ≡ Some ps
    → Matches c ps (phis_copied ctx.code c from is) (all_read q (phis_copied ctx.code c from is))
phis_match ctx c q env from [] ps h named e =
    let none : [] ≡ ps = cc in subst (λ (u : Values). Matches c u [] []) none Nothing
phis_match ctx c q env from (i ∷ is) ps h named e =
    by_choice (choice_of i.op) refl (λ qs f. phis_match ctx c q env from is qs h (later c i is named) f) e
  where
    rest : List Copying
    rest = phis_copied ctx.code c from is

    by_name : (name : Option Name) (ch : Choice) (v : ℕ) (qs : Values) → HasCellToo c name 0
        → chosen ctx env from ch ≡ Some v → Matches c qs rest (all_read q rest)
        → Matches c ((name, v) ∷ qs) (phi_copied ctx.code c from name (Some ch) ++ rest)
        (all_read q (phi_copied ctx.code c from name (Some ch) ++ rest))
    by_name None ch v qs s e match = Nameless match
    by_name (Some x) ch v qs s e match =
        let a = through (arm_for from ch.arms) (operand ctx.code env ch.ty) v e in
        subst (λ o. Matches c ((Some x, v) ∷ qs) (arm_copied ctx.code c x ch.ty o ++ rest)
        (all_read q (arm_copied ctx.code c x ch.ty o ++ rest))) (sym a.1)
        (one_more ctx.code c q env x ch.ty a.0 v qs rest h s a.2 match)

    by_choice : (o : Option Choice) → choice_of i.op ≡ o
        → ((qs : Values) → phi_values ctx env from is ≡ Some qs → Matches c qs rest (all_read q rest))
        → phis_by ctx env from i.result o (phi_values ctx env from is) ≡ Some ps
        → Matches c ps (flat_map (copied_at ctx.code c from) (front_by i o (front is)))
        (all_read q (flat_map (copied_at ctx.code c from) (front_by i o (front is))))
    by_choice None f rec e = let none : [] ≡ ps = cc in subst (λ (u : Values). Matches c u [] []) none Nothing
    by_choice (Some ch) f rec e =
        let w = with_parts i.result (chosen ctx env from ch) (phi_values ctx env from is) ps e in
        let P : Values → Option Choice → Type 0 = λ u o. Matches c u (phi_copied ctx.code c from i.result o ++ rest)
        (all_read q (phi_copied ctx.code c from i.result o ++ rest)) in
        subst (λ u. P u (choice_of i.op)) (sym w.all)
        (subst (λ o. P ((i.result, w.v) ∷ w.others) o) (sym f)
        (by_name i.result ch w.v w.others (named.each 0 i ch refl f) w.is (rec w.others w.are)))

-- the names of these parameters stand in the first cells, the first of them in this one
pub record ParametersNamed (c : Cells) (n : ℕ) (params : List Param) : Type 0 where
  pub each : (k : ℕ) (p : Param) → slice_get params k ≡ Some p → place_of c.firsts p.name ≡ Some (n + k)

pub next_named : (c : Cells) (n : ℕ) (p : Param) (ps : List Param) → ParametersNamed c n (p ∷ ps)
    → ParametersNamed c (suc n) ps
next_named c n p ps named = record {
  each = λ k r e. named.each (suc k) r e ∙ (let s : n + suc k ≡ suc n + k = omega arith in ap (λ j. Some j) s);
}

pub arguments_match : (ctx : Context) (c d : Cells) (q : Machine) (env : Environment) (n : ℕ) (params : List Param)
    (args : List Operand) (ps : Values) → Holds c q.base q.cells env → ParametersNamed d n params
    → arguments ctx env params args ≡ Some ps
    → Matches d ps (arguments_of ctx.code c n args) (all_read q (arguments_of ctx.code c n args))
arguments_match ctx c d q env n [] [] ps h named e =
    let none : [] ≡ ps = cc in subst (λ (u : Values). Matches d u [] []) none Nothing
arguments_match ctx c d q env n [] (o ∷ os) ps h named e = absurd (cc)
arguments_match ctx c d q env n (p ∷ params) [] ps h named e = absurd (cc)
arguments_match ctx c d q env n (p ∷ params) (o ∷ os) ps h named e =
    let w = with_parts (Some p.name) (operand ctx.code env o.ty o.value) (arguments ctx env params os) ps e in
    let at : place_of d.firsts p.name ≡ Some n =
    named.each 0 p refl ∙ (let s : n + 0 ≡ n = omega arith in ap (λ j. Some j) s) in
    let cell : cell_of d p.name 0 ≡ n = ap (λ u. unwrap_or u 0) at in
    let rest = arguments_match ctx c d q env (suc n) params os w.others h (next_named d n p params named) w.are in
    let cs = arguments_of ctx.code c (suc n) os in
    let first : Matches d ((Some p.name, w.v) ∷ w.others)
    (record { to = cell_of d p.name 0; value = operand_of ctx.code c o } ∷ cs) (w.v ∷ all_read q cs) =
    Named (record { place = n; is = at }) rest in
    let read : input q (operand_of ctx.code c o) ≡ w.v = reads ctx.code c q.base q.cells env o.ty o.value w.v h w.is in
    let P : Values → ℕ → ℕ → Type 0 = λ u k v. Matches d u
    (record { to = k; value = operand_of ctx.code c o } ∷ cs) (v ∷ all_read q cs) in
    subst (λ u. P u n (input q (operand_of ctx.code c o))) (sym w.all)
    (subst (λ v. P ((Some p.name, w.v) ∷ w.others) n v) (sym read)
    (subst (λ k. P ((Some p.name, w.v) ∷ w.others) k w.v) cell first))
