-- What names stand for, in cells.
use Rattle.std.proofs.Common.{◌≡◌, ℕ, zero, suc, ◌+◌, ◌<◌, ◌≤◌, Bool, true, false, ◌==◌, ◌&&◌, if◌then◌else◌, List}
use Rattle.std.proofs.Common.{[], ◌∷◌}
use Rattle.std.proofs.Common.{length, Option, Some, None, slice_index, slice_set, refl, ap, sym}
use Rattle.std.proofs.Common.{◌∙◌}
use Rattle.std.proofs.Common.{subst, arith, true≢false}
use Rattle.std.specs.Prelude.{option_map}
use Rattle.std.specs.Option.{unwrap_or}
use Rattle.std.proofs.lemmas.Bool.Decides.{nat_tests}
use Rattle.std.proofs.lemmas.List.{get_or-set_same, get_or-set_other}
use Rattle.std.proofs.Math.ListN.{length-set}
use Rattle.ds_ast.specs.declared.name.Name.{Name}
use Rattle.ds_ast.specs.declared.ty.Scalar.{Scalar}
use Rattle.ds_ast.specs.declared.value.Value.{Value}
use Rattle.ds_ast.specs.declared.value.Value.TheVariants.{Int, Null, Undef, Local, Global}
use Rattle.ds_ast.specs.declared.module.Module.{Module}
use Rattle.ds_ast.specs.Bounds.{is_name}
use Rattle.ds_meaning.specs.Values.{Environment, Values, part_in, bound, all_bound, cut, value_of, operand}
use Rattle.ds_code.specs.declared.sources.Input.{Input}
use Rattle.ds_code.specs.declared.sources.Copying.{Copying}
use Rattle.ds_code.specs.Machine.{read, written, all_written}
use Rattle.ds_code.specs.Cells.{Cells, cell_total, cell_of, result_cell}
use Rattle.ds_code.specs.Lowering.{source_of}
use Rattle.ds_code_laws.proofs.Named.{names_decide, Stands, place_within, one_name}

-- the part of the name has a cell
abbrev pub HasCell : Cells → Name → ℕ → Type 0
HasCell c x zero = Stands c.firsts x
HasCell c x (suc zero) = Stands c.seconds x
HasCell c x (suc (suc part)) = ⊥

-- so has the part of a result, where it has a name
abbrev pub HasCellToo : Cells → Option Name → ℕ → Type 0
HasCellToo c None part = Unit {0}
HasCellToo c (Some x) part = HasCell c x part

first_is : (c : Cells) (x : Name) (s : Stands c.firsts x) → cell_of c x 0 ≡ s.place
first_is c x s = ap (λ o. unwrap_or o 0) s.is

second_is : (c : Cells) (x : Name) (s : Stands c.seconds x) → cell_of c x 1 ≡ length c.firsts + s.place
second_is c x s = ap (λ o. length c.firsts + unwrap_or o 0) s.is

-- the cell is one of the frame
pub cell_within : (c : Cells) (x : Name) (part : ℕ) → HasCell c x part → cell_of c x part < cell_total c
cell_within c x zero s = let e = first_is c x s in let lt = place_within c.firsts x s.place s.is in omega arith
cell_within c x (suc zero) s = let e = second_is c x s in let lt = place_within c.seconds x s.place s.is in omega arith
cell_within c x (suc (suc part)) s = absurd s

-- two that have one cell are one
pub one_cell : (c : Cells) (x y : Name) (p q : ℕ) → HasCell c x p → HasCell c y q → cell_of c x p ≡ cell_of c y q
    → (x ≡ y) × (p ≡ q)
one_cell c x y zero zero s t e =
    let same : t.place ≡ s.place = sym (sym (first_is c x s) ∙ e ∙ first_is c y t) in
    (one_name c.firsts x y s.place s.is (t.is ∙ ap (λ n. Some n) same), refl)
one_cell c x y zero (suc zero) s t e =
    let f = first_is c x s in let g = second_is c y t in let lt = place_within c.firsts x s.place s.is in
    absurd (omega arith)
one_cell c x y (suc zero) zero s t e =
    let f = second_is c x s in let g = first_is c y t in let lt = place_within c.firsts y t.place t.is in
    absurd (omega arith)
one_cell c x y (suc zero) (suc zero) s t e =
    let f = second_is c x s in let g = second_is c y t in
    let same : t.place ≡ s.place = omega arith in
    (one_name c.seconds x y s.place s.is (t.is ∙ ap (λ n. Some n) same), refl)
one_cell c x y zero (suc (suc q)) s t e = absurd t
one_cell c x y (suc zero) (suc (suc q)) s t e = absurd t
one_cell c x y (suc (suc p)) q s t e = absurd s

-- every part that stands for a value has it in its cell
pub record Holds (c : Cells) (base : ℕ) (cells : List ℕ) (env : Environment) : Type 0 where
  pub each : (x : Name) (part v : ℕ) → part_in env x part ≡ Some v
      → HasCell c x part × (slice_index cells (base + cell_of c x part) ≡ v)

-- cells below the place hold the same
pub record Below (place : ℕ) (old new : List ℕ) : Type 0 where
  pub each : (i : ℕ) → i < place → slice_index new i ≡ slice_index old i
  pub many : length new ≡ length old

pub below_same : (place : ℕ) (cells : List ℕ) → Below place cells cells
below_same place cells = record { each = λ i lt. refl; many = refl }

pub below_through : (place : ℕ) (a b c : List ℕ) → Below place a b → Below place b c → Below place a c
below_through place a b c ab bc =
    record { each = λ i lt. bc.each i lt ∙ ab.each i lt; many = bc.many ∙ ab.many }

pub below_less : (low high : ℕ) (a b : List ℕ) → low ≤ high → Below high a b → Below low a b
below_less low high a b le h = record { each = λ i lt. h.each i (omega arith); many = h.many }

pub below_set : (place i v : ℕ) (cells : List ℕ) → place ≤ i → Below place cells (slice_set cells i v)
below_set place i v cells le =
    record { each = λ j lt. get_or-set_other cells i j v 0 (λ e. absurd (omega arith)); many = length-set cells i v }

-- what stands below stays
pub holds_below : (c : Cells) (base place : ℕ) (old new : List ℕ) (env : Environment) → base + cell_total c ≤ place
    → Below place old new → Holds c base old env → Holds c base new env
holds_below c base place old new env le below h = record {
  each = λ x part v e. let a = h.each x part v e in let lt = cell_within c x part a.0 in
      (a.0, below.each (base + cell_of c x part) (omega arith) ∙ a.1);
}

-- a part that takes a value, in its cell
pub holds_set : (c : Cells) (base : ℕ) (cells : List ℕ) (env : Environment) (x : Name) (p v : ℕ) → HasCell c x p
    → base + cell_total c ≤ length cells → Holds c base cells env
    → Holds c base (slice_set cells (base + cell_of c x p) v) ((x, p, v) ∷ env)
holds_set c base cells env x p v s room h =
    record { each = λ y q w e. by_test y q w (is_name x y) (p == q) refl refl e }
  where
    now : List ℕ
    now = slice_set cells (base + cell_of c x p) v

    within : base + cell_of c x p < length cells
    within = let lt = cell_within c x p s in omega arith

    old : (y : Name) (q w : ℕ) → ((x ≡ y) × (p ≡ q) → ⊥) → part_in env y q ≡ Some w
        → HasCell c y q × (slice_index now (base + cell_of c y q) ≡ w)
    old y q w apart e =
        let a = h.each y q w e in
        let other : (base + cell_of c y q ≡ base + cell_of c x p) → ⊥ =
        λ same. apart (one_cell c x y p q s a.0 (omega arith)) in
        (a.0, get_or-set_other cells (base + cell_of c x p) (base + cell_of c y q) v 0 other ∙ a.1)

    by_test : (y : Name) (q w : ℕ) (t u : Bool) → is_name x y ≡ t → (p == q) ≡ u
        → (if t && u then Some v else part_in env y q) ≡ Some w
        → HasCell c y q × (slice_index now (base + cell_of c y q) ≡ w)
    by_test y q w true true named parts e =
        let same : x ≡ y = (names_decide x y).0 named in
        let part : p ≡ q = grind (arith, nat_tests) in
        let is : v ≡ w = cc in
        let P : Name → ℕ → Type 0 = λ z k. HasCell c z k × (slice_index now (base + cell_of c z k) ≡ w) in
        subst (λ z. P z q) same
        (subst (λ k. P x k) part (s, get_or-set_same cells (base + cell_of c x p) v 0 within ∙ is))
    by_test y q w true false named parts e =
        old y q w (λ b. let same : p ≡ q = b.1 in let is : (p == q)
        ≡ true = grind (arith, nat_tests) in true≢false (sym is ∙ parts)) e
    by_test y q w false u named parts e =
        old y q w (λ b. true≢false (sym ((names_decide x y).1 b.0) ∙ named)) e

pub holds_written : (c : Cells) (base : ℕ) (cells : List ℕ) (env : Environment) (name : Option Name) (p v : ℕ)
    → HasCellToo c name p → base + cell_total c ≤ length cells → Holds c base cells env
    → Holds c base (written base (result_cell c name p) v cells) (bound name p v env)
holds_written c base cells env None p v s room h = h
holds_written c base cells env (Some x) p v s room h = holds_set c base cells env x p v s room h

pub written_below : (c : Cells) (base : ℕ) (cells : List ℕ) (name : Option Name) (p v : ℕ)
    → Below base cells (written base (result_cell c name p) v cells)
written_below c base cells None p v = below_same base cells
written_below c base cells (Some x) p v = below_set base (base + cell_of c x p) v cells (omega arith)

-- nothing stands for anything yet
pub holds_none : (c : Cells) (base : ℕ) (cells : List ℕ) → Holds c base cells []
holds_none c base cells = record { each = λ x part v e. absurd (cc) }

-- The copies and values are those of these names.
pub data Matches (c : Cells) : Values → List Copying → List ℕ → Type 0 where
  Nothing : Matches c [] [] []
  Nameless : {v : ℕ} {ps : Values} {cs : List Copying} {vs : List ℕ} → Matches c ps cs vs
      → Matches c ((None, v) ∷ ps) cs vs
  Named : {x : Name} {v : ℕ} {from : Input} {ps : Values} {cs : List Copying} {vs : List ℕ} → HasCell c x 0
      → Matches c ps cs vs
      → Matches c ((Some x, v) ∷ ps) (record { to = cell_of c x 0; value = from } ∷ cs) (v ∷ vs)

pub holds_all : (c : Cells) (base : ℕ) (ps : Values) (cs : List Copying) (vs cells : List ℕ) (env : Environment)
    → Matches c ps cs vs → base + cell_total c ≤ length cells → Holds c base cells env
    → Holds c base (all_written base cs vs cells) (all_bound ps env)
holds_all c base ps cs vs cells env Nothing room h = h
holds_all c base ps cs vs cells env (Nameless m) room h = holds_all c base _ cs vs cells env m room h
holds_all c base ps cs vs cells env (Named {x} {v} s m) room h =
    let room' = subst (λ n. base + cell_total c ≤ n) (sym (length-set cells (base + cell_of c x 0) v)) room in
    holds_all c base _ _ _ (slice_set cells (base + cell_of c x 0) v) ((x, 0, v) ∷ env) m room'
    (holds_set c base cells env x 0 v s room h)

pub all_written_below : (base : ℕ) (cs : List Copying) (vs cells : List ℕ)
    → Below base cells (all_written base cs vs cells)
all_written_below base [] vs cells = below_same base cells
all_written_below base (c ∷ cs) [] cells = below_same base cells
all_written_below base (c ∷ cs) (v ∷ vs) cells =
    below_through base cells (slice_set cells (base + c.to) v) _ (below_set base (base + c.to) v cells (omega arith))
    (all_written_below base cs vs (slice_set cells (base + c.to) v))

-- the code reads the operand
pub reads : (m : Module) (c : Cells) (base : ℕ) (cells : List ℕ) (env : Environment) (ty : Scalar) (v : Value) (n : ℕ)
    → Holds c base cells env → operand m env ty v ≡ Some n → cut ty (read base cells (source_of m c v)) ≡ n
reads m c base cells env ty v n h e = by_value v (value_of m env v) refl e
  where
    found : (w : Value) (k : ℕ) → value_of m env w ≡ Some k → read base cells (source_of m c w) ≡ k
    found (Int i) k e = cc
    found Null k e = cc
    found Undef k e = cc
    found (Local x) k e = (h.each x 0 k e).1
    found (Global x) k e = cc

    by_value : (w : Value) (o : Option ℕ) → value_of m env w ≡ o → option_map (cut ty) o ≡ Some n
        → cut ty (read base cells (source_of m c w)) ≡ n
    by_value w None f e = absurd (cc)
    by_value w (Some k) f e = let is : cut ty k ≡ n = cc in ap (λ i. cut ty i) (found w k f) ∙ is
