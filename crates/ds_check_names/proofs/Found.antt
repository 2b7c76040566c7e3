-- Where the names of globals and functions stand.
use Rattle.std.proofs.Common.{◌≡◌, ◌<◌, ◌≤◌, ◌+◌, ◌-◌, ℕ, List, ◌++◌, length, map, Option, Some, None, refl, sym, ap}
use Rattle.std.proofs.Common.{◌∙◌, subst, slice_get, true≢false, arith}
use Rattle.std.specs.Prelude.{IfSome, IfNone, option_copied, IsTrue, false, leb, ltb}
use Rattle.std.proofs.lemmas.Bool.{lt-ltb, ltb-true, le-leb, leb-true}
use Rattle.std.proofs.lemmas.Option.{slice_get_within}
use Rattle.std.proofs.lemmas.List.{length-map}
use denote.Ref.{Bor}
use Rattle.ds_ast.specs.declared.name.Name.{Name}
use Rattle.ds_ast.specs.declared.module.Module.{Module}
use Rattle.ds_ast.specs.declared.module.GlobalDef.{GlobalDef}
use Rattle.ds_ast.specs.declared.module.Function.{Function}
use Rattle.ds_names.specs.Names.{AreDistinct, place_of}
use Rattle.ds_names.specs.Laws.{PlacesAreExact, PlacesAreUnique}
use Rattle.ds_shape.specs.Types.{Stands, IsGlobal, IsFunction}
use Rattle.ds_shape.specs.Accepted.{global_names}
use Rattle.ds_check_names.specs.Scope.{IsFunctionOf}
use Rattle.ds_check_names.proofs.Lists.{in_first, in_second, from_first, from_second, from_map, in_map, stands_at, number_of}
use Rattle.ds_check_names.proofs.Placed.{among_at, number_among, at_place, place_at}

abbrev globals_named : Module → List Name
globals_named m = map (λ (g : GlobalDef). g.name) m.globals

abbrev functions_named : Module → List Name
functions_named m = map (λ (f : Function). f.name) m.functions

same_place : (o : Option ℕ) (i j : ℕ) → o ≡ Some i → o ≡ Some j → i ≡ j
same_place None i j e h = cc
same_place (Some k) i j e h = cc

module _ (exact : PlacesAreExact) (unique : PlacesAreUnique) (m : Module) (names : List Name) (name : Name)
    (place : Option ℕ)
    (all : (names ≡ global_names m) × AreDistinct names) (is : place ≡ place_of names name) where
  there : (i : ℕ) → place ≡ Some i → slice_get (globals_named m ++ functions_named m) i ≡ Some name
  there i e = subst (λ ns. slice_get ns i ≡ Some name) all.0 (at_place exact names name i (sym is ∙ e))

  placed : (i : ℕ) → slice_get (globals_named m ++ functions_named m) i ≡ Some name → place ≡ Some i
  placed i e = is ∙ place_at unique names name i all.1 (subst (λ ns. slice_get ns i ≡ Some name) (sym all.0) e)

  pub global_there : (i : ℕ) → place ≡ Some i → i < length m.globals → IsGlobal m name
  global_there i e inside =
      let first : i < length (globals_named m) =
      subst (λ n. i < n) (sym (length-map m.globals (λ (g : GlobalDef). g.name))) inside in
      among_at (globals_named m) i name (from_first (globals_named m) (functions_named m) i name first (there i e))

  pub global_placed : IsGlobal m name → (i : ℕ) × (place ≡ Some i) × (i < length m.globals)
  global_placed a =
      let n : (i : ℕ) × (slice_get (globals_named m) i ≡ Some name) = number_among (globals_named m) name a in (
        n.0,
        placed n.0 (in_first (globals_named m) (functions_named m) n.0 name n.1),
        subst (λ k. n.0 < k) (length-map m.globals (λ (g : GlobalDef). g.name))
            (slice_get_within (globals_named m) n.0 name n.1),
      )

  pub function_there : (i j : ℕ) → place ≡ Some i → i ≡ length m.globals + j
      → slice_get (functions_named m) j ≡ Some name
  function_there i j e at =
      from_second (globals_named m) (functions_named m) i j name
      (at ∙ ap (λ n. n + j) (sym (length-map m.globals (λ (g : GlobalDef). g.name)))) (there i e)

  pub function_placed : (j : ℕ) → slice_get (functions_named m) j ≡ Some name → place ≡ Some (length m.globals + j)
  function_placed j e =
      placed (length m.globals + j)
      (in_second (globals_named m) (functions_named m) j (length m.globals + j) name e
      (ap (λ n. n + j) (sym (length-map m.globals (λ (g : GlobalDef). g.name)))))

  pub function_behind : IsFunction m name → (i : ℕ) × (place ≡ Some i) × (length m.globals ≤ i)
  function_behind a =
      let n : (j : ℕ) × (slice_get (functions_named m) j ≡ Some name) = number_among (functions_named m) name a in
      (length m.globals + n.0, function_placed n.0 n.1, omega arith)

  -- a function's name has another place than a global's
  pub not_first : (i : ℕ) → place ≡ Some i → i < length m.globals → IsFunction m name → ⊥
  not_first i e inside a =
      let f : (j : ℕ) × (place ≡ Some j) × (length m.globals ≤ j) = function_behind a in
      let same : i ≡ f.0 = same_place place i f.0 e f.1 in omega (arith, inside, f.2, same)

  pub not_none : place ≡ None → IsFunction m name → ⊥
  not_none e a =
      let f : (j : ℕ) × (place ≡ Some j) × (length m.globals ≤ j) = function_behind a in let same = sym e ∙ f.1 in cc

  -- what the tests of code tell
  module _ (v : Module) (view : m ≡ v) where
    pub tells_global : (i n : ℕ) → place ≡ Some i → n ≡ length m.globals → (IsTrue (ltb i n) → IsGlobal v name)
        × (IsGlobal v name → IsTrue (ltb i n))
    tells_global i n e len = (
      λ t. subst (λ x. IsGlobal x name) view (global_there i e (subst (λ k. i < k) len (ltb-true i n t))),
      λ a. let f : (j : ℕ) × (place ≡ Some j) × (j < length m.globals) =
          global_placed (subst (λ x. IsGlobal x name) (sym view) a) in
          let same : i ≡ f.0 = same_place place i f.0 e f.1 in
          let inside : i < length m.globals = omega (arith, f.2, same) in
          lt-ltb i n (subst (λ k. i < k) (sym len) inside),
    )

    pub no_global : place ≡ None → (IsTrue false → IsGlobal v name) × (IsGlobal v name → IsTrue false)
    no_global e = (
      λ t. absurd (true≢false (sym t)),
      λ a. let f : (j : ℕ) × (place ≡ Some j) × (j < length m.globals) =
          global_placed (subst (λ x. IsGlobal x name) (sym view) a) in let both = sym e ∙ f.1 in cc,
    )

    pub tells_function : (i n : ℕ) → place ≡ Some i → n ≡ length m.globals → (IsTrue (leb n i) → IsFunction v name)
        × (IsFunction v name → IsTrue (leb n i))
    tells_function i n e len = (
      λ t. let behind : n ≤ i = leb-true n i t in let at : i ≡ length m.globals + (i - length m.globals) =
          omega (arith, behind, len) in
          subst (λ x. IsFunction x name) view
          (among_at (functions_named m) (i - length m.globals) name (function_there i (i - length m.globals) e at)),
      λ a. let f : (j : ℕ) × (place ≡ Some j) × (length m.globals ≤ j) =
          function_behind (subst (λ x. IsFunction x name) (sym view) a) in
          let same : i ≡ f.0 = same_place place i f.0 e f.1 in
          let behind : n ≤ i = omega (arith, f.2, same, len) in le-leb n i behind,
    )

    pub no_function : place ≡ None → (IsTrue false → IsFunction v name) × (IsFunction v name → IsTrue false)
    no_function e = (
      λ t. absurd (true≢false (sym t)),
      λ a. let f : (j : ℕ) × (place ≡ Some j) × (length m.globals ≤ j) =
          function_behind (subst (λ x. IsFunction x name) (sym view) a) in let both = sym e ∙ f.1 in cc,
    )

  module _ (i j : ℕ) (e : place ≡ Some i) (at : i ≡ length m.globals + j) where
    alone : (g h : Function) → slice_get m.functions j ≡ Some g → Stands h m.functions → h.name ≡ name → h ≡ g
    alone g h here stands called =
        let n : (k : ℕ) × (slice_get m.functions k ≡ Some h) = number_of m.functions h stands in
        let there = function_placed n.0 (in_map (λ (f : Function). f.name) m.functions n.0 h n.1 ∙ ap Some called) in
        let one : i ≡ length m.globals + n.0 = same_place place i (length m.globals + n.0) e there in
        let same : j ≡ n.0 = omega (arith, at, one) in
        let two : Some h ≡ Some g = sym n.1 ∙ ap (slice_get m.functions) (sym same) ∙ here in cc

    found : (g : Function) → slice_get m.functions j ≡ Some g → IsFunctionOf m name g
    found g here =
        let f : (x : Function) × (slice_get m.functions j ≡ Some x) × (x.name ≡ name) =
        from_map (λ (f : Function). f.name) m.functions j name (function_there i j e at) in
        let same : Some f.0 ≡ Some g = sym f.1 ∙ here in
        record {
          stands = stands_at m.functions j g here;
          called = subst (λ o. (x : Function) → o ≡ Some x → x.name ≡ name) here
              (λ x is. subst (λ (y : Function). y.name ≡ name) (some_same f.0 x (sym f.1 ∙ is)) f.2) g refl;
          alone = λ h stands called. alone g h here stands called;
        }
      where
        some_same : (x y : Function) → ◌≡◌ {A = Option Function} (Some x) (Some y) → x ≡ y
        some_same x y e = cc

    pub function_found : (r : Option (Bor Function)) → option_copied r ≡ slice_get m.functions j
        → IfSome r (λ g. IsFunctionOf m name g.now)
    function_found None is = tt
    function_found (Some g) is = found g.now (sym is)

    pub function_not_found : (r : Option (Bor Function)) → option_copied r ≡ slice_get m.functions j
        → IfNone r (IsFunction m name → ⊥)
    function_not_found None is =
        λ a. let f : (x : Function) × (slice_get m.functions j ≡ Some x) × (x.name ≡ name) =
        from_map (λ (f : Function). f.name) m.functions j name (function_there i j e at) in
        let same = is ∙ f.1 in cc
    function_not_found (Some g) is = tt
