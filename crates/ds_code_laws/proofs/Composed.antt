-- The code of a well-formed module is its program.
use Rattle.std.proofs.Common.{◌≡◌, ℕ, zero, suc, ◌+◌, ◌<◌, Bool, false, List, [], ◌∷◌, ◌++◌, map, Option, Some, None}
use Rattle.std.proofs.Common.{slice_get, refl, ap, sym, ◌∙◌, subst, arith, inl, inr}
use Rattle.std.specs.Prelude.{All, flat_map, option_map}
use Rattle.std.proofs.lemmas.List.Elements.{All-head, All-tail}
use Rattle.std.proofs.lemmas.Option.{slice_get-map}
use mathlib.Core.Path.{fun_ext}
use Rattle.ds_ast.specs.declared.name.Name.{Name}
use Rattle.ds_ast.specs.declared.name.Name.TheVariants.{Number}
use Rattle.ds_ast.specs.declared.module.Module.{Module}
use Rattle.ds_ast.specs.declared.module.Function.{Function}
use Rattle.ds_ast.specs.declared.module.Param.{Param}
use Rattle.ds_ast.specs.declared.module.Block.{Block}
use Rattle.ds_ast.specs.Bounds.{IsFunction, IsNumbered, names_of_block}
use Rattle.ds_map.specs.Bounds.{Bounds}
use Rattle.ds_names.specs.Names.{Among, AreDistinct}
use Rattle.ds_shape.specs.Accepted.{IsGood, IsWellFormed}
use Rattle.ds_plain.specs.Behaviour.{Behaviour, Program}
use Rattle.ds_meaning.specs.Meaning.{step}
use Rattle.ds_meaning.specs.Program as meaning
use Rattle.ds_meaning.specs.Program.{context, start, is_thread_function}
use Rattle.ds_safe_laws.specs.Means.{Means}
use Rattle.ds_safe_laws.specs.Laws.{WellFormedMeans, AcceptedMeans}
use Rattle.ds_code.specs.declared.functions.CodeFunction.{CodeFunction}
use Rattle.ds_code.specs.declared.functions.CodeParts.{CodeParts}
use Rattle.ds_code.specs.Cells.{parameter_names}
use Rattle.ds_code.specs.Lowering.{IsLowered, lowered_function}
use Rattle.ds_code.specs.CodeProgram as code
use Rattle.ds_code.specs.CodeProgram.{program_of}
use Rattle.ds_code_laws.specs.Laws.{HasDistinctParameters, CodeMeans, AcceptedCodeMeans}
use Rattle.ds_code_laws.proofs.Begins.{all_same}

-- DISTINCT PARAMETERS

-- what all have has the one at a place
pub all_get : {A : Type 0} (P : A → Type 0) (xs : List A) (n : ℕ) (x : A) → All P xs → slice_get xs n ≡ Some x → P x
all_get P [] n x all e = absurd (cc)
all_get P (y ∷ ys) zero x all e = let same : y ≡ x = cc in subst P same (All-head P y ys all)
all_get P (y ∷ ys) (suc n) x all e = all_get P ys n x (All-tail P y ys all) e

among_left : (x : Name) (xs ys : List Name) → Among x xs → Among x (xs ++ ys)
among_left x [] ys a = absurd a
among_left x (z ∷ xs) ys (inl e) = inl e
among_left x (z ∷ xs) ys (inr a) = inr (among_left x xs ys a)

distinct_left : (xs ys : List Name) → AreDistinct (xs ++ ys) → AreDistinct xs
distinct_left [] ys d = tt
distinct_left (x ∷ xs) ys d = (λ a. d.0 (among_left x xs ys a), distinct_left xs ys d.1)

abbrev named : List Param → List Name
named ps = map (λ (p : Param). p.name) ps

-- parameters that are numbered from one number on have no lower one
none_lower : (k n : ℕ) (ps : List Param) → IsNumbered n ps → k < n → Among (Number k) (named ps) → ⊥
none_lower k n [] h lt a = a
none_lower k n (p ∷ ps) h lt (inl e) =
    let same : Number n ≡ Number k = sym h.0 ∙ e in
    let one : n ≡ k = cc in
    omega (arith, lt, one)
none_lower k n (p ∷ ps) h lt (inr a) = none_lower k (n + 1) ps h.1 (omega (arith, lt)) a

numbered_distinct : (n : ℕ) (ps : List Param) → IsNumbered n ps → AreDistinct (named ps)
numbered_distinct n [] h = tt
numbered_distinct n (p ∷ ps) h = (
  (λ a. none_lower n (n + 1) ps h.1 (omega arith) (subst (λ x. Among x (named ps)) h.0 a)),
  numbered_distinct (n + 1) ps h.1,
)

distinct_by : (m : Module) (f : Function) → IsFunction f → IsGood m f → (bs : List Block) → f.blocks ≡ bs
    → AreDistinct (parameter_names f)
distinct_by m f bounds good [] e = numbered_distinct 0 f.params (bounds.declared e)
distinct_by m f bounds good (b ∷ bs) e =
    distinct_left (parameter_names f) (flat_map names_of_block f.blocks)
    (good (λ none. absurd (cc (e, none)))).no_twice_local

pub distinct_parameters : (m : Module) → IsWellFormed m → HasDistinctParameters m
distinct_parameters m well n f is =
    distinct_by m f (all_get IsFunction m.functions n f well.bounds.functions is)
    (all_get (IsGood m) m.functions n f well.functions is) f.blocks refl

-- THE PROGRAM

abbrev made : (main : ℕ) (image : List ℕ) (may_start : ℕ → Bool) (behaves : (thread function argument : ℕ) → Behaviour)
    → Program
made main image may_start behaves = record { main = main; image = image; may_start = may_start; behaves = behaves }

module _ (m : Module) (lim : Bounds) (code' : CodeParts) (low : IsLowered m code') where
  starts_same : (o : Option Function) → code.may_start (option_map (lowered_function m) o) ≡ is_thread_function o
  starts_same None = refl
  starts_same (Some f) = refl

  may_start_same : (function : ℕ) → code.may_start (slice_get code'.functions function)
      ≡ is_thread_function (slice_get m.functions function)
  may_start_same function =
      ap (λ (fs : List CodeFunction). code.may_start (slice_get fs function)) low.functions
      ∙ ap code.may_start (slice_get-map (lowered_function m) m.functions function)
      ∙ starts_same (slice_get m.functions function)

  -- each thread asks what the module asks
  abbrev AllAgree : Type 0
  AllAgree = (thread function argument : ℕ) (answers : List ℕ) →
      (program_of lim code').behaves thread function argument answers
      ≡ (meaning.program_of false lim m).behaves thread function argument answers

  pub all_agree : HasDistinctParameters m → ((thread function argument : ℕ) (f : Function) (answers : List ℕ) →
      slice_get m.functions function ≡ Some f → (f.blocks ≡ [] → ⊥) →
      Means (step (context false lim m thread)) lim.fuel (start m function argument) answers) → AllAgree
  all_agree distinct means thread function argument answers =
      sym (all_same (record {
        m = m;
        lim = lim;
        thread = thread;
        code = code';
        functions = low.functions;
        distinct = distinct;
      }) function argument answers (λ f is some. means thread function argument f answers is some))

  pub same_program : AllAgree → program_of lim code' ≡ meaning.program_of false lim m
  same_program agree =
      let q : Program = program_of lim code' in
      let p : Program = meaning.program_of false lim m in
      let starts : q.may_start ≡ p.may_start = fun_ext may_start_same in
      let behaves : q.behaves ≡ p.behaves =
      fun_ext (λ thread. fun_ext (λ function. fun_ext (λ argument. fun_ext (agree thread function argument)))) in
      ap (λ n. made n q.image q.may_start q.behaves) low.main
      ∙ ap (λ ws. made p.main ws q.may_start q.behaves) low.image
      ∙ ap (λ s. made p.main p.image s q.behaves) starts
      ∙ ap (λ b. made p.main p.image p.may_start b) behaves

-- THE LAWS

pub code_means : WellFormedMeans → CodeMeans
code_means mean m lim parts well known low =
    same_program m lim parts low
    (all_agree m lim parts low (distinct_parameters m well) (mean m well known false lim))

pub accepted_code_means : AcceptedMeans → AcceptedCodeMeans
accepted_code_means mean m lim parts accepted low =
    same_program m lim parts low
    (all_agree m lim parts low (distinct_parameters m accepted.well_formed) (mean m false lim accepted))
