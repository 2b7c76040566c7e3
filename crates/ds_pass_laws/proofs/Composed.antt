-- An accepted module with its notes is the program of the module whose stores note by themselves.
use Rattle.std.proofs.Common.{◌≡◌, ℕ, Bool, true, false, if◌then◌else◌, List, [], ◌∷◌, map, Option, Some, inl, inr}
use Rattle.std.proofs.Common.{None, slice_get, refl, ap, sym, ◌∙◌, subst}
use Rattle.std.specs.Prelude.{codes, unwrap_or}
use mathlib.Core.Path.{fun_ext}
use Rattle.ds_ast.specs.declared.name.Name.{Name}
use Rattle.ds_ast.specs.declared.name.Name.TheVariants.{Number, Text}
use Rattle.ds_ast.specs.declared.module.Module.{Module}
use Rattle.ds_ast.specs.declared.module.Function.{Function}
use Rattle.ds_ast.specs.declared.module.Block.{Block}
use Rattle.ds_map.specs.Bounds.{Bounds}
use Rattle.ds_plain.specs.Behaviour.{Behaviour, Program, Stuck}
use Rattle.ds_plain.specs.Behaviour.{behaviour}
use Rattle.ds_shape.specs.Sizes.{◌>>=◌}
use Rattle.ds_shape.specs.Accepted.{Accepted}
use Rattle.ds_meaning.specs.Frames.{Frame, State, Runs, TooLarge, first_frame, has_room, blocks_in, block_among}
use Rattle.ds_meaning.specs.Meaning.{act_at, step}
use Rattle.ds_meaning.specs.Program.{context, start, start_by, with_argument, main_number, program_of}
use Rattle.ds_safe_laws.specs.Means.{Means}
use Rattle.ds_safe_laws.specs.Laws.{AcceptedMeans}
use Rattle.ds_names.specs.Names.{Among, AreDistinct}
use Rattle.ds_code.specs.Cells.{parameter_names}
use Rattle.ds_code_laws.specs.Laws.{HasDistinctParameters}
use Rattle.ds_code_laws.proofs.Begins.{silent, stops_mean}
use Rattle.ds_code_laws.proofs.Composed.{distinct_parameters, all_agree, same_program}
use Rattle.ds_code_laws.proofs.Simulated.{behaves_same, means_too}
use Rattle.ds_pass.specs.Noted.{noted, noted_block, noted_function}
use Rattle.ds_pass_laws.specs.Laws.{NotedModulesAgree, NotedCodeMeans}
use Rattle.ds_pass_laws.proofs.Shifted.{entry_noted}
use Rattle.ds_pass_laws.proofs.Called.{NoFunction, NoneThere, DeclaredThere, no_blocks, no_function, number_kept, function_kept}
use Rattle.ds_pass_laws.proofs.Called.{starts_noted}
use Rattle.ds_pass_laws.proofs.Passed.{Follows, room_both}
use Rattle.ds_pass_laws.proofs.Stepped.{step_both}
use Rattle.ds_pass_laws.proofs.Quiet.{numbered, is_quiet}

-- NOTHING MEANT

-- an instruction of no block has no meaning
stuck : (noting : Bool) (lim : Bounds) (m : Module) (thread : ℕ) (fr : Frame)
    → blocks_in (slice_get m.functions fr.function) ≡ [] → step (context noting lim m thread) (Runs fr []) ≡ Stuck
stuck noting lim m thread fr e =
    ap (λ (bs : List Block). act_at (context noting lim m thread) fr []
    (block_among bs fr.block >>= (λ (b : Block). slice_get b.code fr.index))) e

-- THREADS

module _ (mean : AcceptedMeans) (m : Module) (accepted : Accepted m) (lim : Bounds) (thread function argument : ℕ)
    (answers : List ℕ) where
  abbrev AreSame : State → State → Type 0
  AreSame s t = behaviour (step (context false lim (noted m) thread)) lim.fuel t answers
      ≡ behaviour (step (context true lim m thread)) lim.fuel s answers

  -- where threads that stand at the same instruction have a meaning
  meant : (s t : State) → Means (step (context true lim m thread)) lim.fuel s answers → Follows m s t → AreSame s t
  meant s t means follows =
      sym (behaves_same (Follows m) (step (context true lim m thread)) (step (context false lim (noted m) thread))
      (step_both m (is_quiet m accepted) lim thread) lim.fuel answers s t means follows)

  both_silent : (s t : State) → step (context true lim m thread) s ≡ Stuck
      → step (context false lim (noted m) thread) t ≡ Stuck → AreSame s t
  both_silent s t e f =
      silent (step (context false lim (noted m) thread)) t f lim.fuel answers
      ∙ sym (silent (step (context true lim m thread)) s e lim.fuel answers)

  -- there is no such function
  without : slice_get m.functions function ≡ None
      → AreSame (start m function argument) (start (noted m) function argument)
  without none =
      subst (λ s. AreSame s (start (noted m) function argument)) (sym (ap (start_by function argument m) none))
      (by_function (slice_get (noted m).functions function) refl (no_function m function none))
    where
      nothing : Frame
      nothing = record { function = function; block = Number 0; index = 0; env = []; taken = 0 }

      by_function : (o : Option Function) → slice_get (noted m).functions function ≡ o → NoFunction o
          → AreSame (Runs nothing []) (start_by function argument (noted m) (slice_get (noted m).functions function))
      by_function None e NoneThere =
          subst (λ o. AreSame (Runs nothing []) (start_by function argument (noted m) o)) (sym e)
          (both_silent (Runs nothing []) (Runs nothing []) (stuck true lim m thread nothing (ap blocks_in none))
          (stuck false lim (noted m) thread nothing (ap blocks_in e)))
      by_function (Some f) e DeclaredThere =
          subst (λ o. AreSame (Runs nothing []) (start_by function argument (noted m) o)) (sym e)
          (both_silent (Runs nothing []) (start_by function argument (noted m) (Some f))
          (stuck true lim m thread nothing (ap blocks_in none))
          (stuck false lim (noted m) thread (first_frame function f (with_argument argument f.params) 0)
          (ap blocks_in e)))

  -- there is one
  module _ (f : Function) (there : slice_get m.functions function ≡ Some f) where
    first : State
    first = start_by function argument m (Some f)

    starts_here : start m function argument ≡ start_by function argument m (Some f)
    starts_here = ap (start_by function argument m) there

    starts_there : start (noted m) function argument
        ≡ start_by function argument (noted m) (Some (noted_function f))
    starts_there = ap (start_by function argument (noted m)) (function_kept m function f there)

    abbrev frame : Frame
    frame = first_frame function f (with_argument argument f.params) 0

    abbrev frame' : Frame
    frame' = first_frame function (noted_function f) (with_argument argument f.params) 0

    same_frame : frame' ≡ frame
    same_frame = ap (λ (name : Name). record frame { block = name }) (entry_noted f.blocks)

    by_room : (P : State → State → Type 0)
        → P (if has_room m [] f then Runs frame [] else TooLarge function)
        (if has_room m [] f then Runs frame' [] else TooLarge function)
        → P (start m function argument) (start (noted m) function argument)
    by_room P p =
        subst (λ s. P s (start (noted m) function argument)) (sym starts_here)
        (subst (λ t. P (if has_room m [] f then Runs frame [] else TooLarge function) t) (sym starts_there)
        (subst (λ r. P (if has_room m [] f then Runs frame [] else TooLarge function)
        (if r then Runs frame' [] else TooLarge function)) (sym (room_both m [] f tt)) p))

    follows : (r : Bool) → Follows m (if r then Runs frame [] else TooLarge function)
        (if r then Runs frame' [] else TooLarge function)
    follows true = (tt, ap (λ fr. Runs fr []) same_frame)
    follows false = refl

    -- it is defined
    with_blocks : (f.blocks ≡ [] → ⊥) → AreSame (start m function argument) (start (noted m) function argument)
    with_blocks some =
        meant (start m function argument) (start (noted m) function argument)
        (mean m true lim accepted thread function argument f answers there some)
        (by_room (Follows m) (follows (has_room m [] f)))

    -- with its notes it has a meaning too
    noted_means : (f.blocks ≡ [] → ⊥)
        → Means (step (context false lim (noted m) thread)) lim.fuel (start (noted m) function argument) answers
    noted_means some =
        means_too (Follows m) (step (context true lim m thread)) (step (context false lim (noted m) thread))
        (step_both m (is_quiet m accepted) lim thread) lim.fuel answers (start m function argument)
        (start (noted m) function argument) (mean m true lim accepted thread function argument f answers there some)
        (by_room (Follows m) (follows (has_room m [] f)))

    -- it is declared
    with_none : f.blocks ≡ [] → AreSame (start m function argument) (start (noted m) function argument)
    with_none none = by_room AreSame (by_test (has_room m [] f))
      where
        by_test : (r : Bool) → AreSame (if r then Runs frame [] else TooLarge function)
            (if r then Runs frame' [] else TooLarge function)
        by_test true =
            both_silent (Runs frame []) (Runs frame' [])
            (stuck true lim m thread frame (ap blocks_in there ∙ none))
            (stuck false lim (noted m) thread frame' (ap blocks_in (function_kept m function f there)
            ∙ ap (λ (bs : List Block). map noted_block bs) none))
        by_test false =
            meant (TooLarge function) (TooLarge function)
            (stops_mean (step (context true lim m thread)) (TooLarge function) _ _ refl lim.fuel answers) refl

    by_blocks : (bs : List Block) → f.blocks ≡ bs
        → AreSame (start m function argument) (start (noted m) function argument)
    by_blocks [] e = with_none e
    by_blocks (b ∷ bs) e = with_blocks (λ none. absurd (cc (e, none)))

  behaves_as : AreSame (start m function argument) (start (noted m) function argument)
  behaves_as = by_function (slice_get m.functions function) refl
    where
      by_function : (o : Option Function) → slice_get m.functions function ≡ o
          → AreSame (start m function argument) (start (noted m) function argument)
      by_function None e = without e
      by_function (Some f) e = by_blocks f e f.blocks refl

  -- each function with notes that is defined has a meaning
  noted_meaning : (f' : Function) → slice_get (noted m).functions function ≡ Some f' → (f'.blocks ≡ [] → ⊥)
      → Means (step (context false lim (noted m) thread)) lim.fuel (start (noted m) function argument) answers
  noted_meaning f' is some = by_function (slice_get m.functions function) refl
    where
      by_function : (o : Option Function) → slice_get m.functions function ≡ o
          → Means (step (context false lim (noted m) thread)) lim.fuel (start (noted m) function argument) answers
      by_function None e =
          absurd (some (sym (ap blocks_in is)
          ∙ no_blocks (slice_get (noted m).functions function) (no_function m function e)))
      by_function (Some f) e =
          noted_means f e (λ none. some (sym (ap blocks_in is) ∙ ap blocks_in (function_kept m function f e)
          ∙ ap (λ (bs : List Block). map noted_block bs) none))

-- PARAMETERS

apart : Among (Number 0) (Number 1 ∷ []) → ⊥
apart (inl e) = absurd (cc)
apart (inr a) = a

distinct_by : (o : Option Function) → NoFunction o → (f : Function) → o ≡ Some f → AreDistinct (parameter_names f)
distinct_by None NoneThere f e = absurd (cc)
distinct_by (Some g) DeclaredThere f e =
    let same : g ≡ f = cc in
    subst (λ (u : Function). AreDistinct (parameter_names u)) same (apart, ((λ a. a), tt))

-- no function with notes has two parameters of one name
distinct_noted : (m : Module) → Accepted m → HasDistinctParameters (noted m)
distinct_noted m accepted n f is = by_function (slice_get m.functions n) refl
  where
    by_function : (o : Option Function) → slice_get m.functions n ≡ o → AreDistinct (parameter_names f)
    by_function None e = distinct_by (slice_get (noted m).functions n) (no_function m n e) f is
    by_function (Some g) e =
        let both : Some (noted_function g) ≡ Some f = sym (function_kept m n g e) ∙ is in
        let same : noted_function g ≡ f = cc in
        subst (λ (u : Function). AreDistinct (parameter_names u)) same
        (distinct_parameters m accepted.well_formed n g e)

-- THE PROGRAM

abbrev made : (main : ℕ) (image : List ℕ) (may_start : ℕ → Bool) (behaves : (thread function argument : ℕ) → Behaviour)
    → Program
made main image may_start behaves = record { main = main; image = image; may_start = may_start; behaves = behaves }

same_main : (m : Module) → Accepted m → main_number (noted m) ≡ main_number m
same_main m accepted =
    let main = accepted.well_formed.main in
    let n = numbered m (Text (codes "main")) main.0 main.1 main.2.1 in
    ap (λ o. unwrap_or o 0) (number_kept m (Text (codes "main")) n.0 n.1 ∙ sym n.1)

pub noted_modules_agree : AcceptedMeans → NotedModulesAgree
noted_modules_agree mean m lim accepted =
    let q : Program = program_of false lim (noted m) in
    let p : Program = program_of true lim m in
    let starts : q.may_start ≡ p.may_start = fun_ext (starts_noted m) in
    let behaves : q.behaves ≡ p.behaves = fun_ext (λ thread. fun_ext (λ function. fun_ext (λ argument.
    fun_ext (behaves_as mean m accepted lim thread function argument)))) in
    ap (λ n. made n q.image q.may_start q.behaves) (same_main m accepted)
    ∙ ap (λ s. made p.main p.image s q.behaves) starts
    ∙ ap (λ b. made p.main p.image p.may_start b) behaves

pub noted_code_means : AcceptedMeans → NotedCodeMeans
noted_code_means mean m lim parts accepted low =
    same_program (noted m) lim parts low (all_agree (noted m) lim parts low (distinct_noted m accepted)
    (λ thread function argument f answers is some.
    noted_meaning mean m accepted lim thread function argument answers f is some))
    ∙ noted_modules_agree mean m lim accepted
