-- A module has at most one first fault.
use Rattle.std.proofs.Common.{◌≡◌, ◌++◌, ◌⊎◌, ℕ, suc, List, [], ◌∷◌, length, inl, inr, refl, sym, ap, ◌∙◌, subst}
use Rattle.std.proofs.Common.{append_assoc}
use Rattle.std.specs.Prelude.{All, ◌^◌, ◌-◌}
use Rattle.std.proofs.lemmas.List.Elements.{All-head, All-tail}
use Rattle.ds_ast.specs.declared.name.Name.{Name}
use Rattle.ds_ast.specs.declared.module.Module.{Module}
use Rattle.ds_ast.specs.declared.module.GlobalDef.{GlobalDef}
use Rattle.ds_ast.specs.declared.module.Function.{Function}
use Rattle.ds_names.specs.Names.{Among, AreDistinct, IsFirstTwice}
use Rattle.ds_shape.specs.Written.{IsFirstBreach}
use Rattle.ds_shape.specs.Placed.{Placed, placed_of, KeepsTargets, KeepsDefined, KeepsTypes, KeepsAssigned}
use Rattle.ds_shape.specs.Accepted.{global_names, local_names, IsFreeGlobal, IsGoodExternal, IsGood}
use Rattle.ds_check.specs.declared.fault.CountKind.{CountKind}
use Rattle.ds_check.specs.declared.fault.TypeFault.{TypeFault}
use Rattle.ds_check.specs.declared.fault.TypeFault.TheVariants.{Twice, TooMany, BadExternal, TwiceLocal, BadBlock}
use Rattle.ds_check.specs.declared.fault.TypeFault.TheVariants.{Undefined, WrongType, BadPhi, NotDominating, NoMain}
use Rattle.ds_check.specs.declared.fault.TypeFault.TheVariants.{Memory}
use Rattle.ds_check.specs.Fault.{limit_of, HasFew, count_kinds, KeepsAll, HasLabels, HasFunctionFault}
use Rattle.ds_check.specs.Fault.{HasFirstFunctionFault, IsFirstExternal, HasTypeFault, HasCounts, HasExternals}
use Rattle.ds_check.specs.Fault.{HasGlobals}
use Rattle.ds_check.specs.Laws.{OneTypeFault}
use Rattle.ds_check.proofs.NoFault.{never_breaks, not_twice, never_twice, good_has_none, none_has, never_external}

-- FIRST ITEMS

nothing_behind : {X : Type 0} (xs : List X) → xs ++ [] ≡ xs
nothing_behind [] = refl
nothing_behind (x ∷ xs) = ap (λ ys. x ∷ ys) (nothing_behind xs)

-- what breaks a rule first stands at one place
same_place : {X : Type 0} (Keeps : X → Type 0) (b c a d : List X) (x y : X) → b ++ x ∷ a ≡ c ++ y ∷ d → (Keeps x → ⊥)
    → (Keeps y → ⊥) → All Keeps b → All Keeps c
    → (length b ≡ length c) × (x ≡ y)
same_place Keeps [] [] a d x y is p q kept also = let e : x ≡ y = cc in (refl, e)
same_place Keeps [] (z ∷ c) a d x y is p q kept also =
    let e : z ≡ x = cc in absurd (p (subst Keeps e (All-head Keeps z c also)))
same_place Keeps (z ∷ b) [] a d x y is p q kept also =
    let e : z ≡ y = cc in absurd (q (subst Keeps e (All-head Keeps z b kept)))
same_place Keeps (z ∷ b) (w ∷ c) a d x y is p q kept also =
    let e : b ++ x ∷ a ≡ c ++ y ∷ d = cc in
    let s = same_place Keeps b c a d x y e p q (All-tail Keeps z b kept) (All-tail Keeps w c also) in
    (ap suc s.0, s.1)

same_breach : {X : Type 0} (Keeps : X → Type 0) (xs : List X) (x y : X) → IsFirstBreach Keeps xs x
    → IsFirstBreach Keeps xs y → x ≡ y
same_breach Keeps xs x y f g =
    (same_place Keeps f.before g.before f.after g.after x y (sym f.split ∙ g.split) f.breaks g.breaks f.kept_before
    g.kept_before).1

same_second : (seen b c a d : List Name) (x y : Name) → b ++ x ∷ a ≡ c ++ y ∷ d → Among x (seen ++ b)
    → Among y (seen ++ c) → AreDistinct (seen ++ b) → AreDistinct (seen ++ c) → x ≡ y
same_second seen [] [] a d x y is p q distinct other = cc
same_second seen [] (z ∷ c) a d x y is p q distinct other =
    let e : x ≡ z = cc in
    absurd (not_twice seen c z other (subst (λ (n : Name). Among n seen) e (subst (Among x) (nothing_behind seen) p)))
same_second seen (z ∷ b) [] a d x y is p q distinct other =
    let e : y ≡ z = cc in
    absurd (not_twice seen b z distinct
    (subst (λ (n : Name). Among n seen) e (subst (Among y) (nothing_behind seen) q)))
same_second seen (z ∷ b) (w ∷ c) a d x y is p q distinct other =
    let e : b ++ x ∷ a ≡ c ++ y ∷ d = cc in
    let s : w ≡ z = cc in
    let l : seen ++ z ∷ b ≡ (seen ++ z ∷ []) ++ b = sym (append_assoc seen (z ∷ []) b) in
    let r : seen ++ w ∷ c ≡ (seen ++ z ∷ []) ++ c = ap (λ (n : Name). seen ++ n ∷ c) s
    ∙ sym (append_assoc seen (z ∷ []) c) in
    same_second (seen ++ z ∷ []) b c a d x y e (subst (Among x) l p) (subst (Among y) r q)
    (subst AreDistinct l distinct) (subst AreDistinct r other)

same_twice : (names : List Name) (x y : Name) → IsFirstTwice names x → IsFirstTwice names y → x ≡ y
same_twice names x y f g = same_second [] f.before g.before f.after g.after x y (sym f.split ∙ g.split) f.first_time
    g.first_time f.none_before g.none_before

-- STEPS

-- Of one step of a search and those behind it at most one finds a fault: where the later find one, the step has found
-- nothing.
one_step : (Early Late : TypeFault → Type 0) (Past : Type 0) → ((f : TypeFault) → Early f → Past → ⊥)
    → ((f : TypeFault) → Late f → Past)
    → ((f g : TypeFault) → Early f → Early g → f ≡ g) → ((f g : TypeFault) → Late f → Late g → f ≡ g)
    → (f g : TypeFault) → Early f ⊎ Late f → Early g ⊎ Late g → f ≡ g
one_step Early Late Past stops past early late f g (inl x) (inl y) = early f g x y
one_step Early Late Past stops past early late f g (inl x) (inr y) = absurd (stops f x (past g y))
one_step Early Late Past stops past early late f g (inr x) (inl y) = absurd (stops g y (past f x))
one_step Early Late Past stops past early late f g (inr x) (inr y) = late f g x y

-- INSTRUCTIONS

module _ (m : Module) (n : ℕ) (f : Function) (p : Placed) where
  abbrev AtDefined : TypeFault → Type 0
  AtDefined fault = (fault ≡ Undefined n p.number) × (KeepsDefined m f p → ⊥)

  abbrev AtTypes : TypeFault → Type 0
  AtTypes fault = (fault ≡ WrongType n p.number) × KeepsDefined m f p × (KeepsTypes m f p → ⊥)

  abbrev AtPhi : TypeFault → Type 0
  AtPhi fault = (fault ≡ BadPhi n p.number) × KeepsDefined m f p × KeepsTypes m f p

  abbrev AtUse : TypeFault → Type 0
  AtUse fault = AtTypes fault ⊎ AtPhi fault

  use_defined : (fault : TypeFault) → AtUse fault → KeepsDefined m f p
  use_defined fault (inl x) = x.1
  use_defined fault (inr x) = x.1

  same_use : (x y : TypeFault) → AtUse x → AtUse y → x ≡ y
  same_use x y =
      one_step AtTypes AtPhi (KeepsTypes m f p) (λ z at. at.2) (λ z at. at.2) (λ v w a b. a.0 ∙ sym b.0)
      (λ v w a b. a.0 ∙ sym b.0) x y

  -- the faults of one instruction
  abbrev AtInstr : TypeFault → Type 0
  AtInstr fault = AtDefined fault ⊎ AtUse fault

  same_instr : (x y : TypeFault) → AtInstr x → AtInstr y → x ≡ y
  same_instr x y =
      one_step AtDefined AtUse (KeepsDefined m f p) (λ z at. at.1) use_defined (λ v w a b. a.0 ∙ sym b.0) same_use x y

-- FUNCTIONS

two_numbers : (fault : ℕ → ℕ → TypeFault) (g n i j : ℕ) → g ≡ n → i ≡ j → fault g i ≡ fault n j
two_numbers fault g n i j e s = ap (λ k. fault k i) e ∙ ap (fault n) s

module _ (m : Module) (n : ℕ) (f : Function) where
  abbrev AtLocals : TypeFault → Type 0
  AtLocals fault = (name : Name) × (fault ≡ TwiceLocal n name) × IsFirstTwice (local_names f) name

  abbrev AtTargets : TypeFault → Type 0
  AtTargets fault = (p : Placed) × (fault ≡ BadBlock n p.number) × AreDistinct (local_names f)
      × IsFirstBreach (KeepsTargets f) (placed_of f) p

  abbrev AtInstrs : TypeFault → Type 0
  AtInstrs fault = (p : Placed) × HasLabels f × IsFirstBreach (KeepsAll m f) (placed_of f) p × AtInstr m n f p fault

  abbrev AtPaths : TypeFault → Type 0
  AtPaths fault =
      (p : Placed) × (fault ≡ NotDominating n p.number) × HasLabels f × All (KeepsAll m f) (placed_of f)
      × IsFirstBreach (KeepsAssigned f) (placed_of f) p

  abbrev BehindTargets : TypeFault → Type 0
  BehindTargets fault = AtInstrs fault ⊎ AtPaths fault

  abbrev BehindLocals : TypeFault → Type 0
  BehindLocals fault = AtTargets fault ⊎ BehindTargets fault

  has_labels : (fault : TypeFault) → BehindTargets fault → HasLabels f
  has_labels fault (inl x) = x.1
  has_labels fault (inr x) = x.2

  are_distinct : (fault : TypeFault) → BehindLocals fault → AreDistinct (local_names f)
  are_distinct fault (inl x) = x.2
  are_distinct fault (inr x) = (has_labels fault x).no_twice_local

  same_locals : (x y : TypeFault) → AtLocals x → AtLocals y → x ≡ y
  same_locals x y a b = a.1 ∙ ap (TwiceLocal n) (same_twice (local_names f) a.0 b.0 a.2 b.2) ∙ sym b.1

  same_targets : (x y : TypeFault) → AtTargets x → AtTargets y → x ≡ y
  same_targets x y a b =
      a.1 ∙ ap (λ (p : Placed). BadBlock n p.number) (same_breach (KeepsTargets f) (placed_of f) a.0 b.0 a.3 b.3)
      ∙ sym b.1

  same_instrs : (x y : TypeFault) → AtInstrs x → AtInstrs y → x ≡ y
  same_instrs x y a b =
      let e : b.0 ≡ a.0 = same_breach (KeepsAll m f) (placed_of f) b.0 a.0 b.2 a.2 in
      same_instr m n f a.0 x y a.3 (subst (λ (p : Placed). AtInstr m n f p y) e b.3)

  same_paths : (x y : TypeFault) → AtPaths x → AtPaths y → x ≡ y
  same_paths x y a b =
      a.1 ∙ ap (λ (p : Placed). NotDominating n p.number) (same_breach (KeepsAssigned f) (placed_of f) a.0 b.0 a.4 b.4)
      ∙ sym b.1

  same_behind_targets : (x y : TypeFault) → BehindTargets x → BehindTargets y → x ≡ y
  same_behind_targets x y =
      one_step AtInstrs AtPaths (All (KeepsAll m f) (placed_of f))
      (λ z at all. never_breaks (KeepsAll m f) (placed_of f) at.0 at.2 all) (λ z at. at.3) same_instrs same_paths x y

  same_behind_locals : (x y : TypeFault) → BehindLocals x → BehindLocals y → x ≡ y
  same_behind_locals x y =
      one_step AtTargets BehindTargets (HasLabels f)
      (λ z at labels. never_breaks (KeepsTargets f) (placed_of f) at.0 at.3 labels.no_bad_block) has_labels
      same_targets same_behind_targets x y

  same_in_function : (x y : TypeFault) → AtLocals x ⊎ BehindLocals x → AtLocals y ⊎ BehindLocals y → x ≡ y
  same_in_function x y =
      one_step AtLocals BehindLocals (AreDistinct (local_names f))
      (λ z at distinct. never_twice (local_names f) at.0 at.2 distinct) are_distinct same_locals same_behind_locals x y

  -- the step of the search that finds the fault
  step_in_function : (fault : TypeFault) → HasFunctionFault m n f fault → AtLocals fault ⊎ BehindLocals fault
  step_in_function (TwiceLocal g name) (e, twice) = inl (name, ap (λ k. TwiceLocal k name) e, twice)
  step_in_function (BadBlock g i) (e, distinct, (p, first, at)) =
      inr (inl (p, two_numbers BadBlock g n i p.number e at, distinct, first))
  step_in_function (Undefined g i) (e, labels, (p, first, keeps, breaks, at)) =
      inr (inr (inl (p, labels, first, inl (two_numbers Undefined g n i p.number e at, breaks))))
  step_in_function (WrongType g i) (e, labels, (p, first, keeps, breaks, at)) =
      inr (inr (inl (p, labels, first, inr (inl (two_numbers WrongType g n i p.number e at, keeps, breaks)))))
  step_in_function (BadPhi g i) (e, labels, (p, first, keeps, breaks, at)) =
      inr (inr (inl (p, labels, first, inr (inr (two_numbers BadPhi g n i p.number e at, keeps.0, keeps.1)))))
  step_in_function (NotDominating g i) (e, labels, all, (p, first, at)) =
      inr (inr (inr (p, two_numbers NotDominating g n i p.number e at, labels, all, first)))
  step_in_function (Twice name) has = absurd has
  step_in_function (TooMany what limit) has = absurd has
  step_in_function (BadExternal name) has = absurd has
  step_in_function NoMain has = absurd has
  step_in_function Memory has = absurd has

  same_function_fault : (x y : TypeFault) → HasFunctionFault m n f x → HasFunctionFault m n f y → x ≡ y
  same_function_fault x y a b = same_in_function x y (step_in_function x a) (step_in_function y b)

-- the first function with a fault is one, and its first fault too
same_first_fault : (m : Module) (x y : TypeFault) → HasFirstFunctionFault m x → HasFirstFunctionFault m y → x ≡ y
same_first_fault m x y (before, f, after, split, good, some, has) (front, g, back, at, well, also, holds) =
    let bad : IsGood m f → ⊥ = λ is. good_has_none m (length before) f x (is some) has in
    let ill : IsGood m g → ⊥ = λ is. good_has_none m (length front) g y (is also) holds in
    let e = same_place (IsGood m) before front after back f g (sym split ∙ at) bad ill good well in
    same_function_fault m (length before) f x y has
    (subst (λ k. HasFunctionFault m k f y) (sym e.0)
    (subst (λ (h : Function). HasFunctionFault m (length front) h y) (sym e.1) holds))

-- THE MODULE

same_external : (m : Module) (x y : Name) → IsFirstExternal m x → IsFirstExternal m y → x ≡ y
same_external m x y (inl (g, first, named)) (inl (h, second, called)) =
    named ∙ ap (λ (g : GlobalDef). g.name) (same_breach IsFreeGlobal m.globals g h first second) ∙ sym called
same_external m x y (inl (g, first, named)) (inr (h, free, second, called)) =
    absurd (never_breaks IsFreeGlobal m.globals g first free)
same_external m x y (inr (f, free, first, named)) (inl (h, second, called)) =
    absurd (never_breaks IsFreeGlobal m.globals h second free)
same_external m x y (inr (f, free, first, named)) (inr (h, rest, second, called)) =
    named ∙ ap (λ (f : Function). f.name) (same_breach IsGoodExternal m.functions f h first second) ∙ sym called

module _ (m : Module) where
  abbrev AtNames : TypeFault → Type 0
  AtNames fault = (name : Name) × (fault ≡ Twice name) × IsFirstTwice (global_names m) name

  abbrev AtCounts : TypeFault → Type 0
  AtCounts fault = (what : CountKind) × (fault ≡ TooMany what (limit_of what)) × AreDistinct (global_names m)
      × IsFirstBreach (HasFew m) count_kinds what

  abbrev AtExternals : TypeFault → Type 0
  AtExternals fault = (name : Name) × (fault ≡ BadExternal name) × HasCounts m × IsFirstExternal m name

  abbrev AtGlobals : TypeFault → Type 0
  AtGlobals fault = (fault ≡ WrongType (2 ^ 32 - 1) (2 ^ 32 - 1)) × HasExternals m × (HasGlobals m → ⊥)

  abbrev AtFunctions : TypeFault → Type 0
  AtFunctions fault = HasGlobals m × HasFirstFunctionFault m fault

  abbrev AtMain : TypeFault → Type 0
  AtMain fault = (fault ≡ NoMain) × HasGlobals m × All (IsGood m) m.functions

  abbrev BehindGlobals : TypeFault → Type 0
  BehindGlobals fault = AtFunctions fault ⊎ AtMain fault

  abbrev BehindExternals : TypeFault → Type 0
  BehindExternals fault = AtGlobals fault ⊎ BehindGlobals fault

  abbrev BehindCounts : TypeFault → Type 0
  BehindCounts fault = AtExternals fault ⊎ BehindExternals fault

  abbrev BehindNames : TypeFault → Type 0
  BehindNames fault = AtCounts fault ⊎ BehindCounts fault

  past_globals : (fault : TypeFault) → BehindGlobals fault → HasGlobals m
  past_globals fault (inl x) = x.0
  past_globals fault (inr x) = x.1

  past_externals : (fault : TypeFault) → BehindExternals fault → HasExternals m
  past_externals fault (inl x) = x.1
  past_externals fault (inr x) = (past_globals fault x).externals

  past_counts : (fault : TypeFault) → BehindCounts fault → HasCounts m
  past_counts fault (inl x) = x.2
  past_counts fault (inr x) = (past_externals fault x).counts

  past_names : (fault : TypeFault) → BehindNames fault → AreDistinct (global_names m)
  past_names fault (inl x) = x.2
  past_names fault (inr x) = (past_counts fault x).no_twice

  same_behind_globals : (x y : TypeFault) → BehindGlobals x → BehindGlobals y → x ≡ y
  same_behind_globals x y =
      one_step AtFunctions AtMain (All (IsGood m) m.functions) (λ z at all. none_has m z all at.1) (λ z at. at.2)
      (λ v w a b. same_first_fault m v w a.1 b.1) (λ v w a b. a.0 ∙ sym b.0) x y

  same_behind_externals : (x y : TypeFault) → BehindExternals x → BehindExternals y → x ≡ y
  same_behind_externals x y =
      one_step AtGlobals BehindGlobals (HasGlobals m) (λ z at. at.2) past_globals (λ v w a b. a.0 ∙ sym b.0)
      same_behind_globals x y

  same_behind_counts : (x y : TypeFault) → BehindCounts x → BehindCounts y → x ≡ y
  same_behind_counts x y =
      one_step AtExternals BehindExternals (HasExternals m) (λ z at externals. never_external m at.0 externals at.3)
      past_externals
      (λ v w a b. a.1 ∙ ap BadExternal (same_external m a.0 b.0 a.3 b.3) ∙ sym b.1) same_behind_externals x y

  same_behind_names : (x y : TypeFault) → BehindNames x → BehindNames y → x ≡ y
  same_behind_names x y =
      one_step AtCounts BehindCounts (HasCounts m)
      (λ z at counts. never_breaks (HasFew m) count_kinds at.0 at.3 counts.few) past_counts
      (λ v w a b. a.1 ∙ ap (λ what. TooMany what (limit_of what)) (same_breach (HasFew m) count_kinds a.0 b.0 a.3 b.3)
      ∙ sym b.1) same_behind_counts x y

  same_step : (x y : TypeFault) → AtNames x ⊎ BehindNames x → AtNames y ⊎ BehindNames y → x ≡ y
  same_step x y =
      one_step AtNames BehindNames (AreDistinct (global_names m))
      (λ z at distinct. never_twice (global_names m) at.0 at.2 distinct) past_names
      (λ v w a b. a.1 ∙ ap Twice (same_twice (global_names m) a.0 b.0 a.2 b.2) ∙ sym b.1) same_behind_names x y

  in_functions : (fault : TypeFault) → AtFunctions fault → AtNames fault ⊎ BehindNames fault
  in_functions fault at = inr (inr (inr (inr (inl at))))

  -- the step of the search that finds the fault
  step_of : (fault : TypeFault) → HasTypeFault m fault → AtNames fault ⊎ BehindNames fault
  step_of (Twice name) has = inl (name, refl, has)
  step_of (TooMany what limit) has = inr (inl (what, ap (TooMany what) has.2, has.0, has.1))
  step_of (BadExternal name) has = inr (inr (inl (name, refl, has.0, has.1)))
  step_of (WrongType f i) (inl (externals, wrong, e, at)) =
      inr (inr (inr (inl (
        two_numbers WrongType f (2 ^ 32 - 1) i (2 ^ 32 - 1) e at,
        externals,
        λ globals. wrong globals.initial,
      ))))
  step_of (WrongType f i) (inr has) = in_functions (WrongType f i) has
  step_of (TwiceLocal f name) has = in_functions (TwiceLocal f name) has
  step_of (BadBlock f i) has = in_functions (BadBlock f i) has
  step_of (Undefined f i) has = in_functions (Undefined f i) has
  step_of (BadPhi f i) has = in_functions (BadPhi f i) has
  step_of (NotDominating f i) has = in_functions (NotDominating f i) has
  step_of NoMain has = inr (inr (inr (inr (inr (refl, has.0, has.1)))))
  step_of Memory has = absurd has

pub one_fault : OneTypeFault
one_fault m f g has holds = same_step m f g (step_of m f has) (step_of m g holds)
