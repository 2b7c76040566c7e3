-- An accepted module has no fault.
use Rattle.std.proofs.Common.{◌++◌, ℕ, List, [], ◌∷◌, length, inl, inr, refl, sym, subst}
use Rattle.std.specs.Prelude.{All}
use Rattle.ds_ast.specs.declared.name.Name.{Name}
use Rattle.ds_ast.specs.declared.module.Module.{Module}
use Rattle.ds_ast.specs.declared.module.Function.{Function}
use Rattle.ds_names.specs.Names.{Among, AreDistinct, IsFirstTwice}
use Rattle.ds_shape.specs.Written.{IsFirstBreach}
use Rattle.ds_shape.specs.Placed.{Placed, placed_of, BreaksFirst, KeepsTargets, KeepsDefined, KeepsTypes, KeepsPhi}
use Rattle.ds_shape.specs.Placed.{KeepsAssigned}
use Rattle.ds_shape.specs.Accepted.{global_names, local_names, IsGoodFunction, IsFreeGlobal, IsGoodExternal, IsGood}
use Rattle.ds_check.specs.declared.fault.TypeFault.{TypeFault}
use Rattle.ds_check.specs.declared.fault.TypeFault.TheVariants.{Twice, TooMany, BadExternal, TwiceLocal, BadBlock}
use Rattle.ds_check.specs.declared.fault.TypeFault.TheVariants.{Undefined, WrongType, BadPhi, NotDominating, NoMain}
use Rattle.ds_check.specs.declared.fault.TypeFault.TheVariants.{Memory}
use Rattle.ds_check.specs.Fault.{HasFew, count_kinds, KeepsAll, BreaksNext, HasFunctionFault, HasFirstFunctionFault}
use Rattle.ds_check.specs.Fault.{IsFirstExternal, WrongGlobal, HasExternals, HasGlobals}
use Rattle.ds_check.specs.Laws.{AcceptedAreNotRefused}
use Rattle.ds_shape.specs.Breaches.{each_standing}
use Rattle.ds_check.proofs.GoodFunction.{good_labels, good_keeps, good_paths}
use Rattle.ds_check.proofs.WholeModule.{accepted_counts, accepted_externals, accepted_globals}

-- FIRST ITEMS

-- where all items keep a rule, none is the first that breaks it
pub never_breaks : {X : Type 0} (Keeps : X → Type 0) (xs : List X) (x : X) → IsFirstBreach Keeps xs x → All Keeps xs
    → ⊥
never_breaks Keeps xs x first all =
    first.breaks (each_standing Keeps xs all x (first.before, first.after, first.split))

among_middle : (before after : List Name) (name : Name) → Among name (before ++ name ∷ after)
among_middle [] after name = inl refl
among_middle (n ∷ before) after name = inr (among_middle before after name)

pub not_twice : (before after : List Name) (name : Name) → AreDistinct (before ++ name ∷ after) → Among name before → ⊥
not_twice [] after name distinct a = a
not_twice (n ∷ before) after name (first, rest) (inl e) =
    first (subst (λ (m : Name). Among m (before ++ name ∷ after)) (sym e) (among_middle before after name))
not_twice (n ∷ before) after name (first, rest) (inr a) = not_twice before after name rest a

-- among distinct names none stands a second time
pub never_twice : (names : List Name) (name : Name) → IsFirstTwice names name → AreDistinct names → ⊥
never_twice names name twice distinct =
    not_twice twice.before twice.after name (subst AreDistinct twice.split distinct) twice.first_time

-- FUNCTIONS

never_next : (m : Module) (Keeps Breaks : Placed → Type 0) (f : Function) (i : ℕ) → BreaksNext m Keeps Breaks f i
    → All (KeepsAll m f) (placed_of f) → ⊥
never_next m Keeps Breaks f i breaks all = never_breaks (KeepsAll m f) (placed_of f) breaks.0 breaks.1 all

never_first : (Keeps : Placed → Type 0) (f : Function) (i : ℕ) → BreaksFirst Keeps f i → All Keeps (placed_of f) → ⊥
never_first Keeps f i breaks all = never_breaks Keeps (placed_of f) breaks.0 breaks.1 all

-- a good function has no fault
pub good_has_none : (m : Module) (n : ℕ) (f : Function) (fault : TypeFault) → IsGoodFunction m f
    → HasFunctionFault m n f fault → ⊥
good_has_none m n f (TwiceLocal g name) good has = never_twice (local_names f) name has.1 good.no_twice_local
good_has_none m n f (BadBlock g i) good has =
    never_first (KeepsTargets f) f i has.2 (good_labels m f good).no_bad_block
good_has_none m n f (Undefined g i) good has =
    never_next m (λ p. Unit {0}) (KeepsDefined m f) f i has.2 (good_keeps m f good)
good_has_none m n f (WrongType g i) good has =
    never_next m (KeepsDefined m f) (KeepsTypes m f) f i has.2 (good_keeps m f good)
good_has_none m n f (BadPhi g i) good has =
    never_next m (λ p. KeepsDefined m f p × KeepsTypes m f p) (KeepsPhi f) f i has.2 (good_keeps m f good)
good_has_none m n f (NotDominating g i) good has = never_first (KeepsAssigned f) f i has.3 (good_paths m f good)
good_has_none m n f (Twice name) good has = has
good_has_none m n f (TooMany what limit) good has = has
good_has_none m n f (BadExternal name) good has = has
good_has_none m n f NoMain good has = has
good_has_none m n f Memory good has = has

-- where all functions are good, none is the first with a fault
pub none_has : (m : Module) (fault : TypeFault) → All (IsGood m) m.functions → HasFirstFunctionFault m fault → ⊥
none_has m fault all (before, f, after, split, good, some, has) =
    good_has_none m (length before) f fault (each_standing (IsGood m) m.functions all f (before, after, split) some)
    has

-- THE MODULE

-- no name is the first bad external where all are good
pub never_external : (m : Module) (name : Name) → HasExternals m → IsFirstExternal m name → ⊥
never_external m name is (inl (g, first, named)) = never_breaks IsFreeGlobal m.globals g first is.globals
never_external m name is (inr (f, free, first, named)) = never_breaks IsGoodExternal m.functions f first is.functions

never_wrong : (m : Module) (f i : ℕ) → HasGlobals m → WrongGlobal m f i → ⊥
never_wrong m f i is wrong = wrong.1 is.initial

pub never_refused : AcceptedAreNotRefused
never_refused m (Twice name) is has = never_twice (global_names m) name has is.well_formed.no_twice
never_refused m (TooMany what limit) is has = never_breaks (HasFew m) count_kinds what has.1 (accepted_counts m is).few
never_refused m (BadExternal name) is has = never_external m name (accepted_externals m is) has.1
never_refused m (WrongType f i) is (inl wrong) = never_wrong m f i (accepted_globals m is) wrong
never_refused m (WrongType f i) is (inr has) = none_has m (WrongType f i) is.well_formed.functions has.1
never_refused m (TwiceLocal f name) is has = none_has m (TwiceLocal f name) is.well_formed.functions has.1
never_refused m (BadBlock f i) is has = none_has m (BadBlock f i) is.well_formed.functions has.1
never_refused m (Undefined f i) is has = none_has m (Undefined f i) is.well_formed.functions has.1
never_refused m (BadPhi f i) is has = none_has m (BadPhi f i) is.well_formed.functions has.1
never_refused m (NotDominating f i) is has = none_has m (NotDominating f i) is.well_formed.functions has.1
never_refused m NoMain is has = has.2 is.well_formed.main
never_refused m Memory is has = has
