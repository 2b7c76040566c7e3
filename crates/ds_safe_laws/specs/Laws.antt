-- The statements of the laws.
use Rattle.std.specs.Prelude.{◌≡◌, ◌∷◌, ℕ, Bool, List, [], slice_get, Some, All, codes}
use Rattle.ds_ast.specs.declared.ty.Scalar.TheVariants.{Ptr}
use Rattle.ds_ast.specs.declared.ty.Ty.{Void}
use Rattle.ds_ast.specs.declared.module.Module.{Module}
use Rattle.ds_ast.specs.declared.module.Function.{Function}
use Rattle.ds_map.specs.Bounds.{Bounds}
use Rattle.ds_shape.specs.Externals.{Signature, signature, externals, IsDeclaredFrom}
use Rattle.ds_shape.specs.Accepted.{IsWellFormed, Accepted}
use Rattle.ds_meaning.specs.Meaning.{step}
use Rattle.ds_meaning.specs.Program.{context, start}
use Rattle.ds_safe_laws.specs.Means.{Means}

-- the functions that have a meaning without being defined: the externals of a module that is read, and ds_note, which
-- takes an address and the pointer that was stored there
abbrev pub known_externals : List Signature
known_externals = signature (codes "ds_note") Void (Ptr ∷ Ptr ∷ []) ∷ externals

-- each function that the module declares is one of these
abbrev pub DeclaresKnown : Module → Type 0
DeclaresKnown m = All (IsDeclaredFrom known_externals) m.functions

-- each thread that begins in a function which the module defines has a meaning all along, whatever it is answered
abbrev pub HasMeaning : Module → Type 0
HasMeaning m = (noting : Bool) (lim : Bounds) (thread function argument : ℕ) (f : Function) (answers : List ℕ) →
    slice_get m.functions function ≡ Some f → (f.blocks ≡ [] → ⊥) →
    Means (step (context noting lim m thread)) lim.fuel (start m function argument) answers

-- A module that is well formed has a meaning wherever a thread of it comes, where it declares no function but those.
abbrev pub WellFormedMeans : Type 0
WellFormedMeans = (m : Module) → IsWellFormed m → DeclaresKnown m → HasMeaning m

-- So has one that is accepted.
abbrev pub AcceptedMeans : Type 0
AcceptedMeans = (m : Module) (noting : Bool) (lim : Bounds) → Accepted m →
    (thread function argument : ℕ) (f : Function) (answers : List ℕ) →
    slice_get m.functions function ≡ Some f → (f.blocks ≡ [] → ⊥) →
    Means (step (context noting lim m thread)) lim.fuel (start m function argument) answers
