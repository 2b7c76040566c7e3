-- An access is one of a program word.
use Rattle.std.proofs.Common.{◌≡◌, ℕ, ◌+◌, ◌*◌, ◌%◌, ◌<◌, ◌≤◌, Bool, true, false, ◌==◌, if◌then◌else◌, nat_le, nat_lt}
use Rattle.std.proofs.Common.{Option, Some, None, option_map, refl, arith}
use Rattle.std.proofs.lemmas.Bool.{and_parts}
use Rattle.std.proofs.lemmas.Bool.Decides.{nat_tests}
use Rattle.ds_ast.specs.declared.ty.Scalar.{Scalar}
use Rattle.ds_map.specs.Bounds.{Bounds}
use Rattle.ds_map.specs.Regions.{Region, globals, stacks, heap, lies_in, location_in, location_of, program_words}
use Rattle.ds_shape.specs.Sizes.{scalar_size}
use Rattle.ds_plain.specs.declared.Access.{Access}
use Rattle.ds_meaning.specs.Memory.{access_at}

-- a location, where there is one, is that of a program word
abbrev LocWithin : Bounds → Option ℕ → Type 0
LocWithin lim None = Unit {0}
LocWithin lim (Some loc) = loc < program_words lim

region_within : (lim : Bounds) (region : Region) (address : ℕ) → region.location + region.count ≤ program_words lim
    → lies_in region address ≡ true → location_in region address < program_words lim
region_within lim region address le e =
    let both = and_parts (nat_le region.start address) (nat_lt address (region.start + 8 * region.count)) e in
    let low : region.start ≤ address = grind (arith, nat_tests, both.0) in
    let high : address < region.start + 8 * region.count = grind (arith, nat_tests, both.1) in
    omega (arith, low, high, le)

within_by : (lim : Bounds) (region : Region) (address : ℕ) (other : Option ℕ) (b : Bool)
    → lies_in region address ≡ b → region.location + region.count ≤ program_words lim → LocWithin lim other
    → LocWithin lim (if b then Some (location_in region address) else other)
within_by lim region address other true e le rest = region_within lim region address le e
within_by lim region address other false e le rest = rest

location_within : (lim : Bounds) (address : ℕ) → LocWithin lim (location_of lim address)
location_within lim address =
    within_by lim globals address _ (lies_in globals address) refl (omega arith)
    (within_by lim stacks address _ (lies_in stacks address) refl (omega arith)
    (within_by lim (heap lim) address _ (lies_in (heap lim) address) refl (omega arith) tt))

-- so is that of an access
abbrev pub AccessWithin : Bounds → Option Access → Type 0
AccessWithin lim None = Unit {0}
AccessWithin lim (Some access) = access.loc < program_words lim

mapped : (lim : Bounds) (shift bits : ℕ) (loc : Option ℕ) → LocWithin lim loc
    → AccessWithin lim (option_map (λ (loc : ℕ). record { loc = loc; shift = shift; bits = bits }) loc)
mapped lim shift bits None h = tt
mapped lim shift bits (Some loc) h = h

pub access_within : (lim : Bounds) (ty : Scalar) (address : ℕ) → AccessWithin lim (access_at lim ty address)
access_within lim ty address = by_test (address % scalar_size ty == 0)
  where
    by_test : (t : Bool) → AccessWithin lim (if t then
        option_map (λ (loc : ℕ). record { loc = loc; shift = 8 * (address % 8); bits = 8 * scalar_size ty })
        (location_of lim address) else None)
    by_test true =
        mapped lim (8 * (address % 8)) (8 * scalar_size ty) (location_of lim address) (location_within lim address)
    by_test false = tt
