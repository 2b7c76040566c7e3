-- Values, and what names stand for. A value of a type is a number below 2 to its width; an address has 64 bits.
use Rattle.std.specs.Prelude.{ℕ, ◌+◌, ◌*◌, ◌%◌, ◌^◌, Bool, true, false, ◌==◌, ◌&&◌, if◌then◌else◌, List, [], ◌∷◌}
use Rattle.std.specs.Prelude.{Option, Some, None, option_map}
use Rattle.ds_ast.specs.declared.name.Name.{Name}
use Rattle.ds_ast.specs.declared.ty.Scalar.{Scalar}
use Rattle.ds_ast.specs.declared.ty.Scalar.TheVariants.{I1, I8, I16, I32, I64, Ptr}
use Rattle.ds_ast.specs.declared.value.Value.{Value}
use Rattle.ds_ast.specs.declared.value.Value.TheVariants.{Int, Null, Undef, Local, Global}
use Rattle.ds_ast.specs.declared.words.CastOp.{CastOp}
use Rattle.ds_ast.specs.declared.words.CastOp.TheVariants.{Zext, Sext, Trunc, PtrToInt, IntToPtr}
use Rattle.ds_ast.specs.declared.module.Module.{Module}
use Rattle.ds_ast.specs.Bounds.{is_name, width}
use Rattle.ds_map.specs.Regions.{globals}
use Rattle.ds_shape.specs.Image.{address_of}
use Rattle.ds_arith.specs.Numbers.{signed, stored}

-- NAMES

-- Names with what their parts stand for, the latest first. A value has part 0 alone. The pair that a cmpxchg gives has
-- the old value as part 0, and as part 1 whether it exchanged.
abbrev pub Environment : Type 0
Environment = List (Name × ℕ × ℕ)

-- what the part of the name stands for
abbrev pub part_in : Environment → Name → ℕ → Option ℕ
part_in [] name part = None
part_in (e ∷ es) name part = if is_name e.0 name && e.1 == part then Some e.2 else part_in es name part

-- the part of the name stands for the value from here on, if there is a name
abbrev pub bound : Option Name → ℕ → ℕ → Environment → Environment
bound None part value env = env
bound (Some name) part value env = (name, part, value) ∷ env

-- names, each with the value that it takes, where it is one
abbrev pub Values : Type 0
Values = List (Option Name × ℕ)

-- each name stands for its value from here on
abbrev pub all_bound : Values → Environment → Environment
all_bound [] env = env
all_bound (v ∷ vs) env = all_bound vs (bound v.0 0 v.1 env)

-- VALUES

-- the bits of a number that a value of the type has
abbrev pub cut : Scalar → ℕ → ℕ
cut ty n = n % 2 ^ width ty

-- a truth value
abbrev pub truth : Bool → ℕ
truth true = 1
truth false = 0

-- the type is that of addresses
abbrev pub is_pointer : Scalar → Bool
is_pointer I1 = false
is_pointer I8 = false
is_pointer I16 = false
is_pointer I32 = false
is_pointer I64 = false
is_pointer Ptr = true

-- the address of a location of the globals, also of that behind the last, where a global of no bytes may stand
abbrev pub global_address : ℕ → ℕ
global_address loc = globals.start + 8 * loc

-- what a value is in a module where names stand for this: null and undef are 0, a global is its address, and the name
-- of a function, which stands as an argument of pthread_create alone, is 0
abbrev pub value_of : Module → Environment → Value → Option ℕ
value_of m env (Int n) = Some n
value_of m env Null = Some 0
value_of m env Undef = Some 0
value_of m env (Local name) = part_in env name 0
value_of m env (Global name) = Some (address_of global_address m name)

-- what an operand of a type is
abbrev pub operand : Module → Environment → Scalar → Value → Option ℕ
operand m env ty value = option_map (cut ty) (value_of m env value)

-- the number that stands for the same signed number in the other type
abbrev pub sign_extended : (from to : Scalar) → ℕ → ℕ
sign_extended from to n = stored (width to) (signed (width from) n)

-- what a conversion of a value gives
abbrev pub converted : CastOp → (from to : Scalar) → ℕ → ℕ
-- 'zext .. to' Instruction: zeros stand above
converted Zext from to n = cut to n
-- 'sext .. to' Instruction: copies of the highest bit stand above
converted Sext from to n = sign_extended from to n
-- 'trunc .. to' Instruction: the lowest bits
converted Trunc from to n = cut to n
-- 'ptrtoint .. to' Instruction: the address, or its lowest bits
converted PtrToInt from to n = cut to n
-- 'inttoptr .. to' Instruction: zeros stand above
converted IntToPtr from to n = cut to n
