-- The memory that instructions take, and the parts of words that they access.
use Rattle.std.specs.Prelude.{ℕ, ◌+◌, ◌*◌, ◌/◌, ◌%◌, Bool, true, false, not, ◌==◌, ◌&&◌, ◌||◌, if◌then◌else◌}
use Rattle.std.specs.Prelude.{nat_le, List, [], ◌∷◌, Option, Some, None, option_map}
use Rattle.ds_ast.specs.declared.ty.Scalar.{Scalar}
use Rattle.ds_ast.specs.declared.ty.Scalar.TheVariants.{I64, Ptr}
use Rattle.ds_ast.specs.declared.ty.Ty.{Ty}
use Rattle.ds_ast.specs.declared.value.Value.{Value}
use Rattle.ds_ast.specs.declared.operand.Operand.{Operand}
use Rattle.ds_ast.specs.declared.words.RmwOp.{RmwOp}
use Rattle.ds_ast.specs.declared.words.RmwOp.TheVariants.{Xchg, Add, Sub, And, Or, Xor, Umax, Umin}
use Rattle.ds_map.specs.Bounds.{Bounds}
use Rattle.ds_map.specs.Blocks.{is_marked}
use Rattle.ds_map.specs.Regions.{stack, heap, lies_in, location_of}
use Rattle.ds_shape.specs.Sizes.{◌>>=◌, scalar_size, rounded, layout_of}
use Rattle.ds_shape.specs.Address.{Step, address_steps, bytes_added}
use Rattle.ds_plain.specs.declared.Access.{Access}
use Rattle.ds_plain.specs.declared.TrapKind.TheVariants.{UseAfterFree, BadAddress, StackLimit}
use Rattle.ds_plain.specs.declared.Request.TheVariants as requests
use Rattle.ds_plain.specs.Behaviour.{Outcome, Goes, Wants}
use Rattle.ds_meaning.specs.Values.{Environment, operand, is_pointer, sign_extended}
use Rattle.ds_meaning.specs.Frames.{Context, Frame, State, Notes}
use Rattle.ds_meaning.specs.Steps.{Current, given, on, behind, with_result, traps}

-- ACCESSES: a word has 8 bytes, of which the least comes first

-- the part of a word that a value of the type at the address is; none where no word holds it, or where the address is
-- no multiple of its size
abbrev pub access_at : Bounds → Scalar → ℕ → Option Access
access_at lim ty address =
    if address % scalar_size ty == 0 then
    option_map (λ (loc : ℕ). record { loc = loc; shift = 8 * (address % 8); bits = 8 * scalar_size ty })
    (location_of lim address)
    else None

-- with the part of a word, where there is one
abbrev pub located_by : Current → ℕ → Option Access → (Access → Outcome State) → Outcome State
located_by s address None go = traps s (BadAddress address)
located_by s address (Some access) go = go access

-- with the part of a word that a value of the type at the address is
abbrev pub located : Context → Current → Scalar → ℕ → (Access → Outcome State) → Outcome State
located c s ty address go =
    if is_marked address then traps s (UseAfterFree address) else located_by s address (access_at c.lim ty address) go

-- NOTES

-- behind an instruction that stores a value of the type, or may: its note, where it is a pointer and the module notes
-- by itself
abbrev pub after_store : Context → Current → Scalar → (at value : Value) → Frame → State
after_store c s ty at value fr = if c.noting && is_pointer ty then Notes at value fr s.below else behind s fr

-- the operation of an atomicrmw stores the value that it is given
abbrev pub is_exchange : RmwOp → Bool
is_exchange Xchg = true
is_exchange Add = false
is_exchange Sub = false
is_exchange And = false
is_exchange Or = false
is_exchange Xor = false
is_exchange Umax = false
is_exchange Umin = false

-- behind an atomicrmw
abbrev pub after_rmw : Context → Current → RmwOp → Scalar → (at value : Value) → Frame → State
after_rmw c s op ty at value fr = if is_exchange op then after_store c s ty at value fr else behind s fr

-- a note of a value at a location asks nothing where the value is marked or lies outside the heap
abbrev pub noted : Context → Current → (loc value : ℕ) → Outcome State
noted c s loc value =
    if is_marked value || not (lies_in (heap c.lim) value) then Goes (on s)
    else Wants s.place (requests.Note loc value) (λ z. on s)

-- the note of a value at an address, which is judged as that of a store
abbrev pub notes_at : Context → Current → (at value : Value) → Outcome State
notes_at c s at value =
    given c s Ptr at (λ a. given c s Ptr value (λ v. located c s Ptr a (λ access. noted c s access.loc v)))

-- ADDRESSES

-- so many words of the stack of the thread, behind those that are taken; they keep what they hold
abbrev pub allocates : Context → Current → ℕ → Outcome State
allocates c s words =
    if nat_le (s.frame.taken + words) (stack c.thread).count then
    Goes (behind s (record (with_result s ((stack c.thread).start + 8 * s.frame.taken)) {
      taken = s.frame.taken + words;
    }))
    else traps s StackLimit

-- the words of so many values of the type, rounded up to whole words
abbrev pub words_for : Context → Ty → ℕ → ℕ
words_for c ty count = rounded (count * (layout_of c.code.structs ty).size) 8 / 8

-- the values of indices, sign-extended to 64 bits
abbrev pub indices_in : Context → Environment → List Operand → Option (List ℕ)
indices_in c env [] = Some []
indices_in c env (o ∷ os) =
    operand c.code env o.ty o.value >>= (λ v. option_map (λ (vs : List ℕ). sign_extended o.ty I64 v ∷ vs)
    (indices_in c env os))

-- the bytes that indices add to an address
abbrev pub offset_by : Context → Environment → Ty → List Operand → Option ℕ
offset_by c env ty indices =
    address_steps c.code.structs ty indices >>= (λ (steps : List Step).
    option_map (bytes_added steps) (indices_in c env indices))
