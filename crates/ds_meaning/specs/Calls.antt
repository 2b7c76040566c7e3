-- What the external functions mean. A request is made by the instruction that calls, and its answer is a word.
use Rattle.std.specs.Prelude.{ℕ, ◌%◌, ◌==◌, ◌&&◌, if◌then◌else◌, nat_lt, List, [], ◌∷◌, Option, None}
use Rattle.ds_ast.specs.declared.ty.Scalar.TheVariants.{Ptr}
use Rattle.ds_ast.specs.declared.value.Value.{Value}
use Rattle.ds_ast.specs.declared.value.Value.TheVariants.{Int, Null, Undef, Local, Global}
use Rattle.ds_ast.specs.declared.operand.Operand.{Operand}
use Rattle.ds_map.specs.Blocks.{is_marked}
use Rattle.ds_map.specs.Regions.{heap, lies_in}
use Rattle.ds_shape.specs.Site.{function_number}
use Rattle.ds_plain.specs.declared.TrapKind.TheVariants.{MarkedFree, BadFree}
use Rattle.ds_plain.specs.declared.Request.TheVariants as requests
use Rattle.ds_plain.specs.Behaviour.{Outcome, Goes, Wants, Stuck}
use Rattle.ds_meaning.specs.Callees.{External, Malloc, Free, PrintI64, PthreadCreate, PthreadJoin, DsNote, Callee}
use Rattle.ds_meaning.specs.Callees.{Defined, Declared, Unknown}
use Rattle.ds_meaning.specs.Frames.{Context, State}
use Rattle.ds_meaning.specs.Steps.{Current, given, given_by, on, results, traps}
use Rattle.ds_meaning.specs.Memory.{located, notes_at}
use Rattle.ds_meaning.specs.Control.{entered}

-- malloc: a block of more than so many bytes, or null; of 4,096 or more there is none
abbrev pub mallocs : Current → ℕ → Outcome State
mallocs s bytes =
    if nat_lt 4095 bytes then Goes (results s 0)
    else Wants s.place (requests.Malloc bytes) (λ address. results s address)

-- free: of null it does nothing
abbrev pub frees : Context → Current → ℕ → Outcome State
frees c s address =
    if address == 0 then Goes (on s) else
    (if is_marked address then traps s (MarkedFree address) else
    (if lies_in (heap c.lim) address && address % 8 == 0 then Wants s.place (requests.Free address) (λ z. on s)
    else traps s (BadFree address)))

-- the number of the function that a value names
abbrev pub function_in : Context → Value → Option ℕ
function_in c (Int n) = None
function_in c Null = None
function_in c Undef = None
function_in c (Local name) = None
function_in c (Global name) = function_number c.code name

-- pthread_create: a function is started as a thread with an argument, and the thread's number is stored at an address
abbrev pub creates : Context → Current → (at function argument : Operand) → Outcome State
creates c s at function argument =
    given c s at.ty at.value (λ a. given c s argument.ty argument.value (λ x.
    given_by (function_in c function.value) (λ f. located c s Ptr a (λ access.
    Wants s.place (requests.Spawn access.loc f x) (λ answer. results s answer)))))

-- with the one argument of a call; where there are none or more, it has no meaning
abbrev pub one_of : List Operand → (Operand → Outcome State) → Outcome State
one_of [] go = Stuck
one_of (o ∷ []) go = go o
one_of (o ∷ p ∷ rest) go = Stuck

-- with the two arguments of a call
abbrev pub two_of : List Operand → (Operand → Operand → Outcome State) → Outcome State
two_of [] go = Stuck
two_of (o ∷ rest) go = one_of rest (go o)

-- with the four arguments of a call
abbrev pub four_of : List Operand → (Operand → Operand → Operand → Operand → Outcome State) → Outcome State
four_of [] go = Stuck
four_of (o ∷ []) go = Stuck
four_of (o ∷ p ∷ rest) go = two_of rest (go o p)

-- the externals, with the arguments of the call
abbrev pub asks : Context → Current → List Operand → External → Outcome State
asks c s args Malloc = one_of args (λ n. given c s n.ty n.value (λ bytes. mallocs s bytes))
asks c s args Free = one_of args (λ p. given c s p.ty p.value (λ address. frees c s address))
asks c s args PrintI64 = one_of args (λ v. given c s v.ty v.value (λ n. Wants s.place (requests.Print n) (λ z. on s)))
asks c s args PthreadCreate = four_of args (λ at attributes function argument. creates c s at function argument)
asks c s args PthreadJoin = two_of args (λ thread value. given c s thread.ty thread.value (λ n.
    Wants s.place (requests.Join n) (λ answer. results s answer)))
asks c s args DsNote = two_of args (λ at value. notes_at c s at.value value.value)

-- a call of what its name calls
abbrev pub calls : Context → Current → List Operand → Callee → Outcome State
calls c s args (Defined number f) = entered c s args number f
calls c s args (Declared external) = asks c s args external
calls c s args Unknown = Stuck
