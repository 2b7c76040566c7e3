-- The ways from one block to another, and calls and returns.
use Rattle.std.specs.Prelude.{ℕ, suc, ◌==◌, if◌then◌else◌, List, [], ◌∷◌, Option, Some, None}
use Rattle.ds_ast.specs.declared.name.Name.{Name}
use Rattle.ds_ast.specs.declared.ty.Scalar.{Scalar}
use Rattle.ds_ast.specs.declared.ty.Scalar.TheVariants.{I1, I8, I16, I32, I64, Ptr}
use Rattle.ds_ast.specs.declared.value.Value.{Value}
use Rattle.ds_ast.specs.declared.operand.Operand.{Operand}
use Rattle.ds_ast.specs.declared.operand.Arm.{Arm}
use Rattle.ds_ast.specs.declared.instr.Op.{Op}
use Rattle.ds_ast.specs.declared.instr.Op.TheVariants.{Bin, Icmp, Select, Cast, Alloca, Load, Store, Gep, Call, Phi}
use Rattle.ds_ast.specs.declared.instr.Op.TheVariants.{Rmw, Cmpxchg, Extract, Fence, Ret, Br, CondBr, Switch}
use Rattle.ds_ast.specs.declared.instr.Op.TheVariants.{Unreachable}
use Rattle.ds_ast.specs.declared.instr.Instr.{Instr}
use Rattle.ds_ast.specs.declared.module.Function.{Function}
use Rattle.ds_ast.specs.declared.module.Param.{Param}
use Rattle.ds_ast.specs.declared.module.Block.{Block}
use Rattle.ds_ast.specs.Bounds.{is_name}
use Rattle.ds_shape.specs.Sizes.{◌>>=◌}
use Rattle.ds_plain.specs.declared.Stop.TheVariants.{Returned}
use Rattle.ds_plain.specs.declared.TrapKind.TheVariants.{StackLimit}
use Rattle.ds_plain.specs.Behaviour.{Outcome, Goes, Stops, Stuck}
use Rattle.ds_meaning.specs.Values.{Environment, Values, bound, all_bound, operand}
use Rattle.ds_meaning.specs.Frames.{Context, Caller, State, Runs, block_labelled, first_frame, has_room}
use Rattle.ds_meaning.specs.Steps.{Current, given_by, traps}

-- BRANCHES

-- a phi by its type and its arms
pub record Choice : Type 0 where
  pub ty : Scalar
  pub arms : List Arm

-- what the instruction chooses as its block is entered, where it is a phi
abbrev pub choice_of : Op → Option Choice
choice_of (Phi ty arms) = Some (record { ty = ty; arms = arms })
choice_of (Bin op ty a b) = None
choice_of (Icmp cond ty a b) = None
choice_of (Select c ty a b) = None
choice_of (Cast op from a to) = None
choice_of (Alloca ty count) = None
choice_of (Load ty at) = None
choice_of (Store ty value at) = None
choice_of (Gep ty base indices) = None
choice_of (Call result callee args) = None
choice_of (Rmw op at ty value) = None
choice_of (Cmpxchg at ty expected new) = None
choice_of (Extract ty of index) = None
choice_of Fence = None
choice_of (Ret value) = None
choice_of (Br label) = None
choice_of (CondBr c first second) = None
choice_of (Switch ty value other cases) = None
choice_of Unreachable = None

-- the value of the arm for a block
abbrev pub arm_for : Name → List Arm → Option Value
arm_for from [] = None
arm_for from (a ∷ arms) = if is_name a.from from then Some a.value else arm_for from arms

-- the value of the phi where control comes from a block
abbrev pub chosen : Context → Environment → Name → Choice → Option ℕ
chosen c env from choice = arm_for from choice.arms >>= operand c.code env choice.ty

-- a name with its value before others
abbrev pub with_value : Option Name → Option ℕ → Option Values → Option Values
with_value name value rest = value >>= (λ (v : ℕ). rest >>= (λ (vs : Values). Some ((name, v) ∷ vs)))

-- the value of a phi, under its name, before those of the phis behind it; where there is no phi, none is at the front
abbrev pub phis_by : Context → Environment → Name → Option Name → Option Choice → Option Values → Option Values
phis_by c env from name None rest = Some []
phis_by c env from name (Some choice) rest = with_value name (chosen c env from choice) rest

-- the phis at the front of these instructions, with their values where control comes from a block
abbrev pub phi_values : Context → Environment → Name → List Instr → Option Values
phi_values c env from [] = Some []
phi_values c env from (i ∷ is) = phis_by c env from i.result (choice_of i.op) (phi_values c env from is)

-- at the first instruction of the block of the label, where names have these values
abbrev pub arrives : Current → Name → Option Values → Outcome State
arrives s label None = Stuck
arrives s label (Some values) =
    Goes (Runs (record s.frame { block = label; index = 0; env = all_bound values s.frame.env }) s.below)

-- to the block of the label, whose phis take their values together, from those before the edge
abbrev pub goes_to : Context → Current → Name → Outcome State
goes_to c s label =
    arrives s label (block_labelled c.code s.frame.function label
    >>= (λ (b : Block). phi_values c s.frame.env s.frame.block b.code))

-- the label of the first case of a value, or else the other one
abbrev pub case_for : ℕ → List (ℕ × Name) → Name → Name
case_for n [] other = other
case_for n (x ∷ cases) other = if x.0 == n then x.1 else case_for n cases other

-- CALLS

-- the parameters with the values of operands, one for each
abbrev pub arguments : Context → Environment → List Param → List Operand → Option Values
arguments c env [] [] = Some []
arguments c env [] (o ∷ os) = None
arguments c env (p ∷ ps) [] = None
arguments c env (p ∷ ps) (o ∷ os) =
    with_value (Some p.name) (operand c.code env o.ty o.value) (arguments c env ps os)

-- the frame of the call waits behind it
abbrev pub waiting : Current → List Caller
waiting s = record { frame = record s.frame { index = suc s.frame.index }; gives = s.gives } ∷ s.below

-- a frame of the function above that of the call, whose stack words stay taken
abbrev pub enters : Context → Current → ℕ → Function → Values → Outcome State
enters c s number f values =
    if has_room c.code (waiting s) f then Goes (Runs (first_frame number f values s.frame.taken) (waiting s))
    else traps s StackLimit

-- the same by the arguments of the call
abbrev pub entered : Context → Current → List Operand → ℕ → Function → Outcome State
entered c s args number f = given_by (arguments c s.frame.env f.params args) (enters c s number f)

-- RETURNS

-- a value with its type, where there is one
abbrev pub ReturnValue : Type 0
ReturnValue = Option (Scalar × ℕ)

-- the number, where the type is i32
abbrev pub bits_of : Scalar → ℕ → Option ℕ
bits_of I1 n = None
bits_of I8 n = None
bits_of I16 n = None
bits_of I32 n = Some n
bits_of I64 n = None
bits_of Ptr n = None

-- the bits that a thread's function returned, where it returned an i32
abbrev pub returned_bits : ReturnValue → Option ℕ
returned_bits None = None
returned_bits (Some v) = bits_of v.0 v.1

-- the name stands for the value that a call gives, where there is one
abbrev pub with_returned : Option Name → ReturnValue → Environment → Environment
with_returned name None env = env
with_returned name (Some v) env = bound name 0 v.1 env

-- back to the frame that waits, whose call gives the value; the stack words of the frame that ends are given back
abbrev pub returns : Current → ReturnValue → List Caller → Outcome State
returns s value [] = Stops s.place (Returned (returned_bits value))
returns s value (caller ∷ callers) =
    Goes (Runs (record caller.frame { env = with_returned caller.gives value caller.frame.env }) callers)
