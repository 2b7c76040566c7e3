-- What each instruction means, named by its section of the LLVM Language Reference. An operand that names nothing has
-- no meaning; operands are taken in the order of the text, and addresses are judged behind them.
use Rattle.std.specs.Prelude.{ℕ, ◌+◌, ◌%◌, ◌^◌, ◌==◌, if◌then◌else◌, List, Option, Some, None, Result, Ok, Err}
use Rattle.ds_ast.specs.declared.name.Name.{Name}
use Rattle.ds_ast.specs.declared.ty.Scalar.TheVariants.{I1, Ptr}
use Rattle.ds_ast.specs.declared.operand.Operand.{Operand}
use Rattle.ds_ast.specs.declared.instr.Op.{Op}
use Rattle.ds_ast.specs.declared.instr.Op.TheVariants.{Bin, Icmp, Select, Cast, Alloca, Load, Store, Gep, Call, Phi}
use Rattle.ds_ast.specs.declared.instr.Op.TheVariants.{Rmw, Cmpxchg, Extract, Fence, Ret, Br, CondBr, Switch}
use Rattle.ds_ast.specs.declared.instr.Op.TheVariants.{Unreachable}
use Rattle.ds_ast.specs.declared.instr.Instr.{Instr}
use Rattle.ds_ast.specs.Bounds.{width}
use Rattle.ds_arith.specs.declared.fault.ArithFault.{ArithFault}
use Rattle.ds_arith.specs.declared.fault.ArithFault.TheVariants as faults
use Rattle.ds_arith.specs.Operations.{outcome}
use Rattle.ds_arith.specs.Comparisons.{holds}
use Rattle.ds_plain.specs.declared.Place.{Place}
use Rattle.ds_plain.specs.declared.Stop.TheVariants.{Trap}
use Rattle.ds_plain.specs.declared.TrapKind.{TrapKind}
use Rattle.ds_plain.specs.declared.TrapKind.TheVariants as kinds
use Rattle.ds_plain.specs.declared.Request.TheVariants as requests
use Rattle.ds_plain.specs.Behaviour.{Outcome, Goes, Wants, Stops, Stuck}
use Rattle.ds_plain.specs.Parts.{part}
use Rattle.ds_meaning.specs.Values.{truth, converted, part_in}
use Rattle.ds_meaning.specs.Callees.{callee_of}
use Rattle.ds_meaning.specs.Frames.{Context, Frame, Caller, State, Runs, Notes, TooLarge, instruction_of}
use Rattle.ds_meaning.specs.Places.{place_at}
use Rattle.ds_meaning.specs.Steps.{Current, given, given_by, on, results, with_result, with_pair, traps}
use Rattle.ds_meaning.specs.Memory.{located, after_store, after_rmw, notes_at, allocates, words_for, offset_by}
use Rattle.ds_meaning.specs.Control.{goes_to, case_for, returns}
use Rattle.ds_meaning.specs.Calls.{calls}

-- the trap of a division
abbrev pub trap_of : ArithFault → TrapKind
trap_of faults.DivZero = kinds.DivZero
trap_of faults.DivOverflow = kinds.DivOverflow

-- the result of an operation, or its trap
abbrev pub computes : Current → Result ℕ ArithFault → Outcome State
computes s (Ok n) = Goes (results s n)
computes s (Err fault) = traps s (trap_of fault)

-- where no number is written, one value is allocated
abbrev pub counted_by : Context → Current → Option Operand → (ℕ → Outcome State) → Outcome State
counted_by c s None go = go 1
counted_by c s (Some o) go = given c s o.ty o.value go

-- what comes of the instruction at hand
abbrev pub act : Context → Current → Op → Outcome State
-- Binary Operations and Bitwise Binary Operations: 'add', 'sub', 'mul', 'udiv', 'sdiv', 'urem', 'srem', 'shl', 'lshr',
-- 'ashr', 'and', 'or', 'xor'
act c s (Bin op ty a b) = given c s ty a (λ x. given c s ty b (λ y. computes s (outcome op (width ty) x y)))
-- 'icmp' Instruction
act c s (Icmp cond ty a b) = given c s ty a (λ x. given c s ty b (λ y.
    Goes (results s (truth (holds cond (width ty) x y)))))
-- 'select' Instruction
act c s (Select cond ty a b) = given c s I1 cond (λ n. given c s ty a (λ x. given c s ty b (λ y.
    Goes (results s (if n == 0 then y else x)))))
-- Conversion Operations: 'zext .. to', 'sext .. to', 'trunc .. to', 'ptrtoint .. to', 'inttoptr .. to'
act c s (Cast op from a to) = given c s from a (λ x. Goes (results s (converted op from to x)))
-- 'alloca' Instruction
act c s (Alloca ty count) = counted_by c s count (λ n. allocates c s (words_for c ty n))
-- 'load' Instruction
act c s (Load ty at) = given c s Ptr at (λ a. located c s ty a (λ access.
    Wants s.place (requests.Load access) (λ word. results s (part access word))))
-- 'store' Instruction
act c s (Store ty value at) = given c s ty value (λ v. given c s Ptr at (λ a. located c s ty a (λ access.
    Wants s.place (requests.Store access v) (λ z. after_store c s ty at value s.frame))))
-- 'getelementptr' Instruction: the sum wraps at 64 bits
act c s (Gep ty base indices) = given c s Ptr base (λ a. given_by (offset_by c s.frame.env ty indices) (λ bytes.
    Goes (results s ((a + bytes) % 2 ^ 64))))
-- 'call' Instruction
act c s (Call result callee args) = calls c s args (callee_of c.code callee)
-- 'phi' Instruction: it took its value as its block was entered
act c s (Phi ty arms) = Goes (on s)
-- 'atomicrmw' Instruction: the result is what was there
act c s (Rmw op at ty value) = given c s Ptr at (λ a. given c s ty value (λ v. located c s ty a (λ access.
    Wants s.place (requests.Rmw access op v) (λ word.
    after_rmw c s op ty at value (with_result s (part access word))))))
-- 'cmpxchg' Instruction: the result is what was there, and whether that was expected
act c s (Cmpxchg at ty expected new) = given c s Ptr at (λ a. given c s ty expected (λ x. given c s ty new (λ v.
    located c s ty a (λ access. Wants s.place (requests.Cas access x v) (λ word.
    after_store c s ty at new (with_pair s (part access word) (truth (part access word == x))))))))
-- 'extractvalue' Instruction, of what a cmpxchg gave
act c s (Extract ty of index) = given_by (part_in s.frame.env of index) (λ x. Goes (results s x))
-- 'fence' Instruction: each access is one step in one order for all threads, so it adds nothing
act c s Fence = Goes (on s)
-- 'ret' Instruction
act c s (Ret None) = returns s None s.below
act c s (Ret (Some o)) = given c s o.ty o.value (λ v. returns s (Some (o.ty, v)) s.below)
-- 'br' Instruction
act c s (Br label) = goes_to c s label
act c s (CondBr cond first second) = given c s I1 cond (λ n. goes_to c s (if n == 0 then second else first))
-- 'switch' Instruction
act c s (Switch ty value other cases) = given c s ty value (λ n. goes_to c s (case_for n cases other))
-- 'unreachable' Instruction
act c s Unreachable = traps s kinds.Unreachable

-- ONE INSTRUCTION

-- a frame's instruction at hand, with the name of its result
abbrev pub current : Context → Frame → List Caller → Option Name → Current
current c fr below gives = record { frame = fr; below = below; gives = gives; place = place_at c.code fr }

-- the same of the instruction that stands there
abbrev pub act_at : Context → Frame → List Caller → Option Instr → Outcome State
act_at c fr below None = Stuck
act_at c fr below (Some i) = act c (current c fr below i.result) i.op

-- the first instruction of a function, which can't begin
abbrev pub first_place : ℕ → Place
first_place function = record { function = function; instruction = 0 }

-- what comes of the next instruction
abbrev pub step : Context → State → Outcome State
step c (Runs fr below) = act_at c fr below (instruction_of c.code fr)
step c (Notes at value fr below) = notes_at c (current c fr below None) at value
step c (TooLarge function) =
    Stops (first_place function) (Trap (record { place = first_place function; kind = kinds.StackLimit }))
