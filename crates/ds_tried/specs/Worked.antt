-- Worked runs of small modules.
use Rattle.std.specs.Prelude.{List, [], ◌∷◌, ◌++◌, Some, None, codes}
use Rattle.ds_ast.specs.declared.name.Name.TheVariants.{Text}
use Rattle.ds_ast.specs.declared.ty.Scalar.TheVariants.{I8, I32, I64, Ptr}
use Rattle.ds_ast.specs.declared.ty.Ty as ty
use Rattle.ds_ast.specs.declared.value.Value.TheVariants.{Int, Null}
use Rattle.ds_ast.specs.declared.words.CastOp.TheVariants.{IntToPtr}
use Rattle.ds_ast.specs.declared.instr.Instr.{Instr}
use Rattle.ds_ast.specs.declared.instr.Op.TheVariants as ops
use Rattle.ds_ast.specs.declared.module.StructDef.{StructDef}
use Rattle.ds_map.specs.Bounds.{bounds, default_limits}
use Rattle.ds_step.specs.declared.Event.{Event}
use Rattle.ds_step.specs.declared.FullWhat.TheVariants.{Logs}
use Rattle.ds_step.specs.declared.Event.TheVariants.{Begin, End, Print, Load, Store, Exchange, Assign, Block, Found}
use Rattle.ds_step.specs.declared.Event.TheVariants.{Skip, Noted, BeginFree, Mark, Seen, EndFree, Trap, Full}
use Rattle.ds_plain.specs.declared.Stop.{Stop}
use Rattle.ds_plain.specs.declared.Stop.TheVariants.{Returned}
use Rattle.ds_plain.specs.declared.Stop.TheVariants as stops
use Rattle.ds_plain.specs.declared.TrapKind.TheVariants.{UseAfterFree, BadAddress, DoubleFree, BadFree, MarkedFree}
use Rattle.ds_plain.specs.Plain.{trap_stop}
use Rattle.ds_tried.specs.Programs.{at, by, Trial, trial}
use Rattle.ds_tried.specs.Totals.{totals}
use Rattle.ds_tried.specs.Modules.{into, does, local, at_g, at_h, operand, malloc, free, print, return, main_of, Example, example}
use Rattle.ds_tried.specs.Modules.{alone, setting_in}

-- USES OF A DANGLING POINTER

-- %p = malloc(16), store ptr %p, ptr @g, free(%p), %q = load ptr, ptr @g
abbrev pub dangling : List Instr
dangling =
    into (codes "p") (malloc 16)
    ∷ does (ops.Store Ptr (local (codes "p")) at_g)
    ∷ does (free (local (codes "p")))
    ∷ into (codes "q") (ops.Load Ptr at_g)
    ∷ []

-- the free marks @g, and the mark is loaded
abbrev pub dangled : List Event
dangled =
    Begin ∷ Assign 0 1 ∷ Block 0 0x1000000 1 ∷ Store 0 0x1000000 ∷ Found 0 0x1000000 1 ∷ Noted 0 1 0
    ∷ BeginFree 0 1 ∷ Mark 0 ∷ EndFree 0 ∷ Load 0 0x8000000001000000 ∷ []

-- dangling, store i64 7, ptr %q, ret i32 0: the store traps
abbrev pub use_after_free_traps : Example
use_after_free_traps =
    example (main_of (dangling ++ does (ops.Store I64 (Int 7) (local (codes "q"))) ∷ return ∷ [])) default_limits
    (by 0 (dangled ++ End ∷ []))
    (alone (trap_stop (at 0 4) (UseAfterFree 0x8000000001000000))) [] (totals 0 1 1 1 1 1)

-- behind the store of the pointer comes its note, before anything else
abbrev pub pointer_store_is_noted : List Trial
pointer_store_is_noted =
    trial (setting_in use_after_free_traps) (by 0 (Begin ∷ Assign 0 1 ∷ Block 0 0x1000000 1 ∷ Store 0 0x1000000 ∷ []))
    (by 0 (Found 0 0x1000000 1 ∷ [])) (by 0 (Skip ∷ BeginFree 0 1 ∷ Trap ∷ End ∷ []))
    ∷ []

-- dangling, free(%q), ret i32 0: the second free traps, and makes no step of its own
abbrev pub free_of_marked_pointer_traps : Example
free_of_marked_pointer_traps =
    example (main_of (dangling ++ does (free (local (codes "q"))) ∷ return ∷ [])) default_limits
    (by 0 (dangled ++ End ∷ []))
    (alone (trap_stop (at 0 4) (MarkedFree 0x8000000001000000))) [] (totals 0 1 1 1 1 1)

-- %p = malloc(8), free(%p), store i64 7, ptr %p, %v = load i64, ptr %p, print(%v), ret i32 0: a pointer in a register
-- is not found, and its uses go on
abbrev pub pointer_in_register_is_not_found : Example
pointer_in_register_is_not_found =
    example (main_of (into (codes "p") (malloc 8) ∷ does (free (local (codes "p")))
    ∷ does (ops.Store I64 (Int 7) (local (codes "p"))) ∷ into (codes "v") (ops.Load I64 (local (codes "p")))
    ∷ does (print (local (codes "v"))) ∷ return ∷ [])) default_limits
    (by 0 (Begin ∷ Assign 0 0 ∷ Block 0 0x1000000 1 ∷ BeginFree 0 1 ∷ EndFree 0 ∷ Store 69632 7 ∷ Load 69632 7
    ∷ Print 0 7 ∷ End ∷ []))
    (alone (Returned (Some 0))) (7 ∷ []) (totals 1 1 1 0 0 0)

-- FREES

-- free(null), ret i32 0: nothing is done
abbrev pub free_of_null_does_nothing : Example
free_of_null_does_nothing =
    example (main_of (does (free Null) ∷ return ∷ [])) default_limits (by 0 (Begin ∷ End ∷ []))
    (alone (Returned (Some 0))) [] (totals 0 0 0 0 0 0)

-- %p = malloc(8), free(%p), free(%p), ret i32 0: the block's word was 4, life 1 and free
abbrev pub double_free_traps : Example
double_free_traps =
    example (main_of (into (codes "p") (malloc 8) ∷ does (free (local (codes "p"))) ∷ does (free (local (codes "p")))
    ∷ return ∷ [])) default_limits
    (by 0 (Begin ∷ Assign 0 0 ∷ Block 0 0x1000000 1 ∷ BeginFree 0 1 ∷ EndFree 0 ∷ Trap ∷ End ∷ []))
    (alone (trap_stop (at 0 2) (DoubleFree 0x1000000 4))) [] (totals 0 1 1 0 0 1)

-- %p = malloc(8), %r = getelementptr i64, ptr %p, i64 1, free(%r), ret i32 0
abbrev pub free_inside_block_traps : Example
free_inside_block_traps =
    example (main_of (into (codes "p") (malloc 8)
    ∷ into (codes "r") (ops.Gep (ty.One I64) (local (codes "p")) (operand I64 (Int 1) ∷ []))
    ∷ does (free (local (codes "r"))) ∷ return ∷ [])) default_limits
    (by 0 (Begin ∷ Assign 0 0 ∷ Block 0 0x1000000 1 ∷ Trap ∷ End ∷ []))
    (alone (trap_stop (at 0 2) (BadFree 0x1000008))) [] (totals 0 1 0 0 0 1)

-- %a = alloca i64, free(%a), ret i32 0: no step is made for it
abbrev pub free_of_stack_traps : Example
free_of_stack_traps =
    example (main_of (into (codes "a") (ops.Alloca (ty.One I64) None) ∷ does (free (local (codes "a"))) ∷ return ∷ []))
    default_limits (by 0 (Begin ∷ End ∷ [])) (alone (trap_stop (at 0 1) (BadFree 0x100000))) [] (totals 0 0 0 0 0 1)

-- OTHER POINTERS

-- %p = malloc(16), store ptr %p, ptr @g, %r = malloc(16), store ptr %r, ptr @g, free(%p), %q = load ptr, ptr @g,
-- store i64 7, ptr %q, ret i32 0: the free sees the other block's pointer
abbrev pub other_pointer_is_seen : Example
other_pointer_is_seen =
    example (main_of (into (codes "p") (malloc 16) ∷ does (ops.Store Ptr (local (codes "p")) at_g)
    ∷ into (codes "r") (malloc 16) ∷ does (ops.Store Ptr (local (codes "r")) at_g) ∷ does (free (local (codes "p")))
    ∷ into (codes "q") (ops.Load Ptr at_g) ∷ does (ops.Store I64 (Int 7) (local (codes "q"))) ∷ return ∷ []))
    default_limits
    (by 0 (Begin ∷ Assign 0 1 ∷ Block 0 0x1000000 1 ∷ Store 0 0x1000000 ∷ Found 0 0x1000000 1 ∷ Noted 0 1 0
    ∷ Block 1 0x1000020 1 ∷ Store 0 0x1000020 ∷ Found 1 0x1000020 1 ∷ Noted 1 1 0
    ∷ BeginFree 0 1 ∷ Seen 0 ∷ EndFree 0 ∷ Load 0 0x1000020 ∷ Store 69636 7 ∷ End ∷ []))
    (alone (Returned (Some 0))) [] (totals 0 2 1 2 0 0)

-- %p = malloc(15), %q = malloc(15), %e = getelementptr i8, ptr %p, i64 15, store ptr %e, ptr @g, free(%q), free(%p),
-- %v = load i64, ptr @g, print(%v), ret i32 0: one past what was asked still points into its own block
abbrev pub pointer_past_the_end_is_its_own : Example
pointer_past_the_end_is_its_own =
    example (main_of (into (codes "p") (malloc 15) ∷ into (codes "q") (malloc 15)
    ∷ into (codes "e") (ops.Gep (ty.One I8) (local (codes "p")) (operand I64 (Int 15) ∷ []))
    ∷ does (ops.Store Ptr (local (codes "e")) at_g) ∷ does (free (local (codes "q")))
    ∷ does (free (local (codes "p"))) ∷ into (codes "v") (ops.Load I64 at_g) ∷ does (print (local (codes "v")))
    ∷ return ∷ [])) default_limits
    (by 0 (Begin ∷ Assign 0 0 ∷ Block 0 0x1000000 1 ∷ Block 1 0x1000010 1
    ∷ Store 0 0x100000f ∷ Found 0 0x1000000 1 ∷ Noted 0 1 0 ∷ BeginFree 1 1 ∷ EndFree 1
    ∷ BeginFree 0 1 ∷ Mark 0 ∷ EndFree 0 ∷ Load 0 0x800000000100000f ∷ Print 0 0x800000000100000f ∷ End ∷ []))
    (alone (Returned (Some 0))) (0x800000000100000f ∷ []) (totals 1 2 2 1 1 0)

-- %p = malloc(4000), store ptr %p, ptr @g, free(%p), %q = malloc(4000), store ptr %q, ptr @g, free(%q),
-- %v = load i64, ptr @g, print(%v), ret i32 0, on one page: the second block is the first in its second life, and is
-- noted anew
abbrev pub second_life_is_noted_anew : Example
second_life_is_noted_anew =
    example (main_of (into (codes "p") (malloc 4000) ∷ does (ops.Store Ptr (local (codes "p")) at_g)
    ∷ does (free (local (codes "p"))) ∷ into (codes "q") (malloc 4000)
    ∷ does (ops.Store Ptr (local (codes "q")) at_g) ∷ does (free (local (codes "q")))
    ∷ into (codes "v") (ops.Load I64 at_g) ∷ does (print (local (codes "v"))) ∷ return ∷ []))
    (bounds 1 1000000 65536 1048576)
    (by 0 (Begin ∷ Assign 0 14 ∷ Block 0 0x1000000 1 ∷ Store 0 0x1000000 ∷ Found 0 0x1000000 1 ∷ Noted 0 1 0
    ∷ BeginFree 0 1 ∷ Mark 0 ∷ EndFree 0
    ∷ Block 0 0x1000000 2 ∷ Store 0 0x1000000 ∷ Found 0 0x1000000 2 ∷ Noted 0 2 0
    ∷ BeginFree 0 2 ∷ Mark 0 ∷ EndFree 0 ∷ Load 0 0x8000000001000000 ∷ Print 0 0x8000000001000000 ∷ End ∷ []))
    (alone (Returned (Some 0))) (0x8000000001000000 ∷ []) (totals 1 2 2 2 2 0)

-- %struct.node = type { i64, ptr }
abbrev pub node : StructDef
node = record { name = Text (codes "struct.node"); fields = ty.One I64 ∷ ty.One Ptr ∷ [] }

-- %a1 = alloca i32, %a2 = alloca ptr, store i32 0, ptr %a1, %a3 = malloc(16), store ptr %a3, ptr %a2, %a4 = load ptr,
-- ptr %a2, store ptr %a4, ptr @g, %a5 = load ptr, ptr %a2, free(%a5), %a6 = load ptr, ptr @g, %a7 = getelementptr
-- %struct.node, ptr %a6, i32 0, i32 0, %a8 = load i64, ptr %a7, print(%a8), ret i32 0, as clang writes it for a list's
-- head: both the variable on the stack and @g are marked
abbrev pub head_is_used_after_free : Example
head_is_used_after_free =
    example (record (main_of (into (codes "a1") (ops.Alloca (ty.One I32) None)
    ∷ into (codes "a2") (ops.Alloca (ty.One Ptr) None)
    ∷ does (ops.Store I32 (Int 0) (local (codes "a1")))
    ∷ into (codes "a3") (malloc 16)
    ∷ does (ops.Store Ptr (local (codes "a3")) (local (codes "a2")))
    ∷ into (codes "a4") (ops.Load Ptr (local (codes "a2")))
    ∷ does (ops.Store Ptr (local (codes "a4")) at_g)
    ∷ into (codes "a5") (ops.Load Ptr (local (codes "a2")))
    ∷ does (free (local (codes "a5")))
    ∷ into (codes "a6") (ops.Load Ptr at_g)
    ∷ into (codes "a7") (ops.Gep (ty.Struct (Text (codes "struct.node"))) (local (codes "a6"))
    (operand I32 (Int 0) ∷ operand I32 (Int 0) ∷ []))
    ∷ into (codes "a8") (ops.Load I64 (local (codes "a7")))
    ∷ does (print (local (codes "a8"))) ∷ return ∷ [])) { structs = node ∷ [] }) default_limits
    (by 0 (Begin ∷ Exchange 4096 0 ∷ Assign 0 1 ∷ Block 0 0x1000000 1
    ∷ Store 4097 0x1000000 ∷ Found 0 0x1000000 1 ∷ Noted 0 1 4097 ∷ Load 4097 0x1000000
    ∷ Store 0 0x1000000 ∷ Found 0 0x1000000 1 ∷ Noted 0 1 0 ∷ Load 4097 0x1000000
    ∷ BeginFree 0 1 ∷ Mark 4097 ∷ Mark 0 ∷ EndFree 0 ∷ Load 0 0x8000000001000000 ∷ End ∷ []))
    (alone (trap_stop (at 0 11) (UseAfterFree 0x8000000001000000))) [] (totals 0 1 1 2 2 1)

-- %p = malloc(8), store ptr %p, ptr @g, %q = malloc(8), store ptr %q, ptr @h, ret i32 0, with one log: the second note
-- finds none left
abbrev pub full_logs_stop : Example
full_logs_stop =
    example (main_of (into (codes "p") (malloc 8) ∷ does (ops.Store Ptr (local (codes "p")) at_g)
    ∷ into (codes "q") (malloc 8) ∷ does (ops.Store Ptr (local (codes "q")) at_h) ∷ return ∷ []))
    (bounds 256 1000000 1 1048576)
    (by 0 (Begin ∷ Assign 0 0 ∷ Block 0 0x1000000 1 ∷ Store 0 0x1000000 ∷ Found 0 0x1000000 1 ∷ Noted 0 1 0
    ∷ Block 1 0x1000010 1 ∷ Store 1 0x1000010 ∷ Found 1 0x1000010 1 ∷ Full Logs ∷ End ∷ []))
    (alone (stops.Full (at 0 3) Logs)) [] (totals 0 2 0 1 0 0)

-- BAD ADDRESSES

-- main begins with these instructions, and traps before its first step
abbrev pub trapping : List Instr → Stop → Example
trapping code stop = example (main_of (code ++ return ∷ [])) default_limits (by 0 (Begin ∷ End ∷ [])) (alone stop) [] (totals 0 0 0 0 0 1)

-- store i64 1, ptr null
abbrev pub store_to_null_traps : Example
store_to_null_traps = trapping (does (ops.Store I64 (Int 1) Null) ∷ []) (trap_stop (at 0 0) (BadAddress 0))

-- %a = inttoptr i64 4097 to ptr, store i64 1, ptr %a: the address is no multiple of 8
abbrev pub store_off_its_width_traps : Example
store_off_its_width_traps =
    trapping (into (codes "a") (ops.Cast IntToPtr I64 (Int 4097) Ptr)
    ∷ does (ops.Store I64 (Int 1) (local (codes "a"))) ∷ []) (trap_stop (at 0 1) (BadAddress 0x1001))

-- %a = inttoptr i64 17825792 to ptr, %v = load i64, ptr %a: the address is one behind the heap
abbrev pub load_behind_heap_traps : Example
load_behind_heap_traps =
    trapping (into (codes "a") (ops.Cast IntToPtr I64 (Int 17825792) Ptr)
    ∷ into (codes "v") (ops.Load I64 (local (codes "a"))) ∷ []) (trap_stop (at 0 1) (BadAddress 0x1100000))
