-- Worked runs of modules with loops and threads.
use Rattle.std.specs.Prelude.{ℕ, List, [], ◌∷◌, ◌++◌, replicate, Some, None, codes}
use Rattle.std.specs.List.{flat_map, range_with_len}
use Rattle.ds_ast.specs.declared.name.Name.TheVariants.{Text}
use Rattle.ds_ast.specs.declared.ty.Scalar.TheVariants.{I8, I32, I64, Ptr}
use Rattle.ds_ast.specs.declared.ty.Ty as ty
use Rattle.ds_ast.specs.declared.value.Value.{Value}
use Rattle.ds_ast.specs.declared.value.Value.TheVariants.{Int, Null}
use Rattle.ds_ast.specs.declared.words.BinOp.TheVariants.{Add}
use Rattle.ds_ast.specs.declared.words.CastOp.TheVariants.{Sext}
use Rattle.ds_ast.specs.declared.words.Cond.TheVariants.{Ult}
use Rattle.ds_ast.specs.declared.operand.Arm.{Arm}
use Rattle.ds_ast.specs.declared.instr.Instr.{Instr}
use Rattle.ds_ast.specs.declared.instr.Op.TheVariants as ops
use Rattle.ds_ast.specs.declared.module.Module.{Module}
use Rattle.ds_map.specs.Bounds.{bounds, default_limits}
use Rattle.ds_step.specs.declared.Event.{Event}
use Rattle.ds_step.specs.declared.Event.TheVariants.{Begin, Spawn, SpawnRefused, Join, End, Print, Load, Store, Assign}
use Rattle.ds_step.specs.declared.Event.TheVariants.{Block, Found, Skip, Noted, BeginFree, Mark, Seen, EndFree, Trap}
use Rattle.ds_plain.specs.declared.Stop.TheVariants.{Idle, Running, Returned, Fuel}
use Rattle.ds_plain.specs.declared.TrapKind.TheVariants.{BadJoin, DoubleFree}
use Rattle.ds_plain.specs.Plain.{trap_stop}
use Rattle.ds_tried.specs.Programs.{at, Events, by, Trial, trial}
use Rattle.ds_tried.specs.Totals.{totals}
use Rattle.ds_tried.specs.Modules.{into, does, local, at_g, at_h, operand, malloc, free, print, create, join, return}
use Rattle.ds_tried.specs.Modules.{block, main, worker, module_of, main_of, Example, example, alone, setting_in}

-- A LOOP WITHOUT END

-- define void @main() { entry: br label %a  a: br label %a } with fuel 10: main asks for nothing, and ends for want of
-- fuel
abbrev pub endless_loop_ends_by_fuel : Example
endless_loop_ends_by_fuel =
    example
    (module_of ((record (main (block (codes "entry") (does (ops.Br (Text (codes "a"))) ∷ [])
    ∷ block (codes "a") (does (ops.Br (Text (codes "a"))) ∷ []) ∷ [])) { result = ty.Void }) ∷ []))
    (bounds 256 10 65536 1048576) (by 0 (Begin ∷ End ∷ [])) (alone Fuel) [] (totals 0 0 0 0 0 0)

-- A NEWER POINTER

-- %c = pthread_create(%t, @w), free(%p), %n = load i64, ptr %t, %j = pthread_join(%n), %v = load i64, ptr @g,
-- print(%v), ret i32 0
abbrev pub free_beside : List Instr
free_beside =
    into (codes "c") (create (local (codes "t")) Null)
    ∷ does (free (local (codes "p")))
    ∷ into (codes "n") (ops.Load I64 (local (codes "t")))
    ∷ into (codes "j") (join (local (codes "n")))
    ∷ into (codes "v") (ops.Load I64 at_g)
    ∷ does (print (local (codes "v")))
    ∷ return ∷ []

-- %t = alloca i64, %p = malloc(8), %q = malloc(8), store ptr %p, ptr @g, store ptr %q, ptr @h, free_beside;
-- @w: %y = load ptr, ptr @h, store ptr %y, ptr @g
abbrev pub newer_pointer : Module
newer_pointer =
    module_of (main (block (codes "entry")
    (into (codes "t") (ops.Alloca (ty.One I64) None)
    ∷ into (codes "p") (malloc 8)
    ∷ into (codes "q") (malloc 8)
    ∷ does (ops.Store Ptr (local (codes "p")) at_g)
    ∷ does (ops.Store Ptr (local (codes "q")) at_h)
    ∷ free_beside) ∷ [])
    ∷ worker (into (codes "y") (ops.Load Ptr at_h) ∷ does (ops.Store Ptr (local (codes "y")) at_g) ∷ [])
    ∷ [])

-- main begins its free, and has looked at @g
abbrev pub looked_at : Events
looked_at = by 0 (Begin ∷ Assign 0 0 ∷ Block 0 0x1000000 1 ∷ Block 1 0x1000010 1
    ∷ Store 0 0x1000000 ∷ Found 0 0x1000000 1 ∷ Noted 0 1 0
    ∷ Store 1 0x1000010 ∷ Found 1 0x1000010 1 ∷ Noted 1 1 1
    ∷ Spawn 1 1 0 ∷ Store 4096 1 ∷ BeginFree 0 1 ∷ [])

-- then @w stores the other block's pointer there, and ends
abbrev pub stored_beside : Events
stored_beside = by 1 (Begin ∷ Load 1 0x1000010 ∷ Store 0 0x1000010 ∷ Found 1 0x1000010 1 ∷ Noted 1 1 0 ∷ End ∷ [])

-- the free does not mark the newer pointer
abbrev pub newer_pointer_is_not_marked : Example
newer_pointer_is_not_marked =
    example newer_pointer default_limits
    (looked_at ++ stored_beside
    ++ by 0 (Seen 0 ∷ EndFree 0 ∷ Load 4096 1 ∷ Join 1 ∷ Load 0 0x1000010 ∷ Print 0 16777232 ∷ End ∷ []))
    (Returned (Some 0) ∷ Returned None ∷ replicate 14 Idle) (16777232 ∷ []) (totals 1 2 1 3 0 0)

-- a mark, which would lose it, is refused; before the store it is allowed
abbrev pub newer_pointer_is_not_lost : List Trial
newer_pointer_is_not_lost =
    trial (setting_in newer_pointer_is_not_marked) looked_at (by 0 (Mark 0 ∷ []) ++ by 1 (Begin ∷ []))
    (by 0 (Seen 0 ∷ EndFree 0 ∷ Mark 1 ∷ Seen 1 ∷ []))
    ∷ trial (setting_in newer_pointer_is_not_marked) (looked_at ++ stored_beside) (by 0 (Seen 0 ∷ EndFree 0 ∷ []))
    (by 0 (Mark 0 ∷ Mark 1 ∷ Trap ∷ End ∷ []))
    ∷ []

-- %t = alloca i64, %p = malloc(8), store ptr %p, ptr @g, free_beside;
-- @w: %y = load ptr, ptr @g, %z = getelementptr i8, ptr %y, i64 8, store ptr %z, ptr @g
abbrev pub newer_pointer_into_block : Module
newer_pointer_into_block =
    module_of (main (block (codes "entry")
    (into (codes "t") (ops.Alloca (ty.One I64) None)
    ∷ into (codes "p") (malloc 8)
    ∷ does (ops.Store Ptr (local (codes "p")) at_g)
    ∷ free_beside) ∷ [])
    ∷ worker (into (codes "y") (ops.Load Ptr at_g)
    ∷ into (codes "z") (ops.Gep (ty.One I8) (local (codes "y")) (operand I64 (Int 8) ∷ []))
    ∷ does (ops.Store Ptr (local (codes "z")) at_g) ∷ [])
    ∷ [])

-- main begins its free, and has looked at @g; then @w stores another pointer into the block there, whose note skips,
-- and ends
abbrev pub stored_into_block : Events
stored_into_block = by 0 (Begin ∷ Assign 0 0 ∷ Block 0 0x1000000 1
    ∷ Store 0 0x1000000 ∷ Found 0 0x1000000 1 ∷ Noted 0 1 0
    ∷ Spawn 1 1 0 ∷ Store 4096 1 ∷ BeginFree 0 1 ∷ [])
    ++ by 1 (Begin ∷ Load 0 0x1000000 ∷ Store 0 0x1000008 ∷ Skip ∷ End ∷ [])

-- the free leaves the newer pointer, which was written after it began
abbrev pub newer_pointer_into_block_is_left : Example
newer_pointer_into_block_is_left =
    example newer_pointer_into_block default_limits
    (stored_into_block ++ by 0 (EndFree 0 ∷ Load 4096 1 ∷ Join 1 ∷ Load 0 0x1000008 ∷ Print 0 16777224 ∷ End ∷ []))
    (Returned (Some 0) ∷ Returned None ∷ replicate 14 Idle) (16777224 ∷ []) (totals 1 1 1 1 0 0)

-- it might mark it as well, but does not see it pointing elsewhere
abbrev pub newer_pointer_into_block_may_be_marked : List Trial
newer_pointer_into_block_may_be_marked =
    trial (setting_in newer_pointer_into_block_is_left) stored_into_block (by 0 (EndFree 0 ∷ Mark 0 ∷ []))
    (by 0 (Seen 0 ∷ []))
    ∷ []

-- THE 16 NUMBERS

abbrev pub arm : Value → List ℕ → Arm
arm value from = record { value = value; from = Text from }

-- entry: %t = alloca i64, br label %loop
-- loop: %i = phi i64 [ 0, %entry ], [ %j, %loop ], %c = pthread_create(%t, @w), %j = add i64 %i, 1,
-- %d = icmp ult i64 %j, 16, br i1 %d, label %loop, label %done
-- done: %e = sext i32 %c to i64, print(%e), ret i32 0
abbrev pub starting : Module
starting =
    module_of (main (block (codes "entry")
    (into (codes "t") (ops.Alloca (ty.One I64) None) ∷ does (ops.Br (Text (codes "loop"))) ∷ [])
    ∷ block (codes "loop")
    (into (codes "i") (ops.Phi I64 (arm (Int 0) (codes "entry") ∷ arm (local (codes "j")) (codes "loop") ∷ []))
    ∷ into (codes "c") (create (local (codes "t")) Null)
    ∷ into (codes "j") (ops.Bin Add I64 (local (codes "i")) (Int 1))
    ∷ into (codes "d") (ops.Icmp Ult I64 (local (codes "j")) (Int 16))
    ∷ does (ops.CondBr (local (codes "d")) (Text (codes "loop")) (Text (codes "done"))) ∷ [])
    ∷ block (codes "done")
    (into (codes "e") (ops.Cast Sext I32 (local (codes "c")) I64) ∷ does (print (local (codes "e"))) ∷ return ∷ [])
    ∷ [])
    ∷ worker [] ∷ [])

-- main starts the 15 other threads
abbrev pub started : List Event
started = flat_map (λ (n : ℕ). Spawn n 1 0 ∷ Store 4096 n ∷ []) (range_with_len 1 15)

-- the last answer is 11; here no other thread begins
abbrev pub sixteenth_thread_is_refused : Example
sixteenth_thread_is_refused =
    example starting default_limits (by 0 (Begin ∷ started ++ SpawnRefused ∷ Print 0 11 ∷ End ∷ []))
    (alone (Returned (Some 0))) (11 ∷ []) (totals 1 0 0 0 0 0)

-- the same where each of them runs to its end before main asks for the last
abbrev pub sixteenth_is_refused_behind_them : Example
sixteenth_is_refused_behind_them =
    example starting default_limits
    (by 0 (Begin ∷ started) ++ flat_map (λ (n : ℕ). by n (Begin ∷ End ∷ [])) (range_with_len 1 15)
    ++ by 0 (SpawnRefused ∷ Print 0 11 ∷ End ∷ []))
    (Returned (Some 0) ∷ replicate 15 (Returned None)) (11 ∷ []) (totals 1 0 0 0 0 0)

-- pthread_join(0) and pthread_join(99), each as the first instruction of main
abbrev pub joining : (number : ℕ) → Example
joining number =
    example (main_of (into (codes "j") (join (Int number)) ∷ return ∷ [])) default_limits (by 0 (Begin ∷ Trap ∷ End ∷ []))
    (alone (trap_stop (at 0 0) (BadJoin number))) [] (totals 0 0 0 0 0 1)

abbrev pub join_of_itself_traps : Example
join_of_itself_traps = joining 0

abbrev pub join_of_no_thread_traps : Example
join_of_no_thread_traps = joining 99

-- TWO FREES OF ONE BLOCK

-- %t = alloca i64, %p = malloc(8), %c = pthread_create(%t, @w, %p), free(%p), ret i32 0; @w: free(%x)
abbrev pub freeing_both : Module
freeing_both =
    module_of (main (block (codes "entry")
    (into (codes "t") (ops.Alloca (ty.One I64) None)
    ∷ into (codes "p") (malloc 8)
    ∷ into (codes "c") (create (local (codes "t")) (local (codes "p")))
    ∷ does (free (local (codes "p")))
    ∷ return ∷ []) ∷ [])
    ∷ worker (does (free (local (codes "x"))) ∷ []) ∷ [])

-- main asks to free the block, but @w frees it first: main traps, and saw it free in its first life
abbrev pub second_of_two_frees_traps : Example
second_of_two_frees_traps =
    example freeing_both default_limits
    (by 0 (Begin ∷ Assign 0 0 ∷ Block 0 0x1000000 1 ∷ Spawn 1 1 0x1000000 ∷ Store 4096 1 ∷ [])
    ++ by 1 (Begin ∷ BeginFree 0 1 ∷ EndFree 0 ∷ End ∷ []) ++ by 0 (Trap ∷ End ∷ []))
    (trap_stop (at 0 3) (DoubleFree 0x1000000 4) ∷ Returned None ∷ replicate 14 Idle) [] (totals 0 1 1 0 0 1)

-- where main frees it first @w traps, and saw it being freed; main has not to wait for that, and @w is running as it
-- ends
abbrev pub first_of_two_frees_goes_on : Example
first_of_two_frees_goes_on =
    example freeing_both default_limits
    (by 0 (Begin ∷ Assign 0 0 ∷ Block 0 0x1000000 1 ∷ Spawn 1 1 0x1000000 ∷ Store 4096 1 ∷ BeginFree 0 1 ∷ [])
    ++ by 1 (Begin ∷ Trap ∷ []) ++ by 0 (EndFree 0 ∷ End ∷ []))
    (Returned (Some 0) ∷ Running ∷ replicate 14 Idle) [] (totals 0 1 1 0 0 0)

-- the same, but @w comes to its end
abbrev pub first_of_two_frees_ends : Example
first_of_two_frees_ends =
    example freeing_both default_limits
    (by 0 (Begin ∷ Assign 0 0 ∷ Block 0 0x1000000 1 ∷ Spawn 1 1 0x1000000 ∷ Store 4096 1 ∷ BeginFree 0 1 ∷ [])
    ++ by 1 (Begin ∷ Trap ∷ []) ++ by 0 (EndFree 0 ∷ []) ++ by 1 (End ∷ []) ++ by 0 (End ∷ []))
    (Returned (Some 0) ∷ trap_stop (at 1 0) (DoubleFree 0x1000000 6) ∷ replicate 14 Idle) [] (totals 0 1 1 0 0 1)
