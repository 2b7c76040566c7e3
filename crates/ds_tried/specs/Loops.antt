-- A worked run of a loop that takes a whole page.
use Rattle.std.specs.Prelude.{ℕ, ◌+◌, ◌*◌, List, [], ◌∷◌, ◌++◌, map, Some, codes}
use Rattle.std.specs.List.{range_with_len}
use Rattle.ds_ast.specs.declared.name.Name.TheVariants.{Text}
use Rattle.ds_ast.specs.declared.ty.Scalar.TheVariants.{I64, Ptr}
use Rattle.ds_ast.specs.declared.value.Value.TheVariants.{Int}
use Rattle.ds_ast.specs.declared.words.BinOp.TheVariants.{Add}
use Rattle.ds_ast.specs.declared.words.CastOp.TheVariants.{PtrToInt}
use Rattle.ds_ast.specs.declared.words.Cond.TheVariants.{Ult}
use Rattle.ds_ast.specs.declared.instr.Op.TheVariants as ops
use Rattle.ds_ast.specs.declared.module.Module.{Module}
use Rattle.ds_map.specs.Bounds.{bounds}
use Rattle.ds_step.specs.declared.Event.{Event}
use Rattle.ds_step.specs.declared.Event.TheVariants.{Begin, End, Print, Assign, Taken, TakenPage, Block}
use Rattle.ds_plain.specs.declared.Stop.TheVariants.{Returned}
use Rattle.ds_tried.specs.Programs.{by, Trial, trial}
use Rattle.ds_tried.specs.Totals.{totals}
use Rattle.ds_tried.specs.Modules.{into, does, local, malloc, print, return, block, main, module_of, Example, example, alone}
use Rattle.ds_tried.specs.Modules.{setting_in}
use Rattle.ds_tried.specs.Threaded.{arm}

-- entry: br label %loop
-- loop: %i = phi i64 [ 0, %entry ], [ %j, %loop ], %p = malloc(8), %j = add i64 %i, 1, %c = icmp ult i64 %j, 257,
-- br i1 %c, label %loop, label %done
-- done: %a = ptrtoint ptr %p to i64, print(%a), %q = malloc(16), %b = ptrtoint ptr %q to i64, print(%b), ret i32 0
abbrev pub taking : Module
taking =
    module_of (main (block (codes "entry") (does (ops.Br (Text (codes "loop"))) ∷ [])
    ∷ block (codes "loop")
    (into (codes "i") (ops.Phi I64 (arm (Int 0) (codes "entry") ∷ arm (local (codes "j")) (codes "loop") ∷ []))
    ∷ into (codes "p") (malloc 8)
    ∷ into (codes "j") (ops.Bin Add I64 (local (codes "i")) (Int 1))
    ∷ into (codes "c") (ops.Icmp Ult I64 (local (codes "j")) (Int 257))
    ∷ does (ops.CondBr (local (codes "c")) (Text (codes "loop")) (Text (codes "done"))) ∷ [])
    ∷ block (codes "done")
    (into (codes "a") (ops.Cast PtrToInt Ptr (local (codes "p")) I64) ∷ does (print (local (codes "a")))
    ∷ into (codes "q") (malloc 16)
    ∷ into (codes "b") (ops.Cast PtrToInt Ptr (local (codes "q")) I64) ∷ does (print (local (codes "b")))
    ∷ return ∷ [])
    ∷ []) ∷ [])

-- the 256 blocks of the only page are taken in order, and then each is passed over
abbrev pub takes_all : List Event
takes_all =
    Begin ∷ Assign 0 0 ∷ map (λ (place : ℕ). Block place (0x1000000 + 16 * place) 1) (range_with_len 0 256)

abbrev pub passes_all : List Event
passes_all = map (λ (place : ℕ). Taken place) (range_with_len 0 256)

-- the 257th malloc is told null, and so is one of another class
abbrev pub full_page_gives_null : Example
full_page_gives_null =
    example taking (bounds 1 1000000 65536 1048576)
    (by 0 (takes_all ++ passes_all ++ Print 0 0 ∷ TakenPage 0 ∷ Print 1 0 ∷ End ∷ []))
    (alone (Returned (Some 0))) (0 ∷ 0 ∷ []) (totals 2 256 0 0 0 0)

-- with one place less passed over it is not told
abbrev pub one_place_left : List Trial
one_place_left =
    trial (setting_in full_page_gives_null)
    (by 0 (takes_all ++ map (λ (place : ℕ). Taken place) (range_with_len 0 255))) (by 0 (Taken 255 ∷ []))
    (by 0 (Print 0 0 ∷ End ∷ []))
    ∷ []
