-- Lists of copies that are no longer than a row.
use Rattle.std.proofs.Common.{◌≡◌, ℕ, zero, suc, ◌+◌, ◌<◌, ◌≤◌, List, [], ◌∷◌, length, take, get_or, map, refl}
use Rattle.std.proofs.Common.{sym}
use Rattle.std.proofs.Common.{subst, slice_index_or, arith}
use Rattle.std.specs.Prelude.{All}
use Rattle.std.proofs.lemmas.List.{length-map}
use Rattle.ds_shape.specs.Breaches.{kept_more}
use Rattle.ds_code.specs.declared.sources.Copying.{Copying}
use Rattle.ds_code.specs.declared.ops.Edge.{Edge}
use Rattle.ds_code.specs.declared.ops.BranchOp.{BranchOp}
use Rattle.ds_code.specs.declared.ops.CodeOp.{CodeOp}
use Rattle.ds_code.specs.declared.ops.CodeOp.TheVariants.{Branch}
use Rattle.ds_code.specs.declared.ops.CodeInstr.{CodeInstr}
use Rattle.ds_code.specs.declared.functions.CodeFunction.{CodeFunction}
use Rattle.ds_code.specs.Rows.{edges_of, copies_of, FitsRow, FunctionFits}

abbrev pub EdgeFits : ℕ → Edge → Type 0
EdgeFits row e = length e.copies ≤ row

-- a longer row is long enough too
pub edges_raise : (m n : ℕ) (es : List Edge) → m ≤ n → All (EdgeFits m) es → All (EdgeFits n) es
edges_raise m n es le all = λ k d lt. let a = all k d lt in omega arith

pub instr_raise : (m n : ℕ) (i : CodeInstr) → m ≤ n → FitsRow m i → FitsRow n i
instr_raise m n i le fits = λ k d lt. let a = fits k d lt in omega arith

pub instrs_raise : (m n : ℕ) (is : List CodeInstr) → m ≤ n → All (FitsRow m) is → All (FitsRow n) is
instrs_raise m n is le all = λ k d lt. instr_raise m n (slice_index_or is k d) le (all k d lt)

pub functions_raise : (m n : ℕ) (fs : List CodeFunction) → m ≤ n → All (FunctionFits m) fs → All (FunctionFits n) fs
functions_raise m n fs le all = λ k d lt. instrs_raise m n (slice_index_or fs k d).code le (all k d lt)

-- one edge more
pub edge_more : (es : List Edge) (i : ℕ) (e : Edge) (m n : ℕ) → i < length es → e ≡ get_or es i e → m ≤ n
    → length e.copies ≤ n → All (EdgeFits m) (take i es) → All (EdgeFits n) (take (i + 1) es)
edge_more es i e m n inside is le here all =
    kept_more (EdgeFits n) es i e inside is (edges_raise m n (take i es) le all) here

copy_there : (es : List Edge) (k : ℕ) (d : List Copying) (e : Edge) → k < length es
    → slice_index_or (map (λ (x : Edge). x.copies) es) k d ≡ (slice_index_or es k e).copies
copy_there [] k d e lt = absurd (omega arith)
copy_there (x ∷ es) zero d e lt = refl
copy_there (x ∷ es) (suc k) d e lt = copy_there es k d e (omega arith)

-- the lists of a branch are those of its edges
pub branch_fits : (op : CodeOp) (b : BranchOp) (row : ℕ) → op ≡ Branch b → All (EdgeFits row) (edges_of b)
    → All (λ (copies : List Copying). length copies ≤ row) (copies_of op)
branch_fits op b row is all =
    subst (λ o. All (λ (copies : List Copying). length copies ≤ row) (copies_of o)) (sym is)
    (λ k d lt.
    let long : length (map (λ (x : Edge). x.copies) (edges_of b)) ≡ length (edges_of b) =
    length-map (edges_of b) (λ (x : Edge). x.copies) in
    let inside : k < length (edges_of b) = omega arith in
    let e : Edge = record { target = 0; copies = [] } in
    let same = copy_there (edges_of b) k d e inside in
    let fits = all k e inside in
    subst (λ (cs : List Copying). length cs ≤ row) (sym same) fits)
