-- The faults of a function by the instructions that break a rule.
use Rattle.std.proofs.Common.{◌≡◌, ◌<◌, ◌+◌, ℕ, suc, [], ◌∷◌, length, slice_index_or, refl, sym, ap, ◌∙◌, arith}
use Rattle.std.proofs.Common.{Result, Ok, Err}
use Rattle.std.specs.Prelude.{All, IfOk}
use Rattle.std.proofs.lemmas.List.{length-append}
use Rattle.std.proofs.Math.Seq.{get_or-append_seam}
use Rattle.ds_ast.specs.declared.module.Module.{Module}
use Rattle.ds_ast.specs.declared.module.Function.{Function}
use Rattle.ds_shape.specs.Written.{IsFirstBreach}
use Rattle.ds_ast.specs.Bounds.{Bounds}
use Rattle.ds_shape.specs.Types.{Stands}
use Rattle.ds_shape.specs.Accepted.{IsGoodFunction}
use Rattle.ds_shape.specs.Placed.{Placed, placed_of, BreaksFirst, KeepsAssigned}
use Rattle.ds_check.specs.declared.fault.TypeFault.{TypeFault}
use Rattle.ds_check.specs.declared.instr.Rule.{Rule}
use Rattle.ds_check.specs.declared.instr.Rule.TheVariants.{Defined, Typed, GoodPhi}
use Rattle.ds_check.specs.declared.instructions.Broken.{Broken}
use Rattle.ds_check.specs.Broken.{IsFirstBroken, fault_at}
use Rattle.ds_check.specs.Fault.{HasFunctionFault, HasLabels, KeepsAll}
use Rattle.ds_check.proofs.GoodFunction.{good_function}
use Rattle.ds_check.proofs.Numbered.{numbered}

-- the number of an instruction that breaks a rule is below how many there are
breach_inside : (Keeps : Placed → Type 0) (f : Function) (p : Placed) → IsFirstBreach Keeps (placed_of f) p
    → p.number < length (placed_of f)
breach_inside Keeps f p first =
    let all : length (placed_of f) ≡ length first.before + suc (length first.after) = ap length first.split
    ∙ length-append first.before (p ∷ first.after) in
    let inside : length first.before < length (placed_of f) = omega (arith, all) in
    let here : slice_index_or (placed_of f) (length first.before) p ≡ p =
    ap (λ xs. slice_index_or xs (length first.before) p) first.split
    ∙ get_or-append_seam first.before p first.after p in
    let number : p.number ≡ length first.before = ap (λ (q : Placed). q.number) (sym here)
    ∙ numbered f (length first.before) p inside in
    omega (arith, number, inside)

pub breaks_inside : (Keeps : Placed → Type 0) (f : Function) (i : ℕ) → BreaksFirst Keeps f i → i < length (placed_of f)
breaks_inside Keeps f i (p, first, is) =
    let h : p.number < length (placed_of f) = breach_inside Keeps f p first in omega (arith, h, is)

pub broken_inside : (m : Module) (f : Function) (b : Broken) → IsFirstBroken m f b → b.number < length (placed_of f)
broken_inside m f b (p, first, broken, is) =
    let h : p.number < length (placed_of f) = breach_inside _ f p first in omega (arith, h, is)

by_rule : (m : Module) (f : Function) (n i : ℕ) (r : Rule) → HasLabels f
    → IsFirstBroken m f (record { number = i; rule = r }) → HasFunctionFault m n f (fault_at n i r)
by_rule m f n i Defined labels (p, first, broken, is) = (refl, labels, (p, first, tt, broken, is))
by_rule m f n i Typed labels (p, first, broken, is) = (refl, labels, (p, first, broken.0, broken.1, is))
by_rule m f n i GoodPhi labels (p, first, broken, is) = (refl, labels, (p, first, (broken.0, broken.1), broken.2, is))

-- the first instruction that breaks a rule gives the fault of the function
pub broken_function : (m : Module) (f : Function) (n : ℕ) (b : Broken) → HasLabels f → IsFirstBroken m f b
    → HasFunctionFault m n f (fault_at n b.number b.rule)
broken_function m f n b labels first = by_rule m f n b.number b.rule labels first

-- a function is good where its labels and its instructions are
pub good_body : (m : Module) (f : Function) (r : Result (Unit {0}) TypeFault) → Bounds m → Stands f m.functions
    → (f.blocks ≡ [] → ⊥) → HasLabels f
    → IfOk r (λ _. All (KeepsAll m f) (placed_of f) × All (KeepsAssigned f) (placed_of f))
    → IfOk r (λ _. IsGoodFunction m f)
good_body m f (Ok u) bounds stands defined labels kept = good_function m f bounds stands defined labels kept.0 kept.1
good_body m f (Err e) bounds stands defined labels kept = kept
