-- The value of a phi by the place of its label.
use Rattle.std.proofs.Common.{◌≡◌, ℕ, suc, Bool, true, false, if◌then◌else◌, List, [], ◌∷◌, refl, ap, sym, ◌∙◌}
use Rattle.std.specs.Prelude.{Option, Some, None}
use Rattle.std.specs.Option.{option_map, option_copied}
use denote.Ref.{Bor}
use Rattle.ds_ast.specs.declared.name.Name.{Name}
use Rattle.ds_ast.specs.declared.ty.Scalar.{Scalar}
use Rattle.ds_ast.specs.declared.value.Value.{Value}
use Rattle.ds_ast.specs.declared.operand.Arm.{Arm}
use Rattle.ds_ast.specs.declared.instr.Instr.{Instr}
use Rattle.ds_ast.specs.Bounds.{is_name}
use Rattle.ds_names.specs.Names.{place_of}
use Rattle.ds_shape.specs.Sizes.{◌>>=◌}
use Rattle.ds_meaning.specs.Control.{Choice, arm_for}
use Rattle.ds_lower.specs.Known.{labels_of, IsPhiOf, value_in, phi_arm}

-- the value of the arm at a place
abbrev arm_at : List Arm → Option ℕ → Option Value
arm_at arms None = None
arm_at arms (Some n) = value_in arms n

arm_found : (arms : List Arm) (from : Name) → arm_at arms (place_of (labels_of arms) from) ≡ arm_for from arms
arm_found [] from = refl
arm_found (a ∷ arms) from = by_test (is_name a.from from) (place_of (labels_of arms) from) (arm_found arms from)
  where
    by_test : (t : Bool) (o : Option ℕ) → arm_at arms o ≡ arm_for from arms
        → arm_at (a ∷ arms) (if t then Some 0 else option_map suc o) ≡ (if t then Some a.value else arm_for from arms)
    by_test true o e = refl
    by_test false None e = e
    by_test false (Some n) e = e

phi_found : (i j : Instr) (ty : Scalar) (arms : List Arm) (labels : List Name) (from : Name) (found : Option ℕ)
    → IsPhiOf i ty arms labels → i ≡ j → found ≡ place_of labels from → arm_at arms found ≡ phi_arm j from
phi_found i j ty arms labels from found is same place =
    ap (λ o. arm_at arms o) (place ∙ ap (λ ls. place_of ls from) is.1) ∙ arm_found arms from
    ∙ sym (ap (λ (o : Option Choice). o >>= (λ (choice : Choice). arm_for from choice.arms)) is.0)
    ∙ ap (λ (k : Instr). phi_arm k from) same

-- the value of the arm at the place of a label
pub value_there : (i j : Instr) (ty : Scalar) (arms : List Arm) (labels : List Name) (from : Name) (found : Option ℕ)
    (number : ℕ) (o : Option (Bor Value)) → IsPhiOf i ty arms labels → i ≡ j → found ≡ place_of labels from
    → found ≡ Some number → option_copied o ≡ value_in arms number → option_copied o ≡ phi_arm j from
value_there i j ty arms labels from found number o is same place some read =
    read ∙ ap (λ p. arm_at arms p) (sym some) ∙ phi_found i j ty arms labels from found is same place

-- a label that is not there has no value
pub value_missing : (i j : Instr) (ty : Scalar) (arms : List Arm) (labels : List Name) (from : Name) (found : Option ℕ)
    → IsPhiOf i ty arms labels → i ≡ j → found ≡ place_of labels from → found ≡ None → None ≡ phi_arm j from
value_missing i j ty arms labels from found is same place none =
    ap (λ p. arm_at arms p) (sym none) ∙ phi_found i j ty arms labels from found is same place
