-- Operands, arms, cases and arguments are within their bounds, and lists of them.
use Rattle.std.proofs.Common.{◌≡◌, ℕ, ◌<◌, ◌%◌, ◌^◌, Bool, List, [], ◌∷◌, ◌++◌, length, sym, subst, arith}
use Rattle.std.specs.Prelude.{All, Option, Some, None}
use Rattle.std.proofs.lemmas.List.{length-append}
use Rattle.std.proofs.lemmas.List.Elements.{All-nil, All-cons, All-push}
use Rattle.ds_lex.specs.Number.{number_of}
use Rattle.ds_lex.specs.declared.token.TokenKind.{TokenKind}
use Rattle.ds_lex.specs.declared.token.TokenKind.TheVariants as kind
use Rattle.ds_ast.specs.declared.name.Name.{Name}
use Rattle.ds_ast.specs.declared.ty.Scalar.{Scalar}
use Rattle.ds_ast.specs.declared.operand.Operand.{Operand}
use Rattle.ds_ast.specs.declared.operand.Arm.{Arm}
use Rattle.ds_ast.specs.Bounds.{IsValue, IsOperand, IsArm, IsCase, width}
use Rattle.ds_grammar.specs.declared.fault.Mark.{Mark}
use Rattle.ds_grammar.specs.declared.item.Ending.{Ending}
use Rattle.ds_grammar.specs.declared.item.Ending.TheVariants as ending
use Rattle.ds_grammar.specs.declared.item.Behind.{Behind}
use Rattle.ds_grammar.specs.declared.item.Behind.TheVariants as behind
use Rattle.ds_grammar.specs.declared.item.Stage.TheVariants as stage
use Rattle.ds_grammar.specs.Tokens.{range_mark, width_of, fits_type}
use Rattle.ds_grammar.specs.Instructions.{Trail, operand_rest, operands_more, operands_from, operand_trail, arm}
use Rattle.ds_grammar.specs.Instructions.{arm_rest, arms_more, arms_from, arm_trail, argument_value, argument_rest}
use Rattle.ds_grammar.specs.Instructions.{arguments_from, arguments, case_of, case_number, case_rest, cases}
use Rattle.ds_parse_laws.proofs.Within.{Within, done, one, never, skip, marked, run, ◌⨾◌}
use Rattle.ds_parse_laws.proofs.Leaves.{mapped, kept_below, value_within, local_within, target_within}

-- an operand more
more_operands : (os : List Operand) (s : Scalar) (v : _) → All IsOperand os → IsValue (width s) v
    → All IsOperand (os ++ (record { ty = s; value = v }) ∷ [])
more_operands os s v h i = All-push IsOperand os (record { ty = s; value = v }) h i

operand_rest_within : (os : List Operand) (b : Behind) → All IsOperand os
    → Within (operand_rest os b) (λ s. All IsOperand s.0)
operand_rest_within os (behind.Operand s) h =
    value_within s ⨾ (λ v i. done (os ++ (record { ty = s; value = v }) ∷ [], stage.Items) (more_operands os s v h i))
operand_rest_within os behind.Arm h = never
operand_rest_within os behind.Metadata h = skip (λ u. done (os, stage.Endings) h)
operand_rest_within os behind.Align h = skip (λ u. done (os, stage.Endings) h)

operands_more_within : (at_most_one : Bool) (s : Trail Operand) (e : Ending) → All IsOperand s.0
    → Within (operands_more at_most_one s e) (λ s. All IsOperand s.0)
operands_more_within at_most_one s ending.Attr h = done (s.0, stage.Attrs) h
operands_more_within at_most_one s ending.Comma h = skip (λ b. operand_rest_within s.0 b h)

pub operand_trail_within : (at_most_one : Bool) → Within (operand_trail at_most_one) (All IsOperand)
unfolding operand_trail operands_from
operand_trail_within at_most_one =
    run {P = λ s. All IsOperand s.0} (All-nil IsOperand) (λ s t e p b i. operands_more_within at_most_one s e p) ⨾
    (λ s h. done s.0 h)

pub arm_within : (s : Scalar) → Within (arm s) (IsArm s)
unfolding arm
arm_within s = value_within s ⨾ (λ v i. skip (λ u. local_within ⨾
    (λ l j. skip (λ u. done (record { value = v; from = l }) (i, j)))))

-- one arm at least
abbrev pub AreArms : Scalar → List Arm → Type 0
AreArms s arms = (0 < length arms) × All (IsArm s) arms

more_arms : (s : Scalar) (arms : List Arm) (a : Arm) → AreArms s arms → IsArm s a → AreArms s (arms ++ a ∷ [])
more_arms s arms a h i = (omega (arith, length-append arms (a ∷ [])), All-push (IsArm s) arms a h.1 i)

arm_rest_within : (s : Scalar) (arms : List Arm) (b : Behind) → AreArms s arms
    → Within (arm_rest s arms b) (λ t. AreArms s t.0)
arm_rest_within s arms behind.Arm h =
    arm_within s ⨾ (λ a i. done (arms ++ a ∷ [], stage.Items) (more_arms s arms a h i))
arm_rest_within s arms (behind.Operand o) h = never
arm_rest_within s arms behind.Metadata h = skip (λ u. done (arms, stage.Endings) h)
arm_rest_within s arms behind.Align h = skip (λ u. done (arms, stage.Endings) h)

arms_more_within : (s : Scalar) (t : Trail Arm) (e : Ending) → AreArms s t.0
    → Within (arms_more s t e) (λ t. AreArms s t.0)
arms_more_within s t ending.Attr h = done (t.0, stage.Attrs) h
arms_more_within s t ending.Comma h = skip (λ b. arm_rest_within s t.0 b h)

pub arm_trail_within : (s : Scalar) (a : Arm) → IsArm s a → Within (arm_trail s a) (AreArms s)
unfolding arm_trail arms_from
arm_trail_within s a h =
    run {P = λ t. AreArms s t.0} (omega arith, All-cons (IsArm s) a [] h (All-nil (IsArm s)))
    (λ t u e p b i. arms_more_within s t e p) ⨾ (λ t i. done t.0 i)

argument_within : (os : List Operand) (s : Scalar) → All IsOperand os → Within (argument_value os s) (All IsOperand)
unfolding argument_value
argument_within os s h =
    skip (λ u. value_within s ⨾ (λ v i. done (os ++ (record { ty = s; value = v }) ∷ []) (more_operands os s v h i)))

argument_rest_within : (os : List Operand) (s : Option Scalar) → All IsOperand os
    → Within (argument_rest os s) (All IsOperand)
argument_rest_within os (Some s) h = argument_within os s h
argument_rest_within os None h = skip (λ s. argument_within os s h)

pub arguments_within : Within arguments (All IsOperand)
unfolding arguments_from
arguments_within = run (All-nil IsOperand) (λ os t s p b e. argument_rest_within os s p)

case_is : (s : Scalar) (k : TokenKind) (bs : List ℕ) (at : ℕ) (v : ℕ × Mark) → case_of s k bs at ≡ Some v
    → v.0 < 2 ^ width s
case_is s kind.Number bs at v e =
    let (n, i, same) = mapped (λ n. (n % 2 ^ width_of s, range_mark at (fits_type s bs n))) (number_of bs) v e in
    subst (λ (v : ℕ × Mark). v.0 < 2 ^ width s) (sym same) (kept_below s n)
case_is s other bs at v e = absurd (cc (e))

case_number_within : (s : Scalar) → Within (case_number s) (λ n. n < 2 ^ width s)
unfolding case_number
case_number_within s = ◌⨾◌ {Q = λ (found : ℕ × Mark). found.0 < 2 ^ width s}
    (one (λ t v b e. case_is s t.kind t.bytes t.at v e)) (λ found i. marked (λ w. done found.0 i))

case_within : (s : Scalar) (cs : List (ℕ × Name)) → All (IsCase s) cs → Within (case_rest s cs) (All (IsCase s))
unfolding case_rest
case_within s cs h = case_number_within s ⨾ (λ n i. skip
    (λ u. target_within ⨾ (λ l j. done (cs ++ (n, l) ∷ []) (All-push (IsCase s) cs (n, l) h (i, j)))))

pub cases_within : (s : Scalar) → Within (cases s) (All (IsCase s))
unfolding cases
cases_within s = run (All-nil (IsCase s)) (λ cs t u p b e. case_within s cs p)
