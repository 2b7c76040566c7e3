-- Lists in an instruction: operands, arms, arguments and cases.
use Rattle.std.proofs.Common.{◌≡◌, ℕ, ◌<◌, ◌%◌, ◌^◌, true, false, List, [], ◌∷◌, ◌++◌, map, refl, sym, ap, subst}
use Rattle.std.proofs.Common.{append_assoc, append-nil}
use Rattle.std.specs.Prelude.{All, Some, None, option_map, flat_map}
use Rattle.ds_lex.specs.Written.{Piece, Written}
use Rattle.ds_lex.specs.declared.token.TokenKind.TheVariants as kind
use Rattle.ds_ast.specs.declared.name.Name.{Name}
use Rattle.ds_ast.specs.declared.ty.Scalar.{Scalar}
use Rattle.ds_ast.specs.declared.ty.Scalar.TheVariants.{I1, I8, I16, I32, I64, Ptr}
use Rattle.ds_ast.specs.declared.operand.Operand.{Operand}
use Rattle.ds_ast.specs.declared.operand.Arm.{Arm}
use Rattle.ds_ast.specs.Bounds.{IsOperand, IsArm, IsCase, width}
use Rattle.ds_grammar.specs.declared.item.Ending.TheVariants as ending
use Rattle.ds_grammar.specs.declared.item.Behind.TheVariants as behind
use Rattle.ds_grammar.specs.declared.item.Stage.TheVariants as stage
use Rattle.ds_grammar.specs.Sort.{Sort, TypeOf, no_value}
use Rattle.ds_grammar.specs.Grammar.{Grammar, Loop}
use Rattle.ds_grammar.specs.Tokens.{width_of, is_address, fits_width, is_negative, fits_type, range_mark}
use Rattle.ds_grammar.specs.Rows.{fact, is_word}
use Rattle.ds_grammar.specs.Instructions.{operand_behind, operands_from, arm, arms_from, arguments_from}
use Rattle.ds_grammar.specs.Instructions.{argument_value, next_argument, case_number, case_rest, scalar_word}
use Rattle.ds_print.specs.Names as print
use Rattle.ds_print.specs.Canonical.{more_listed, listed, operand_pieces, arm_pieces, case_pieces}
use Rattle.ds_print_laws.proofs.Alls.{all_first, all_rest}
use Rattle.ds_print_laws.proofs.Gets.{Known, Gets, gap, done, one, one_at, marked, run_end, run_item, ◌⨾◌}
use Rattle.ds_print_laws.proofs.Numbers.{IsRead, signed_is}
use Rattle.ds_print_laws.proofs.Values.{done_as, or_true, scalar_read, value_read, local_read, target_read}
use Rattle.ds_print_laws.proofs.Ends.{EndsInstruction, value_no_run, no_ignored}

-- the same pieces are read with an equal value
pub read_as : {a : Sort} {g : Grammar a} {ps qs : List Piece} (v w : TypeOf a) → v ≡ w → Gets g ps v qs
    → Gets g ps w qs
read_as {g = g} {ps = ps} {qs = qs} v w e h = subst (λ x. Gets g ps x qs) e h

-- one behind the others
pub behind_these : {A : Type 0} (x : A) (xs ys : List A) → (xs ++ x ∷ []) ++ ys ≡ xs ++ x ∷ ys
behind_these x xs ys = append_assoc xs (x ∷ []) ys

operand_begins : (s : Scalar) → operand_behind true kind.Word (print.scalar_word s) ≡ Some (behind.Operand s)
operand_begins I1 = refl
operand_begins I8 = refl
operand_begins I16 = refl
operand_begins I32 = refl
operand_begins I64 = refl
operand_begins Ptr = refl

argument_begins : (s : Scalar) → next_argument true kind.Word (print.scalar_word s) ≡ Some (Some s)
argument_begins I1 = refl
argument_begins I8 = refl
argument_begins I16 = refl
argument_begins I32 = refl
argument_begins I64 = refl
argument_begins Ptr = refl

module _ (known : Known) where
  -- , S V any number of times
  pub operands_read : (acc os : List Operand) (ps : List Piece) → All IsOperand os → EndsInstruction ps
      → Gets (operands_from false (acc, stage.Items)) (more_listed (map operand_pieces os) ++ ps)
      (acc ++ os, stage.Items) ps
  unfolding operands_from
  operands_read acc [] ps h ends = read_as (acc, stage.Items) (acc ++ [], stage.Items)
      (ap (λ xs. (xs, stage.Items)) (sym (append-nil acc))) (run_end known (ends.no_ending false))
  operands_read acc (o ∷ os) ps h ends =
      run_item known (λ at. ending.Comma) (λ at. refl)
      (λ at. gap (one (λ at. operand_begins o.ty) ⨾ gap
      (value_read known o.ty o.value _ (all_first IsOperand o os h) ⨾ done (acc ++ o ∷ [], stage.Items)
      (more_listed (map operand_pieces os) ++ ps))))
      (read_as ((acc ++ o ∷ []) ++ os, stage.Items) (acc ++ o ∷ os, stage.Items)
      (ap (λ xs. (xs, stage.Items)) (behind_these o acc os))
      (operands_read (acc ++ o ∷ []) os ps (all_rest IsOperand o os h) ends))

  -- one more operand at most
  pub operand_read : (o : Operand) (ps : List Piece) → IsOperand o → EndsInstruction ps
      → Gets (operands_from true ([], stage.Items))
      (print.punct "," ∷ print.space ∷ print.scalar o.ty ∷ print.space ∷ print.value o.ty o.value ∷ ps)
      (o ∷ [], stage.Items) ps
  unfolding operands_from
  operand_read o ps h ends =
      run_item known (λ at. ending.Comma) (λ at. refl)
      (λ at. gap (one (λ at. operand_begins o.ty) ⨾ gap
      (value_read known o.ty o.value _ h ⨾ done (o ∷ [], stage.Items) ps)))
      (run_end known (ends.no_ending false))

  -- [ V , L ] behind the [
  pub arm_read : (s : Scalar) (a : Arm) (ps : List Piece) → IsArm s a
      → Gets (arm s) (print.space ∷ print.value s a.value ∷ print.punct "," ∷ print.space ∷ print.local a.from ∷
      print.space ∷ print.punct "]" ∷ ps) a ps
  unfolding arm
  arm_read s a ps h = gap (value_read known s a.value _ h.0 ⨾
      (one {v = tt} (λ at. refl) ⨾ gap (local_read known a.from _ h.1 ⨾ gap (one {v = tt} (λ at. refl) ⨾ done a ps))))

  -- , [ V , L ] any number of times
  pub arms_read : (s : Scalar) (acc xs : List Arm) (ps : List Piece) → All (IsArm s) xs → EndsInstruction ps
      → Gets (arms_from s (acc, stage.Items)) (more_listed (map (arm_pieces s) xs) ++ ps) (acc ++ xs, stage.Items) ps
  unfolding arms_from
  arms_read s acc [] ps h ends = read_as (acc, stage.Items) (acc ++ [], stage.Items)
      (ap (λ xs. (xs, stage.Items)) (sym (append-nil acc))) (run_end known (ends.no_ending false))
  arms_read s acc (x ∷ xs) ps h ends =
      run_item known (λ at. ending.Comma) (λ at. refl)
      (λ at. gap (one {v = behind.Arm} (λ at. refl) ⨾
      (arm_read s x _ (all_first (IsArm s) x xs h) ⨾ done (acc ++ x ∷ [], stage.Items)
      (more_listed (map (arm_pieces s) xs) ++ ps))))
      (read_as ((acc ++ x ∷ []) ++ xs, stage.Items) (acc ++ x ∷ xs, stage.Items)
      (ap (λ xs. (xs, stage.Items)) (behind_these x acc xs))
      (arms_read s (acc ++ x ∷ []) xs ps (all_rest (IsArm s) x xs h) ends))

  -- V behind the S of an argument
  argument_read : (acc : List Operand) (o : Operand) (ps : List Piece) → IsOperand o
      → Gets (argument_value acc o.ty) (print.space ∷ print.value o.ty o.value ∷ ps) (acc ++ o ∷ []) ps
  unfolding argument_value
  argument_read acc o ps h = gap (no_ignored known _ (value_no_run o.ty o.value false ps) ⨾
      (value_read known o.ty o.value ps h ⨾ done (acc ++ o ∷ []) ps))

  -- , S V any number of times, behind an argument
  more_arguments_read : (first : Operand) (acc os : List Operand) (ps : List Piece) → All IsOperand os
      → Gets (arguments_from (first ∷ acc)) (more_listed (map operand_pieces os) ++ print.punct ")" ∷ ps)
      (first ∷ acc ++ os) (print.punct ")" ∷ ps)
  unfolding arguments_from
  more_arguments_read first acc [] ps h = read_as (first ∷ acc) (first ∷ acc ++ [])
      (ap (λ xs. first ∷ xs) (sym (append-nil acc))) (run_end known (λ at. refl))
  more_arguments_read first acc (o ∷ os) ps h =
      run_item known (λ at. None) (λ at. refl) (λ at. gap
      (scalar_read o.ty _ ⨾ argument_read (first ∷ acc) o _ (all_first IsOperand o os h)))
      (read_as (first ∷ (acc ++ o ∷ []) ++ os) (first ∷ acc ++ o ∷ os) (ap (λ xs. first ∷ xs) (behind_these o acc os))
      (more_arguments_read first (acc ++ o ∷ []) os ps (all_rest IsOperand o os h)))

  -- the arguments
  pub arguments_read : (os : List Operand) (ps : List Piece) → All IsOperand os
      → Gets (arguments_from []) (listed (map operand_pieces os) ++ print.punct ")" ∷ ps) os (print.punct ")" ∷ ps)
  unfolding arguments_from
  arguments_read [] ps h = run_end known (λ at. refl)
  arguments_read (o ∷ os) ps h =
      run_item known (λ at. Some o.ty) (λ at. argument_begins o.ty)
      (λ at. argument_read [] o _ (all_first IsOperand o os h))
      (more_arguments_read o [] os ps (all_rest IsOperand o os h))

number_read : (s : Scalar) (bytes : List ℕ) (n : ℕ) (ps : List Piece) → IsRead (width_of s) bytes n
    → Gets (case_number s) (Written kind.Number bytes ∷ ps) n ps
unfolding case_number
number_read s bytes n ps r =
    one_at (λ at. (r.number % 2 ^ width_of s, range_mark at (fits_type s bytes r.number)))
    (λ at. ap (option_map (λ n. (n % 2 ^ width_of s, range_mark at (fits_type s bytes n)))) r.is)
    (λ at. marked (or_true (is_address s) (fits_width (width_of s) (is_negative bytes) r.number) r.fits)
    (done_as (r.number % 2 ^ width_of s) n ps r.same))

case_number_read : (known : Known) (s : Scalar) (n : ℕ) (ps : List Piece) → n < 2 ^ width s
    → Gets (case_number s) (print.integer s n ∷ ps) n ps
case_number_read known I1 n ps lt = number_read I1 _ n ps (signed_is known I1 n lt)
case_number_read known I8 n ps lt = number_read I8 _ n ps (signed_is known I8 n lt)
case_number_read known I16 n ps lt = number_read I16 _ n ps (signed_is known I16 n lt)
case_number_read known I32 n ps lt = number_read I32 _ n ps (signed_is known I32 n lt)
case_number_read known I64 n ps lt = number_read I64 _ n ps (signed_is known I64 n lt)
case_number_read known Ptr n ps lt = number_read Ptr _ n ps (signed_is known Ptr n lt)

case_begins : (s : Scalar) → fact (is_word (scalar_word s) kind.Word (print.scalar_word s)) ≡ Some tt
case_begins I1 = refl
case_begins I8 = refl
case_begins I16 = refl
case_begins I32 = refl
case_begins I64 = refl
case_begins Ptr = refl

-- S N , label L any number of times
pub cases_read : (known : Known) (s : Scalar) (acc cs : List (ℕ × Name)) (ps : List Piece) → All (IsCase s) cs
    → Gets (Loop no_value (λ cs t. fact (is_word (scalar_word s) t.kind t.bytes)) (λ cs u. case_rest s cs) acc)
    (flat_map (case_pieces s) cs ++ print.space ∷ print.punct "]" ∷ ps) (acc ++ cs)
    (print.space ∷ print.punct "]" ∷ ps)
unfolding case_rest
cases_read known s acc [] ps h = read_as acc (acc ++ []) (sym (append-nil acc)) (run_end known (λ at. refl))
cases_read known s acc (c ∷ cs) ps h =
    gap (run_item known (λ at. tt) (λ at. case_begins s)
    (λ at. gap (case_number_read known s c.0 _ (all_first (IsCase s) c cs h).0 ⨾
    (one {v = tt} (λ at. refl) ⨾ gap (target_read known c.1 _ (all_first (IsCase s) c cs h).1 ⨾ done
    (acc ++ c ∷ []) _))))
    (read_as ((acc ++ c ∷ []) ++ cs) (acc ++ c ∷ cs) (behind_these c acc cs)
    (cases_read known s (acc ++ c ∷ []) cs ps (all_rest (IsCase s) c cs h))))
