-- Words, numbers and values are spelled as tokens.
use Rattle.std.proofs.Common.{◌≡◌, ℕ, ◌+◌, ◌-◌, ◌<◌, ◌≤◌, ◌^◌, Bool, true, false, not, eqb, ltb, cond, List, ◌∷◌, inl}
use Rattle.std.proofs.Common.{inr, refl, ap, arith, ltb-false}
use Rattle.std.specs.Prelude.{Option, Some, IsSome, is_some, decimal}
use Rattle.ds_lex.specs.declared.token.TokenKind.TheVariants as kind
use Rattle.ds_lex.specs.Bytes.{class_of}
use Rattle.ds_lex.specs.Number.{number_of}
use Rattle.ds_lex.specs.Lexed.{IsInteger}
use Rattle.ds_lex.specs.Written.{Written}
use Rattle.ds_ast.specs.declared.ty.Scalar.{Scalar}
use Rattle.ds_ast.specs.declared.ty.Scalar.TheVariants.{I1, I8, I16, I32, I64, Ptr}
use Rattle.ds_ast.specs.declared.value.Value.{Value}
use Rattle.ds_ast.specs.declared.value.Value.TheVariants.{Int, Null, Undef, Local, Global}
use Rattle.ds_ast.specs.declared.words.BinOp.{BinOp}
use Rattle.ds_ast.specs.declared.words.BinOp.TheVariants as bin
use Rattle.ds_ast.specs.declared.words.CastOp.{CastOp}
use Rattle.ds_ast.specs.declared.words.CastOp.TheVariants as cast
use Rattle.ds_ast.specs.declared.words.Cond.{Cond}
use Rattle.ds_ast.specs.declared.words.Cond.TheVariants as cond_code
use Rattle.ds_ast.specs.declared.words.RmwOp.{RmwOp}
use Rattle.ds_ast.specs.declared.words.RmwOp.TheVariants as rmw
use Rattle.ds_ast.specs.Bounds.{IsValue, width}
use Rattle.ds_print.specs.Names.{spelled, is_plain_label, number, signed, integer, scalar_word, scalar, truth}
use Rattle.ds_print.specs.Names.{integer_operand, value}
use Rattle.ds_print.specs.Canonical.{bin_op_word, cast_op_word, cond_word, rmw_op_word}
use Rattle.ds_print_laws.proofs.Behind.{IsPiece}
use Rattle.ds_print_laws.proofs.Spelled_names.{Numerals, digits_are, plain_is_word, local_is, global_is}

-- WORDS

-- letters alone are a word
pub word_is : (bytes : List ℕ) → is_plain_label bytes ≡ true → IsPiece (spelled bytes)
word_is bytes h = record { before = λ ps k. record { are = (plain_is_word bytes h, tt, k.ends, k.are) } }

scalar_plain : (s : Scalar) → is_plain_label (scalar_word s) ≡ true
unfolding class_of
scalar_plain I1 = refl
scalar_plain I8 = refl
scalar_plain I16 = refl
scalar_plain I32 = refl
scalar_plain I64 = refl
scalar_plain Ptr = refl

pub scalar_is : (s : Scalar) → IsPiece (scalar s)
scalar_is s = word_is (scalar_word s) (scalar_plain s)

bin_op_plain : (o : BinOp) → is_plain_label (bin_op_word o) ≡ true
unfolding class_of
bin_op_plain bin.Add = refl
bin_op_plain bin.Sub = refl
bin_op_plain bin.Mul = refl
bin_op_plain bin.And = refl
bin_op_plain bin.Or = refl
bin_op_plain bin.Xor = refl
bin_op_plain bin.Shl = refl
bin_op_plain bin.Lshr = refl
bin_op_plain bin.Ashr = refl
bin_op_plain bin.Udiv = refl
bin_op_plain bin.Sdiv = refl
bin_op_plain bin.Urem = refl
bin_op_plain bin.Srem = refl

pub bin_op_is : (o : BinOp) → IsPiece (spelled (bin_op_word o))
bin_op_is o = word_is (bin_op_word o) (bin_op_plain o)

cast_op_plain : (o : CastOp) → is_plain_label (cast_op_word o) ≡ true
unfolding class_of
cast_op_plain cast.Zext = refl
cast_op_plain cast.Sext = refl
cast_op_plain cast.Trunc = refl
cast_op_plain cast.PtrToInt = refl
cast_op_plain cast.IntToPtr = refl

pub cast_op_is : (o : CastOp) → IsPiece (spelled (cast_op_word o))
cast_op_is o = word_is (cast_op_word o) (cast_op_plain o)

cond_plain : (c : Cond) → is_plain_label (cond_word c) ≡ true
unfolding class_of
cond_plain cond_code.Eq = refl
cond_plain cond_code.Ne = refl
cond_plain cond_code.Ugt = refl
cond_plain cond_code.Uge = refl
cond_plain cond_code.Ult = refl
cond_plain cond_code.Ule = refl
cond_plain cond_code.Sgt = refl
cond_plain cond_code.Sge = refl
cond_plain cond_code.Slt = refl
cond_plain cond_code.Sle = refl

pub cond_is : (c : Cond) → IsPiece (spelled (cond_word c))
cond_is c = word_is (cond_word c) (cond_plain c)

rmw_op_plain : (o : RmwOp) → is_plain_label (rmw_op_word o) ≡ true
unfolding class_of
rmw_op_plain rmw.Xchg = refl
rmw_op_plain rmw.Add = refl
rmw_op_plain rmw.Sub = refl
rmw_op_plain rmw.And = refl
rmw_op_plain rmw.Or = refl
rmw_op_plain rmw.Xor = refl
rmw_op_plain rmw.Umax = refl
rmw_op_plain rmw.Umin = refl

pub rmw_op_is : (o : RmwOp) → IsPiece (spelled (rmw_op_word o))
rmw_op_is o = word_is (rmw_op_word o) (rmw_op_plain o)

truth_is : (b : Bool) → IsPiece (truth b)
unfolding class_of
truth_is true = word_is _ refl
truth_is false = word_is _ refl

-- NUMBERS

read_some : (found : Option ℕ) (n : ℕ) → found ≡ Some n → IsSome found
read_some found n e = ap is_some e

number_token : (bytes : List ℕ) (n : ℕ) → IsInteger bytes → number_of bytes ≡ Some n
    → IsPiece (Written kind.Number bytes)
number_token bytes n h e =
    record { before = λ ps k. record { are = (h, read_some (number_of bytes) n e, k.ends, k.are) } }

module _ (numerals : Numerals) where
  pub number_is : (n : ℕ) → n < 2 ^ 64 → IsPiece (number n)
  number_is n lt = number_token (decimal n) n (inl (digits_are numerals n lt)) (numerals.read n lt)

  negative_is : (n : ℕ) → 0 < n → n ≤ 2 ^ 63 → IsPiece (Written kind.Number (45 ∷ decimal n))
  unfolding class_of
  negative_is n p le = number_token (45 ∷ decimal n) (2 ^ 64 - n)
      (inr (refl, digits_are numerals n (omega (arith, le)))) (numerals.negative n p le)

  by_sign : (w n : ℕ) (small : Bool) → (small ≡ true → IsPiece (Written kind.Number (decimal n)))
      → (small ≡ false → IsPiece (Written kind.Number (45 ∷ decimal (2 ^ w - n))))
      → IsPiece (Written kind.Number (cond small (decimal n) (45 ∷ decimal (2 ^ w - n))))
  by_sign w n true h k = h refl
  by_sign w n false h k = k refl

  signed_is : (w n : ℕ) → 2 ^ w ≤ 2 ^ (w - 1) + 2 ^ (w - 1) → 2 ^ (w - 1) ≤ 2 ^ 63 → 2 ^ w ≤ 2 ^ 64 → n < 2 ^ w
      → IsPiece (Written kind.Number (signed w n))
  unfolding signed
  signed_is w n half small within lt =
      by_sign w n (ltb n (2 ^ (w - 1))) (λ h. number_is n (omega (arith, lt, within)))
      (λ h. let le = ltb-false n (2 ^ (w - 1)) h in
      negative_is (2 ^ w - n) (omega (arith, lt)) (omega (arith, half, small, lt, le)))

  pub integer_is : (s : Scalar) (n : ℕ) → n < 2 ^ width s → IsPiece (integer s n)
  integer_is I1 n lt = signed_is 1 n (omega arith) (omega arith) (omega arith) lt
  integer_is I8 n lt = signed_is 8 n (omega arith) (omega arith) (omega arith) lt
  integer_is I16 n lt = signed_is 16 n (omega arith) (omega arith) (omega arith) lt
  integer_is I32 n lt = signed_is 32 n (omega arith) (omega arith) (omega arith) lt
  integer_is I64 n lt = signed_is 64 n (omega arith) (omega arith) (omega arith) lt
  integer_is Ptr n lt = signed_is 64 n (omega arith) (omega arith) (omega arith) lt

  -- VALUES

  operand_is : (s : Scalar) (n : ℕ) → n < 2 ^ width s → IsPiece (integer_operand s n)
  operand_is I1 n lt = truth_is (not (eqb n 0))
  operand_is I8 n lt = integer_is I8 n lt
  operand_is I16 n lt = integer_is I16 n lt
  operand_is I32 n lt = integer_is I32 n lt
  operand_is I64 n lt = integer_is I64 n lt
  operand_is Ptr n lt = integer_is Ptr n lt

  pub value_is : (s : Scalar) (v : Value) → IsValue (width s) v → IsPiece (value s v)
  unfolding class_of
  value_is s (Int n) h = operand_is s n h
  value_is s Null h = word_is _ refl
  value_is s Undef h = word_is _ refl
  value_is s (Local name) h = local_is numerals name h
  value_is s (Global name) h = global_is numerals name h
