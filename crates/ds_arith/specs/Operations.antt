-- What an operation on two integers of w bits gives, in whole numbers. Each line is named by its section of the LLVM
-- Language Reference.
use Rattle.std.specs.Prelude.{ℕ, ◌-◌, ◌*◌, ◌/◌, ◌%◌, ◌^◌, min, ℤ, pos, negsuc, ◌+ℤ◌, ◌-ℤ◌, ◌*ℤ◌, neg_ℤ}
use Rattle.std.specs.Prelude.{Bool, ◌≡◌, ◌⊎◌, ◌&&◌, ◌==◌, if◌then◌else◌, bit_and, bit_or, bit_xor, int_div, int_rem}
use Rattle.std.specs.Prelude.{Option, Some, None, Result, Ok, Err}
use Rattle.std.specs.Int.{int_div_euclid}
use Rattle.std.specs.Ordering.{int_eq}
use Rattle.ds_ast.specs.declared.words.BinOp.{BinOp}
use Rattle.ds_ast.specs.declared.words.BinOp.TheVariants.{Add, Sub, Mul, And, Or, Xor, Shl, Lshr, Ashr}
use Rattle.ds_ast.specs.declared.words.BinOp.TheVariants.{Udiv, Sdiv, Urem, Srem}
use Rattle.ds_arith.specs.declared.fault.ArithFault.{ArithFault}
use Rattle.ds_arith.specs.declared.fault.ArithFault.TheVariants.{DivZero, DivOverflow}
use Rattle.ds_arith.specs.Numbers.{signed, stored}

-- the whole number that an operation without a fault computes, before it is kept in w bits. A shift by more than the
-- width is one by the width: nothing is left of the number but copies of its sign
abbrev pub number : BinOp → ℕ → ℕ → ℕ → ℤ
-- 'add' Instruction: the sum
number Add w a b = pos a +ℤ pos b
-- 'sub' Instruction: the difference
number Sub w a b = pos a -ℤ pos b
-- 'mul' Instruction: the product
number Mul w a b = pos a *ℤ pos b
-- 'and' Instruction: the bits that both have
number And w a b = pos (bit_and a b)
-- 'or' Instruction: the bits that one of them has
number Or w a b = pos (bit_or a b)
-- 'xor' Instruction: the bits that exactly one of them has
number Xor w a b = pos (bit_xor a b)
-- 'shl' Instruction: the product with a power of two
number Shl w a b = pos (a * 2 ^ min b w)
-- 'lshr' Instruction: the quotient by a power of two, of the unsigned number
number Lshr w a b = pos (a / 2 ^ min b w)
-- 'ashr' Instruction: the quotient by a power of two, of the signed number, rounded down
number Ashr w a b = int_div_euclid (signed w a) (pos (2 ^ min b w))
-- 'udiv' Instruction: the quotient of the unsigned numbers, rounded down
number Udiv w a b = pos (a / b)
-- 'sdiv' Instruction: the quotient of the signed numbers, rounded towards zero
number Sdiv w a b = int_div (signed w a) (signed w b)
-- 'urem' Instruction: the remainder of the unsigned numbers
number Urem w a b = pos (a % b)
-- 'srem' Instruction: the remainder of the signed numbers, with the sign of the first
number Srem w a b = int_rem (signed w a) (signed w b)

-- the fault of an unsigned division: it divides by 0
abbrev pub unsigned_fault : ℕ → Option ArithFault
unsigned_fault b = if b == 0 then Some DivZero else None

-- whether a signed quotient is out of range: the least number -2 ^ (w - 1) is divided by -1
abbrev pub overflows : ℕ → ℕ → ℕ → Bool
overflows w a b = int_eq (signed w a) (neg_ℤ (pos (2 ^ (w - 1)))) && int_eq (signed w b) (negsuc 0)

-- the fault of a signed division: it divides by 0, or its quotient is out of range
abbrev pub signed_fault : ℕ → ℕ → ℕ → Option ArithFault
signed_fault w a b = if b == 0 then Some DivZero else (if overflows w a b then Some DivOverflow else None)

-- the fault of an operation, where it has one: only the four divisions have any
abbrev pub fault : BinOp → ℕ → ℕ → ℕ → Option ArithFault
fault Add w a b = None
fault Sub w a b = None
fault Mul w a b = None
fault And w a b = None
fault Or w a b = None
fault Xor w a b = None
fault Shl w a b = None
fault Lshr w a b = None
fault Ashr w a b = None
fault Udiv w a b = unsigned_fault b
fault Sdiv w a b = signed_fault w a b
fault Urem w a b = unsigned_fault b
fault Srem w a b = signed_fault w a b

-- a fault where there is one, and else the bits
abbrev pub fault_or : Option ArithFault → ℕ → Result ℕ ArithFault
fault_or (Some f) n = Err f
fault_or None n = Ok n

-- the operation divides signed numbers
abbrev pub IsSignedDivision : BinOp → Type 0
IsSignedDivision op = (op ≡ Sdiv) ⊎ (op ≡ Srem)

-- the operation divides
abbrev pub IsDivision : BinOp → Type 0
IsDivision op = (op ≡ Udiv) ⊎ (op ≡ Urem) ⊎ IsSignedDivision op

-- what an operation gives: its fault, or the bits of the number that it computes
abbrev pub outcome : BinOp → ℕ → ℕ → ℕ → Result ℕ ArithFault
outcome op w a b = fault_or (fault op w a b) (stored w (number op w a b))
