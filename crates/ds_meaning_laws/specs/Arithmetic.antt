-- Operations on integers, comparisons, choices and conversions.
use Rattle.std.specs.Prelude.{◌≡◌}
use Rattle.ds_ast.specs.declared.ty.Scalar.TheVariants.{I1, I8, I16, I32, I64, Ptr}
use Rattle.ds_ast.specs.declared.value.Value.TheVariants.{Int, Null, Undef}
use Rattle.ds_ast.specs.declared.words.BinOp.TheVariants.{Add, Sub, Mul, And, Or, Xor, Shl, Lshr, Ashr}
use Rattle.ds_ast.specs.declared.words.BinOp.TheVariants.{Udiv, Sdiv, Urem, Srem}
use Rattle.ds_ast.specs.declared.words.Cond.TheVariants.{Eq, Ne, Ugt, Uge, Ult, Ule, Sgt, Sge, Slt, Sle}
use Rattle.ds_ast.specs.declared.words.CastOp.TheVariants.{Zext, Sext, Trunc, PtrToInt, IntToPtr}
use Rattle.ds_ast.specs.declared.instr.Op.TheVariants.{Bin, Icmp, Select, Cast}
use Rattle.ds_plain.specs.declared.TrapKind.TheVariants.{DivZero, DivOverflow}
use Rattle.ds_plain.specs.Behaviour.{Stuck}
use Rattle.ds_meaning_laws.specs.Example.{tried, gives, trapped, local, global}
use Rattle.std.specs.Prelude.{codes}

-- SUMS, DIFFERENCES AND PRODUCTS wrap at the width

-- 200 + 100 is 300, which is 256 and 44
abbrev pub SumsWrap : Type 0
SumsWrap =
    (tried (Bin Add I8 (Int 200) (Int 100)) ≡ gives 44)
    × (tried (Bin Add I64 (Int 0xffffffffffffffff) (Int 3)) ≡ gives 2)

-- 1 - 2 is -1
abbrev pub DifferencesWrap : Type 0
DifferencesWrap =
    (tried (Bin Sub I8 (Int 1) (Int 2)) ≡ gives 255) × (tried (Bin Sub I16 (Int 7) (Int 7)) ≡ gives 0)

-- 300 * 300 is 90,000, which is 65,536 and 24,464; and -1 * -1 is 1
abbrev pub ProductsWrap : Type 0
ProductsWrap =
    (tried (Bin Mul I16 (Int 300) (Int 300)) ≡ gives 24464) × (tried (Bin Mul I8 (Int 255) (Int 255)) ≡ gives 1)

-- DIVISIONS

-- -7 / 2 is -3, and 7 / -2 is -3
abbrev pub SdivRoundsTowardsZero : Type 0
SdivRoundsTowardsZero =
    (tried (Bin Sdiv I8 (Int 249) (Int 2)) ≡ gives 253) × (tried (Bin Sdiv I8 (Int 7) (Int 254)) ≡ gives 253)

-- what is left of -7 is -1, and of 7 is 1
abbrev pub SremHasTheSignOfTheFirst : Type 0
SremHasTheSignOfTheFirst =
    (tried (Bin Srem I8 (Int 249) (Int 2)) ≡ gives 255) × (tried (Bin Srem I8 (Int 7) (Int 254)) ≡ gives 1)

-- as numbers without a sign they are 249 and 2
abbrev pub UdivAndUremAreUnsigned : Type 0
UdivAndUremAreUnsigned =
    (tried (Bin Udiv I8 (Int 249) (Int 2)) ≡ gives 124) × (tried (Bin Urem I8 (Int 249) (Int 2)) ≡ gives 1)

abbrev pub DivisionsByZeroTrap : Type 0
DivisionsByZeroTrap =
    (tried (Bin Udiv I8 (Int 7) (Int 0)) ≡ trapped DivZero)
    × (tried (Bin Sdiv I32 (Int 7) (Int 0)) ≡ trapped DivZero)
    × (tried (Bin Urem I64 (Int 0) (Int 0)) ≡ trapped DivZero)
    × (tried (Bin Srem I16 (Int 7) (Int 0)) ≡ trapped DivZero)

-- the least number by -1: -128 of 8 bits is 128; of 16 bits it is no such number
abbrev pub DivisionsOverflow : Type 0
DivisionsOverflow =
    (tried (Bin Sdiv I8 (Int 128) (Int 255)) ≡ trapped DivOverflow)
    × (tried (Bin Srem I8 (Int 128) (Int 255)) ≡ trapped DivOverflow)
    × (tried (Bin Sdiv I16 (Int 128) (Int 0xffff)) ≡ gives 0xff80)

-- SHIFTS AND BITS

-- by the width or more nothing is left but the sign
abbrev pub ShiftsByTheWidth : Type 0
ShiftsByTheWidth =
    (tried (Bin Shl I8 (Int 255) (Int 8)) ≡ gives 0)
    × (tried (Bin Lshr I8 (Int 255) (Int 9)) ≡ gives 0)
    × (tried (Bin Ashr I8 (Int 128) (Int 8)) ≡ gives 255)
    × (tried (Bin Ashr I8 (Int 64) (Int 200)) ≡ gives 0)

-- 10000001 to the left, and to the right twice
abbrev pub ShiftsByOne : Type 0
ShiftsByOne =
    (tried (Bin Shl I8 (Int 129) (Int 1)) ≡ gives 2)
    × (tried (Bin Lshr I8 (Int 129) (Int 1)) ≡ gives 64)
    × (tried (Bin Ashr I8 (Int 129) (Int 1)) ≡ gives 192)

-- 1100 and 1010
abbrev pub BitsByBits : Type 0
BitsByBits =
    (tried (Bin And I8 (Int 12) (Int 10)) ≡ gives 8)
    × (tried (Bin Or I8 (Int 12) (Int 10)) ≡ gives 14)
    × (tried (Bin Xor I1 (Int 1) (Int 1)) ≡ gives 0)

-- COMPARISONS

-- 128 of 8 bits is -128
abbrev pub ComparesWithAndWithoutSign : Type 0
ComparesWithAndWithoutSign =
    (tried (Icmp Ult I8 (Int 128) (Int 1)) ≡ gives 0)
    × (tried (Icmp Slt I8 (Int 128) (Int 1)) ≡ gives 1)
    × (tried (Icmp Ugt I8 (Int 128) (Int 1)) ≡ gives 1)
    × (tried (Icmp Sgt I8 (Int 128) (Int 1)) ≡ gives 0)

abbrev pub ComparesEqualNumbers : Type 0
ComparesEqualNumbers =
    (tried (Icmp Eq I32 (Int 5) (Int 5)) ≡ gives 1)
    × (tried (Icmp Ne I32 (Int 5) (Int 5)) ≡ gives 0)
    × (tried (Icmp Ule I32 (Int 5) (Int 5)) ≡ gives 1)
    × (tried (Icmp Uge I32 (Int 5) (Int 5)) ≡ gives 1)
    × (tried (Icmp Sle I32 (Int 5) (Int 5)) ≡ gives 1)
    × (tried (Icmp Sge I32 (Int 5) (Int 5)) ≡ gives 1)

-- a marked pointer is the greater number, and a negative one
abbrev pub ComparesPointers : Type 0
ComparesPointers =
    (tried (Icmp Ugt Ptr (local 2) (local 1)) ≡ gives 1)
    × (tried (Icmp Slt Ptr (local 2) Null) ≡ gives 1)
    × (tried (Icmp Eq Ptr Null Undef) ≡ gives 1)

-- SELECT

abbrev pub Selects : Type 0
Selects =
    (tried (Select (Int 1) I8 (Int 6) (Int 7)) ≡ gives 6) × (tried (Select (Int 0) I8 (Int 6) (Int 7)) ≡ gives 7)

-- CONVERSIONS

abbrev pub ExtendsByZeros : Type 0
ExtendsByZeros =
    (tried (Cast Zext I8 (Int 128) I32) ≡ gives 128) × (tried (Cast Zext I1 (Int 1) I64) ≡ gives 1)

-- -128 is 2^32 - 128
abbrev pub ExtendsByTheSign : Type 0
ExtendsByTheSign =
    (tried (Cast Sext I8 (Int 128) I32) ≡ gives 0xffffff80)
    × (tried (Cast Sext I8 (Int 127) I32) ≡ gives 127)
    × (tried (Cast Sext I1 (Int 1) I8) ≡ gives 255)

abbrev pub Truncates : Type 0
Truncates =
    (tried (Cast Trunc I32 (Int 0x12345) I8) ≡ gives 0x45) × (tried (Cast Trunc I8 (Int 254) I1) ≡ gives 0)

-- addresses are cut, and extended by zeros
abbrev pub ConvertsPointers : Type 0
ConvertsPointers =
    (tried (Cast PtrToInt Ptr (local 2) I64) ≡ gives 0x8000000001000010)
    × (tried (Cast PtrToInt Ptr (local 2) I32) ≡ gives 0x1000010)
    × (tried (Cast IntToPtr I8 (Int 255) Ptr) ≡ gives 255)

-- OPERANDS

-- the latest value of a name, of which 8 bits are taken; and 256 of 8 bits is 0
abbrev pub OperandsAreCut : Type 0
OperandsAreCut =
    (tried (Bin Add I64 (local 3) (Int 0)) ≡ gives 250)
    × (tried (Bin Add I8 (local 1) (Int 1)) ≡ gives 0x11)
    × (tried (Bin Or I8 (Int 256) Undef) ≡ gives 0)

-- @h is the second global, which stands 8 bytes behind the first
abbrev pub GlobalsAreAddresses : Type 0
GlobalsAreAddresses =
    (tried (Cast PtrToInt Ptr (global (codes "g")) I64) ≡ gives 0x1000)
    × (tried (Cast PtrToInt Ptr (global (codes "h")) I64) ≡ gives 0x1008)

abbrev pub UnknownNamesHaveNoMeaning : Type 0
UnknownNamesHaveNoMeaning =
    (tried (Bin Add I8 (local 8) (Int 1)) ≡ Stuck) × (tried (Select (Int 0) I8 (local 8) (Int 1)) ≡ Stuck)
