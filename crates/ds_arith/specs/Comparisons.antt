-- What a comparison of two integers of w bits answers: 'icmp' Instruction of the LLVM Language Reference.
use Rattle.std.specs.Prelude.{ℕ, Bool, not, ◌==◌, nat_lt, nat_le, int_lt, int_le}
use Rattle.ds_ast.specs.declared.words.Cond.{Cond}
use Rattle.ds_ast.specs.declared.words.Cond.TheVariants.{Eq, Ne, Ugt, Uge, Ult, Ule, Sgt, Sge, Slt, Sle}
use Rattle.ds_arith.specs.Numbers.{signed}

-- whether the numbers compare as is asked: unsigned as they are kept, or signed
abbrev pub holds : Cond → ℕ → ℕ → ℕ → Bool
holds Eq w a b = a == b
holds Ne w a b = not (a == b)
holds Ugt w a b = nat_lt b a
holds Uge w a b = nat_le b a
holds Ult w a b = nat_lt a b
holds Ule w a b = nat_le a b
holds Sgt w a b = int_lt (signed w b) (signed w a)
holds Sge w a b = int_le (signed w b) (signed w a)
holds Slt w a b = int_lt (signed w a) (signed w b)
holds Sle w a b = int_le (signed w a) (signed w b)
