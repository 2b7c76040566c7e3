-- Parts of words: bytes in a word are little-endian, so a narrow value is some bits of its word.
use Rattle.std.specs.Prelude.{ℕ, ◌+◌, ◌-◌, ◌*◌, ◌/◌, ◌%◌, ◌^◌, Bool, ◌==◌, ◌&&◌, if◌then◌else◌, max, min, bit_and, bit_or, bit_xor}
use Rattle.ds_ast.specs.declared.words.RmwOp.{RmwOp}
use Rattle.ds_ast.specs.declared.words.RmwOp.TheVariants.{Xchg, Add, Sub, And, Or, Xor, Umax, Umin}
use Rattle.ds_plain.specs.declared.Access.{Access}

-- the access is of a whole word
abbrev pub is_whole : Access → Bool
is_whole access = (access.shift == 0) && (access.bits == 64)

-- so many bits of a word, from this one on
abbrev pub bits_from : (shift bits word : ℕ) → ℕ
bits_from shift bits word = word / 2 ^ shift % 2 ^ bits

-- the bits of a word that an access reads: of a whole one the word
abbrev pub part : Access → ℕ → ℕ
part access word = if is_whole access then word else bits_from access.shift access.bits word

-- the word with a value in place of these bits
abbrev pub with_bits : (shift bits value word : ℕ) → ℕ
with_bits shift bits value word = word - bits_from shift bits word * 2 ^ shift + value % 2 ^ bits * 2 ^ shift

-- the word with a value in place of the part that an access writes
abbrev pub with_part : Access → (value word : ℕ) → ℕ
with_part access value word = if is_whole access then value else with_bits access.shift access.bits value word

-- what an operation with a value of so many bits writes where another stands ('atomicrmw' Instruction of the LLVM
-- Language Reference)
abbrev pub combined : RmwOp → (bits old value : ℕ) → ℕ
combined Xchg bits old value = value
combined Add bits old value = (old + value) % 2 ^ bits
combined Sub bits old value = (old + (2 ^ bits - value)) % 2 ^ bits
combined And bits old value = bit_and old value
combined Or bits old value = bit_or old value
combined Xor bits old value = bit_xor old value
combined Umax bits old value = max old value
combined Umin bits old value = min old value
