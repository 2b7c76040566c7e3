-- What one operation does to one word.
use prog.Atomic.{either}
use Rattle.std.specs.Prelude.{ℕ, ◌+◌, ◌-◌, ◌%◌, ◌^◌, ◌==◌, max, min, bit_and, bit_or, bit_xor, List}
use Rattle.std.specs.Prelude.{slice_index, slice_set}
use Rattle.ds_step.specs.declared.OpKind.{OpKind}
use Rattle.ds_step.specs.declared.OpKind.TheVariants.{Load, Store, Swap, Add, Sub, And, Or, Xor, Max, Min, Cas}
use Rattle.ds_step.specs.declared.WordOp.{WordOp}

-- what a word that held n holds after an operation of this kind with the operands a and b
abbrev pub written_by : OpKind → ℕ → ℕ → ℕ → ℕ
written_by Load a b n = n
written_by Store a b n = a
written_by Swap a b n = a
written_by Add a b n = (n + a) % 2 ^ 64
written_by Sub a b n = (n + (2 ^ 64 - a)) % 2 ^ 64
written_by And a b n = bit_and n a
written_by Or a b n = bit_or n a
written_by Xor a b n = bit_xor n a
written_by Max a b n = max n a
written_by Min a b n = min n a
written_by Cas a b n = either (n == a) b n

-- what an operation of this kind answers where the word held n: the old value, and 0 for a store
abbrev pub answered_by : OpKind → ℕ → ℕ
answered_by Load n = n
answered_by Store n = 0
answered_by Swap n = n
answered_by Add n = n
answered_by Sub n = n
answered_by And n = n
answered_by Or n = n
answered_by Xor n = n
answered_by Max n = n
answered_by Min n = n
answered_by Cas n = n

-- the table's words after the operation
abbrev pub words_after : List ℕ → WordOp → List ℕ
words_after words op = slice_set words op.word (written_by op.kind op.a op.b (slice_index words op.word))

-- what the operation answers on these words
abbrev pub answer_on : List ℕ → WordOp → ℕ
answer_on words op = answered_by op.kind (slice_index words op.word)
