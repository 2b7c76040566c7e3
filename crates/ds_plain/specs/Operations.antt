-- Operations on words of the table. An operand that an operation does not use is 0.
use Rattle.std.specs.Prelude.{ℕ}
use Rattle.ds_step.specs.declared.OpKind.TheVariants.{Load, Store, Cas}
use Rattle.ds_step.specs.declared.WordOp.{WordOp}

-- a load of a word of the table
abbrev pub load_of : ℕ → WordOp
load_of word = record { kind = Load; word = word; a = 0; b = 0 }

-- a store of a value to a word of the table
abbrev pub store_of : (word value : ℕ) → WordOp
store_of word value = record { kind = Store; word = word; a = value; b = 0 }

-- a compare-and-swap of a word of the table
abbrev pub swap_of : (word expected new : ℕ) → WordOp
swap_of word expected new = record { kind = Cas; word = word; a = expected; b = new }
