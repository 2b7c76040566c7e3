use Rattle.std.proofs.Common.{◌≡◌, ◌+◌, ℕ, take}
use Rattle.ds_shape.specs.Accepted.{HasWords}
use Rattle.ds_check.proofs.words.has_few_words.Given as goal

abbrev pub invariant-loop-g : goal.invariant-loop-g
invariant-loop-g l = (taken : ℕ) × HasWords l.fn.module.structs (take l.g-index l.fn.module.globals) taken
    × (l.rest + taken ≡ l.fn.limit)
