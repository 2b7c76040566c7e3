-- HELPERS of the code, which no public clause cites: groups of what begins an instruction, so that each function
-- that reads one matches on a few.
use Rattle.std.specs.Prelude.{Bool, true, false}
use Rattle.ds_grammar.specs.declared.item.Head.{Head}
use Rattle.ds_grammar.specs.declared.item.Head.TheVariants.{Alloca, Load, Store, Gep, Rmw, Cmpxchg, Fence, Ret, Br}
use Rattle.ds_grammar.specs.declared.item.Head.TheVariants.{Switch, Unreachable}

-- an instruction on memory
abbrev pub is_memory : Head → Bool
is_memory Alloca = true
is_memory Load = true
is_memory Store = true
is_memory Gep = true
is_memory Rmw = true
is_memory Cmpxchg = true
is_memory Fence = true
is_memory other = false

-- a terminator
abbrev pub is_end : Head → Bool
is_end Ret = true
is_end Br = true
is_end Switch = true
is_end Unreachable = true
is_end other = false
