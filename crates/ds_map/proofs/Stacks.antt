-- The stacks of the 16 threads lie side by side.
use Rattle.std.proofs.Common.{ℕ, ◌-◌, ◌/◌, ◌<◌, ◌≤◌, inl, inr, arith}
use Rattle.ds_map.specs.Bounds.{Bounds}
use Rattle.ds_map.specs.Regions.{IsMapped}

-- an address among the stacks lies in the stack of a thread
pub IsMapped-stacks : (lim : Bounds) (address : ℕ) → 0x100000 ≤ address → address < 0x180000 → IsMapped lim address
IsMapped-stacks lim address low high =
    inr (inl ((address - 0x100000) / 0x8000, omega arith, (omega arith, omega arith)))

-- a mapped address between the globals and the heap lies among the stacks
pub lt-end-of-IsMapped : (lim : Bounds) (address : ℕ) → IsMapped lim address → 0x100000 ≤ address → address < 0x1000000
    → address < 0x180000
lt-end-of-IsMapped lim address (inl p) low high = omega arith
lt-end-of-IsMapped lim address (inr (inl p)) low high = let a = p.1 in let b = p.2.1 in omega arith
lt-end-of-IsMapped lim address (inr (inr p)) low high = omega arith
