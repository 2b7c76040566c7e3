-- Where program memory lies: addresses are in bytes, a word has 8 bytes, and a location is the number of a program
-- word.
use Rattle.std.specs.Prelude.{◌≡◌, ℕ, ◌+◌, ◌-◌, ◌*◌, ◌/◌, ◌%◌, ◌<◌, ◌≤◌, ◌⊎◌, Bool, ◌&&◌, nat_le, nat_lt}
use Rattle.std.specs.Prelude.{if◌then◌else◌, Option, Some, None}
use Rattle.ds_map.specs.Bounds.{Bounds}

-- a stretch of memory: its first address, its number of words, and the location of its first word
pub record Region : Type 0 where
  pub start : ℕ
  pub count : ℕ
  pub location : ℕ

-- the globals' words
abbrev pub globals : Region
globals = record { start = 0x1000; count = 4096; location = 0 }

-- the words of the stack of thread t
abbrev pub stack : ℕ → Region
stack t = record { start = 0x100000 + t * 0x8000; count = 4096; location = 4096 + 4096 * t }

-- the stacks of the 16 threads, which lie side by side
abbrev pub stacks : Region
stacks = record { start = 0x100000; count = 65536; location = 4096 }

-- the words of the heap
abbrev pub heap : Bounds → Region
heap lim = record { start = 0x1000000; count = 512 * lim.pages; location = 69632 }

-- the byte at this address lies in the region
abbrev pub LiesIn : Region → ℕ → Type 0
LiesIn region address = (region.start ≤ address) × (address < region.start + 8 * region.count)

-- the byte at this address lies in the globals, in the stack of one of the 16 threads, or in the heap
abbrev pub IsMapped : Bounds → ℕ → Type 0
IsMapped lim address =
    LiesIn globals address ⊎ ((t : ℕ) × (t < 16) × LiesIn (stack t) address) ⊎ LiesIn (heap lim) address

-- an access of this many bytes is good: it lies in a region, and its address is a multiple of its width
abbrev pub IsGood : Bounds → ℕ → ℕ → Type 0
IsGood lim address width = IsMapped lim address × (address % width ≡ 0)

-- how many program words there are: the locations are the numbers below it
abbrev pub program_words : Bounds → ℕ
program_words lim = 69632 + 512 * lim.pages

-- the location of the word that holds a byte of the region
abbrev pub location_in : Region → ℕ → ℕ
location_in region address = region.location + (address - region.start) / 8

-- whether the byte at this address lies in the region
abbrev pub lies_in : Region → ℕ → Bool
lies_in region address = nat_le region.start address && nat_lt address (region.start + 8 * region.count)

-- the location of the word that holds the byte at this address; none where the address lies in no region
abbrev pub location_of : Bounds → ℕ → Option ℕ
location_of lim address =
    if lies_in globals address then Some (location_in globals address) else
    (if lies_in stacks address then Some (location_in stacks address) else
    (if lies_in (heap lim) address then Some (location_in (heap lim) address) else None))

-- the address of a location's first byte
abbrev pub address_of : ℕ → ℕ
address_of loc =
    if nat_lt loc 4096 then 0x1000 + 8 * loc else
    (if nat_lt loc 69632 then 0x100000 + 8 * (loc - 4096) else 0x1000000 + 8 * (loc - 69632))
