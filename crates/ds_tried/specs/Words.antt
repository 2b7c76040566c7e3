-- How program words are read, written, and changed in one step.
use Rattle.std.specs.Prelude.{◌≡◌, ℕ, List, [], ◌∷◌, ◌++◌, map, slice_index}
use Rattle.ds_ast.specs.declared.words.RmwOp.{RmwOp}
use Rattle.ds_ast.specs.declared.words.RmwOp.TheVariants.{Xchg, Add, Sub, And, Or, Xor, Umax, Umin}
use Rattle.ds_step.specs.declared.Event.TheVariants.{Begin, End, Print, Load, Store, Exchange, Seen}
use Rattle.ds_plain.specs.declared.Access.{Access}
use Rattle.ds_plain.specs.declared.Request.TheVariants as requests
use Rattle.ds_plain.specs.State.{Setting}
use Rattle.ds_tried.specs.Programs.{echo, whole, Events, by, behind, Trial, trial}

-- so many bits of location 0, from this bit on; the location holds the bytes 1 to 8, the first one lowest
abbrev pub bits_of : (bits shift : ℕ) → Access
bits_of bits shift = record { loc = 0; shift = shift; bits = bits }

-- main begins
abbrev pub begun : Events
begun = by 0 (Begin ∷ [])

-- LOADS

-- a load tells what the word holds: location 1 holds 5, and a word of no global holds 0
abbrev pub loads_are_of_the_word : List Trial
loads_are_of_the_word =
    trial (echo (requests.Load (whole 1) ∷ [])) begun (by 0 (Load 1 5 ∷ []))
    (by 0 (Load 1 6 ∷ Load 0 5 ∷ Load 1 0 ∷ Store 1 5 ∷ Exchange 1 5 ∷ Seen 1 ∷ End ∷ []))
    ∷ trial (echo (requests.Load (whole 1) ∷ [])) (by 0 (Begin ∷ Load 1 5 ∷ [])) (by 0 (Print 0 5 ∷ []))
    (by 0 (Load 1 5 ∷ Print 0 0 ∷ []))
    ∷ trial (echo (requests.Load (whole 69632) ∷ [])) begun (by 0 (Load 69632 0 ∷ [])) (by 0 (Load 69632 5 ∷ []))
    ∷ []

-- a load of some bytes tells the whole word
abbrev pub narrow_loads_tell_the_word : List Trial
narrow_loads_tell_the_word =
    trial (echo (requests.Load (bits_of 8 8) ∷ [])) begun (by 0 (Load 0 0x0807060504030201 ∷ [])) (by 0 (Load 0 2 ∷ []))
    ∷ trial (echo (requests.Load (bits_of 8 8) ∷ [])) (by 0 (Begin ∷ Load 0 0x0807060504030201 ∷ []))
    (by 0 (Print 0 0x0807060504030201 ∷ [])) (by 0 (Print 0 2 ∷ []))
    ∷ []

-- STORES

-- main stores 9 at location 1
abbrev pub storing : Setting
storing = echo (requests.Store (whole 1) 9 ∷ [])

-- a store of a whole word writes the value, at the location, and is told 0
abbrev pub whole_stores_write : List Trial
whole_stores_write =
    trial storing begun (by 0 (Store 1 9 ∷ []))
    (by 0 (Store 1 5 ∷ Store 0 9 ∷ Exchange 1 9 ∷ Load 1 5 ∷ End ∷ []))
    ∷ trial storing (by 0 (Begin ∷ Store 1 9 ∷ [])) (by 0 (Print 0 0 ∷ [])) (by 0 (Print 0 9 ∷ Store 1 9 ∷ []))
    ∷ []

-- it changes that word alone
abbrev pub IsStored : Type 0
IsStored =
    (slice_index (behind storing (by 0 (Begin ∷ Store 1 9 ∷ []))).words 1 ≡ 9)
    × (slice_index (behind storing (by 0 (Begin ∷ Store 1 9 ∷ []))).words 0 ≡ 0x0807060504030201)
    × (slice_index (behind storing (by 0 (Begin ∷ Store 1 9 ∷ []))).words 2 ≡ 0)

-- main stores 0xabcd to the third and fourth byte of location 0
abbrev pub storing_bytes : Setting
storing_bytes = echo (requests.Store (bits_of 16 16) 0xabcd ∷ [])

-- a store of some bytes exchanges the word for one with those bytes, leaves the others, and is told 0
abbrev pub narrow_stores_exchange : List Trial
narrow_stores_exchange =
    trial storing_bytes begun (by 0 (Exchange 0 0x08070605abcd0201 ∷ []))
    (by 0 (Exchange 0 0xabcd ∷ Exchange 0 0x08070605cdab0201 ∷ Exchange 0 0x080706050403abcd ∷ [])
    ++ by 0 (Store 0 0x08070605abcd0201 ∷ Store 0 0xabcd ∷ Load 0 0x0807060504030201 ∷ []))
    ∷ trial storing_bytes (by 0 (Begin ∷ Exchange 0 0x08070605abcd0201 ∷ [])) (by 0 (Print 0 0 ∷ []))
    (by 0 (Print 0 0x0807060504030201 ∷ []))
    ∷ []

-- OPERATIONS IN ONE STEP

-- main changes these bits by an operation with a value
abbrev pub changing : Access → RmwOp → (value : ℕ) → Setting
changing access op value = echo (requests.Rmw access op value ∷ [])

-- the operation changes the word to this one, and to nothing that a mistake would give
abbrev pub changes : Access → RmwOp → (value : ℕ) → (new : ℕ) → (mistakes : List ℕ) → Trial
changes access op value new mistakes =
    trial (changing access op value) begun (by 0 (Exchange access.loc new ∷ []))
    (by 0 (map (λ (wrong : ℕ). Exchange access.loc wrong) mistakes)
    ++ by 0 (Store access.loc new ∷ Load access.loc new ∷ Load 1 5 ∷ Load 0 0x0807060504030201 ∷ []))

-- each operation on the whole word 5
abbrev pub whole_operations : List Trial
whole_operations =
    changes (whole 1) Xchg 7 7 (5 ∷ 12 ∷ []) ∷ changes (whole 1) Add 7 12 (7 ∷ 5 ∷ [])
    ∷ changes (whole 1) Sub 7 0xfffffffffffffffe (0 ∷ 2 ∷ []) ∷ changes (whole 1) And 6 4 (6 ∷ 5 ∷ [])
    ∷ changes (whole 1) Or 6 7 (6 ∷ 5 ∷ []) ∷ changes (whole 1) Xor 6 3 (6 ∷ 5 ∷ [])
    ∷ changes (whole 1) Umax 4 5 (4 ∷ []) ∷ changes (whole 1) Umax 6 6 (5 ∷ [])
    ∷ changes (whole 1) Umin 4 4 (5 ∷ []) ∷ changes (whole 1) Umin 6 5 (6 ∷ [])
    ∷ changes (whole 1) Add 0xffffffffffffffff 4 (0x10000000000000004 ∷ [])
    ∷ []

-- an operation on some bytes wraps at their width and leaves the other bytes
abbrev pub narrow_operations : List Trial
narrow_operations =
    changes (bits_of 8 0) Add 255 0x0807060504030200 (0x0807060504030300 ∷ 0 ∷ [])
    ∷ changes (bits_of 8 8) Sub 3 0x080706050403ff01 (0x080706050402ff01 ∷ 0xff ∷ [])
    ∷ changes (bits_of 16 48) Xchg 0xffff 0xffff060504030201 (0xffff ∷ 0x080706050403ffff ∷ [])
    ∷ changes (bits_of 32 32) Xor 0xffffffff 0xf7f8f9fa04030201 (0xf7f8f9fafbfcfdfe ∷ [])
    ∷ changes (bits_of 8 56) Umax 9 0x0907060504030201 (0x0807060504030201 ∷ 0x0807060504030209 ∷ [])
    ∷ []

-- an operation is told the whole word as it was
abbrev pub operations_tell_the_word_before : List Trial
operations_tell_the_word_before =
    trial (changing (whole 1) Add 7) (by 0 (Begin ∷ Exchange 1 12 ∷ [])) (by 0 (Print 0 5 ∷ [])) (by 0 (Print 0 12 ∷ []))
    ∷ trial (changing (bits_of 8 0) Add 255) (by 0 (Begin ∷ Exchange 0 0x0807060504030200 ∷ []))
    (by 0 (Print 0 0x0807060504030201 ∷ [])) (by 0 (Print 0 1 ∷ Print 0 0x0807060504030200 ∷ []))
    ∷ []

-- COMPARE-AND-SWAP

-- main changes these bits to 9, if they are as expected
abbrev pub comparing : Access → (expected : ℕ) → Setting
comparing access expected = echo (requests.Cas access expected 9 ∷ [])

-- a compare-and-swap that finds what it expects exchanges, and one that does not loads
abbrev pub compare_and_swap : List Trial
compare_and_swap =
    trial (comparing (whole 1) 5) begun (by 0 (Exchange 1 9 ∷ [])) (by 0 (Load 1 5 ∷ Exchange 1 5 ∷ Store 1 9 ∷ []))
    ∷ trial (comparing (whole 1) 6) begun (by 0 (Load 1 5 ∷ []))
    (by 0 (Exchange 1 9 ∷ Exchange 1 5 ∷ Load 1 6 ∷ Load 1 9 ∷ []))
    ∷ []

-- one of some bytes looks at those alone, and leaves the others
abbrev pub narrow_compare_and_swap : List Trial
narrow_compare_and_swap =
    trial (comparing (bits_of 8 24) 4) begun (by 0 (Exchange 0 0x0807060509030201 ∷ []))
    (by 0 (Load 0 0x0807060504030201 ∷ Exchange 0 9 ∷ []))
    ∷ trial (comparing (bits_of 8 24) 5) begun (by 0 (Load 0 0x0807060504030201 ∷ []))
    (by 0 (Load 0 4 ∷ Exchange 0 0x0807060509030201 ∷ []))
    ∷ []

-- either way it is told the whole word as it was
abbrev pub compare_and_swap_tells : List Trial
compare_and_swap_tells =
    trial (comparing (whole 1) 5) (by 0 (Begin ∷ Exchange 1 9 ∷ [])) (by 0 (Print 0 5 ∷ [])) (by 0 (Print 0 9 ∷ []))
    ∷ trial (comparing (whole 1) 6) (by 0 (Begin ∷ Load 1 5 ∷ [])) (by 0 (Print 0 5 ∷ [])) (by 0 (Print 0 6 ∷ []))
    ∷ trial (comparing (bits_of 8 24) 4) (by 0 (Begin ∷ Exchange 0 0x0807060509030201 ∷ []))
    (by 0 (Print 0 0x0807060504030201 ∷ [])) (by 0 (Print 0 4 ∷ []))
    ∷ []
