-- How a malloc looks for a block.
use Rattle.std.specs.Prelude.{◌≡◌, ℕ, List, [], ◌∷◌, ◌++◌}
use Rattle.ds_map.specs.Bounds.{bounds}
use Rattle.ds_step.specs.declared.Event.TheVariants.{Begin, End, Print, Assign, Taken, TakenPage, Block, Trap}
use Rattle.ds_plain.specs.declared.Request.TheVariants as requests
use Rattle.ds_plain.specs.State.{Setting, Live, block_in}
use Rattle.ds_tried.specs.Programs.{echo, Events, by, behind, Trial, trial}

-- main asks for 2,000 bytes three times, and prints each answer; the heap is one page, which has two such blocks
abbrev pub allocating : Setting
allocating = echo (requests.Malloc 2000 ∷ requests.Malloc 2000 ∷ requests.Malloc 2000 ∷ [])

-- a page that has no class gets the one that is wanted
abbrev pub page_gets_class_wanted : List Trial
page_gets_class_wanted =
    trial allocating (by 0 (Begin ∷ [])) (by 0 (Assign 0 13 ∷ []))
    (by 0 (Assign 0 12 ∷ Assign 0 14 ∷ Assign 1 13 ∷ Taken 0 ∷ TakenPage 0 ∷ Block 0 0x1000000 1 ∷ End ∷ Trap ∷ [])
    ++ by 0 (Print 0 0 ∷ []) ++ by 1 (Assign 0 13 ∷ []))
    ∷ []

-- Its class stays. Each of its places that is free may be taken, with its own start and its next life; none is passed
-- over.
abbrev pub free_block_is_taken : List Trial
free_block_is_taken =
    trial allocating (by 0 (Begin ∷ Assign 0 13 ∷ [])) (by 0 (Block 0 0x1000000 1 ∷ Block 1 0x1000800 1 ∷ []))
    (by 0 (Assign 0 13 ∷ Assign 0 12 ∷ TakenPage 0 ∷ Taken 0 ∷ Taken 1 ∷ Taken 2 ∷ Print 0 0 ∷ [])
    ++ by 0 (Block 0 0x1000000 0 ∷ Block 0 0x1000000 2 ∷ Block 0 0x1000008 1 ∷ Block 0 0x1000800 1 ∷ [])
    ++ by 0 (Block 1 0x1000000 1 ∷ Block 2 0x1001000 1 ∷ Block 256 0x1001000 1 ∷ []))
    ∷ []

-- the start is told, and the request is answered
abbrev pub start_is_told : List Trial
start_is_told =
    trial allocating (by 0 (Begin ∷ Assign 0 13 ∷ Block 1 0x1000800 1 ∷ [])) (by 0 (Print 0 0x1000800 ∷ []))
    (by 0 (Print 0 1 ∷ Print 0 0 ∷ Block 0 0x1000000 1 ∷ Taken 1 ∷ []))
    ∷ []

-- the block is then live in its first life
abbrev pub IsLiveBlock : Type 0
IsLiveBlock = (behind allocating (by 0 (Begin ∷ Assign 0 13 ∷ Block 1 0x1000800 1 ∷ []))).blocks 1 ≡ block_in 1 Live

-- main takes the first block, and asks for the second
abbrev pub one_taken : Events
one_taken = by 0 (Begin ∷ Assign 0 13 ∷ Block 0 0x1000000 1 ∷ Print 0 0x1000000 ∷ [])

-- a block in use is passed over, and not given out
abbrev pub used_block_is_passed_over : List Trial
used_block_is_passed_over =
    trial allocating one_taken (by 0 (Taken 0 ∷ Block 1 0x1000800 1 ∷ []))
    (by 0 (Block 0 0x1000000 1 ∷ Block 0 0x1000000 2 ∷ Taken 1 ∷ TakenPage 0 ∷ Assign 0 13 ∷ Print 1 0 ∷ []))
    ∷ trial allocating (one_taken ++ by 0 (Taken 0 ∷ [])) (by 0 (Block 1 0x1000800 1 ∷ Taken 0 ∷ []))
    (by 0 (Print 1 0 ∷ Block 0 0x1000000 2 ∷ Taken 1 ∷ []))
    ∷ []

-- main takes both, and asks for a third
abbrev pub both_taken : Events
both_taken = one_taken ++ by 0 (Block 1 0x1000800 1 ∷ Print 1 0x1000800 ∷ [])

-- null is told where every place was passed over, and not before, also where one was passed over twice
abbrev pub null_is_told_last : List Trial
null_is_told_last =
    trial allocating both_taken (by 0 (Taken 0 ∷ Taken 1 ∷ []))
    (by 0 (Print 2 0 ∷ Block 0 0x1000000 2 ∷ Block 1 0x1000800 2 ∷ []))
    ∷ trial allocating (both_taken ++ by 0 (Taken 1 ∷ [])) (by 0 (Taken 0 ∷ [])) (by 0 (Print 2 0 ∷ End ∷ []))
    ∷ trial allocating (both_taken ++ by 0 (Taken 1 ∷ Taken 1 ∷ [])) (by 0 (Taken 0 ∷ [])) (by 0 (Print 2 0 ∷ []))
    ∷ trial allocating (both_taken ++ by 0 (Taken 1 ∷ Taken 0 ∷ [])) (by 0 (Print 2 0 ∷ []))
    (by 0 (Taken 0 ∷ Taken 1 ∷ Print 2 0x1000000 ∷ []))
    ∷ []

-- main asks for 2,000 bytes, and then for 8, which are of another class
abbrev pub two_classes : Setting
two_classes = echo (requests.Malloc 2000 ∷ requests.Malloc 8 ∷ [])

-- a page of another class is passed over with all its places at once
abbrev pub page_is_passed_over : List Trial
page_is_passed_over =
    trial two_classes one_taken (by 0 (TakenPage 0 ∷ []))
    (by 0 (Taken 0 ∷ Taken 1 ∷ Block 1 0x1000800 1 ∷ Block 1 0x1000010 1 ∷ Assign 0 0 ∷ TakenPage 1 ∷ Print 1 0 ∷ []))
    ∷ trial two_classes (one_taken ++ by 0 (TakenPage 0 ∷ [])) (by 0 (Print 1 0 ∷ [])) (by 0 (TakenPage 0 ∷ []))
    ∷ []

-- the same with a heap of two pages
abbrev pub on_two_pages : Setting → Setting
on_two_pages setting = record setting { lim = bounds 2 1000 4 64 }

-- the places of another page are left
abbrev pub other_pages_are_left : List Trial
other_pages_are_left =
    trial (on_two_pages two_classes) (one_taken ++ by 0 (TakenPage 0 ∷ [])) (by 0 (Assign 1 0 ∷ []))
    (by 0 (Print 1 0 ∷ Block 256 0x1001000 1 ∷ Assign 2 0 ∷ []))
    ∷ trial (on_two_pages two_classes) (one_taken ++ by 0 (TakenPage 0 ∷ Assign 1 0 ∷ []))
    (by 0 (Block 256 0x1001000 1 ∷ Block 511 0x1001ff0 1 ∷ [])) (by 0 (Print 1 0 ∷ TakenPage 1 ∷ Block 512 0x1002000 1 ∷ []))
    ∷ []

-- main asks for so many bytes
abbrev pub asking_for : (bytes : ℕ) → Setting
asking_for bytes = echo (requests.Malloc bytes ∷ [])

-- the class wanted is the least one with a byte more than is asked
abbrev pub classes_hold_a_byte_more : List Trial
classes_hold_a_byte_more =
    trial (asking_for 0) (by 0 (Begin ∷ [])) (by 0 (Assign 0 0 ∷ [])) (by 0 (Assign 0 1 ∷ []))
    ∷ trial (asking_for 15) (by 0 (Begin ∷ [])) (by 0 (Assign 0 0 ∷ [])) (by 0 (Assign 0 1 ∷ []))
    ∷ trial (asking_for 16) (by 0 (Begin ∷ [])) (by 0 (Assign 0 1 ∷ [])) (by 0 (Assign 0 0 ∷ Assign 0 2 ∷ []))
    ∷ trial (asking_for 4095) (by 0 (Begin ∷ [])) (by 0 (Assign 0 14 ∷ [])) (by 0 (Assign 0 13 ∷ []))
    ∷ []

-- a page has as many blocks as fit: of 12 words 42, and what is left at its end is no block
abbrev pub end_of_page_is_no_block : List Trial
end_of_page_is_no_block =
    trial (asking_for 95) (by 0 (Begin ∷ Assign 0 4 ∷ [])) (by 0 (Block 41 0x1000f60 1 ∷ [])) (by 0 (Block 42 0x1000fc0 1 ∷ []))
    ∷ []
