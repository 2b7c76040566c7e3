-- The words of the shared table, in their order.
use Rattle.std.specs.Prelude.{ℕ, ◌+◌, ◌-◌, ◌*◌, List, ◌++◌, length, replicate, slice_set}
use Rattle.ds_map.specs.Bounds.{Bounds}
use Rattle.ds_map.specs.Regions.{program_words}

-- the words that every table has: the seats' own word, the counts, and the threads' and size classes' words
abbrev pub control_words : ℕ
control_words = 384

-- the first page word: one word for each page follows
abbrev pub first_page_word : ℕ
first_page_word = control_words

-- the first block word: 256 words for each page follow
abbrev pub first_block_word : Bounds → ℕ
first_block_word lim = first_page_word + lim.pages

-- the first home word: 4,096 words for each page follow
abbrev pub first_home_word : Bounds → ℕ
first_home_word lim = first_block_word lim + 256 * lim.pages

-- the first log word: 16 words for each log follow
abbrev pub first_log_word : Bounds → ℕ
first_log_word lim = first_home_word lim + 4096 * lim.pages

-- the first word of the hash area, which has so many words
abbrev pub first_hash_word : Bounds → ℕ
first_hash_word lim = first_log_word lim + 16 * lim.logs

-- the word of location 0: the words of all locations follow
abbrev pub first_program_word : Bounds → ℕ
first_program_word lim = first_hash_word lim + lim.hash

-- how many words the table has
abbrev pub words : Bounds → ℕ
words lim = first_program_word lim + program_words lim

-- the table's word of a location
abbrev pub word_of : Bounds → ℕ → ℕ
word_of lim loc = first_program_word lim + loc

-- the control words at the start: one thread is given out, and thread 0 may start
abbrev pub first_control_words : List ℕ
first_control_words = slice_set (slice_set (replicate control_words 0) 1 1) 16 1

-- the table's words at the start, for an image of the globals of at most 4,096 words: all that are not named are 0
unfoldable pub first_words : Bounds → List ℕ → List ℕ
first_words lim image =
    first_control_words ++ replicate (first_program_word lim - control_words) 0 ++ image
    ++ replicate (program_words lim - length image) 0
