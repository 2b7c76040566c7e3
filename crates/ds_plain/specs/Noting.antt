-- The rows of a note, by which a thread tells the log of a block that a pointer into the block was stored at a
-- location.
use Rattle.std.specs.Prelude.{◌≡◌, ℕ, ◌+◌, ◌-◌, ◌*◌, ◌%◌, ◌<◌, Bool, true, ◌==◌, ◌&&◌, nat_lt, if◌then◌else◌}
use Rattle.std.specs.Prelude.{Option, Some, None}
use Rattle.ds_map.specs.Bounds.{Bounds}
use Rattle.ds_map.specs.Blocks.{page_at, block_start, place_in}
use Rattle.ds_map.specs.Regions.{heap, lies_in, program_words}
use Rattle.ds_map.specs.Words.{first_page_word, first_block_word}
use Rattle.ds_pages.specs.Words.{is_page_word, class_in}
use Rattle.ds_entry.specs.Entry.{entry_of}
use Rattle.ds_entry.specs.Header.{log_entries, header_of, life_in, used_in}
use Rattle.ds_step.specs.declared.WordOp.{WordOp}
use Rattle.ds_step.specs.declared.FullWhat.{FullWhat}
use Rattle.ds_step.specs.declared.Event.{Event}
use Rattle.ds_step.specs.declared.Event.TheVariants as events
use Rattle.ds_plain.specs.declared.ListAt.TheVariants.{LoadHome}
use Rattle.ds_plain.specs.declared.NoteAt.{NoteAt}
use Rattle.ds_plain.specs.declared.NoteAt.TheVariants.{LoadPage, LoadBlock, Seek, StoreLife, StoreEntry, CountEntry}
use Rattle.ds_plain.specs.Operations.{load_of, store_of}
use Rattle.ds_plain.specs.Freeing.{LifeSeen, LiveIn, NotLive, NoBlockWord, life_seen}
use Rattle.ds_plain.specs.Listing.{header_word, entry_word, list_op, list_row, list_event, list_next}
use Rattle.ds_plain.specs.Listing.{list_place, list_life}
use Rattle.ds_plain.specs.Listing.{ListNext, ListsOn, Owns, FailsList, IsLife, IsListAt}

-- WHAT IT SEES

-- what the word of the page says of a value
pub data HeldSeen : Type 0 where
  -- it points into the block at this place, which starts at this address
  HeldIn : (place start : ℕ) → HeldSeen
  -- it points into no block
  HeldByNone : HeldSeen
  -- this is no page word
  NoPageWord : HeldSeen

abbrev pub held_by : (word : ℕ) → Option ℕ → HeldSeen
held_by word None = HeldByNone
held_by word (Some place) = HeldIn place (block_start place (word - 1))

abbrev pub held_seen : (value word : ℕ) → HeldSeen
held_seen value word =
    if is_page_word word then held_by word (place_in (page_at value) ((value - 0x1000000) % 4096) (class_in word))
    else NoPageWord

-- ROWS

abbrev pub note_op : Bounds → (t : ℕ) → NoteAt → WordOp
note_op lim t (LoadPage loc value) = load_of (first_page_word + page_at value)
note_op lim t (LoadBlock loc place start) = load_of (first_block_word lim + place)
note_op lim t (Seek loc at) = list_op lim t at
note_op lim t (StoreLife loc place life log) = store_of (header_word lim log) (header_of life 0 0)
note_op lim t (StoreEntry loc place life log used) = store_of (entry_word lim log used) (entry_of loc)
note_op lim t (CountEntry loc place life log used) = store_of (header_word lim log) (header_of life (used + 1) 0)

abbrev pub note_row : NoteAt → ℕ
note_row (LoadPage loc value) = 24
note_row (LoadBlock loc place start) = 25
note_row (Seek loc at) = list_row at
note_row (StoreLife loc place life log) = 31
note_row (StoreEntry loc place life log used) = 38
note_row (CountEntry loc place life log used) = 39

-- EVENTS: what is no word of a page or a block means nothing, and the row is made again

abbrev pub held_loaded : HeldSeen → Event
held_loaded (HeldIn place start) = events.Log
held_loaded HeldByNone = events.Skip
held_loaded NoPageWord = events.Log

abbrev pub found_loaded : (place start : ℕ) → LifeSeen → Event
found_loaded place start (LiveIn life) = events.Found place start life
found_loaded place start NotLive = events.Skip
found_loaded place start NoBlockWord = events.Log

abbrev pub note_event : Bounds → NoteAt → (old : ℕ) → Event
note_event lim (LoadPage loc value) old = held_loaded (held_seen value old)
note_event lim (LoadBlock loc place start) old = found_loaded place start (life_seen old)
note_event lim (Seek loc at) old = list_event lim at old
note_event lim (StoreLife loc place life log) old = events.Log
note_event lim (StoreEntry loc place life log used) old = events.Log
note_event lim (CountEntry loc place life log used) old = events.Noted place life loc

-- WHAT COMES NEXT

-- what comes of a step of a note
pub data NoteNext : Type 0 where
  -- it goes on with this row
  NotesOn : NoteAt → NoteNext
  -- the location is noted
  HasNoted : NoteNext
  -- no live block holds the value
  HasSkipped : NoteNext
  -- a table is full
  FailsNote : FullWhat → NoteNext

abbrev pub behind_held_load : (loc value : ℕ) → HeldSeen → NoteNext
behind_held_load loc value (HeldIn place start) = NotesOn (LoadBlock loc place start)
behind_held_load loc value HeldByNone = HasSkipped
behind_held_load loc value NoPageWord = NotesOn (LoadPage loc value)

abbrev pub behind_found_load : (loc place start : ℕ) → LifeSeen → NoteNext
behind_found_load loc place start (LiveIn life) = NotesOn (Seek loc (LoadHome place life))
behind_found_load loc place start NotLive = HasSkipped
behind_found_load loc place start NoBlockWord = NotesOn (LoadBlock loc place start)

-- in its own log a thread uses the next entry, if the header is of this life, and else begins the log anew
abbrev pub with_log : (loc place life log header : ℕ) → NoteNext
with_log loc place life log header =
    if life_in header == life then NotesOn (StoreEntry loc place life log (used_in header))
    else NotesOn (StoreLife loc place life log)

abbrev pub behind_list : (loc place life : ℕ) → ListNext → NoteNext
behind_list loc place life (ListsOn at) = NotesOn (Seek loc at)
behind_list loc place life (Owns log header) = with_log loc place life log header
behind_list loc place life (FailsList what) = FailsNote what

abbrev pub note_next : Bounds → NoteAt → (old : ℕ) → NoteNext
note_next lim (LoadPage loc value) old = behind_held_load loc value (held_seen value old)
note_next lim (LoadBlock loc place start) old = behind_found_load loc place start (life_seen old)
note_next lim (Seek loc at) old = behind_list loc (list_place at) (list_life at) (list_next lim at old)
note_next lim (StoreLife loc place life log) old = NotesOn (StoreEntry loc place life log 0)
note_next lim (StoreEntry loc place life log used) old = NotesOn (CountEntry loc place life log used)
note_next lim (CountEntry loc place life log used) old = HasNoted

-- the location is one of program memory, and the value one of the heap; so it is not marked
abbrev pub is_notable : Bounds → (loc value : ℕ) → Bool
is_notable lim loc value = nat_lt loc (program_words lim) && lies_in (heap lim) value

-- WHICH POSITIONS ARE REACHED: no clause of the top call speaks of it

-- a note of this location has this log for the life of the block at this place
pub record IsInLog (lim : Bounds) (loc place life log : ℕ) : Type 0 where
  pub loc_is : loc < program_words lim
  pub block : IsLife lim place life
  pub log_is : log < lim.logs

-- a note reaches this position
abbrev pub IsNoteAt : Bounds → NoteAt → Type 0
IsNoteAt lim (LoadPage loc value) = is_notable lim loc value ≡ true
IsNoteAt lim (LoadBlock loc place start) = (loc < program_words lim) × (place < 256 * lim.pages)
IsNoteAt lim (Seek loc at) = (loc < program_words lim) × IsListAt lim at
IsNoteAt lim (StoreLife loc place life log) = IsInLog lim loc place life log
IsNoteAt lim (StoreEntry loc place life log used) = IsInLog lim loc place life log × (used < log_entries)
IsNoteAt lim (CountEntry loc place life log used) = IsInLog lim loc place life log × (used < log_entries)
