-- The rows by which a thread finds its own log of a block. The home word of a place and a thread names the log that
-- the thread has for the place, whatever the life of the block there is.
use Rattle.std.specs.Prelude.{◌≡◌, ℕ, ◌+◌, ◌-◌, ◌*◌, ◌^◌, ◌<◌, Bool, ◌==◌, ◌&&◌, nat_le, nat_lt, if◌then◌else◌}
use Rattle.ds_map.specs.Bounds.{Bounds}
use Rattle.ds_map.specs.Words.{first_home_word, first_log_word}
use Rattle.ds_entry.specs.Header.{log_entries, header_of, life_in, used_in, chunk_in}
use Rattle.ds_step.specs.declared.OpKind.TheVariants.{Add}
use Rattle.ds_step.specs.declared.WordOp.{WordOp}
use Rattle.ds_step.specs.declared.FullWhat.{FullWhat}
use Rattle.ds_step.specs.declared.FullWhat.TheVariants as tables
use Rattle.ds_step.specs.declared.Event.{Event}
use Rattle.ds_step.specs.declared.Event.TheVariants as events
use Rattle.ds_plain.specs.declared.ListAt.{ListAt}
use Rattle.ds_plain.specs.declared.ListAt.TheVariants.{LoadHome, DrawLog, StoreHeader, StoreHome, LoadHeader}
use Rattle.ds_plain.specs.Operations.{load_of, store_of}

-- WORDS

-- the word that counts the logs that were drawn
abbrev pub logs_word : ℕ
logs_word = 3

-- the word that says which log thread t has for a place: 0, or one more than the number of the log
abbrev pub home_word : Bounds → (t place : ℕ) → ℕ
home_word lim t place = first_home_word lim + 16 * place + t

abbrev pub header_word : Bounds → (log : ℕ) → ℕ
header_word lim log = first_log_word lim + 16 * log

-- the word of the entry of this number, 0 to 13; between it and the header lies one word more
abbrev pub entry_word : Bounds → (log number : ℕ) → ℕ
entry_word lim log number = header_word lim log + 2 + number

-- WHAT IT SEES

-- what a home word says
pub data HomeSeen : Type 0 where
  -- the thread has no log for the place
  NoHome : HomeSeen
  -- it has this one
  HomeOf : (log : ℕ) → HomeSeen
  -- this is no home word
  NoHomeWord : HomeSeen

abbrev pub home_seen : Bounds → (word : ℕ) → HomeSeen
home_seen lim word =
    if word == 0 then NoHome else (if nat_le word lim.logs then HomeOf (word - 1) else NoHomeWord)

-- the word can be a header of a log that has no hash chunk
abbrev pub is_header : ℕ → Bool
is_header word = nat_le (used_in word) log_entries && (chunk_in word == 0)

-- what a header says to a thread that notes in this life
pub data HeaderSeen : Type 0 where
  -- the entries are about this life, and one is left
  HasRoom : HeaderSeen
  -- they are about this life, and all are used
  HasNoRoom : HeaderSeen
  -- they are about another life
  OfOther : HeaderSeen
  -- this is no header
  NoHeader : HeaderSeen

abbrev pub header_seen : (life word : ℕ) → HeaderSeen
header_seen life word =
    if is_header word then
    (if life_in word == life then (if used_in word == log_entries then HasNoRoom else HasRoom) else OfOther)
    else NoHeader

-- ROWS

abbrev pub list_op : Bounds → (t : ℕ) → ListAt → WordOp
list_op lim t (LoadHome place life) = load_of (home_word lim t place)
list_op lim t (DrawLog place life) = record { kind = Add; word = logs_word; a = 1; b = 0 }
list_op lim t (StoreHeader place life log) = store_of (header_word lim log) (header_of life 0 0)
list_op lim t (StoreHome place life log) = store_of (home_word lim t place) (log + 1)
list_op lim t (LoadHeader place life log) = load_of (header_word lim log)

abbrev pub list_row : ListAt → ℕ
list_row (LoadHome place life) = 26
list_row (DrawLog place life) = 27
list_row (StoreHeader place life log) = 28
list_row (StoreHome place life log) = 29
list_row (LoadHeader place life log) = 30

-- EVENTS: what is no home word or header means nothing, and the row is made again

abbrev pub log_drawn : Bounds → (old : ℕ) → Event
log_drawn lim old = if nat_lt old lim.logs then events.Log else events.Full tables.Logs

abbrev pub header_loaded : HeaderSeen → Event
header_loaded HasRoom = events.Log
header_loaded HasNoRoom = events.Full tables.Hash
header_loaded OfOther = events.Log
header_loaded NoHeader = events.Log

abbrev pub list_event : Bounds → ListAt → (old : ℕ) → Event
list_event lim (LoadHome place life) old = events.Log
list_event lim (DrawLog place life) old = log_drawn lim old
list_event lim (StoreHeader place life log) old = events.Log
list_event lim (StoreHome place life log) old = events.Log
list_event lim (LoadHeader place life log) old = header_loaded (header_seen life old)

-- WHAT COMES NEXT

-- what comes of a step of a thread that looks for its log
pub data ListNext : Type 0 where
  -- it goes on with this row
  ListsOn : ListAt → ListNext
  -- it has this log, whose header is this
  Owns : (log header : ℕ) → ListNext
  -- a table is full
  FailsList : FullWhat → ListNext

abbrev pub behind_home_load : (place life : ℕ) → HomeSeen → ListNext
behind_home_load place life NoHome = ListsOn (DrawLog place life)
behind_home_load place life (HomeOf log) = ListsOn (LoadHeader place life log)
behind_home_load place life NoHomeWord = ListsOn (LoadHome place life)

abbrev pub behind_log_draw : Bounds → (place life old : ℕ) → ListNext
behind_log_draw lim place life old =
    if nat_lt old lim.logs then ListsOn (StoreHeader place life old) else FailsList tables.Logs

abbrev pub behind_header_load : (place life log old : ℕ) → HeaderSeen → ListNext
behind_header_load place life log old HasRoom = Owns log old
behind_header_load place life log old HasNoRoom = FailsList tables.Hash
behind_header_load place life log old OfOther = Owns log old
behind_header_load place life log old NoHeader = ListsOn (LoadHeader place life log)

abbrev pub list_next : Bounds → ListAt → (old : ℕ) → ListNext
list_next lim (LoadHome place life) old = behind_home_load place life (home_seen lim old)
list_next lim (DrawLog place life) old = behind_log_draw lim place life old
list_next lim (StoreHeader place life log) old = ListsOn (StoreHome place life log)
list_next lim (StoreHome place life log) old = Owns log (header_of life 0 0)
list_next lim (LoadHeader place life log) old = behind_header_load place life log old (header_seen life old)

-- the place of the block whose log a thread looks for, and its life
abbrev pub list_place : ListAt → ℕ
list_place (LoadHome place life) = place
list_place (DrawLog place life) = place
list_place (StoreHeader place life log) = place
list_place (StoreHome place life log) = place
list_place (LoadHeader place life log) = place

abbrev pub list_life : ListAt → ℕ
list_life (LoadHome place life) = life
list_life (DrawLog place life) = life
list_life (StoreHeader place life log) = life
list_life (StoreHome place life log) = life
list_life (LoadHeader place life log) = life

-- WHICH POSITIONS ARE REACHED: no clause of the top call speaks of it

-- the place and the life are those of a block
pub record IsLife (lim : Bounds) (place life : ℕ) : Type 0 where
  pub place_is : place < 256 * lim.pages
  pub life_is : life < 2 ^ 32

-- a thread that looks for its log reaches this position
abbrev pub IsListAt : Bounds → ListAt → Type 0
IsListAt lim (LoadHome place life) = IsLife lim place life
IsListAt lim (DrawLog place life) = IsLife lim place life
IsListAt lim (StoreHeader place life log) = IsLife lim place life × (log < lim.logs)
IsListAt lim (StoreHome place life log) = IsLife lim place life × (log < lim.logs)
IsListAt lim (LoadHeader place life log) = IsLife lim place life × (log < lim.logs)
