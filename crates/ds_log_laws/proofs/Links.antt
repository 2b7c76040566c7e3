-- How a recorded thread and its own words of the logs go together, by where it stands.
use Rattle.std.proofs.Common.{◌≡◌, ℕ, suc, ◌+◌, ◌*◌, ◌<◌, ◌≤◌, Bool, true, false, ◌==◌, ◌&&◌, ◌||◌}
use Rattle.std.proofs.Common.{if◌then◌else◌, nat_lt, nat_le, List, [], Option, Some, None, refl, slice_index, arith}
use Rattle.std.proofs.Common.{subst, inl, inr, ◌⊎◌}
use Rattle.std.specs.List.{list_any}
use Rattle.std.proofs.lemmas.Bool.{cases_eq}
use Rattle.ds_map.specs.Bounds.{Bounds}
use Rattle.ds_map.specs.Blocks.{class_of}
use Rattle.ds_map.specs.Regions.{program_words}
use Rattle.ds_entry.specs.Entry.{entry_of}
use Rattle.ds_entry.specs.Header.{log_entries, header_of}
use Rattle.ds_step.specs.declared.Event.{Event}
use Rattle.ds_step.specs.declared.Event.TheVariants as events
use Rattle.ds_step.specs.declared.FullWhat.{FullWhat}
use Rattle.ds_step.specs.declared.FullWhat.TheVariants as tables
use Rattle.ds_step.specs.declared.Step.{Step}
use Rattle.ds_plain.specs.declared.Stop.{Stop}
use Rattle.ds_plain.specs.declared.Stop.TheVariants.{Idle, Running, Returned, Trap, Full, Fuel}
use Rattle.ds_plain.specs.declared.Request.{Request}
use Rattle.ds_plain.specs.declared.Request.TheVariants as requests
use Rattle.ds_plain.specs.declared.SpawnAt.{SpawnAt}
use Rattle.ds_plain.specs.declared.SpawnAt.TheVariants as spawns
use Rattle.ds_plain.specs.declared.AllocAt.{AllocAt}
use Rattle.ds_plain.specs.declared.AllocAt.TheVariants as allocs
use Rattle.ds_plain.specs.declared.ListAt.{ListAt}
use Rattle.ds_plain.specs.declared.ListAt.TheVariants.{LoadHome, DrawLog, StoreHeader, StoreHome, LoadHeader}
use Rattle.ds_plain.specs.declared.NoteAt.{NoteAt}
use Rattle.ds_plain.specs.declared.NoteAt.TheVariants as notes
use Rattle.ds_plain.specs.declared.FreeAt.{FreeAt}
use Rattle.ds_plain.specs.declared.FreeAt.TheVariants as frees
use Rattle.ds_plain.specs.declared.Position.{Position}
use Rattle.ds_plain.specs.declared.Position.TheVariants.{Start, Access, Malloc, Note, Free, Spawn, Join}
use Rattle.ds_plain.specs.declared.Position.TheVariants.{DrawPrint, StoreEnded, Over, NoRow}
use Rattle.ds_plain.specs.Behaviour.{Asked, Asks, Silent, Behaviour}
use Rattle.ds_plain.specs.Listing.{home_word, header_word, entry_word}
use Rattle.ds_plain.specs.Noting.{is_notable}
use Rattle.ds_plain.specs.Freeing.{is_freeable}
use Rattle.ds_plain.specs.Table.{end_by, looking_for, position_of}
use Rattle.ds_plain.specs.Thread.{Thread, paying, standing, arriving, going_on}
use Rattle.ds_plain.specs.Explained.{trace_of}
use Rattle.ds_plain.specs.State.{replaced}
use Rattle.ds_log_laws.specs.Told.{HasFound, notes_for, found_behind}
use Rattle.ds_log_laws.specs.Reading.{entries_hold}
use Rattle.ds_log_laws.proofs.Choices.{of_if, of_test}

-- WHO DREW THE LOGS

-- how many logs were drawn, or could not be; and for each its place and the thread that drew it
pub record Logs : Type 0 where
  pub count : ℕ
  pub place : ℕ → ℕ
  pub owner : ℕ → ℕ

-- thread t drew a log for a place
pub record HasDrawn (logs : Logs) (t place : ℕ) : Type 0 where
  pub number : ℕ
  pub drawn : number < logs.count
  pub place_is : logs.place number ≡ place
  pub owner_is : logs.owner number ≡ t

-- a log that was drawn is for a block of the heap, which its thread has found
pub record IsDrawn (lim : Bounds) (traces : List (List Step)) (place t : ℕ) : Type 0 where
  pub place_is : place < 256 * lim.pages
  pub owner_is : t < 16
  pub found : HasFound place (trace_of traces t)

-- the counter of the logs says how many were drawn, and no two are one thread's for one place
pub record Counted (lim : Bounds) (traces : List (List Step)) (words : List ℕ) (logs : Logs) : Type 0 where
  pub counter : slice_index words 3 ≡ logs.count
  pub distinct : (n m : ℕ) → n < logs.count → m < logs.count → logs.place n ≡ logs.place m
      → logs.owner n ≡ logs.owner m → n ≡ m
  pub each : (n : ℕ) → n < logs.count → IsDrawn lim traces (logs.place n) (logs.owner n)

-- WHAT A THREAD TOLD

-- what a thread told so far: how many locations it noted for a life of the block at a place, and whether this one, what
-- it found last, and in which life it found each place last
pub record Past : Type 0 where
  pub noted : (place life : ℕ) → ℕ
  pub has : (place life loc : ℕ) → Bool
  pub found : Option (ℕ × ℕ)
  pub seen : (place : ℕ) → ℕ

abbrev pub seen_behind : Event → (ℕ → ℕ) → ℕ → ℕ
seen_behind (events.Found place start life) seen = replaced seen place life
seen_behind event seen = seen

-- the event notes this location for this life of the block at a place
abbrev pub notes_at : (place life loc : ℕ) → Event → Bool
notes_at place life loc (events.Noted other since x) = ((other == place) && (since == life)) && (x == loc)
notes_at place life loc event = false

-- behind a step
abbrev pub past_behind : Event → Past → Past
past_behind event past = record {
  noted = λ place life. if notes_for place life event then suc (past.noted place life) else past.noted place life;
  has = λ place life loc. notes_at place life loc event || past.has place life loc;
  found = found_behind event past.found;
  seen = seen_behind event past.seen;
}

-- an event that finds and notes nothing
abbrev pub IsQuiet : Event → Type 0
IsQuiet (events.Found place start life) = ⊥
IsQuiet (events.Noted place life loc) = ⊥
IsQuiet event = Unit {0}

pub quiet_past : (event : Event) (past : Past) → IsQuiet event → past_behind event past ≡ past
quiet_past (events.Found place start life) past quiet = absurd quiet
quiet_past (events.Noted place life loc) past quiet = absurd quiet
quiet_past event past quiet = refl

-- where it noted nothing, it noted no location
pub record IsSound (past : Past) : Type 0 where
  pub unheld : (place life loc : ℕ) → past.noted place life ≡ 0 → past.has place life loc ≡ false

still_none : (b c d : Bool) (n : ℕ) → (if b then suc n else n) ≡ 0 → (n ≡ 0 → d ≡ false) → ((b && c) || d) ≡ false
still_none true c d n e unheld = absurd (omega (arith, e))
still_none false c d n e unheld = unheld e

unheld_behind : (event : Event) (past : Past) → IsSound past → (place life loc : ℕ)
    → (past_behind event past).noted place life ≡ 0 → (past_behind event past).has place life loc ≡ false
unheld_behind (events.Noted other since x) past sound place life loc e =
    still_none ((other == place) && (since == life)) (x == loc) (past.has place life loc) (past.noted place life) e
    (sound.unheld place life loc)
unheld_behind event past sound place life loc e = sound.unheld place life loc e

pub sound_behind : (event : Event) (past : Past) → IsSound past → IsSound (past_behind event past)
sound_behind event past sound = record { unheld = unheld_behind event past sound }

-- WHERE WALKS STAND

-- a malloc looks at a block of its page
abbrev pub IsLooking : AllocAt → Type 0
IsLooking (allocs.LoadPage search) = Unit {0}
IsLooking (allocs.SwapPage search) = Unit {0}
IsLooking (allocs.LoadBlock search index) = index < 256
IsLooking (allocs.SwapBlock search index life) = index < 256

-- a free is one of a block of the heap
abbrev pub IsFreeing : Bounds → FreeAt → Type 0
IsFreeing lim (frees.LoadPage address) = is_freeable lim address ≡ true
IsFreeing lim (frees.LoadBlock address place) = place < 256 * lim.pages
IsFreeing lim (frees.SwapBlock address place life) = place < 256 * lim.pages
IsFreeing lim (frees.StoreFree place life) = place < 256 * lim.pages

-- a thread that starts another one has a number for it
abbrev pub IsSpawning : SpawnAt → Type 0
IsSpawning (spawns.DrawThread loc function arg) = Unit {0}
IsSpawning (spawns.StoreNumber n loc function arg) = n < 16
IsSpawning (spawns.StoreFunction n function arg) = n < 16
IsSpawning (spawns.StoreArgument n arg) = n < 16
IsSpawning (spawns.OpenThread n) = n < 16

-- WORDS

-- the home word of a thread for a place
abbrev pub home : Bounds → List ℕ → (t place : ℕ) → ℕ
home lim words t place = slice_index words (home_word lim t place)

-- the header of a log
abbrev pub header : Bounds → List ℕ → (log : ℕ) → ℕ
header lim words log = slice_index words (header_word lim log)

-- an entry of a log
abbrev pub entry : Bounds → List ℕ → (log number : ℕ) → ℕ
entry lim words log number = slice_index words (entry_word lim log number)

-- the location is one of these
abbrev pub is_in : (loc : ℕ) → List ℕ → Bool
is_in loc locs = list_any (λ x. x == loc) locs

-- LINKS

-- of thread t, by what it told, and by the present lives of the blocks
module _ (lim : Bounds) (traces : List (List Step)) (words : List ℕ) (logs : Logs) (t : ℕ) (past : Past)
    (lives : ℕ → ℕ) where
  -- the log is its own for a place, and its header tells how many locations were noted for a life, and that none was
  -- for a later one; its used entries hold those that were noted
  pub record Logged (place log : ℕ) : Type 0 where
    pub drawn : log < logs.count
    pub few : log < lim.logs
    pub place_is : logs.place log ≡ place
    pub owner_is : logs.owner log ≡ t
    pub life : ℕ
    pub used : ℕ
    pub header_is : header lim words log ≡ header_of life used 0
    pub used_few : used ≤ log_entries
    pub noted : past.noted place life ≡ used
    pub held : (loc : ℕ) → is_in loc (entries_hold lim words log used) ≡ past.has place life loc
    pub none_later : (later : ℕ) → life < later → past.noted place later ≡ 0
    pub not_ahead : life ≤ past.seen place

  -- what its words say of its log for a place: where the home word is 0, nothing was noted
  pub record Kept (place : ℕ) : Type 0 where
    pub unnoted : home lim words t place ≡ 0 → (life : ℕ) → past.noted place life ≡ 0
    pub some : (log : ℕ) → home lim words t place ≡ log + 1 → Logged place log
    pub seen_now : past.seen place ≤ lives place

  -- so they say of all places, wherever it stands
  abbrev pub KeptAll : Type 0
  KeptAll = (place : ℕ) → place < 256 * lim.pages → Kept place

  -- and it drew no log for the place where the home word is 0
  pub record Own (place : ℕ) : Type 0 where
    pub none : home lim words t place ≡ 0 → HasDrawn logs t place → ⊥
    pub kept : Kept place

  -- so it is of all places, where it looks for no log
  abbrev pub OwnsAll : Type 0
  OwnsAll = (place : ℕ) → place < 256 * lim.pages → Own place

  -- and so it is of all but one
  abbrev pub OwnsOthers : ℕ → Type 0
  OwnsOthers but = (place : ℕ) → place < 256 * lim.pages → (but ≡ place → ⊥) → Own place

  -- it found a block in this life
  pub record Knows (place life : ℕ) : Type 0 where
    pub place_is : place < 256 * lim.pages
    pub found : HasFound place (trace_of traces t)
    pub found_is : past.found ≡ Some (place, life)
    pub seen_is : past.seen place ≡ life
    pub now : life ≤ lives place

  -- it drew this log for a place, and is not at home there yet
  pub record Drew (place log : ℕ) : Type 0 where
    pub drawn : log < logs.count
    pub few : log < lim.logs
    pub place_is : logs.place log ≡ place
    pub owner_is : logs.owner log ≡ t
    pub no_home : home lim words t place ≡ 0
    pub unnoted : (life : ℕ) → past.noted place life ≡ 0

  -- it is at home in this log
  abbrev pub IsHome : (place log : ℕ) → Type 0
  IsHome place log = home lim words t place ≡ log + 1

  -- the location is one of program memory
  abbrev pub IsLocation : ℕ → Type 0
  IsLocation loc = loc < program_words lim

  -- the header of the log tells of this life, and of so many entries
  abbrev pub IsHeader : (life log used : ℕ) → Type 0
  IsHeader life log used = header lim words log ≡ header_of life used 0

  -- it is there, and so many locations are noted for this life
  pub record Uses (place life log used : ℕ) : Type 0 where
    pub owns : OwnsAll
    pub knows : Knows place life
    pub is_home : IsHome place log
    pub noted : past.noted place life ≡ used
    pub left : used < log_entries

  -- all entries of its log are used for the life that it found last
  pub record Fills : Type 0 where
    pub place : ℕ
    pub life : ℕ
    pub found_is : past.found ≡ Some (place, life)
    pub noted : past.noted place life ≡ log_entries

  abbrev pub Lists : ListAt → Type 0
  Lists (LoadHome place life) = OwnsAll × Knows place life
  Lists (DrawLog place life) = OwnsAll × Knows place life × (home lim words t place ≡ 0)
  Lists (StoreHeader place life log) = OwnsOthers place × Knows place life × Drew place log
  Lists (StoreHome place life log) =
      OwnsOthers place × Knows place life × Drew place log × (header lim words log ≡ header_of life 0 0)
  Lists (LoadHeader place life log) = OwnsAll × Knows place life × IsHome place log

  abbrev pub Notes : NoteAt → Type 0
  Notes (notes.LoadPage loc value) = OwnsAll × (is_notable lim loc value ≡ true)
  Notes (notes.LoadBlock loc place start) = OwnsAll × (place < 256 * lim.pages) × IsLocation loc
  Notes (notes.Seek loc at) = Lists at × IsLocation loc
  Notes (notes.StoreLife loc place life log) = Uses place life log 0 × IsLocation loc
  Notes (notes.StoreEntry loc place life log used) =
      Uses place life log used × IsHeader life log used × IsLocation loc
  Notes (notes.CountEntry loc place life log used) =
      Uses place life log used × IsHeader life log used × IsLocation loc × (entry lim words log used ≡ entry_of loc)

  -- it ended since a table is full
  abbrev pub EndsFull : FullWhat → Type 0
  EndsFull tables.Logs = lim.logs < logs.count
  EndsFull tables.Hash = Fills

  abbrev pub Ends : Stop → Type 0
  Ends Idle = Unit {0}
  Ends Running = Unit {0}
  Ends (Returned value) = Unit {0}
  Ends (Trap trap) = Unit {0}
  Ends (Full place what) = EndsFull what
  Ends Fuel = Unit {0}

  abbrev pub Stands : Position → Type 0
  Stands (Start at) = OwnsAll
  Stands (Access at) = OwnsAll
  Stands (Malloc at) = OwnsAll × IsLooking at
  Stands (Note at) = Notes at
  Stands (Free at) = OwnsAll × IsFreeing lim at
  Stands (Spawn at) = OwnsAll × IsSpawning at
  Stands (Join at) = OwnsAll
  Stands (DrawPrint value) = OwnsAll
  Stands (StoreEnded stop) = Ends stop × KeptAll
  Stands (Over stop) = Ends stop × KeptAll
  Stands NoRow = OwnsAll

  abbrev pub IsLinked : Thread → Type 0
  IsLinked a = Stands a.position

  -- WHAT ALL POSITIONS KEEP

  pub kept_owns : OwnsAll → KeptAll
  kept_owns owns place inside = (owns place inside).kept

  -- a thread that drew a log and is not at home there yet
  kept_others : (place life log : ℕ) → OwnsOthers place → Knows place life → Drew place log → KeptAll
  kept_others place life log owns knows drew place' inside = by (cases_eq place place')
    where
      by : ((place ≡ place') ⊎ (place ≡ place' → ⊥)) → Kept place'
      by (inl is) = subst Kept is (record {
        unnoted = λ no since. drew.unnoted since;
        some = λ log' at. absurd (omega (arith, at, drew.no_home));
        seen_now = omega (arith, knows.seen_is, knows.now);
      })
      by (inr ne) = (owns place' inside ne).kept

  kept_lists : (at : ListAt) → Lists at → KeptAll
  kept_lists (LoadHome place life) l = kept_owns l.0
  kept_lists (DrawLog place life) l = kept_owns l.0
  kept_lists (StoreHeader place life log) l = kept_others place life log l.0 l.1 l.2
  kept_lists (StoreHome place life log) l = kept_others place life log l.0 l.1 l.2
  kept_lists (LoadHeader place life log) l = kept_owns l.0

  kept_notes : (at : NoteAt) → Notes at → KeptAll
  kept_notes (notes.LoadPage loc value) l = kept_owns l.0
  kept_notes (notes.LoadBlock loc place start) l = kept_owns l.0
  kept_notes (notes.Seek loc at) l = kept_lists at l.0
  kept_notes (notes.StoreLife loc place life log) l = kept_owns l.0.owns
  kept_notes (notes.StoreEntry loc place life log used) l = kept_owns l.0.owns
  kept_notes (notes.CountEntry loc place life log used) l = kept_owns l.0.owns

  pub kept_stands : (p : Position) → Stands p → KeptAll
  kept_stands (Start at) l = kept_owns l
  kept_stands (Access at) l = kept_owns l
  kept_stands (Malloc at) l = kept_owns l.0
  kept_stands (Note at) l = kept_notes at l
  kept_stands (Free at) l = kept_owns l.0
  kept_stands (Spawn at) l = kept_owns l.0
  kept_stands (Join at) l = kept_owns l
  kept_stands (DrawPrint value) l = kept_owns l
  kept_stands (StoreEnded stop) l = l.1
  kept_stands (Over stop) l = l.1
  kept_stands NoRow l = kept_owns l

  -- WHERE A THREAD COMES TO

  module _ (cursors : List ℕ) (rest : Behaviour) where
    pub paying_linked : (units : ℕ) (began : Bool) (p : Position) → Stands p
        → IsLinked (paying lim cursors rest units began p)
    paying_linked units began p here =
        of_if IsLinked (nat_lt units lim.fuel)
        (record { rest = rest; position = p; units = units; began = began; cursors = cursors })
        (record { rest = rest; position = StoreEnded Fuel; units = units; began = began; cursors = cursors })
        here (tt, kept_stands p here)

    pub standing_linked : (units : ℕ) (began : Bool) (p : Position) → Stands p
        → IsLinked (standing lim cursors rest units began p)
    standing_linked units began (Start at) here = paying_linked units began (Start at) here
    standing_linked units began (Access at) here = paying_linked units began (Access at) here
    standing_linked units began (Malloc at) here = paying_linked units began (Malloc at) here
    standing_linked units began (Note at) here = paying_linked units began (Note at) here
    standing_linked units began (Free at) here = paying_linked units began (Free at) here
    standing_linked units began (Spawn at) here = paying_linked units began (Spawn at) here
    standing_linked units began (Join at) here = paying_linked units began (Join at) here
    standing_linked units began (DrawPrint value) here = paying_linked units began (DrawPrint value) here
    standing_linked units began (StoreEnded stop) here = here
    standing_linked units began (Over stop) here = here
    standing_linked units began NoRow here = paying_linked units began NoRow here

  end_by_stands : (stop : Stop) → OwnsAll → Stands (end_by stop)
  end_by_stands Idle owns = owns
  end_by_stands Running owns = owns
  end_by_stands (Returned value) owns = (tt, kept_owns owns)
  end_by_stands (Trap trap) owns = (tt, kept_owns owns)
  end_by_stands (Full place what) owns = owns
  end_by_stands Fuel owns = owns

  looking_stands : (cursors : List ℕ) (class : Option ℕ) → OwnsAll → Stands (looking_for cursors class)
  looking_stands cursors None owns = owns
  looking_stands cursors (Some class) owns = (owns, tt)

  asked_stands : (cursors : List ℕ) (request : Request) → OwnsAll → Stands (position_of lim cursors request)
  asked_stands cursors (requests.Load access) owns = owns
  asked_stands cursors (requests.Store access value) owns = owns
  asked_stands cursors (requests.Rmw access op value) owns = owns
  asked_stands cursors (requests.Cas access expected new) owns = owns
  asked_stands cursors (requests.Malloc bytes) owns = looking_stands cursors (class_of bytes) owns
  asked_stands cursors (requests.Free address) owns =
      of_test Stands (is_freeable lim address) (Free (frees.LoadPage address)) NoRow (λ e. (owns, e)) (λ e. owns)
  asked_stands cursors (requests.Note loc value) owns =
      of_test Stands (is_notable lim loc value) (Note (notes.LoadPage loc value)) NoRow (λ e. (owns, e)) (λ e. owns)
  asked_stands cursors (requests.Print value) owns = owns
  asked_stands cursors (requests.Spawn loc function arg) owns = (owns, tt)
  asked_stands cursors (requests.Join number) owns = owns
  asked_stands cursors (requests.Stop stop) owns = end_by_stands stop owns

  arriving_linked : (cursors : List ℕ) (rest : Behaviour) (units : ℕ) (asked : Asked) → OwnsAll
      → IsLinked (arriving lim cursors rest units asked)
  arriving_linked cursors rest units (Asks begun place request) owns =
      of_if IsLinked (nat_le (units + begun) lim.fuel)
      (standing lim cursors rest (units + begun) true (position_of lim cursors request))
      (record { rest = rest; position = StoreEnded Fuel; units = lim.fuel; began = true; cursors = cursors })
      (standing_linked cursors rest (units + begun) true (position_of lim cursors request)
      (asked_stands cursors request owns)) (tt, kept_owns owns)
  arriving_linked cursors rest units Silent owns = (tt, kept_owns owns)

  -- a thread that was answered, or begins
  pub going_linked : (cursors : List ℕ) (units : ℕ) (rest : Behaviour) → OwnsAll
      → IsLinked (going_on lim cursors units rest)
  going_linked cursors units rest owns = arriving_linked cursors rest units (rest []) owns
