-- What the logs hold, as their words say it.
use Rattle.std.specs.Prelude.{ℕ, zero, suc, ◌==◌, if◌then◌else◌, List, [], ◌++◌, slice_index}
use Rattle.ds_map.specs.Bounds.{Bounds}
use Rattle.ds_entry.specs.Entry.{locations_of}
use Rattle.ds_entry.specs.Header.{life_in, used_in}
use Rattle.ds_plain.specs.Listing.{home_word, header_word, entry_word}

-- the locations that the first entries of a log hold, so many of them, in their order
abbrev pub entries_hold : Bounds → List ℕ → (log used : ℕ) → List ℕ
entries_hold lim words log zero = []
entries_hold lim words log (suc n) =
    entries_hold lim words log n ++ locations_of (slice_index words (entry_word lim log n))

-- what a log holds for a life, by its header: the locations in its used entries, or none where these are about another
-- life
abbrev pub log_holds : Bounds → List ℕ → (life log header : ℕ) → List ℕ
log_holds lim words life log header =
    if life_in header == life then entries_hold lim words log (used_in header) else []

-- what the log holds that a home word names, if it names one
abbrev pub home_holds : Bounds → List ℕ → (life home : ℕ) → List ℕ
home_holds lim words life zero = []
home_holds lim words life (suc log) = log_holds lim words life log (slice_index words (header_word lim log))

-- the locations that are logged by thread t for this life of the block at a place
abbrev pub logged : Bounds → List ℕ → (place life t : ℕ) → List ℕ
logged lim words place life t = home_holds lim words life (slice_index words (home_word lim t place))
