-- Why a note ends without an entry.
use Rattle.std.proofs.Common.{◌≡◌, ℕ, ◌-◌, ◌%◌, ◌==◌, Bool, true, false, if◌then◌else◌, Option, Some, None, refl}
use Rattle.std.proofs.Common.{sym, ap, subst, ◌∙◌}
use Rattle.std.specs.Prelude.{◌↔◌}
use Rattle.ds_map.specs.Bounds.{Bounds}
use Rattle.ds_map.specs.Blocks.{page_at, place_in}
use Rattle.ds_entry.specs.Header.{life_in, used_in}
use Rattle.ds_pages.specs.declared.BlockState.{BlockState}
use Rattle.ds_pages.specs.declared.BlockState.TheVariants as states
use Rattle.ds_pages.specs.Words.{is_page_word, class_in, read_state}
use Rattle.ds_step.specs.declared.FullWhat.{FullWhat}
use Rattle.ds_step.specs.declared.FullWhat.TheVariants.{Logs, Hash}
use Rattle.ds_plain.specs.declared.NoteAt.{NoteAt}
use Rattle.ds_plain.specs.declared.NoteAt.TheVariants.{LoadPage, LoadBlock, Seek, StoreLife, StoreEntry, CountEntry}
use Rattle.ds_plain.specs.Freeing.{seen_life}
use Rattle.ds_plain.specs.Listing.{ListNext, ListsOn, Owns, FailsList, list_place, list_life, list_next}
use Rattle.ds_plain.specs.Noting.{NoteNext, NotesOn, HasSkipped, FailsNote, NoPageWord, held_by}
use Rattle.ds_plain.specs.Noting.{behind_held_load, behind_found_load, behind_list, note_next}
use Rattle.ds_list.proofs.Fails.{full_logs as list_full_logs, full_hash as list_full_hash}
use Rattle.ds_log.specs.Walks.{FindsNone, DrawsNone, HasAllUsed, IsInNoLife}

-- PAGES AND BLOCKS

skips_page : (loc value old : ℕ) (b : Bool) (found : Option ℕ)
    → (behind_held_load loc value (if b then held_by old found else NoPageWord) ≡ HasSkipped)
    ↔ ((b ≡ true) × (found ≡ None))
skips_page loc value old true None = ((λ e. (refl, refl)), (λ p. refl))
skips_page loc value old true (Some place) = ((λ e. absurd (cc (e))), (λ p. absurd (cc (p.1))))
skips_page loc value old false found = ((λ e. absurd (cc (e))), (λ p. absurd (cc (p.0))))

full_page : (loc value old : ℕ) (what : FullWhat) (b : Bool) (found : Option ℕ)
    → behind_held_load loc value (if b then held_by old found else NoPageWord) ≡ FailsNote what → ⊥
full_page loc value old what true None e = absurd (cc (e))
full_page loc value old what true (Some place) e = absurd (cc (e))
full_page loc value old what false found e = absurd (cc (e))

skips_block : (loc place start : ℕ) (read : Option (ℕ × BlockState))
    → (behind_found_load loc place start (seen_life read) ≡ HasSkipped) ↔ IsInNoLife read
skips_block loc place start None = ((λ e. absurd (cc (e))), (λ p. absurd p))
skips_block loc place start (Some (life, states.Free)) = ((λ e. tt), (λ p. refl))
skips_block loc place start (Some (life, states.Live)) = ((λ e. absurd (cc (e))), (λ p. absurd p))
skips_block loc place start (Some (life, states.Freeing)) = ((λ e. tt), (λ p. refl))

full_block : (loc place start : ℕ) (what : FullWhat) (read : Option (ℕ × BlockState))
    → behind_found_load loc place start (seen_life read) ≡ FailsNote what → ⊥
full_block loc place start what None e = absurd (cc (e))
full_block loc place start what (Some (life, states.Free)) e = absurd (cc (e))
full_block loc place start what (Some (life, states.Live)) e = absurd (cc (e))
full_block loc place start what (Some (life, states.Freeing)) e = absurd (cc (e))

-- THE LOG

-- what comes of a note that has its own log, by whether its header is of this life
abbrev by_life : (loc place life log used : ℕ) (b : Bool) → NoteNext
by_life loc place life log used b =
    if b then NotesOn (StoreEntry loc place life log used) else NotesOn (StoreLife loc place life log)

skips_not_own : (loc place life log used : ℕ) (b : Bool) → by_life loc place life log used b ≡ HasSkipped → ⊥
skips_not_own loc place life log used true e = absurd (cc (e))
skips_not_own loc place life log used false e = absurd (cc (e))

full_not_own : (loc place life log used : ℕ) (what : FullWhat) (b : Bool)
    → by_life loc place life log used b ≡ FailsNote what → ⊥
full_not_own loc place life log used what true e = absurd (cc (e))
full_not_own loc place life log used what false e = absurd (cc (e))

skips_not_list : (loc place life : ℕ) (next : ListNext) → behind_list loc place life next ≡ HasSkipped → ⊥
skips_not_list loc place life (ListsOn at) e = absurd (cc (e))
skips_not_list loc place life (Owns log header) e =
    skips_not_own loc place life log (used_in header) (life_in header == life) e
skips_not_list loc place life (FailsList what) e = absurd (cc (e))

same_full : (a b : FullWhat) → FailsNote a ≡ FailsNote b → a ≡ b
same_full a b e = cc (e)

-- a table is full for a note exactly where it is for the search of the log
full_list : (loc place life : ℕ) (what : FullWhat) (next : ListNext)
    → (behind_list loc place life next ≡ FailsNote what) ↔ (next ≡ FailsList what)
full_list loc place life what (ListsOn at) = ((λ e. absurd (cc (e))), (λ p. absurd (cc (p))))
full_list loc place life what (Owns log header) = (
  (λ e. absurd (full_not_own loc place life log (used_in header) what (life_in header == life) e)),
  (λ p. absurd (cc (p))),
)
full_list loc place life what (FailsList other) =
    ((λ e. ap (λ w. FailsList w) (same_full other what e)), (λ p. ap (behind_list loc place life) p))

-- BY POSITION

skips_at : (lim : Bounds) (at : NoteAt) (old : ℕ) → (note_next lim at old ≡ HasSkipped) ↔ FindsNone at old
skips_at lim (LoadPage loc value) old =
    skips_page loc value old (is_page_word old) (place_in (page_at value) ((value - 0x1000000) % 4096) (class_in old))
skips_at lim (LoadBlock loc place start) old = skips_block loc place start (read_state old)
skips_at lim (Seek loc at) old =
    ((λ e. skips_not_list loc (list_place at) (list_life at) (list_next lim at old) e), (λ p. absurd p))
skips_at lim (StoreLife loc place life log) old = ((λ e. absurd (cc (e))), (λ p. absurd p))
skips_at lim (StoreEntry loc place life log used) old = ((λ e. absurd (cc (e))), (λ p. absurd p))
skips_at lim (CountEntry loc place life log used) old = ((λ e. absurd (cc (e))), (λ p. absurd p))

logs_at : (lim : Bounds) (at : NoteAt) (old : ℕ) → (note_next lim at old ≡ FailsNote Logs) ↔ DrawsNone lim at old
logs_at lim (LoadPage loc value) old = (
  (λ e. absurd (full_page loc value old Logs (is_page_word old)
      (place_in (page_at value) ((value - 0x1000000) % 4096) (class_in old)) e)),
  (λ p. absurd p),
)
logs_at lim (LoadBlock loc place start) old =
    ((λ e. absurd (full_block loc place start Logs (read_state old) e)), (λ p. absurd p))
logs_at lim (Seek loc at) old =
    let list = full_list loc (list_place at) (list_life at) Logs (list_next lim at old) in
    let cause = list_full_logs lim at old (list_next lim at old) refl in
    ((λ e. cause.0 (list.0 e)), (λ p. list.1 (cause.1 p)))
logs_at lim (StoreLife loc place life log) old = ((λ e. absurd (cc (e))), (λ p. absurd p))
logs_at lim (StoreEntry loc place life log used) old = ((λ e. absurd (cc (e))), (λ p. absurd p))
logs_at lim (CountEntry loc place life log used) old = ((λ e. absurd (cc (e))), (λ p. absurd p))

hash_at : (lim : Bounds) (at : NoteAt) (old : ℕ) → (note_next lim at old ≡ FailsNote Hash) ↔ HasAllUsed at old
hash_at lim (LoadPage loc value) old = (
  (λ e. absurd (full_page loc value old Hash (is_page_word old)
      (place_in (page_at value) ((value - 0x1000000) % 4096) (class_in old)) e)),
  (λ p. absurd p),
)
hash_at lim (LoadBlock loc place start) old =
    ((λ e. absurd (full_block loc place start Hash (read_state old) e)), (λ p. absurd p))
hash_at lim (Seek loc at) old =
    let list = full_list loc (list_place at) (list_life at) Hash (list_next lim at old) in
    let cause = list_full_hash lim at old (list_next lim at old) refl in
    ((λ e. cause.0 (list.0 e)), (λ p. list.1 (cause.1 p)))
hash_at lim (StoreLife loc place life log) old = ((λ e. absurd (cc (e))), (λ p. absurd p))
hash_at lim (StoreEntry loc place life log used) old = ((λ e. absurd (cc (e))), (λ p. absurd p))
hash_at lim (CountEntry loc place life log used) old = ((λ e. absurd (cc (e))), (λ p. absurd p))

-- of what comes next
pub skipped : (lim : Bounds) (at : NoteAt) (old : ℕ) (next : NoteNext) → next ≡ note_next lim at old
    → (next ≡ HasSkipped) ↔ FindsNone at old
skipped lim at old next is =
    subst (λ (n : NoteNext). (n ≡ HasSkipped) ↔ FindsNone at old) (sym is) (skips_at lim at old)

pub full_logs : (lim : Bounds) (at : NoteAt) (old : ℕ) (next : NoteNext) → next ≡ note_next lim at old
    → (next ≡ FailsNote Logs) ↔ DrawsNone lim at old
full_logs lim at old next is =
    subst (λ (n : NoteNext). (n ≡ FailsNote Logs) ↔ DrawsNone lim at old) (sym is) (logs_at lim at old)

pub full_hash : (lim : Bounds) (at : NoteAt) (old : ℕ) (next : NoteNext) → next ≡ note_next lim at old
    → (next ≡ FailsNote Hash) ↔ HasAllUsed at old
full_hash lim at old next is =
    subst (λ (n : NoteNext). (n ≡ FailsNote Hash) ↔ HasAllUsed at old) (sym is) (hash_at lim at old)
