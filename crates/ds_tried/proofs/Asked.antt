-- Whether a thread asks for something, as a test.
use Rattle.std.proofs.Common.{◌≡◌, ℕ, ◌==◌, Bool, true, false, ◌&&◌, nat_lt, refl, sym, ap, ◌∙◌, subst}
use Rattle.std.proofs.Common.{Some}
use Rattle.std.proofs.lemmas.Bool.{and_from, and_parts, true≢false}
use Rattle.std.specs.Prelude.{is_none}
use Rattle.ds_map.specs.Blocks.{class_of, class_blocks, page_of, index_of, place_starting}
use Rattle.ds_plain.specs.declared.Request.{Request}
use Rattle.ds_plain.specs.declared.Request.TheVariants as requests
use Rattle.ds_plain.specs.State.{State, Setting}
use Rattle.ds_plain.specs.Plain.{AsksFor, so_far, request_of, WantsBlock, IsBlock, Frees}
use Rattle.ds_tried.proofs.Tests.{Tells, both, as_good, equal, less, holds, held, holding, none_is}

module _ (setting : Setting) (s : State) (t : ℕ) where
  -- nothing but what it asks for may come next
  abbrev pub is_open : Bool
  is_open = is_none (so_far setting s t).spawned && is_none (so_far setting s t).ended

  -- it asks for what passes, and may go on with it
  abbrev pub asks : (Request → Bool) → Bool
  asks p = holds p (request_of (s.threads t)) && is_open

  -- what it asks for
  abbrev pub AsksWhat : (Request → Bool) → Type 0
  AsksWhat p = (request : Request) × AsksFor setting s t request × (p request ≡ true)

  pub asks_so : (p : Request → Bool) → asks p ≡ true → AsksWhat p
  asks_so p e =
      let parts = and_parts (holds p (request_of (s.threads t))) is_open e in
      let free = and_parts (is_none (so_far setting s t).spawned) (is_none (so_far setting s t).ended) parts.1 in
      let r = held p (request_of (s.threads t)) parts.0 in (
        r.0,
        record {
          at_hand = r.1;
          not_spawned = (none_is (so_far setting s t).spawned).so free.0;
          not_ended = (none_is (so_far setting s t).ended).so free.1;
        },
        r.2,
      )

  pub asks_true : (p : Request → Bool) → AsksWhat p → asks p ≡ true
  asks_true p (r, a, e) =
      and_from (holds p (request_of (s.threads t))) is_open (holding p (request_of (s.threads t)) r a.at_hand e)
      (and_from (is_none (so_far setting s t).spawned) (is_none (so_far setting s t).ended)
      ((none_is (so_far setting s t).spawned).true_is a.not_spawned)
      ((none_is (so_far setting s t).ended).true_is a.not_ended))

  pub asked : (p : Request → Bool) {P : Type 0} → ((r : Request) → AsksFor setting s t r → p r ≡ true → P)
      → (P → AsksWhat p) → Tells (asks p) P
  asked p there back = record {
    so = λ e. let r = asks_so p e in there r.0 r.1 r.2;
    true_is = λ h. asks_true p (back h);
  }

  -- A MALLOC

  -- a malloc of a class that passes
  abbrev pub of_malloc : (ℕ → Bool) → Request → Bool
  of_malloc q (requests.Malloc bytes) = holds q (class_of bytes)
  of_malloc q request = false

  malloc_there : (q : ℕ → Bool) (r : Request) → AsksFor setting s t r → of_malloc q r ≡ true
      → (class : ℕ) × WantsBlock setting s t class × (q class ≡ true)
  malloc_there q (requests.Malloc bytes) a e =
      let h = held q (class_of bytes) e in (h.0, (bytes, a, h.1), h.2)
  malloc_there q request a e = absurd (true≢false (sym e))

  pub wants : (q : ℕ → Bool) → Tells (asks (of_malloc q)) ((class : ℕ) × WantsBlock setting s t class × (q class ≡ true))
  wants q = asked (of_malloc q) (malloc_there q)
      (λ (class, (bytes, a, is), e). (requests.Malloc bytes, a, holding q (class_of bytes) class is e))

  pub wants_class : (class : ℕ) → Tells (asks (of_malloc (λ c. c == class))) (WantsBlock setting s t class)
  wants_class class = as_good
      (λ (c, w, e). subst (WantsBlock setting s t) ((equal c class).so e) w)
      (λ w. (class, w, (equal class class).true_is refl))
      (wants (λ c. c == class))

  -- the place is that of a block of the class
  abbrev pub is_block : (place class : ℕ) → Bool
  is_block place class =
      nat_lt (page_of place) setting.lim.pages
      && (holds (λ c. c == class) (s.pages (page_of place)) && nat_lt (index_of place) (class_blocks class))

  pub has_class : (page class : ℕ) → Tells (holds (λ c. c == class) (s.pages page)) (s.pages page ≡ Some class)
  has_class page class = record {
    so = λ e. let h = held (λ c. c == class) (s.pages page) e in h.1 ∙ ap Some ((equal h.0 class).so h.2);
    true_is = λ h. holding (λ c. c == class) (s.pages page) class h ((equal class class).true_is refl);
  }

  pub block_is : (place class : ℕ) → Tells (is_block place class) (IsBlock setting s t place class)
  block_is place class = as_good
      (λ (p, (c, i)). record { page = p; class_is = c; index = i })
      (λ b. (b.page, (b.class_is, b.index)))
      (both (less (page_of place) setting.lim.pages)
      (both (has_class (page_of place) class) (less (index_of place) (class_blocks class))))

  -- A NOTE

  abbrev pub of_note : (ℕ → ℕ → Bool) → Request → Bool
  of_note q (requests.Note loc value) = q loc value
  of_note q request = false

  note_there : (q : ℕ → ℕ → Bool) (r : Request) → AsksFor setting s t r → of_note q r ≡ true
      → (loc : ℕ) × (value : ℕ) × AsksFor setting s t (requests.Note loc value) × (q loc value ≡ true)
  note_there q (requests.Note loc value) a e = (loc, value, a, e)
  note_there q request a e = absurd (true≢false (sym e))

  pub notes : (q : ℕ → ℕ → Bool) → Tells (asks (of_note q))
      ((loc : ℕ) × (value : ℕ) × AsksFor setting s t (requests.Note loc value) × (q loc value ≡ true))
  notes q = asked (of_note q) (note_there q) (λ (loc, value, a, e). (requests.Note loc value, a, e))

  -- A FREE

  abbrev pub of_free : (ℕ → Bool) → Request → Bool
  of_free q (requests.Free address) = q address
  of_free q request = false

  free_there : (q : ℕ → Bool) (r : Request) → AsksFor setting s t r → of_free q r ≡ true
      → (address : ℕ) × AsksFor setting s t (requests.Free address) × (q address ≡ true)
  free_there q (requests.Free address) a e = (address, a, e)
  free_there q request a e = absurd (true≢false (sym e))

  pub frees_address : (q : ℕ → Bool) → Tells (asks (of_free q))
      ((address : ℕ) × AsksFor setting s t (requests.Free address) × (q address ≡ true))
  frees_address q = asked (of_free q) (free_there q) (λ (address, a, e). (requests.Free address, a, e))

  -- a free of a block whose place passes
  abbrev pub of_free_at : (ℕ → Bool) → Request → Bool
  of_free_at q = of_free (λ address. holds q (place_starting setting.lim s.pages address))

  pub frees : (q : ℕ → Bool) → Tells (asks (of_free_at q)) ((place : ℕ) × Frees setting s t place × (q place ≡ true))
  frees q = as_good
      (λ (address, a, e). let h = held q (place_starting setting.lim s.pages address) e in (h.0, (address, a, h.1), h.2))
      (λ (place, (address, a, is), e). (address, a, holding q (place_starting setting.lim s.pages address) place is e))
      (frees_address (λ address. holds q (place_starting setting.lim s.pages address)))

  pub frees_place : (place : ℕ) → Tells (asks (of_free_at (λ p. p == place))) (Frees setting s t place)
  frees_place place = as_good
      (λ (p, f, e). subst (Frees setting s t) ((equal p place).so e) f)
      (λ f. (place, f, (equal place place).true_is refl))
      (frees (λ p. p == place))
