-- Whether a thread may read, write or change a word, and end or trap, as tests.
use Rattle.std.proofs.Common.{◌≡◌, ℕ, ◌==◌, Bool, true, false, not, ◌&&◌, ◌||◌, nat_le, refl, sym, ap, ◌∙◌}
use Rattle.std.proofs.Common.{subst, inl, inr, Some, None}
use Rattle.std.proofs.lemmas.Bool.{and_from, and_parts, true≢false, not-true}
use Rattle.std.specs.Prelude.{is_none}
use Rattle.ds_map.specs.Blocks.{place_starting}
use Rattle.ds_plain.specs.declared.Access.{Access}
use Rattle.ds_plain.specs.declared.Stop.{Stop}
use Rattle.ds_plain.specs.declared.Request.{Request}
use Rattle.ds_plain.specs.declared.Request.TheVariants as requests
use Rattle.ds_plain.specs.Parts.{is_whole, part, with_part, combined}
use Rattle.ds_plain.specs.State.{State, Setting, Phase, Ready, Stopped, Use, Free, Live, Freeing}
use Rattle.ds_plain.specs.Plain.{AsksFor, so_far, request_of, word, Reads, Writes, Exchanges, IsBadJoin, Traps, HasEnd}
use Rattle.ds_plain.specs.Plain.{IsReady, IsStopped, IsLive, IsNotFreeable}
use Rattle.ds_tried.proofs.Tests.{Tells, both, either, not_so, as_good, equal, at_most, holds, held, holding, none_is}
use Rattle.ds_tried.proofs.Tests.{never, always}
use Rattle.ds_tried.proofs.Asked.{asks, asked, AsksWhat, of_free, frees_address}

-- PHASES AND BLOCKS

abbrev pub is_ready : Phase → Bool
is_ready (Ready function argument) = true
is_ready phase = false

pub ready : (phase : Phase) → Tells (is_ready phase) (IsReady phase)
ready (Ready function argument) = always
ready phase = never

abbrev pub is_stopped : Phase → Bool
is_stopped (Stopped stop) = true
is_stopped phase = false

pub stopped : (phase : Phase) → Tells (is_stopped phase) (IsStopped phase)
stopped (Stopped stop) = always
stopped phase = never

abbrev pub is_live : Use → Bool
is_live Live = true
is_live use_ = false

pub live : (u : Use) → Tells (is_live u) (IsLive u)
live Live = always
live u = never

abbrev pub is_free : Use → Bool
is_free Free = true
is_free u = false

pub free : (u : Use) → Tells (is_free u) (u ≡ Free)
free Free = record { so = λ e. refl; true_is = λ h. refl }
free Live = record { so = λ e. absurd (true≢false (sym e)); true_is = λ h. cc h }
free (Freeing thread) = record { so = λ e. absurd (true≢false (sym e)); true_is = λ h. cc h }

abbrev pub is_freed_by : ℕ → Use → Bool
is_freed_by t (Freeing thread) = thread == t
is_freed_by t u = false

abbrev thread_of : ℕ → Use → ℕ
thread_of t (Freeing thread) = thread
thread_of t u = t

pub freed_by : (t : ℕ) (u : Use) → Tells (is_freed_by t u) (u ≡ Freeing t)
freed_by t (Freeing thread) = record {
  so = λ e. ap Freeing ((equal thread t).so e);
  true_is = λ h. (equal thread t).true_is (ap (thread_of t) h);
}
freed_by t Free = record { so = λ e. absurd (true≢false (sym e)); true_is = λ h. cc h }
freed_by t Live = record { so = λ e. absurd (true≢false (sym e)); true_is = λ h. cc h }

abbrev pub is_not_freeable : (t life present : ℕ) → Use → Bool
is_not_freeable t life present Free = true
is_not_freeable t life present Live = not (present == life)
is_not_freeable t life present (Freeing thread) = not (thread == t)

pub not_freeable : (t life present : ℕ) (u : Use)
    → Tells (is_not_freeable t life present u) (IsNotFreeable t life present u)
not_freeable t life present Free = always
not_freeable t life present Live = not_so (equal present life)
not_freeable t life present (Freeing thread) = not_so (equal thread t)

-- WORDS

module _ (setting : Setting) (s : State) (t : ℕ) where
  abbrev pub reading : (loc : ℕ) → Request → Bool
  reading loc (requests.Load access) = access.loc == loc
  reading loc (requests.Cas access expected new) =
      (access.loc == loc) && not (part access (word setting s t loc) == expected)
  reading loc request = false

  reads_there : (loc : ℕ) (r : Request) → AsksFor setting s t r → reading loc r ≡ true → Reads setting s t loc
  reads_there loc (requests.Load access) a e = inl (access, a, (equal access.loc loc).so e)
  reads_there loc (requests.Cas access expected new) a e =
      let h = (both (equal access.loc loc) (not_so (equal (part access (word setting s t loc)) expected))).so e in
      inr (access, expected, new, a, h.0, h.1)
  reads_there loc request a e = absurd (true≢false (sym e))

  reads_back : (loc : ℕ) → Reads setting s t loc → AsksWhat setting s t (reading loc)
  reads_back loc (inl h) = (requests.Load h.0, h.1, (equal h.0.loc loc).true_is h.2)
  reads_back loc (inr h) = (
    requests.Cas h.0 h.1 h.2,
    h.3,
    (both (equal h.0.loc loc) (not_so (equal (part h.0 (word setting s t loc)) h.1))).true_is (h.4, h.5),
  )

  pub reads : (loc : ℕ) → Tells (asks setting s t (reading loc)) (Reads setting s t loc)
  reads loc = asked setting s t (reading loc) (reads_there loc) (reads_back loc)

  abbrev pub storing : (loc value : ℕ) → Request → Bool
  storing loc value (requests.Store access v) = (v == value) && ((access.loc == loc) && is_whole access)
  storing loc value request = false

  abbrev Stores : (loc value : ℕ) → Type 0
  Stores loc value =
      (access : Access) × AsksFor setting s t (requests.Store access value) × (access.loc ≡ loc)
      × (is_whole access ≡ true)

  stores_there : (loc value : ℕ) (r : Request) → AsksFor setting s t r → storing loc value r ≡ true → Stores loc value
  stores_there loc value (requests.Store access v) a e =
      let h = and_parts (v == value) ((access.loc == loc) && is_whole access) e in
      let g = and_parts (access.loc == loc) (is_whole access) h.1 in (
        access,
        subst (λ x. AsksFor setting s t (requests.Store access x)) ((equal v value).so h.0) a,
        (equal access.loc loc).so g.0,
        g.1,
      )
  stores_there loc value request a e = absurd (true≢false (sym e))

  stores_back : (loc value : ℕ) → Stores loc value → AsksWhat setting s t (storing loc value)
  stores_back loc value (access, a, is, w) = (
    requests.Store access value,
    a,
    and_from (value == value) ((access.loc == loc) && is_whole access) ((equal value value).true_is refl)
        (and_from (access.loc == loc) (is_whole access) ((equal access.loc loc).true_is is) w),
  )

  stores : (loc value : ℕ) → Tells (asks setting s t (storing loc value)) (Stores loc value)
  stores loc value = asked setting s t (storing loc value) (stores_there loc value) (stores_back loc value)

  abbrev pub spawning_at : (loc : ℕ) → Request → Bool
  spawning_at loc (requests.Spawn l function arg) = l == loc
  spawning_at loc request = false

  abbrev pub stores_number : (loc value : ℕ) → Bool
  stores_number loc value =
      holds (spawning_at loc) (request_of (s.threads t))
      && (holds (λ n. n == value) (so_far setting s t).spawned && is_none (so_far setting s t).ended)

  abbrev StoresNumber : (loc value : ℕ) → Type 0
  StoresNumber loc value =
      (function : ℕ) × (arg : ℕ) × (request_of (s.threads t) ≡ Some (requests.Spawn loc function arg))
      × ((so_far setting s t).spawned ≡ Some value) × ((so_far setting s t).ended ≡ None)

  spawn_at : (loc : ℕ) (r : Request) → spawning_at loc r ≡ true
      → (function : ℕ) × (arg : ℕ) × (r ≡ requests.Spawn loc function arg)
  spawn_at loc (requests.Spawn l function arg) e =
      (function, arg, ap (λ x. requests.Spawn x function arg) ((equal l loc).so e))
  spawn_at loc request e = absurd (true≢false (sym e))

  number_so : (loc value : ℕ) → stores_number loc value ≡ true → StoresNumber loc value
  number_so loc value e =
      let spawned = (so_far setting s t).spawned in
      let ended = (so_far setting s t).ended in
      let p = and_parts (holds (spawning_at loc) (request_of (s.threads t))) (holds (λ n. n == value) spawned && is_none ended) e in
      let q = and_parts (holds (λ n. n == value) spawned) (is_none ended) p.1 in
      let r = held (spawning_at loc) (request_of (s.threads t)) p.0 in
      let n = held (λ n. n == value) spawned q.0 in
      let w = spawn_at loc r.0 r.2 in
      (w.0, w.1, r.1 ∙ ap Some w.2, n.1 ∙ ap Some ((equal n.0 value).so n.2), (none_is ended).so q.1)

  number_true : (loc value : ℕ) → StoresNumber loc value → stores_number loc value ≡ true
  number_true loc value (function, arg, is, n, none) =
      let spawned = (so_far setting s t).spawned in
      let ended = (so_far setting s t).ended in
      and_from (holds (spawning_at loc) (request_of (s.threads t))) (holds (λ n. n == value) spawned && is_none ended)
      (holding (spawning_at loc) (request_of (s.threads t)) (requests.Spawn loc function arg) is
      ((equal loc loc).true_is refl))
      (and_from (holds (λ n. n == value) spawned) (is_none ended)
      (holding (λ n. n == value) spawned value n ((equal value value).true_is refl)) ((none_is ended).true_is none))

  pub writes : (loc value : ℕ) → Tells (asks setting s t (storing loc value) || stores_number loc value)
      (Writes setting s t loc value)
  writes loc value = either (stores loc value) (record { so = number_so loc value; true_is = number_true loc value })

  abbrev pub exchanging : (loc value : ℕ) → Request → Bool
  exchanging loc value (requests.Store access new) =
      (access.loc == loc) && (not (is_whole access) && (value == with_part access new (word setting s t loc)))
  exchanging loc value (requests.Rmw access op operand) =
      (access.loc == loc)
      && (value == with_part access (combined op access.bits (part access (word setting s t loc)) operand)
      (word setting s t loc))
  exchanging loc value (requests.Cas access expected new) =
      (access.loc == loc)
      && ((part access (word setting s t loc) == expected) && (value == with_part access new (word setting s t loc)))
  exchanging loc value request = false

  not_whole : (access : Access) → Tells (not (is_whole access)) (is_whole access ≡ false)
  not_whole access = record { so = not-true (is_whole access); true_is = λ h. ap not h }

  exchanges_there : (loc value : ℕ) (r : Request) → AsksFor setting s t r → exchanging loc value r ≡ true
      → Exchanges setting s t loc value
  exchanges_there loc value (requests.Store access new) a e =
      let h = (both (equal access.loc loc) (both (not_whole access)
      (equal value (with_part access new (word setting s t loc))))).so e in
      inl (access, new, a, h.0, h.1.0, h.1.1)
  exchanges_there loc value (requests.Rmw access op operand) a e =
      let h = (both (equal access.loc loc) (equal value
      (with_part access (combined op access.bits (part access (word setting s t loc)) operand) (word setting s t loc)))).so e in
      inr (inl (access, op, operand, a, h.0, h.1))
  exchanges_there loc value (requests.Cas access expected new) a e =
      let h = (both (equal access.loc loc) (both (equal (part access (word setting s t loc)) expected)
      (equal value (with_part access new (word setting s t loc))))).so e in
      inr (inr (access, expected, new, a, h.0, h.1.0, h.1.1))
  exchanges_there loc value request a e = absurd (true≢false (sym e))

  exchanges_back : (loc value : ℕ) → Exchanges setting s t loc value → AsksWhat setting s t (exchanging loc value)
  exchanges_back loc value (inl (access, new, a, is, narrow, v)) = (
    requests.Store access new,
    a,
    (both (equal access.loc loc) (both (not_whole access)
        (equal value (with_part access new (word setting s t loc))))).true_is (is, (narrow, v)),
  )
  exchanges_back loc value (inr (inl (access, op, operand, a, is, v))) = (
    requests.Rmw access op operand,
    a,
    (both (equal access.loc loc) (equal value
        (with_part access (combined op access.bits (part access (word setting s t loc)) operand)
        (word setting s t loc)))).true_is (is, v),
  )
  exchanges_back loc value (inr (inr (access, expected, new, a, is, finds, v))) = (
    requests.Cas access expected new,
    a,
    (both (equal access.loc loc) (both (equal (part access (word setting s t loc)) expected)
        (equal value (with_part access new (word setting s t loc))))).true_is (is, (finds, v)),
  )

  pub exchanges : (loc value : ℕ) → Tells (asks setting s t (exchanging loc value)) (Exchanges setting s t loc value)
  exchanges loc value = asked setting s t (exchanging loc value) (exchanges_there loc value) (exchanges_back loc value)

  -- THREADS

  abbrev pub is_bad_join : ℕ → Bool
  is_bad_join number = (number == t) || (nat_le 16 number || nat_le s.given number)

  bad_join : (number : ℕ) → Tells (is_bad_join number) (IsBadJoin setting s t number)
  bad_join number = either (equal number t) (either (at_most 16 number) (at_most s.given number))

  abbrev pub joining : (ℕ → Bool) → Request → Bool
  joining q (requests.Join number) = q number
  joining q request = false

  joins_there : (q : ℕ → Bool) (r : Request) → AsksFor setting s t r → joining q r ≡ true
      → (number : ℕ) × AsksFor setting s t (requests.Join number) × (q number ≡ true)
  joins_there q (requests.Join number) a e = (number, a, e)
  joins_there q request a e = absurd (true≢false (sym e))

  pub joins : (q : ℕ → Bool) → Tells (asks setting s t (joining q))
      ((number : ℕ) × AsksFor setting s t (requests.Join number) × (q number ≡ true))
  joins q = asked setting s t (joining q) (joins_there q) (λ (number, a, e). (requests.Join number, a, e))

  pub joins_number : (n : ℕ) → Tells (asks setting s t (joining (λ m. m == n))) (AsksFor setting s t (requests.Join n))
  joins_number n = as_good
      (λ (m, a, e). subst (λ x. AsksFor setting s t (requests.Join x)) ((equal m n).so e) a)
      (λ a. (n, a, (equal n n).true_is refl))
      (joins (λ m. m == n))

  abbrev pub printing : ℕ → Request → Bool
  printing value (requests.Print v) = v == value
  printing value request = false

  prints_there : (value : ℕ) (r : Request) → AsksFor setting s t r → printing value r ≡ true
      → AsksFor setting s t (requests.Print value)
  prints_there value (requests.Print v) a e = subst (λ x. AsksFor setting s t (requests.Print x)) ((equal v value).so e) a
  prints_there value request a e = absurd (true≢false (sym e))

  pub prints : (value : ℕ) → Tells (asks setting s t (printing value)) (AsksFor setting s t (requests.Print value))
  prints value = asked setting s t (printing value) (prints_there value)
      (λ a. (requests.Print value, a, (equal value value).true_is refl))

  abbrev pub spawning : (ℕ → ℕ → Bool) → Request → Bool
  spawning q (requests.Spawn loc function arg) = q function arg
  spawning q request = false

  spawns_there : (q : ℕ → ℕ → Bool) (r : Request) → AsksFor setting s t r → spawning q r ≡ true
      → (loc : ℕ) × (function : ℕ) × (arg : ℕ) × AsksFor setting s t (requests.Spawn loc function arg)
      × (q function arg ≡ true)
  spawns_there q (requests.Spawn loc function arg) a e = (loc, function, arg, a, e)
  spawns_there q request a e = absurd (true≢false (sym e))

  pub spawns : (q : ℕ → ℕ → Bool) → Tells (asks setting s t (spawning q))
      ((loc : ℕ) × (function : ℕ) × (arg : ℕ) × AsksFor setting s t (requests.Spawn loc function arg)
      × (q function arg ≡ true))
  spawns q = asked setting s t (spawning q) (spawns_there q)
      (λ (loc, function, arg, a, e). (requests.Spawn loc function arg, a, e))

  pub spawns_this : (f x : ℕ) → Tells (asks setting s t (spawning (λ g y. (g == f) && (y == x))))
      ((loc : ℕ) × AsksFor setting s t (requests.Spawn loc f x))
  spawns_this f x = as_good
      (λ (loc, g, y, a, e). let h = (both (equal g f) (equal y x)).so e in (
        loc,
        subst (λ z. AsksFor setting s t (requests.Spawn loc f z)) h.1
            (subst (λ z. AsksFor setting s t (requests.Spawn loc z y)) h.0 a),
      ))
      (λ (loc, a). (loc, f, x, a, (both (equal f f) (equal x x)).true_is (refl, refl)))
      (spawns (λ g y. (g == f) && (y == x)))

  pub spawns_any : Tells (asks setting s t (spawning (λ g y. true)))
      ((loc : ℕ) × (function : ℕ) × (arg : ℕ) × AsksFor setting s t (requests.Spawn loc function arg))
  spawns_any = as_good (λ (loc, g, y, a, e). (loc, g, y, a)) (λ (loc, g, y, a). (loc, g, y, a, refl))
      (spawns (λ g y. true))

  abbrev pub stopping : Request → Bool
  stopping (requests.Stop stop) = true
  stopping request = false

  stops_there : (r : Request) → AsksFor setting s t r → stopping r ≡ true
      → (stop : Stop) × AsksFor setting s t (requests.Stop stop)
  stops_there (requests.Stop stop) a e = (stop, a)
  stops_there request a e = absurd (true≢false (sym e))

  pub has_end : Tells (asks setting s t stopping || holds (λ stop. true) (so_far setting s t).ended) (HasEnd setting s t)
  has_end = either (asked setting s t stopping stops_there (λ (stop, a). (requests.Stop stop, a, refl)))
      (record {
        so = λ e. let h = held (λ stop. true) (so_far setting s t).ended e in (h.0, h.1);
        true_is = λ (stop, is). holding (λ stop. true) (so_far setting s t).ended stop is refl;
      })

  -- TRAPS

  abbrev pub starts_none : ℕ → Bool
  starts_none address = is_none (place_starting setting.lim s.pages address)

  abbrev pub is_refused : ℕ → Bool
  is_refused place =
      is_not_freeable t ((so_far setting s t).lives place) (s.blocks place).life (s.blocks place).state

  refuses : (place : ℕ) → Tells (is_refused place)
      (IsNotFreeable t ((so_far setting s t).lives place) (s.blocks place).life (s.blocks place).state)
  refuses place = not_freeable t ((so_far setting s t).lives place) (s.blocks place).life (s.blocks place).state

  abbrev pub refused_at : ℕ → Bool
  refused_at address = holds is_refused (place_starting setting.lim s.pages address)

  abbrev pub may_trap : Bool
  may_trap =
      asks setting s t (joining is_bad_join)
      || (asks setting s t (of_free setting s t starts_none) || asks setting s t (of_free setting s t refused_at))

  pub traps : Tells may_trap (Traps setting s t)
  traps = either
      (as_good (λ (n, a, e). (n, a, (bad_join n).so e)) (λ (n, a, b). (n, a, (bad_join n).true_is b)) (joins is_bad_join))
      (either
      (as_good
      (λ (address, a, e). (address, a, (none_is (place_starting setting.lim s.pages address)).so e))
      (λ (address, a, is). (address, a, (none_is (place_starting setting.lim s.pages address)).true_is is))
      (frees_address setting s t starts_none))
      (as_good
      (λ (address, a, e). let h = held is_refused (place_starting setting.lim s.pages address) e in
      (address, h.0, a, h.1, (refuses h.0).so h.2))
      (λ (address, place, a, is, r).
      (address, a, holding is_refused (place_starting setting.lim s.pages address) place is ((refuses place).true_is r)))
      (frees_address setting s t refused_at)))
