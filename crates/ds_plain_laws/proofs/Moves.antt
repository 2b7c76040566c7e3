-- What a step does to words, state and threads, the words by which threads are started among them; and that each step
-- of a thread that runs, and starts none, leaves these as they are.
use Rattle.std.proofs.Common.{◌≡◌, ℕ, ◌+◌, ◌<◌, ◌≤◌, Bool, true, false, nat_lt, nat_le, List, [], Option, Some, None}
use Rattle.std.proofs.Common.{length, slice_index, slice_set, refl, sym, ap, ◌∙◌, inl, inr, ◌⊎◌, arith}
use Rattle.std.proofs.lemmas.List.{get_or-set_other, set-get_or}
use Rattle.ds_map.specs.Bounds.{Bounds}
use Rattle.ds_map.specs.Blocks.{class_of}
use Rattle.ds_step.specs.declared.WordOp.{WordOp}
use Rattle.ds_step.specs.declared.Event.{Event}
use Rattle.ds_step.specs.Word.{words_after}
use Rattle.ds_plain.specs.declared.Stop.{Stop}
use Rattle.ds_plain.specs.declared.Stop.TheVariants.{Idle, Running, Returned, Trap, Full, Fuel}
use Rattle.ds_plain.specs.declared.Request.{Request}
use Rattle.ds_plain.specs.declared.Request.TheVariants as requests
use Rattle.ds_plain.specs.declared.AccessAt.{AccessAt}
use Rattle.ds_plain.specs.declared.AccessAt.TheVariants.{LoadWord, StoreWord, CombineWord, ReplaceWord, LoadPart}
use Rattle.ds_plain.specs.declared.AccessAt.TheVariants.{SwapPart}
use Rattle.ds_plain.specs.declared.NoteAt.TheVariants as notes
use Rattle.ds_plain.specs.declared.FreeAt.TheVariants as frees
use Rattle.ds_plain.specs.declared.SpawnAt.TheVariants.{DrawThread, StoreNumber, StoreFunction, StoreArgument}
use Rattle.ds_plain.specs.declared.SpawnAt.TheVariants.{OpenThread}
use Rattle.ds_plain.specs.declared.JoinAt.TheVariants.{LoadGiven, LoadEnded}
use Rattle.ds_plain.specs.declared.Position.{Position}
use Rattle.ds_plain.specs.declared.Position.TheVariants.{Start, Malloc, Note, Free, Spawn, Join}
use Rattle.ds_plain.specs.declared.Position.TheVariants.{DrawPrint, StoreEnded, Over, NoRow}
use Rattle.ds_plain.specs.declared.Position.TheVariants as positions
use Rattle.ds_plain.specs.Behaviour.{Asked, Asks, Silent, Behaviour, Program}
use Rattle.ds_plain.specs.State.{State, Setting, replaced}
use Rattle.ds_plain.specs.Plain.{Allowed}
use Rattle.ds_plain.specs.Noting.{is_notable}
use Rattle.ds_plain.specs.Freeing.{is_freeable}
use Rattle.ds_plain.specs.Table.{looking_for, position_of, end_by}
use Rattle.ds_plain.specs.Thread.{Thread, paying, standing, arriving, going_on}
use Rattle.ds_plain.specs.History.{is_log}
use Rattle.ds_plain.specs.Explained.{Agrees}
use Rattle.ds_plain_laws.proofs.Choices.{of_if}
use Rattle.ds_plain_laws.proofs.Phases.{MayPass, passes_may, Goes, goes_run}
use Rattle.ds_plain_laws.proofs.Leaving.{Leaves}
use Rattle.ds_plain_laws.proofs.Links.{Finishes, Trapped, Spent, Never, Linked, IsLinked, note_runs}
use Rattle.ds_plain_laws.proofs.Makes.{Makes, Before}
use Rattle.ds_plain_laws.proofs.Seats.{IsSeated, Seats, seats_by}
use Rattle.ds_plain_laws.proofs.Seating.{running_step}

-- A step of thread t, with its operation and its event, on these words and from one state to another: the event is
-- allowed, and words, state, threads and seats go together afterwards.
pub record Moves (setting : Setting) (t : ℕ) (words : List ℕ) (s : State) (threads : ℕ → Thread) (op : WordOp)
    (event : Event) (s' : State) (a : Thread) : Type 0 where
  pub allowed : is_log event ≡ false → Allowed setting s t event
  pub linked : IsLinked setting.program setting.lim t s' a
  pub others : (u : ℕ) → (t ≡ u → ⊥) → MayPass (s.threads u) (s'.threads u)
  pub leaves : Leaves t s s'
  pub agrees : Agrees setting.lim (words_after words op) s'
  pub prints : length s'.out ≤ length s.out + 1
  pub given : s'.given ≤ s.given + 1
  pub maker : ℕ → ℕ
  pub seats : Seats (words_after words op) s' (replaced threads t a) maker

-- WORDS THAT STAY

-- the word counts the threads, or starts one
abbrev pub IsOfThreads : (word : ℕ) → Type 0
IsOfThreads word = (word ≡ 1) ⊎ ((16 ≤ word) × (word < 64))

-- the operation is on none of these
abbrev pub IsApart : WordOp → Type 0
IsApart op = ((1 < op.word) × (op.word < 16)) ⊎ (64 ≤ op.word)

pub apart_kept : (words : List ℕ) (op : WordOp) (i : ℕ) → IsApart op → IsOfThreads i
    → slice_index (words_after words op) i ≡ slice_index words i
apart_kept words op i (inl few) (inl one) = get_or-set_other words op.word i _ 0 (λ e. omega (arith, e, few.0, one))
apart_kept words op i (inl few) (inr of) = get_or-set_other words op.word i _ 0 (λ e. omega (arith, e, few.1, of.0))
apart_kept words op i (inr le) (inl one) = get_or-set_other words op.word i _ 0 (λ e. omega (arith, e, le, one))
apart_kept words op i (inr le) (inr of) = get_or-set_other words op.word i _ 0 (λ e. omega (arith, e, le, of.1))

-- a load leaves all words
pub load_kept : (words : List ℕ) (word i : ℕ)
    → slice_index (slice_set words word (slice_index words word)) i ≡ slice_index words i
load_kept words word i = ap (λ (ws : List ℕ). slice_index ws i) (set-get_or words word 0)

-- WHERE A THREAD LANDS

-- a thread that runs and starts none may stand there
abbrev pub IsQuiet : Position → Type 0
IsQuiet (Start at) = ⊥
IsQuiet (positions.Access at) = Unit {0}
IsQuiet (Malloc at) = Unit {0}
IsQuiet (Note at) = Unit {0}
IsQuiet (Free at) = Unit {0}
IsQuiet (Spawn (DrawThread loc function arg)) = Unit {0}
IsQuiet (Spawn (StoreNumber n loc function arg)) = ⊥
IsQuiet (Spawn (StoreFunction n function arg)) = ⊥
IsQuiet (Spawn (StoreArgument n arg)) = ⊥
IsQuiet (Spawn (OpenThread n)) = ⊥
IsQuiet (Join at) = Unit {0}
IsQuiet (DrawPrint value) = Unit {0}
IsQuiet (StoreEnded stop) = Unit {0}
IsQuiet (Over stop) = ⊥
IsQuiet NoRow = Unit {0}

pub record Lands (a : Thread) : Type 0 where
  pub begun : a.began ≡ true
  pub quiet : IsQuiet a.position

module _ (lim : Bounds) (cursors : List ℕ) where
  paying_lands : (rest : Behaviour) (units : ℕ) (began : Bool) (p : Position) → began ≡ true → IsQuiet p
      → Lands (paying lim cursors rest units began p)
  paying_lands rest units began p b quiet =
      of_if Lands (nat_lt units lim.fuel)
      (record { rest = rest; position = p; units = units; began = began; cursors = cursors })
      (record { rest = rest; position = StoreEnded Fuel; units = units; began = began; cursors = cursors })
      (record { begun = b; quiet = quiet }) (record { begun = b; quiet = tt })

  pub standing_lands : (rest : Behaviour) (units : ℕ) (began : Bool) (p : Position) → began ≡ true → IsQuiet p
      → Lands (standing lim cursors rest units began p)
  standing_lands rest units began (Start at) b quiet = absurd quiet
  standing_lands rest units began (positions.Access at) b quiet =
      paying_lands rest units began (positions.Access at) b quiet
  standing_lands rest units began (Malloc at) b quiet = paying_lands rest units began (Malloc at) b quiet
  standing_lands rest units began (Note at) b quiet = paying_lands rest units began (Note at) b quiet
  standing_lands rest units began (Free at) b quiet = paying_lands rest units began (Free at) b quiet
  standing_lands rest units began (Spawn at) b quiet = paying_lands rest units began (Spawn at) b quiet
  standing_lands rest units began (Join at) b quiet = paying_lands rest units began (Join at) b quiet
  standing_lands rest units began (DrawPrint value) b quiet = paying_lands rest units began (DrawPrint value) b quiet
  standing_lands rest units began (StoreEnded stop) b quiet = record { begun = b; quiet = tt }
  standing_lands rest units began (Over stop) b quiet = absurd quiet
  standing_lands rest units began NoRow b quiet = paying_lands rest units began NoRow b quiet

  stop_quiet : (stop : Stop) → IsQuiet (end_by stop)
  stop_quiet Idle = tt
  stop_quiet Running = tt
  stop_quiet (Returned value) = tt
  stop_quiet (Trap trap) = tt
  stop_quiet (Full place what) = tt
  stop_quiet Fuel = tt

  looking_quiet : (class : Option ℕ) → IsQuiet (looking_for cursors class)
  looking_quiet None = tt
  looking_quiet (Some class) = tt

  request_quiet : (request : Request) → IsQuiet (position_of lim cursors request)
  request_quiet (requests.Load access) = tt
  request_quiet (requests.Store access value) = tt
  request_quiet (requests.Rmw access op value) = tt
  request_quiet (requests.Cas access expected new) = tt
  request_quiet (requests.Malloc bytes) = looking_quiet (class_of bytes)
  request_quiet (requests.Free address) = of_if IsQuiet (is_freeable lim address) (Free (frees.LoadPage address)) NoRow tt tt
  request_quiet (requests.Note loc value) =
      of_if IsQuiet (is_notable lim loc value) (Note (notes.LoadPage loc value)) NoRow tt tt
  request_quiet (requests.Print value) = tt
  request_quiet (requests.Spawn loc function arg) = tt
  request_quiet (requests.Join number) = tt
  request_quiet (requests.Stop stop) = stop_quiet stop

  arriving_lands : (rest : Behaviour) (units : ℕ) (asked : Asked) → Lands (arriving lim cursors rest units asked)
  arriving_lands rest units (Asks begun place request) =
      of_if Lands (nat_le (units + begun) lim.fuel)
      (standing lim cursors rest (units + begun) true (position_of lim cursors request))
      (record { rest = rest; position = StoreEnded Fuel; units = lim.fuel; began = true; cursors = cursors })
      (standing_lands rest (units + begun) true (position_of lim cursors request) refl (request_quiet request))
      (record { begun = refl; quiet = tt })
  arriving_lands rest units Silent = record { begun = refl; quiet = tt }

  pub going_lands : (units : ℕ) (rest : Behaviour) → Lands (going_on lim cursors units rest)
  going_lands units rest = arriving_lands rest units (rest [])

-- a thread that comes to its request does not stand in the midst of a wait
abbrev pub WaitsNot : Position → Type 0
WaitsNot p = (n : ℕ) → p ≡ Join (LoadEnded n) → ⊥

module _ (lim : Bounds) (cursors : List ℕ) where
  request_not : (request : Request) → WaitsNot (position_of lim cursors request)
  request_not (requests.Load access) = λ n is. cc
  request_not (requests.Store access value) = λ n is. cc
  request_not (requests.Rmw access op value) = λ n is. cc
  request_not (requests.Cas access expected new) = λ n is. cc
  request_not (requests.Malloc bytes) = looking_not (class_of bytes)
    where
      looking_not : (class : Option ℕ) → WaitsNot (looking_for cursors class)
      looking_not None = λ n is. cc
      looking_not (Some class) = λ n is. cc
  request_not (requests.Free address) =
      of_if WaitsNot (is_freeable lim address) (Free (frees.LoadPage address)) NoRow (λ n is. cc) (λ n is. cc)
  request_not (requests.Note loc value) =
      of_if WaitsNot (is_notable lim loc value) (Note (notes.LoadPage loc value)) NoRow (λ n is. cc) (λ n is. cc)
  request_not (requests.Print value) = λ n is. cc
  request_not (requests.Spawn loc function arg) = λ n is. cc
  request_not (requests.Join number) = λ n is. cc
  request_not (requests.Stop stop) = stop_not stop
    where
      stop_not : (stop : Stop) → WaitsNot (end_by stop)
      stop_not Idle = λ n is. cc
      stop_not Running = λ n is. cc
      stop_not (Returned value) = λ n is. cc
      stop_not (Trap trap) = λ n is. cc
      stop_not (Full place what) = λ n is. cc
      stop_not Fuel = λ n is. cc

  paying_not : (rest : Behaviour) (units : ℕ) (began : Bool) (p : Position) → WaitsNot p
      → WaitsNot (paying lim cursors rest units began p).position
  paying_not rest units began p waits =
      of_if (λ (a : Thread). WaitsNot a.position) (nat_lt units lim.fuel)
      (record { rest = rest; position = p; units = units; began = began; cursors = cursors })
      (record { rest = rest; position = StoreEnded Fuel; units = units; began = began; cursors = cursors })
      waits (λ n is. cc)

  pub standing_not : (rest : Behaviour) (units : ℕ) (began : Bool) (p : Position) → WaitsNot p
      → WaitsNot (standing lim cursors rest units began p).position
  standing_not rest units began (Start at) waits = paying_not rest units began (Start at) waits
  standing_not rest units began (positions.Access at) waits =
      paying_not rest units began (positions.Access at) waits
  standing_not rest units began (Malloc at) waits = paying_not rest units began (Malloc at) waits
  standing_not rest units began (Note at) waits = paying_not rest units began (Note at) waits
  standing_not rest units began (Free at) waits = paying_not rest units began (Free at) waits
  standing_not rest units began (Spawn at) waits = paying_not rest units began (Spawn at) waits
  standing_not rest units began (Join at) waits = paying_not rest units began (Join at) waits
  standing_not rest units began (DrawPrint value) waits = paying_not rest units began (DrawPrint value) waits
  standing_not rest units began (StoreEnded stop) waits = waits
  standing_not rest units began (Over stop) waits = waits
  standing_not rest units began NoRow waits = paying_not rest units began NoRow waits

  arriving_not : (rest : Behaviour) (units : ℕ) (asked : Asked)
      → WaitsNot (arriving lim cursors rest units asked).position
  arriving_not rest units (Asks begun place request) =
      of_if (λ (a : Thread). WaitsNot a.position) (nat_le (units + begun) lim.fuel)
      (standing lim cursors rest (units + begun) true (position_of lim cursors request))
      (record { rest = rest; position = StoreEnded Fuel; units = lim.fuel; began = true; cursors = cursors })
      (standing_not rest (units + begun) true (position_of lim cursors request) (request_not request))
      (λ n is. cc)
  arriving_not rest units Silent = λ n is. cc

  pub going_not : (units : ℕ) (rest : Behaviour) → WaitsNot (going_on lim cursors units rest).position
  going_not units rest = arriving_not rest units (rest [])

pub going_no_wait : (lim : Bounds) (cursors : List ℕ) (units : ℕ) (rest : Behaviour) {P : Type 0} (n : ℕ)
    → (going_on lim cursors units rest).position ≡ Join (LoadEnded n) → P
going_no_wait lim cursors units rest n is = absurd (going_not lim cursors units rest n is)

-- it runs there
pub lands_goes : (program : Program) (lim : Bounds) (t : ℕ) (rest : Behaviour) (began : Bool) (s : State) (p : Position)
    → began ≡ true → IsQuiet p → Linked program lim t rest began s p → Goes (s.threads t)
lands_goes program lim t rest began s (Start at) b quiet l = absurd quiet
lands_goes program lim t rest began s (positions.Access at) b quiet l = access_goes at l
  where
    access_goes : (at : AccessAt) → Linked program lim t rest began s (positions.Access at) → Goes (s.threads t)
    access_goes (LoadWord loc) l = goes_run rest (s.threads t) l.2.runs
    access_goes (StoreWord loc value) l = goes_run rest (s.threads t) l.3.runs
    access_goes (CombineWord loc op value) l = goes_run rest (s.threads t) l.3.runs
    access_goes (ReplaceWord loc expected new) l = goes_run rest (s.threads t) l.3.runs
    access_goes (LoadPart access change) l = goes_run rest (s.threads t) l.asking.runs
    access_goes (SwapPart access change seen) l = goes_run rest (s.threads t) l.0.asking.runs
lands_goes program lim t rest began s (Malloc at) b quiet l = goes_run rest (s.threads t) l.asking.runs
lands_goes program lim t rest began s (Note at) b quiet l =
    goes_run rest (s.threads t) (note_runs lim rest began s.pages (s.threads t) at l.0)
lands_goes program lim t rest began s (Free (frees.LoadPage address)) b quiet l =
    goes_run rest (s.threads t) l.0.asking.runs
lands_goes program lim t rest began s (Free (frees.LoadBlock address place)) b quiet l =
    goes_run rest (s.threads t) l.0.0.asking.runs
lands_goes program lim t rest began s (Free (frees.SwapBlock address place life)) b quiet l =
    goes_run rest (s.threads t) l.0.0.asks.asking.runs
lands_goes program lim t rest began s (Free (frees.StoreFree place life)) b quiet l =
    goes_run rest (s.threads t) l.0.1.asking.runs
lands_goes program lim t rest began s (Spawn (DrawThread loc function arg)) b quiet l =
    goes_run rest (s.threads t) l.1.runs
lands_goes program lim t rest began s (Spawn (StoreNumber n loc function arg)) b quiet l = absurd quiet
lands_goes program lim t rest began s (Spawn (StoreFunction n function arg)) b quiet l = absurd quiet
lands_goes program lim t rest began s (Spawn (StoreArgument n arg)) b quiet l = absurd quiet
lands_goes program lim t rest began s (Spawn (OpenThread n)) b quiet l = absurd quiet
lands_goes program lim t rest began s (Join (LoadGiven number)) b quiet l = goes_run rest (s.threads t) l.1.runs
lands_goes program lim t rest began s (Join (LoadEnded n)) b quiet l = goes_run rest (s.threads t) l.1.runs
lands_goes program lim t rest began s (DrawPrint value) b quiet l = goes_run rest (s.threads t) l.runs
lands_goes program lim t rest began s (StoreEnded stop) b quiet (Finishes b' asking) =
    goes_run rest (s.threads t) asking.runs
lands_goes program lim t rest began s (StoreEnded stop) b quiet (Trapped b' halts) =
    record { rest = rest; doing = halts.doing; going = halts.going }
lands_goes program lim t rest began s (StoreEnded stop) b quiet (Spent b' goes fuel) = goes
lands_goes program lim t rest began s (StoreEnded stop) b quiet (Never b' waiting fuel) =
    let bad : true ≡ false = sym b ∙ b' in absurd (cc (bad))
lands_goes program lim t rest began s (Over stop) b quiet l = absurd quiet
lands_goes program lim t rest began s NoRow b quiet l = goes_run rest (s.threads t) l.1.runs

-- but for the wait for another thread, the words say nothing to it there
pub quiet_seated : (words : List ℕ) (s : State) (maker : ℕ → ℕ) (u : ℕ) (p : Position) → IsQuiet p
    → ((n : ℕ) → p ≡ Join (LoadEnded n) → (n < 16) × (n < s.given)) → IsSeated words s maker u p
quiet_seated words s maker u (Start at) quiet waits = absurd quiet
quiet_seated words s maker u (positions.Access at) quiet waits = tt
quiet_seated words s maker u (Malloc at) quiet waits = tt
quiet_seated words s maker u (Note at) quiet waits = tt
quiet_seated words s maker u (Free at) quiet waits = tt
quiet_seated words s maker u (Spawn (DrawThread loc function arg)) quiet waits = tt
quiet_seated words s maker u (Spawn (StoreNumber n loc function arg)) quiet waits = absurd quiet
quiet_seated words s maker u (Spawn (StoreFunction n function arg)) quiet waits = absurd quiet
quiet_seated words s maker u (Spawn (StoreArgument n arg)) quiet waits = absurd quiet
quiet_seated words s maker u (Spawn (OpenThread n)) quiet waits = absurd quiet
quiet_seated words s maker u (Join (LoadGiven number)) quiet waits = tt
quiet_seated words s maker u (Join (LoadEnded n)) quiet waits = waits n refl
quiet_seated words s maker u (DrawPrint value) quiet waits = tt
quiet_seated words s maker u (StoreEnded stop) quiet waits = tt
quiet_seated words s maker u (Over stop) quiet waits = absurd quiet
quiet_seated words s maker u NoRow quiet waits = tt

-- STEPS OF A THREAD THAT RUNS AND STARTS NONE

-- such a step, where the words of the threads stay
module _ (setting : Setting) (t : ℕ) (words : List ℕ) (s : State) (threads : ℕ → Thread) (maker : ℕ → ℕ)
    (before : Before setting words s) (seats : Seats words s threads maker) (few : t < 16) (op : WordOp) (event : Event)
    (s' : State) (a : Thread) where
  pub quiet_moves : Makes setting t words s op event s' a
      → ((i : ℕ) → IsOfThreads i → slice_index (words_after words op) i ≡ slice_index words i)
      → Goes (s.threads t) → Lands a → IsSeated (words_after words op) s' maker t a.position
      → Moves setting t words s threads op event s' a
  quiet_moves makes kept goes lands here =
      let given : s'.given ≡ s.given =
      sym makes.agrees.given ∙ (kept 1 (inl refl) ∙ before.agrees.given) in
      record {
        allowed = makes.allowed;
        linked = makes.linked;
        others = λ u ne. passes_may (s.threads u) (s'.threads u) (makes.others u ne);
        leaves = makes.leaves;
        agrees = makes.agrees;
        prints = makes.prints;
        given = omega (arith, given);
        maker = maker;
        seats = seats_by t words (words_after words op) s s' threads maker maker a
            (running_step t words (words_after words op) s s' threads maker a seats
            (λ i least lt. kept i (inr (least, lt))) (omega (arith, given)) makes.others few goes
            (lands_goes setting.program setting.lim t a.rest a.began s' a.position lands.begun lands.quiet
            makes.linked.stands) (λ _. here)) seats;
      }
