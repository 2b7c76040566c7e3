-- What is kept as a thread goes on: what it has spent is what it has paid and the instructions that began since.
use Rattle.std.proofs.Common.{◌≡◌, ◌↔◌, ℕ, ◌+◌, ◌<◌, ◌≤◌, Bool, true, false, if◌then◌else◌, nat_lt, nat_le, List, []}
use Rattle.std.proofs.Common.{Option, Some, None, refl, sym, ap, ◌∙◌, subst, arith}
use Rattle.std.proofs.lemmas.Bool.Decides.{nat_tests}
use Rattle.ds_map.specs.Bounds.{Bounds}
use Rattle.ds_map.specs.Blocks.{class_of}
use Rattle.ds_plain.specs.declared.Stop.{Stop}
use Rattle.ds_plain.specs.declared.Stop.TheVariants.{Idle, Running, Returned, Trap, Full, Fuel}
use Rattle.ds_plain.specs.declared.Request.{Request}
use Rattle.ds_plain.specs.declared.Request.TheVariants as requests
use Rattle.ds_plain.specs.declared.NoteAt.TheVariants as notes
use Rattle.ds_plain.specs.declared.FreeAt.TheVariants as frees
use Rattle.ds_plain.specs.declared.Position.{Position}
use Rattle.ds_plain.specs.declared.Position.TheVariants.{Start, Access, Malloc, Note, Free, Spawn, Join}
use Rattle.ds_plain.specs.declared.Position.TheVariants.{DrawPrint, StoreEnded, Over, NoRow}
use Rattle.ds_plain.specs.Behaviour.{Asked, Asks, Silent, Behaviour}
use Rattle.ds_plain.specs.Noting.{is_notable}
use Rattle.ds_plain.specs.Freeing.{is_freeable}
use Rattle.ds_plain.specs.Table.{end_by, looking_for, position_of}
use Rattle.ds_plain.specs.Thread.{Thread, paying, standing, arriving, going_on}
use Rattle.ds_fuel_laws.specs.Fuel.{step_cost, ComesTo, StepsOn, Fails, price_of, Exceeds, and_paid, Account}

-- what holds of both answers of a test, where the test gives them, holds of the answer
pub of_test : {A : Type 0} (P : A → Type 0) (b : Bool) (x y : A) → (b ≡ true → P x) → (b ≡ false → P y)
    → P (if b then x else y)
of_test P true x y p q = p refl
of_test P false x y p q = q refl

-- a thread that makes a step which its fuel pays for, and whose price is paid by it but for one unit
pub record Due (lim : Bounds) (account : Account) (units : ℕ) : Type 0 where
  pub cost : ℕ
  pub priced : price_of account.next ≡ Some cost
  pub sum : account.paid + cost ≡ units + 1
  pub left : units < lim.fuel

-- a thread that ends with this stop
pub record Ends (lim : Bounds) (account : Account) (units : ℕ) (stop : Stop) : Type 0 where
  pub exactly : (stop ≡ Fuel) ↔ Exceeds lim.fuel account.paid (price_of account.next)
  pub all_spent : stop ≡ Fuel → units ≡ lim.fuel
  pub as_asked : (stop ≡ Fuel → ⊥) → units ≡ and_paid account.paid (price_of account.next)
  pub within : units ≤ lim.fuel

-- a thread that stands at this position
abbrev pub Keeps : Bounds → Account → (units : ℕ) → Position → Type 0
Keeps lim account units (Start at) = Due lim account units
Keeps lim account units (Access at) = Due lim account units
Keeps lim account units (Malloc at) = Due lim account units
Keeps lim account units (Note at) = Due lim account units
Keeps lim account units (Free at) = Due lim account units
Keeps lim account units (Spawn at) = Due lim account units
Keeps lim account units (Join at) = Due lim account units
Keeps lim account units (DrawPrint value) = Due lim account units
Keeps lim account units (StoreEnded stop) = Ends lim account units stop
Keeps lim account units (Over stop) = Ends lim account units stop
Keeps lim account units NoRow = Due lim account units

abbrev pub IsKept : Bounds → Account → Thread → Type 0
IsKept lim account a = Keeps lim account a.units a.position

-- STEPS THAT A THREAD COMES TO

-- the thread may ask for what is done at this position, for so much: it asks for no stop Fuel
abbrev pub MayAsk : (cost : ℕ) → Position → Type 0
MayAsk cost (Start at) = cost ≡ 1
MayAsk cost (Access at) = cost ≡ 1
MayAsk cost (Malloc at) = cost ≡ 1
MayAsk cost (Note at) = cost ≡ 1
MayAsk cost (Free at) = cost ≡ 1
MayAsk cost (Spawn at) = cost ≡ 1
MayAsk cost (Join at) = cost ≡ 1
MayAsk cost (DrawPrint value) = cost ≡ 1
MayAsk cost (StoreEnded stop) = (cost ≡ 0) × (stop ≡ Fuel → ⊥)
MayAsk cost (Over stop) = (cost ≡ 0) × (stop ≡ Fuel → ⊥)
MayAsk cost NoRow = cost ≡ 1

end_by_asked : (stop : Stop) → MayAsk (step_cost (requests.Stop stop)) (end_by stop)
end_by_asked Idle = refl
end_by_asked Running = refl
end_by_asked (Returned value) = (refl, λ e. cc)
end_by_asked (Trap trap) = (refl, λ e. cc)
end_by_asked (Full place what) = refl
end_by_asked Fuel = refl

looking_asked : (cursors : List ℕ) (class : Option ℕ) → MayAsk 1 (looking_for cursors class)
looking_asked cursors None = refl
looking_asked cursors (Some class) = refl

asked_for : (lim : Bounds) (cursors : List ℕ) (request : Request)
    → MayAsk (step_cost request) (position_of lim cursors request)
asked_for lim cursors (requests.Load access) = refl
asked_for lim cursors (requests.Store access value) = refl
asked_for lim cursors (requests.Rmw access op value) = refl
asked_for lim cursors (requests.Cas access expected new) = refl
asked_for lim cursors (requests.Malloc bytes) = looking_asked cursors (class_of bytes)
asked_for lim cursors (requests.Free address) =
    of_test (MayAsk 1) (is_freeable lim address) (Free (frees.LoadPage address)) NoRow (λ e. refl) (λ e. refl)
asked_for lim cursors (requests.Note loc value) =
    of_test (MayAsk 1) (is_notable lim loc value) (Note (notes.LoadPage loc value)) NoRow (λ e. refl) (λ e. refl)
asked_for lim cursors (requests.Print value) = refl
asked_for lim cursors (requests.Spawn loc function arg) = refl
asked_for lim cursors (requests.Join number) = refl
asked_for lim cursors (requests.Stop stop) = end_by_asked stop

-- WHERE A THREAD COMES TO

module _ (lim : Bounds) (cursors : List ℕ) (rest : Behaviour) (account : Account) where
  -- a thread that can't pay, and has spent all
  short : (units : ℕ) → units ≡ lim.fuel → Exceeds lim.fuel account.paid (price_of account.next)
      → Ends lim account units Fuel
  short units all exceeds = record {
    exactly = (λ e. exceeds, λ e. refl);
    all_spent = λ e. all;
    as_asked = λ ne. absurd (ne refl);
    within = omega (arith, all);
  }

  -- a thread that ends with a stop that it asked for, or with which what it asked for failed
  stopping : (units : ℕ) (stop : Stop) (cost : ℕ) → (stop ≡ Fuel → ⊥) → price_of account.next ≡ Some cost
      → units ≡ account.paid + cost → units ≤ lim.fuel → Ends lim account units stop
  stopping units stop cost asked priced sum le = record {
    exactly = (
      λ e. absurd (asked e),
      λ exceeds. absurd (too_few (subst (Exceeds lim.fuel account.paid) priced exceeds)),
    );
    all_spent = λ e. absurd (asked e);
    as_asked = λ ne. sum ∙ sym (ap (and_paid account.paid) priced);
    within = le;
  }
    where
      too_few : lim.fuel < account.paid + cost → ⊥
      too_few lt = omega (arith, lt, sum, le)

  -- a thread that comes to a step which costs one unit
  paying_keeps : (units : ℕ) (began : Bool) (p : Position) (cost : ℕ) → price_of account.next ≡ Some cost
      → account.paid + cost ≡ units + 1 → units ≤ lim.fuel → (Due lim account units → Keeps lim account units p)
      → IsKept lim account (paying lim cursors rest units began p)
  paying_keeps units began p cost priced sum le here =
      of_test (IsKept lim account) (nat_lt units lim.fuel)
      (record { rest = rest; position = p; units = units; began = began; cursors = cursors })
      (record { rest = rest; position = StoreEnded Fuel; units = units; began = began; cursors = cursors })
      (λ e. let left : units < lim.fuel = grind (arith, nat_tests, e) in
      here (record { cost = cost; priced = priced; sum = sum; left = left }))
      (λ e. let all : units ≡ lim.fuel = grind (arith, nat_tests, e, le) in
      let lt : lim.fuel < account.paid + cost = omega (arith, all, sum) in
      short units all (subst (Exceeds lim.fuel account.paid) (sym priced) lt))

  -- a thread that comes to a position, behind so many instructions that began
  pub standing_keeps : (begun cost units : ℕ) (began : Bool) (p : Position) → MayAsk cost p
      → price_of account.next ≡ Some (begun + cost) → units ≡ account.paid + begun → units ≤ lim.fuel
      → IsKept lim account (standing lim cursors rest units began p)
  standing_keeps begun cost units began (Start at) asked priced is le =
      paying_keeps units began (Start at) (begun + cost) priced (omega (arith, asked, is)) le (λ due. due)
  standing_keeps begun cost units began (Access at) asked priced is le =
      paying_keeps units began (Access at) (begun + cost) priced (omega (arith, asked, is)) le (λ due. due)
  standing_keeps begun cost units began (Malloc at) asked priced is le =
      paying_keeps units began (Malloc at) (begun + cost) priced (omega (arith, asked, is)) le (λ due. due)
  standing_keeps begun cost units began (Note at) asked priced is le =
      paying_keeps units began (Note at) (begun + cost) priced (omega (arith, asked, is)) le (λ due. due)
  standing_keeps begun cost units began (Free at) asked priced is le =
      paying_keeps units began (Free at) (begun + cost) priced (omega (arith, asked, is)) le (λ due. due)
  standing_keeps begun cost units began (Spawn at) asked priced is le =
      paying_keeps units began (Spawn at) (begun + cost) priced (omega (arith, asked, is)) le (λ due. due)
  standing_keeps begun cost units began (Join at) asked priced is le =
      paying_keeps units began (Join at) (begun + cost) priced (omega (arith, asked, is)) le (λ due. due)
  standing_keeps begun cost units began (DrawPrint value) asked priced is le =
      paying_keeps units began (DrawPrint value) (begun + cost) priced (omega (arith, asked, is)) le (λ due. due)
  standing_keeps begun cost units began (StoreEnded stop) asked priced is le =
      stopping units stop (begun + cost) asked.1 priced (omega (arith, asked.0, is)) le
  standing_keeps begun cost units began (Over stop) asked priced is le =
      stopping units stop (begun + cost) asked.1 priced (omega (arith, asked.0, is)) le
  standing_keeps begun cost units began NoRow asked priced is le =
      paying_keeps units began NoRow (begun + cost) priced (omega (arith, asked, is)) le (λ due. due)

  arriving_keeps : (asked : Asked) → account.next ≡ ComesTo asked → account.paid ≤ lim.fuel
      → IsKept lim account (arriving lim cursors rest account.paid asked)
  arriving_keeps (Asks begun place request) asks le =
      let priced : price_of account.next ≡ Some (begun + step_cost request) = ap price_of asks in
      of_test (IsKept lim account) (nat_le (account.paid + begun) lim.fuel)
      (standing lim cursors rest (account.paid + begun) true (position_of lim cursors request))
      (record { rest = rest; position = StoreEnded Fuel; units = lim.fuel; began = true; cursors = cursors })
      (λ e. let enough : account.paid + begun ≤ lim.fuel = grind (arith, nat_tests, e) in
      standing_keeps begun (step_cost request) (account.paid + begun) true (position_of lim cursors request)
      (asked_for lim cursors request) priced refl enough)
      (λ e. let few : lim.fuel < account.paid + begun = grind (arith, nat_tests, e) in
      let lt : lim.fuel < account.paid + (begun + step_cost request) = omega (arith, few) in
      short lim.fuel refl (subst (Exceeds lim.fuel account.paid) (sym priced) lt))
  arriving_keeps Silent asks le =
      short lim.fuel refl (subst (Exceeds lim.fuel account.paid) (sym (ap price_of asks)) tt)

-- a thread that was answered, or begins
pub going_keeps : (lim : Bounds) (cursors : List ℕ) (paid : ℕ) (rest : Behaviour) → paid ≤ lim.fuel
    → IsKept lim (record { paid = paid; next = ComesTo (rest []) }) (going_on lim cursors paid rest)
going_keeps lim cursors paid rest le =
    arriving_keeps lim cursors rest (record { paid = paid; next = ComesTo (rest []) }) (rest []) refl le

-- a thread that comes to one step more, or to its last one
pub stepping_keeps : (lim : Bounds) (cursors : List ℕ) (paid : ℕ) (rest : Behaviour) (began : Bool) (p : Position)
    → MayAsk 1 p → paid ≤ lim.fuel
    → IsKept lim (record { paid = paid; next = StepsOn }) (standing lim cursors rest paid began p)
stepping_keeps lim cursors paid rest began p asked le =
    standing_keeps lim cursors rest (record { paid = paid; next = StepsOn }) 0 1 paid began p asked refl (omega arith)
    le

pub failing_keeps : (lim : Bounds) (cursors : List ℕ) (paid : ℕ) (rest : Behaviour) (began : Bool) (p : Position)
    → MayAsk 0 p → paid ≤ lim.fuel
    → IsKept lim (record { paid = paid; next = Fails }) (standing lim cursors rest paid began p)
failing_keeps lim cursors paid rest began p asked le =
    standing_keeps lim cursors rest (record { paid = paid; next = Fails }) 0 0 paid began p asked refl (omega arith) le
