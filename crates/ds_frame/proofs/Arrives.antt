-- A thread that runs comes where its behaviour asks.
use Rattle.std.proofs.Common.{◌≡◌, ℕ, zero, suc, ◌+◌, ◌%◌, ◌^◌, ◌<◌, ◌≤◌}
use Rattle.std.proofs.Common.{refl, ap, sym, ◌∙◌, arith}
use Rattle.ds_plain.specs.declared.Place.{Place}
use Rattle.ds_plain.specs.declared.Request.{Request}
use Rattle.ds_plain.specs.declared.Request.TheVariants as requests
use Rattle.ds_plain.specs.declared.Stop.TheVariants.{Fuel}
use Rattle.ds_plain.specs.Behaviour.{Asked, Asks, Silent, Outcome, Goes, Wants, Stops, Stuck}
use Rattle.ds_plain.specs.Behaviour.{one_more, asked_by, ask, told_by, tell}
use Rattle.ds_code.specs.Machine.{Running, Machine}
use Rattle.ds_code.specs.CodeMeaning.{step}
use Rattle.ds_frame.specs.Steps.{answered_by, answered_at}
use Rattle.ds_frame.specs.Coming.{Standing, comes_by, comes}
use Rattle.ds_frame.specs.Threads.{Arrival, out_of_fuel}

-- what a thread wants, where it asks that, and what it has spent
abbrev pub arrival_in : Standing → Arrival
arrival_in s = record { want = s.want; place = s.place; units = s.units }

-- where a thread comes by what it asks: at the request, where its fuel pays for the instructions up to it
pub data Found (r : Running) (place : Place) (units left : ℕ) (q : Machine) (s : Standing) : Asked → Type 0 where
  At : {n : ℕ} {there : Place} {request : Request} → n ≤ left
      → arrival_in s ≡ record { want = request; place = there; units = units + n }
      → ((answer : ℕ) → answered_at r s.machine (answer % 2 ^ 64) ≡ tell (step r) left q answer)
      → Found r place units left q s (Asks n there request)
  Spent : arrival_in s ≡ out_of_fuel r.lim.fuel place → Found r place units left q s Silent

pub units_are : (there : Place) (request : Request) (n m : ℕ) → n ≡ m
    → let a : Arrival = record { want = request; place = there; units = n } in
    let b : Arrival = record { want = request; place = there; units = m } in a ≡ b
units_are there request n m e = ap (λ (k : ℕ). record { want = request; place = there; units = k }) e

pub found : (r : Running) (place : Place) (left units : ℕ) (q : Machine) → units + left ≡ r.lim.fuel
    → Found r place units left q (comes r place left units q) (ask (step r) left q)
found r place zero units q e = Spent (units_are place (requests.Stop Fuel) units r.lim.fuel (omega arith))
found r place (suc left) units q e =
    by_step (λ q'. found r place left (suc units) q' (omega arith)) (step r q) refl
  where
    further : (q' : Machine) (s : Standing) (a : Asked) → step r q ≡ Goes q'
        → Found r place (suc units) left q' s a → Found r place units (suc left) q s (one_more a)
    further q' s (Asks n there request) f (At le w h) =
        At (omega arith) (w ∙ units_are there request (suc units + n) (units + suc n) (omega arith))
        (λ answer. h answer ∙ sym (ap (told_by (λ x. tell (step r) left x answer) q answer) f))
    further q' s Silent f (Spent w) = Spent w

    by_step : ((q' : Machine) → Found r place (suc units) left q' (comes r place left (suc units) q')
        (ask (step r) left q')) → (o : Outcome Machine) → step r q ≡ o
        → Found r place units (suc left) q (comes_by (comes r place left (suc units)) r.lim.fuel place units q o)
        (asked_by (ask (step r) left) o)
    by_step rec (Goes q') f = further q' _ _ f (rec q')
    by_step rec (Wants there request answered) f =
        At (omega arith) (units_are there request (suc units) (units + 1) (omega arith))
        (λ answer. ap (λ o. answered_by q o (answer % 2 ^ 64)) f
        ∙ sym (ap (told_by (λ x. tell (step r) left x answer) q answer) f))
    by_step rec (Stops there stop) f =
        At (omega arith) (units_are there (requests.Stop stop) (suc units) (units + 1) (omega arith))
        (λ answer. ap (λ o. answered_by q o (answer % 2 ^ 64)) f
        ∙ sym (ap (told_by (λ x. tell (step r) left x answer) q answer) f))
    by_step rec Stuck f = Spent refl

-- more fuel changes nothing of what comes within the fuel
pub asks_still : (r : Running) (left more : ℕ) (q : Machine) (n : ℕ) (there : Place) (request : Request)
    → left ≤ more → ask (step r) left q ≡ Asks n there request
    → (ask (step r) more q ≡ Asks n there request)
    × ((answer : ℕ) → tell (step r) more q answer ≡ tell (step r) left q answer)
asks_still r zero more q n there request le e = absurd (cc)
asks_still r (suc left) zero q n there request le e = absurd (omega arith)
asks_still r (suc left) (suc more) q n there request le e =
    by_step (λ q' k f. asks_still r left more q' k there request (omega arith) f) (step r q) e
  where
    by_ask : (q' : Machine) → ((k : ℕ) → ask (step r) left q' ≡ Asks k there request
        → (ask (step r) more q' ≡ Asks k there request)
        × ((answer : ℕ) → tell (step r) more q' answer ≡ tell (step r) left q' answer))
        → (a : Asked) → ask (step r) left q' ≡ a → one_more a ≡ Asks n there request
        → (one_more (ask (step r) more q') ≡ Asks n there request)
        × ((answer : ℕ) → tell (step r) more q' answer ≡ tell (step r) left q' answer)
    by_ask q' rec (Asks k there' r') f e =
        let same : Asks k there' r' ≡ Asks k there request = cc in
        let a = rec k (f ∙ same) in
        (ap one_more a.0 ∙ sym (ap one_more same) ∙ e, a.1)
    by_ask q' rec Silent f e = absurd (cc)

    by_step : ((q' : Machine) (k : ℕ) → ask (step r) left q' ≡ Asks k there request
        → (ask (step r) more q' ≡ Asks k there request)
        × ((answer : ℕ) → tell (step r) more q' answer ≡ tell (step r) left q' answer))
        → (o : Outcome Machine) → asked_by (ask (step r) left) o ≡ Asks n there request
        → (asked_by (ask (step r) more) o ≡ Asks n there request)
        × ((answer : ℕ) → told_by (λ x. tell (step r) more x answer) q answer o
        ≡ told_by (λ x. tell (step r) left x answer) q answer o)
    by_step rec (Goes q') e = by_ask q' (rec q') (ask (step r) left q') refl e
    by_step rec (Wants there' r' k) e = (e, λ answer. refl)
    by_step rec (Stops there' stop) e = (e, λ answer. refl)
    by_step rec Stuck e = (e, λ answer. refl)

-- what comes with more fuel and not within the fuel comes behind it
pub asks_later : (r : Running) (left more : ℕ) (q : Machine) (n : ℕ) (there : Place) (request : Request)
    → ask (step r) left q ≡ Silent → ask (step r) more q ≡ Asks n there request → left < n
asks_later r left zero q n there request e f = absurd (cc)
asks_later r zero (suc more) q n there request e f = by_step (step r q) f
  where
    one : (a : Asked) → one_more a ≡ Asks n there request → 0 < n
    one (Asks k there' r') g = let same : suc k ≡ n = cc in omega arith
    one Silent g = absurd (cc)

    by_step : (o : Outcome Machine) → asked_by (ask (step r) more) o ≡ Asks n there request → 0 < n
    by_step (Goes q') g = one (ask (step r) more q') g
    by_step (Wants there' r' k) g = let same : 1 ≡ n = cc in omega arith
    by_step (Stops there' stop) g = let same : 1 ≡ n = cc in omega arith
    by_step Stuck g = absurd (cc)
asks_later r (suc left) (suc more) q n there request e f =
    by_step (λ q' k g h. asks_later r left more q' k there request g h) (step r q) e f
  where
    by_asks : (q' : Machine) → ((k : ℕ) → ask (step r) left q' ≡ Silent
        → ask (step r) more q' ≡ Asks k there request → left < k)
        → (a b : Asked) → ask (step r) left q' ≡ a → ask (step r) more q' ≡ b
        → one_more a ≡ Silent → one_more b ≡ Asks n there request → suc left < n
    by_asks q' rec (Asks k there' r') b ea eb e f = absurd (cc)
    by_asks q' rec Silent (Asks k there' r') ea eb e f =
        let same : Asks k there' r' ≡ Asks k there request = cc in
        let more' : suc k ≡ n = cc in
        let lt = rec k ea (eb ∙ same) in
        omega arith
    by_asks q' rec Silent Silent ea eb e f = absurd (cc)

    by_step : ((q' : Machine) (k : ℕ) → ask (step r) left q' ≡ Silent
        → ask (step r) more q' ≡ Asks k there request → left < k) → (o : Outcome Machine)
        → asked_by (ask (step r) left) o ≡ Silent → asked_by (ask (step r) more) o ≡ Asks n there request
        → suc left < n
    by_step rec (Goes q') e f =
        by_asks q' (rec q') (ask (step r) left q') (ask (step r) more q') refl refl e f
    by_step rec (Wants there' r' k) e f = absurd (cc)
    by_step rec (Stops there' stop) e f = absurd (cc)
    by_step rec Stuck e f = absurd (cc)
