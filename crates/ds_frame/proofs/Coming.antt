-- One instruction of a thread that runs.
use Rattle.std.proofs.Common.{◌≡◌, ℕ, suc, ◌-◌, ◌<◌, ◌≤◌, refl, ap, sym, ◌∙◌, arith}
use Rattle.std.proofs.Common.{List, ◌++◌, length, take, length-append}
use Rattle.std.proofs.lemmas.List.{length-take}
use Rattle.ds_map.specs.Bounds.{Bounds}
use Rattle.ds_plain.specs.declared.Place.{Place}
use Rattle.ds_plain.specs.declared.Request.{Request}
use Rattle.ds_plain.specs.declared.Request.TheVariants as requests
use Rattle.ds_plain.specs.Behaviour.{Outcome, Goes, Wants, Stops, Stuck}
use Rattle.ds_code.specs.Machine.{Running, Machine}
use Rattle.ds_code.specs.CodeMeaning.{step}
use Rattle.ds_frame.specs.declared.moved.Moved.TheVariants as moves
use Rattle.ds_frame.specs.declared.moved.Want.TheVariants as wants
use Rattle.ds_frame.specs.Steps.{moved_by, next_of}
use Rattle.ds_frame.specs.Coming.{Standing, spent, comes_by, comes, comes_from}
use Rattle.ds_frame.specs.Threads.{ThreadState, at_standing}

going : (go : Machine → Standing) (fuel : ℕ) (place : Place) (units : ℕ) (q : Machine) (o : Outcome Machine)
    → moved_by o ≡ moves.Goes → comes_by go fuel place units q o ≡ go (next_of q o)
going go fuel place units q (Goes q') e = refl
going go fuel place units q (Wants there r k) e = cc
going go fuel place units q (Stops there stop) e = cc
going go fuel place units q Stuck e = cc

-- at a request
abbrev pub wanting : Place → Request → (units : ℕ) → Machine → Standing
wanting place r units q = record { want = r; place = place; units = units; machine = q }

asking : (go : Machine → Standing) (fuel : ℕ) (place : Place) (units : ℕ) (q : Machine) (o : Outcome Machine)
    (there : Place) (r : Request) → moved_by o ≡ moves.Asks there r
    → comes_by go fuel place units q o ≡ wanting there r (suc units) (next_of q o)
asking go fuel place units q (Goes q') there r e = cc
asking go fuel place units q (Wants there' r' k) there r e =
    let at : there' ≡ there = cc in
    let same : r' ≡ r = cc in
    ap (λ (x : Request). wanting there' x (suc units) q) same ∙ ap (λ (x : Place). wanting x r (suc units) q) at
asking go fuel place units q (Stops there' stop) there r e =
    let at : there' ≡ there = cc in
    let same : requests.Stop stop ≡ r = cc in
    ap (λ (x : Request). wanting there' x (suc units) q) same ∙ ap (λ (x : Place). wanting x r (suc units) q) at
asking go fuel place units q Stuck there r e = cc

ending : (go : Machine → Standing) (fuel : ℕ) (place : Place) (units : ℕ) (q : Machine) (o : Outcome Machine)
    → moved_by o ≡ moves.Stuck → comes_by go fuel place units q o ≡ spent place fuel (next_of q o)
ending go fuel place units q (Goes q') e = cc
ending go fuel place units q (Wants there r k) e = cc
ending go fuel place units q (Stops there stop) e = cc
ending go fuel place units q Stuck e = refl

one_step : (r : Running) (place : Place) (units : ℕ) (q : Machine) → units < r.lim.fuel
    → comes_from r place units q ≡ comes_by (comes_from r place (suc units)) r.lim.fuel place units q (step r q)
one_step r place units q lt =
    let e : r.lim.fuel - units ≡ suc (r.lim.fuel - suc units) = omega arith in
    ap (λ n. comes r place n units q) e

-- the instruction is done
pub one_more : (r : Running) (place : Place) (units more : ℕ) (q next : Machine) → units < r.lim.fuel
    → more ≡ suc units → moved_by (step r q) ≡ moves.Goes → next ≡ next_of q (step r q)
    → comes_from r place more next ≡ comes_from r place units q
one_more r place units more q next lt is e to =
    ap (λ n. comes_from r place n next) is ∙ ap (comes_from r place (suc units)) to
    ∙ sym (one_step r place units q lt
    ∙ going (comes_from r place (suc units)) r.lim.fuel place units q (step r q) e)

-- the instruction asks
pub one_want : (r : Running) (place : Place) (units more : ℕ) (q next : Machine) (there : Place) (request : Request)
    → units < r.lim.fuel → more ≡ suc units → moved_by (step r q) ≡ moves.Asks there request
    → next ≡ next_of q (step r q) → wanting there request more next ≡ comes_from r place units q
one_want r place units more q next there request lt is e to =
    ap (λ n. wanting there request n next) is ∙ ap (wanting there request (suc units)) to
    ∙ sym (one_step r place units q lt
    ∙ asking (comes_from r place (suc units)) r.lim.fuel place units q (step r q) there request e)

-- the instruction means nothing
pub one_stuck : (r : Running) (place : Place) (units : ℕ) (q next : Machine) → units < r.lim.fuel
    → moved_by (step r q) ≡ moves.Stuck → next ≡ next_of q (step r q)
    → comes_from r place r.lim.fuel next ≡ comes_from r place units q
one_stuck r place units q next lt e to =
    let none : r.lim.fuel - r.lim.fuel ≡ 0 = omega arith in
    ap (λ n. comes r place n r.lim.fuel next) none ∙ ap (spent place r.lim.fuel) to
    ∙ sym (one_step r place units q lt
    ∙ ending (comes_from r place (suc units)) r.lim.fuel place units q (step r q) e)

-- no unit is left
pub none_left : (r : Running) (place : Place) (units : ℕ) (q : Machine) → r.lim.fuel ≤ units
    → comes_from r place units q ≡ spent place units q
none_left r place units q le =
    let e : r.lim.fuel - units ≡ 0 = omega arith in
    ap (λ n. comes r place n units q) e

-- THREADS

-- a thread of these limits, this number and a row of this length where it has come
abbrev pub thread_at : Bounds → (number row : ℕ) → Standing → ThreadState
thread_at lim number row s = record {
  lim = lim;
  number = number;
  row = row;
  want = wants.Asks s.want;
  place = s.place;
  units = s.units;
  machine = s.machine;
}

pub same_thread : (old : ThreadState) (lim : Bounds) (number row : ℕ) (s : Standing) → lim ≡ old.lim
    → number ≡ old.number → row ≡ old.row → thread_at lim number row s ≡ at_standing old s
same_thread old lim number row s l n k =
    ap (λ (x : Bounds). thread_at x number row s) l ∙ ap (λ x. thread_at old.lim x row s) n
    ∙ ap (λ x. thread_at old.lim old.number x s) k

-- a row that is written over from its front on is as long as it was
pub row_kept : (n : ℕ) (front behind : List ℕ) → length front ≡ n → length (take n (front ++ behind)) ≡ n
row_kept n front behind e =
    length-take n (front ++ behind) ∙ (let m = length-append front behind in omega arith)
