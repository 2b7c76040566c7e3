-- What the log is that a thread has.
use Rattle.std.proofs.Common.{◌≡◌, ℕ, ◌+◌, ◌*◌, ◌/◌, ◌%◌, ◌^◌, ◌<◌, ◌==◌, ◌&&◌, nat_lt, nat_le, Bool, true, false}
use Rattle.std.proofs.Common.{if◌then◌else◌}
use Rattle.std.proofs.Common.{refl, sym, ◌∙◌, subst, arith}
use Rattle.std.proofs.lemmas.Bool.{eq-eqb}
use Rattle.std.proofs.lemmas.Bool.Decides.{nat_tests}
use Rattle.ds_map.specs.Bounds.{Bounds}
use Rattle.ds_entry.specs.Header.{log_entries, header_of, life_in, used_in, chunk_in}
use Rattle.ds_step.specs.declared.FullWhat.TheVariants.{Logs}
use Rattle.ds_plain.specs.declared.ListAt.{ListAt}
use Rattle.ds_plain.specs.declared.ListAt.TheVariants.{LoadHome, DrawLog, StoreHeader, StoreHome, LoadHeader}
use Rattle.ds_plain.specs.Listing.{ListNext, ListsOn, Owns, FailsList, is_header, list_life, IsListAt}
use Rattle.ds_plain.specs.Listing.{HomeSeen, NoHome, HomeOf, NoHomeWord}
use Rattle.ds_plain.specs.Listing.{home_seen, behind_home_load, behind_header_load, list_next}
use Rattle.ds_list.specs.Walks.{IsOwn}
use Rattle.ds_list.proofs.Fails.{seen_by}

-- A NEW HEADER

new_used : (life : ℕ) → used_in (header_of life 0 0) ≡ 0
new_used life = omega (arith)

new_chunk : (life : ℕ) → chunk_in (header_of life 0 0) ≡ 0
new_chunk life = omega (arith)

header_by : (header : ℕ) → used_in header ≡ 0 → chunk_in header ≡ 0 → is_header header ≡ true
header_by header used chunk =
    subst (λ n. (nat_le n log_entries && (chunk_in header == 0)) ≡ true) (sym used)
    (eq-eqb (chunk_in header) 0 chunk)

new_owned : (lim : Bounds) (life log : ℕ) → log < lim.logs → IsOwn lim life log (header_of life 0 0)
new_owned lim life log less = record {
  log_is = less;
  header_is = header_by (header_of life 0 0) (new_used life) (new_chunk life);
  room = λ full. let none : 0 ≡ log_entries = sym (new_used life) ∙ full.1 in absurd (cc (none));
}

-- THE HEADER THAT IT LOADED

same_log : (log old log' header : ℕ) → Owns log old ≡ Owns log' header → log ≡ log'
same_log log old log' header e = cc (e)

same_header : (log old log' header : ℕ) → Owns log old ≡ Owns log' header → old ≡ header
same_header log old log' header e = cc (e)

-- a fact of a log and a header is one of those that are owned
as_owned : (P : ℕ → ℕ → Type 0) (log old log' header : ℕ) → Owns log old ≡ Owns log' header → P log old → P log' header
as_owned P log old log' header e p =
    subst (λ n. P n header) (same_log log old log' header e)
    (subst (λ n. P log n) (same_header log old log' header e) p)

home_owns_not : (place life log header : ℕ) (seen : HomeSeen) → behind_home_load place life seen ≡ Owns log header → ⊥
home_owns_not place life log header NoHome e = absurd (cc (e))
home_owns_not place life log header (HomeOf log') e = absurd (cc (e))
home_owns_not place life log header NoHomeWord e = absurd (cc (e))

draw_owns_not : (place life old log header : ℕ) (b : Bool)
    → (if b then ListsOn (StoreHeader place life old) else FailsList Logs) ≡ Owns log header → ⊥
draw_owns_not place life old log header true e = absurd (cc (e))
draw_owns_not place life old log header false e = absurd (cc (e))

loaded : (lim : Bounds) (place life log old log' header : ℕ) (h l u : Bool) → log < lim.logs → is_header old ≡ h
    → (life_in old == life) ≡ l → (used_in old == log_entries) ≡ u
    → behind_header_load place life log old (seen_by h l u) ≡ Owns log' header → IsOwn lim life log' header
loaded lim place life log old log' header true true true less h l u e = absurd (cc (e))
loaded lim place life log old log' header true true false less h l u e =
    as_owned (λ n m. IsOwn lim life n m) log old log' header e (record {
      log_is = less;
      header_is = h;
      room = λ full. let yes' : (used_in old == log_entries) ≡ true = eq-eqb (used_in old) log_entries full.1 in
          absurd (cc (yes', u));
    })
loaded lim place life log old log' header true false u less h l e' e =
    as_owned (λ n m. IsOwn lim life n m) log old log' header e (record {
      log_is = less;
      header_is = h;
      room = λ full. let yes' : (life_in old == life) ≡ true = eq-eqb (life_in old) life full.0 in
          absurd (cc (yes', l));
    })
loaded lim place life log old log' header false l u less h e' e'' e = absurd (cc (e))

-- of what comes next
pub owned : (lim : Bounds) (at : ListAt) (old log header : ℕ) → IsListAt lim at
    → list_next lim at old ≡ Owns log header → IsOwn lim (list_life at) log header
owned lim (LoadHome place life) old log header is e =
    absurd (home_owns_not place life log header (home_seen lim old) e)
owned lim (DrawLog place life) old log header is e =
    absurd (draw_owns_not place life old log header (nat_lt old lim.logs) e)
owned lim (StoreHeader place life log') old log header is e = absurd (cc (e))
owned lim (StoreHome place life log') old log header is e =
    as_owned (λ n m. IsOwn lim life n m) log' (header_of life 0 0) log header e (new_owned lim life log' is.1)
owned lim (LoadHeader place life log') old log header is e =
    loaded lim place life log' old log header (is_header old) (life_in old == life) (used_in old == log_entries)
    is.1 refl refl refl e
