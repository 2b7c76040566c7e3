-- Why a thread that looks for its log fails.
use Rattle.std.proofs.Common.{◌≡◌, ℕ, ◌<◌, ◌≤◌, ◌==◌, ◌&&◌, nat_lt, nat_le, Bool, true, false, if◌then◌else◌, refl}
use Rattle.std.proofs.Common.{sym, subst}
use Rattle.std.proofs.Common.{arith, eqb-true}
use Rattle.std.specs.Prelude.{◌↔◌}
use Rattle.std.proofs.lemmas.Bool.{eq-eqb}
use Rattle.std.proofs.lemmas.Bool.Decides.{nat_tests}
use Rattle.ds_map.specs.Bounds.{Bounds}
use Rattle.ds_entry.specs.Header.{log_entries, life_in, used_in}
use Rattle.ds_step.specs.declared.FullWhat.TheVariants.{Logs, Hash}
use Rattle.ds_plain.specs.declared.ListAt.{ListAt}
use Rattle.ds_plain.specs.declared.ListAt.TheVariants.{LoadHome, DrawLog, StoreHeader, StoreHome, LoadHeader}
use Rattle.ds_plain.specs.Listing.{ListNext, ListsOn, Owns, FailsList, is_header}
use Rattle.ds_plain.specs.Listing.{HomeSeen, NoHome, HomeOf, NoHomeWord, HeaderSeen, HasRoom, HasNoRoom, OfOther}
use Rattle.ds_plain.specs.Listing.{NoHeader}
use Rattle.ds_plain.specs.Listing.{home_seen, behind_home_load, behind_header_load, header_seen, list_next}
use Rattle.ds_list.specs.Walks.{DrawsNone, HasAllUsed}

home_fails_not : (place life : ℕ) (seen : HomeSeen) → (what : _) → behind_home_load place life seen ≡ FailsList what → ⊥
home_fails_not place life NoHome what e = absurd (cc (e))
home_fails_not place life (HomeOf log) what e = absurd (cc (e))
home_fails_not place life NoHomeWord what e = absurd (cc (e))

-- FULL LOGS

draws_none : (place life old logs : ℕ) (b : Bool) → nat_lt old logs ≡ b
    → ((if b then ListsOn (StoreHeader place life old) else FailsList Logs) ≡ FailsList Logs) ↔ (logs ≤ old)
draws_none place life old logs true is =
    ((λ e. absurd (cc (e))), (λ full. let less : old < logs = grind (arith, nat_tests, is) in absurd (omega (arith))))
draws_none place life old logs false is = ((λ e. grind (arith, nat_tests, is)), (λ full. refl))

header_finds_log : (place life log old : ℕ) (seen : HeaderSeen)
    → behind_header_load place life log old seen ≡ FailsList Logs → ⊥
header_finds_log place life log old HasRoom e = absurd (cc (e))
header_finds_log place life log old HasNoRoom e = absurd (cc (e))
header_finds_log place life log old OfOther e = absurd (cc (e))
header_finds_log place life log old NoHeader e = absurd (cc (e))

logs_at : (lim : Bounds) (at : ListAt) (old : ℕ) → (list_next lim at old ≡ FailsList Logs) ↔ DrawsNone lim at old
logs_at lim (LoadHome place life) old =
    ((λ e. home_fails_not place life (home_seen lim old) Logs e), (λ p. absurd p))
logs_at lim (DrawLog place life) old = draws_none place life old lim.logs (nat_lt old lim.logs) refl
logs_at lim (StoreHeader place life log) old = ((λ e. absurd (cc (e))), (λ p. absurd p))
logs_at lim (StoreHome place life log) old = ((λ e. absurd (cc (e))), (λ p. absurd p))
logs_at lim (LoadHeader place life log) old =
    ((λ e. header_finds_log place life log old (header_seen life old) e), (λ p. absurd p))

-- FULL HASH AREA

draw_needs_no_hash : (place life old : ℕ) (b : Bool)
    → (if b then ListsOn (StoreHeader place life old) else FailsList Logs) ≡ FailsList Hash → ⊥
draw_needs_no_hash place life old true e = absurd (cc (e))
draw_needs_no_hash place life old false e = absurd (cc (e))

-- what a header says, by three tests
abbrev pub seen_by : (h l u : Bool) → HeaderSeen
seen_by h l u = if h then (if l then (if u then HasNoRoom else HasRoom) else OfOther) else NoHeader

of_no_header : (place life log old : ℕ) → behind_header_load place life log old NoHeader ≡ FailsList Hash → ⊥
of_no_header place life log old e = absurd (cc (e))

all_used : (place life log old life' used' entries : ℕ) (h l u : Bool) → (life' == life) ≡ l → (used' == entries) ≡ u
    → (behind_header_load place life log old (seen_by h l u) ≡ FailsList Hash)
    ↔ ((h ≡ true) × (life' ≡ life) × (used' ≡ entries))
all_used place life log old life' used' entries true true true l u =
    ((λ e. (refl, eqb-true life' life l, eqb-true used' entries u)), (λ p. refl))
all_used place life log old life' used' entries true true false l u = (
  (λ e. absurd (cc (e))),
  (λ p. let yes' : (used' == entries) ≡ true = eq-eqb used' entries p.2 in absurd (cc (yes', u))),
)
all_used place life log old life' used' entries true false u l e' =
    ((λ e. absurd (cc (e))), (λ p. let yes' : (life' == life) ≡ true = eq-eqb life' life p.1 in absurd (cc (yes', l))))
all_used place life log old life' used' entries false l u e' e'' =
    ((λ e. absurd (of_no_header place life log old e)), (λ p. absurd (cc (p.0))))

hash_at : (lim : Bounds) (at : ListAt) (old : ℕ) → (list_next lim at old ≡ FailsList Hash) ↔ HasAllUsed at old
hash_at lim (LoadHome place life) old =
    ((λ e. home_fails_not place life (home_seen lim old) Hash e), (λ p. absurd p))
hash_at lim (DrawLog place life) old =
    ((λ e. draw_needs_no_hash place life old (nat_lt old lim.logs) e), (λ p. absurd p))
hash_at lim (StoreHeader place life log) old = ((λ e. absurd (cc (e))), (λ p. absurd p))
hash_at lim (StoreHome place life log) old = ((λ e. absurd (cc (e))), (λ p. absurd p))
hash_at lim (LoadHeader place life log) old =
    all_used place life log old (life_in old) (used_in old) log_entries (is_header old) (life_in old == life)
    (used_in old == log_entries) refl refl

-- of what comes next
pub full_logs : (lim : Bounds) (at : ListAt) (old : ℕ) (next : ListNext) → next ≡ list_next lim at old
    → (next ≡ FailsList Logs) ↔ DrawsNone lim at old
full_logs lim at old next is =
    subst (λ (n : ListNext). (n ≡ FailsList Logs) ↔ DrawsNone lim at old) (sym is) (logs_at lim at old)

pub full_hash : (lim : Bounds) (at : ListAt) (old : ℕ) (next : ListNext) → next ≡ list_next lim at old
    → (next ≡ FailsList Hash) ↔ HasAllUsed at old
full_hash lim at old next is =
    subst (λ (n : ListNext). (n ≡ FailsList Hash) ↔ HasAllUsed at old) (sym is) (hash_at lim at old)
