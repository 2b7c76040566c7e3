-- What a note has found that looked for its log.
use Rattle.std.proofs.Common.{◌≡◌, ℕ, sym, subst, Option, Some, None}
use Rattle.std.specs.Prelude.{IfSome}
use Rattle.ds_map.specs.Bounds.{Bounds}
use Rattle.ds_plain.specs.declared.ListAt.{ListAt}
use Rattle.ds_plain.specs.declared.ListAt.TheVariants.{LoadHome, DrawLog, StoreHeader, StoreHome, LoadHeader}
use Rattle.ds_plain.specs.Listing.{ListNext, ListsOn, Owns, FailsList, list_place, list_life, IsLife, IsListAt}
use Rattle.ds_list.specs.declared.outcome.ListOutcome.TheVariants.{Own}
use Rattle.ds_list.specs.Walks.{ListState, lists_at, outcome_of, IsOwn}

-- the block whose log a thread looks for is one
pub sought_life : (lim : Bounds) (at : ListAt) → IsListAt lim at → IsLife lim (list_place at) (list_life at)
sought_life lim (LoadHome place life) is = is
sought_life lim (DrawLog place life) is = is
sought_life lim (StoreHeader place life log) is = is.0
sought_life lim (StoreHome place life log) is = is.0
sought_life lim (LoadHeader place life log) is = is.0

-- a walk that came to a log owns it
owns : (next : ListNext) (log header : ℕ) → outcome_of next ≡ Some (Own log header) → next ≡ Owns log header
owns (ListsOn at) log header e = absurd (cc (e))
owns (Owns log' header') log header e = cc (e)
owns (FailsList what) log header e = absurd (cc (e))

-- the log that it came to is its own
pub sought_own : (lim : Bounds) (at : ListAt) (walk new : ListState) (log header : ℕ)
    → walk.lim ≡ lim → walk.next ≡ ListsOn at
    → IfSome (lists_at walk.next) (λ at. (log header : ℕ) → new.next ≡ Owns log header
    → IsOwn walk.lim (list_life at) log header)
    → outcome_of new.next ≡ Some (Own log header) → IsOwn lim (list_life at) log header
sought_own lim at walk new log header within stood law came =
    let law' = subst (λ (n : ListNext). IfSome (lists_at n) (λ at. (log header : ℕ) → new.next ≡ Owns log header
    → IsOwn walk.lim (list_life at) log header)) stood law in
    subst (λ (l : Bounds). IsOwn l (list_life at) log header) within (law' log header (owns new.next log header came))

-- the same log and header under other names, and the same life
pub as_named : (lim : Bounds) (life life' log log' header header' : ℕ) → life ≡ life' → log ≡ log' → header ≡ header'
    → IsOwn lim life log header → IsOwn lim life' log' header'
as_named lim life life' log log' header header' l n h own =
    subst (λ m. IsOwn lim life' log' m) h (subst (λ m. IsOwn lim life' m header) n
    (subst (λ m. IsOwn lim m log header) l own))
