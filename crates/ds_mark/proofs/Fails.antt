-- Why a free fails.
use Rattle.std.proofs.Common.{◌≡◌, ℕ, ◌==◌, Bool, true, false, if◌then◌else◌, Option, Some, None, refl, sym, ◌∙◌, subst}
use Rattle.std.proofs.Common.{eqb-true}
use Rattle.std.specs.Prelude.{◌↔◌}
use Rattle.std.proofs.lemmas.Bool.{eq-eqb}
use Rattle.ds_pages.specs.declared.BlockState.{BlockState}
use Rattle.ds_pages.specs.declared.BlockState.TheVariants as states
use Rattle.ds_pages.specs.Words.{is_page_word, block_at, read_state}
use Rattle.ds_step.specs.declared.FreeTrap.TheVariants.{BadFree, DoubleFree}
use Rattle.ds_plain.specs.declared.FreeAt.{FreeAt}
use Rattle.ds_plain.specs.declared.FreeAt.TheVariants.{LoadPage, LoadBlock, SwapBlock, StoreFree}
use Rattle.ds_plain.specs.Freeing.{FreeNext, FreesOn, FailsFree, NoPageWord, start_found, seen_life}
use Rattle.ds_plain.specs.Freeing.{behind_start_load, behind_life_load, behind_life_swap, free_next}
use Rattle.ds_mark.specs.Walks.{StartsNone, IsNotLive, IsInNoLife, IsOther}

-- BAD FREES

bad_start : (address old : ℕ) (found : Option ℕ)
    → (behind_start_load address (start_found found) ≡ FailsFree BadFree) ↔ (found ≡ None)
bad_start address old None = ((λ e. refl), (λ e. refl))
bad_start address old (Some place) = ((λ e. absurd (cc (e))), (λ e. absurd (cc (e))))

bad_page : (address old : ℕ) (b : Bool) (found : Option ℕ)
    → (behind_start_load address (if b then start_found found else NoPageWord) ≡ FailsFree BadFree)
    ↔ ((b ≡ true) × (found ≡ None))
bad_page address old true found = let h = bad_start address old found in ((λ e. (refl, h.0 e)), (λ p. h.1 p.1))
bad_page address old false found = ((λ e. absurd (cc (e))), (λ p. absurd (cc (p.0))))

bad_life : (address place old : ℕ) (read : Option (ℕ × BlockState))
    → behind_life_load address place old (seen_life read) ≡ FailsFree BadFree → ⊥
bad_life address place old None e = absurd (cc (e))
bad_life address place old (Some (seen, states.Free)) e = absurd (cc (e))
bad_life address place old (Some (seen, states.Live)) e = absurd (cc (e))
bad_life address place old (Some (seen, states.Freeing)) e = absurd (cc (e))

bad_swap_live : (address place life old : ℕ) (b : Bool)
    → (if b then FreesOn (StoreFree place life) else FailsFree (DoubleFree old)) ≡ FailsFree BadFree → ⊥
bad_swap_live address place life old true e = absurd (cc (e))
bad_swap_live address place life old false e = absurd (cc (e))

bad_swap : (address place life old : ℕ) (read : Option (ℕ × BlockState))
    → behind_life_swap address place life old (seen_life read) ≡ FailsFree BadFree → ⊥
bad_swap address place life old None e = absurd (cc (e))
bad_swap address place life old (Some (seen, states.Free)) e = absurd (cc (e))
bad_swap address place life old (Some (seen, states.Live)) e = bad_swap_live address place life old (seen == life) e
bad_swap address place life old (Some (seen, states.Freeing)) e = absurd (cc (e))

bad_at : (at : FreeAt) (old : ℕ) → (free_next at old ≡ FailsFree BadFree) ↔ StartsNone at old
bad_at (LoadPage address) old = bad_page address old (is_page_word old) (block_at address old)
bad_at (LoadBlock address place) old =
    ((λ e. bad_life address place old (read_state old) e), (λ p. absurd p))
bad_at (SwapBlock address place life) old =
    ((λ e. bad_swap address place life old (read_state old) e), (λ p. absurd p))
bad_at (StoreFree place life) old = ((λ e. absurd (cc (e))), (λ p. absurd p))

-- DOUBLE FREES

same_seen : (old seen : ℕ) → FailsFree (DoubleFree old) ≡ FailsFree (DoubleFree seen) → seen ≡ old
same_seen old seen e = let same : old ≡ seen = cc (e) in sym same

told : (old seen : ℕ) → seen ≡ old → FailsFree (DoubleFree old) ≡ FailsFree (DoubleFree seen)
told old seen e = subst (λ n. FailsFree (DoubleFree old) ≡ FailsFree (DoubleFree n)) (sym e) refl

double_start : (address seen : ℕ) (b : Bool) (found : Option ℕ)
    → behind_start_load address (if b then start_found found else NoPageWord) ≡ FailsFree (DoubleFree seen) → ⊥
double_start address seen true None e = absurd (cc (e))
double_start address seen true (Some place) e = absurd (cc (e))
double_start address seen false found e = absurd (cc (e))

double_life : (address place old seen : ℕ) (read : Option (ℕ × BlockState))
    → (behind_life_load address place old (seen_life read) ≡ FailsFree (DoubleFree seen))
    ↔ ((seen ≡ old) × IsInNoLife read)
double_life address place old seen None = ((λ e. absurd (cc (e))), (λ p. absurd p.1))
double_life address place old seen (Some (life, states.Free)) =
    ((λ e. (same_seen old seen e, tt)), (λ p. told old seen p.0))
double_life address place old seen (Some (life, states.Live)) = ((λ e. absurd (cc (e))), (λ p. absurd p.1))
double_life address place old seen (Some (life, states.Freeing)) =
    ((λ e. (same_seen old seen e, tt)), (λ p. told old seen p.0))

double_live : (place life old seen now : ℕ) (b : Bool) → (now == life) ≡ b
    → ((if b then FreesOn (StoreFree place life) else FailsFree (DoubleFree old)) ≡ FailsFree (DoubleFree seen))
    ↔ ((seen ≡ old) × (now ≡ life → ⊥))
double_live place life old seen now true is = (
  (λ e. absurd (cc (e))),
  (λ p. absurd (p.1 (eqb-true now life is))),
)
double_live place life old seen now false is = (
  (λ e. (same_seen old seen e, λ same. let yes' : (now == life) ≡ true = eq-eqb now life same in absurd (cc (yes', is)))),
  (λ p. told old seen p.0),
)

double_swap : (address place life old seen : ℕ) (read : Option (ℕ × BlockState))
    → (behind_life_swap address place life old (seen_life read) ≡ FailsFree (DoubleFree seen))
    ↔ ((seen ≡ old) × IsOther read life)
double_swap address place life old seen None = ((λ e. absurd (cc (e))), (λ p. absurd p.1))
double_swap address place life old seen (Some (now, states.Free)) =
    ((λ e. (same_seen old seen e, tt)), (λ p. told old seen p.0))
double_swap address place life old seen (Some (now, states.Live)) =
    double_live place life old seen now (now == life) refl
double_swap address place life old seen (Some (now, states.Freeing)) =
    ((λ e. (same_seen old seen e, tt)), (λ p. told old seen p.0))

double_at : (at : FreeAt) (old seen : ℕ)
    → (free_next at old ≡ FailsFree (DoubleFree seen)) ↔ ((seen ≡ old) × IsNotLive at old)
double_at (LoadPage address) old seen =
    ((λ e. absurd (double_start address seen (is_page_word old) (block_at address old) e)), (λ p. absurd p.1))
double_at (LoadBlock address place) old seen = double_life address place old seen (read_state old)
double_at (SwapBlock address place life) old seen = double_swap address place life old seen (read_state old)
double_at (StoreFree place life) old seen = ((λ e. absurd (cc (e))), (λ p. absurd p.1))

-- of what comes next
pub bad : (at : FreeAt) (old : ℕ) (next : FreeNext) → next ≡ free_next at old
    → (next ≡ FailsFree BadFree) ↔ StartsNone at old
bad at old next is = subst (λ (n : FreeNext). (n ≡ FailsFree BadFree) ↔ StartsNone at old) (sym is) (bad_at at old)

pub double : (at : FreeAt) (old seen : ℕ) (next : FreeNext) → next ≡ free_next at old
    → (next ≡ FailsFree (DoubleFree seen)) ↔ ((seen ≡ old) × IsNotLive at old)
double at old seen next is =
    subst (λ (n : FreeNext). (n ≡ FailsFree (DoubleFree seen)) ↔ ((seen ≡ old) × IsNotLive at old)) (sym is)
    (double_at at old seen)
