-- The lives of blocks in a run of the plain machine: they do not fall, and a note finds the present one.
use Rattle.std.proofs.Common.{◌≡◌, ℕ, ◌≤◌, false, if◌then◌else◌, List, [], ◌∷◌, Option, Some, None}
use Rattle.std.proofs.Common.{refl, sym, subst, inl, inr, ◌⊎◌, arith}
use Rattle.std.proofs.lemmas.Bool.{cases_eq}
use Rattle.ds_map.specs.Bounds.{Bounds}
use Rattle.ds_step.specs.declared.Event.{Event}
use Rattle.ds_step.specs.declared.Event.TheVariants as events
use Rattle.ds_plain.specs.State.{Block, block_in, Live, Freeing, Free, State, Setting, replaced}
use Rattle.ds_plain.specs.Plain.{Allowed, so_far, written, opened, has_left, changed, IsPlainRun}
use Rattle.ds_plain.specs.Plain.{state_after}
use Rattle.ds_plain.specs.History.{is_log}
use Rattle.ds_log_laws.proofs.Choices.{replaced_same, replaced_other}
use Rattle.ds_log_laws.proofs.Noted.{FindsNow}

-- the present life of each place
abbrev pub lives_of : State → ℕ → ℕ
lives_of s place = (s.blocks place).life

same_le : (n : ℕ) → n ≤ n
same_le n = omega arith

opened_lives : (o : Option ℕ) (s : State) (place : ℕ) → lives_of s place ≤ lives_of (opened o s) place
opened_lives None s place = same_le (lives_of s place)
opened_lives (Some n) s place = same_le (lives_of s place)

left_lives : (lim : Bounds) (t : ℕ) (s : State) (left : List ℕ) (place : ℕ)
    → lives_of s place ≤ lives_of (has_left lim t s left) place
left_lives lim t s [] place = same_le (lives_of s place)
left_lives lim t s (first ∷ left) place = same_le (lives_of s place)

-- a block is changed to one of no earlier life
block_lives : (blocks : ℕ → Block) (place : ℕ) (block : Block) → (blocks place).life ≤ block.life → (other : ℕ)
    → (blocks other).life ≤ (replaced blocks place block other).life
block_lives blocks place block le other = by (cases_eq place other)
  where
    by : ((place ≡ other) ⊎ (place ≡ other → ⊥)) → (blocks other).life ≤ (replaced blocks place block other).life
    by (inl is) = subst (λ p. (blocks p).life ≤ (replaced blocks place block p).life) is
        (subst (λ (b : Block). (blocks place).life ≤ b.life) (sym (replaced_same blocks place block)) le)
    by (inr ne) = subst (λ (b : Block). (blocks other).life ≤ b.life)
        (sym (replaced_other blocks place block other ne)) (same_le (blocks other).life)

module _ (setting : Setting) (s : State) (t : ℕ) where
  pub lives_grow : (event : Event) → (is_log event ≡ false → Allowed setting s t event) → (place : ℕ)
      → lives_of s place ≤ lives_of (changed setting s t event) place
  lives_grow (events.Store loc value) allowed place =
      opened_lives (so_far setting s t).spawned (written loc value s) place
  lives_grow (events.TakenPage page) allowed place = left_lives setting.lim t s _ place
  lives_grow (events.Taken taken) allowed place = left_lives setting.lim t s _ place
  lives_grow (events.Block given start life) allowed place =
      block_lives s.blocks given (block_in life Live) (omega (arith, (allowed refl).5)) place
  lives_grow (events.BeginFree freed life) allowed place =
      block_lives s.blocks freed (block_in life (Freeing t)) (omega (arith, (allowed refl).2)) place
  lives_grow (events.EndFree freed) allowed place =
      block_lives s.blocks freed (block_in (s.blocks freed).life Free) (same_le (s.blocks freed).life) place
  lives_grow event allowed place = same_le (lives_of s place)

  pub finds_now : (event : Event) → (is_log event ≡ false → Allowed setting s t event)
      → FindsNow event (lives_of (changed setting s t event))
  finds_now (events.Found place start life) allowed = (allowed refl).2
  finds_now event allowed = tt

  -- the first event of a run is allowed, and the others are a run from the state behind it
  pub plain_parts : (event : Event) (es : List (ℕ × Event))
      → IsPlainRun setting s (if is_log event then es else (t, event) ∷ es)
      → (is_log event ≡ false → Allowed setting s t event) × IsPlainRun setting (changed setting s t event) es
  plain_parts events.Log es run = (λ e. absurd (cc (e)), run)
  plain_parts event es run = (λ e. run.0, run.1)

  -- and so is the state behind them
  pub state_more : (event : Event) (es : List (ℕ × Event))
      → state_after setting s (if is_log event then es else (t, event) ∷ es)
      ≡ state_after setting (changed setting s t event) es
  state_more events.Log es = refl
  state_more event es = refl
