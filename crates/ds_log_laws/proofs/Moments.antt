-- What is noted and what is logged, at every moment of a recorded run.
use Rattle.std.proofs.Common.{◌≡◌, ℕ, zero, suc, ◌*◌, ◌<◌, List, [], ◌∷◌, take, Contains, ◌↔◌, sym, ◌∙◌, subst}
use Rattle.ds_map.specs.Bounds.{Bounds, IsInRange}
use Rattle.ds_step.specs.declared.Step.{Step}
use Rattle.ds_step.specs.Word.{words_after}
use Rattle.ds_plain.specs.declared.Stop.{Stop}
use Rattle.ds_plain.specs.Behaviour.{Program}
use Rattle.ds_plain.specs.State.{State, first_state, replaced}
use Rattle.ds_plain.specs.Plain.{changed, state_after}
use Rattle.ds_plain.specs.Thread.{Thread, first_thread, moved}
use Rattle.ds_plain.specs.History.{History, Interleaves, words_left, erase}
use Rattle.ds_plain.specs.Explained.{setting_of, words_behind, state_behind, IsRecord, IsLegalRun, IsExplained}
use Rattle.ds_log_laws.specs.Reading.{logged}
use Rattle.ds_log_laws.proofs.Links.{Logs, Past, is_in, past_behind, kept_stands}
use Rattle.ds_log_laws.proofs.Lives.{lives_of, state_more}
use Rattle.ds_log_laws.proofs.Tied.{note_of, is_noted, is_in_contains, contains_is_in, noted_contains, contains_noted}
use Rattle.ds_log_laws.proofs.Logged.{reads}
use Rattle.ds_log_laws.proofs.Runs.{Keeps, makes, keeps_on, none_drawn, none_told, first, keeps_first}

-- for the present lives of blocks the words log what is noted
abbrev IsRead : Bounds → List ℕ → State → Type 0
IsRead lim words s = (t place loc : ℕ) → t < 16 → place < 256 * lim.pages
    → is_in loc (logged lim words place (lives_of s place) t) ≡ is_noted place (lives_of s place) loc t s.noted

module _ (program : Program) (lim : Bounds) (range : IsInRange lim) (stops : List Stop)
    (traces : List (List Step)) where
  read_now : (h : History) (words : List ℕ) (s : State) (threads : ℕ → Thread) (logs : Logs) (pasts : ℕ → Past)
      → Keeps program lim stops traces h words s threads logs pasts → IsRead lim words s
  read_now h words s threads logs pasts keeps t place loc few inside =
      reads lim traces words logs t (pasts t) (lives_of s) (keeps.sound t) place loc
      (kept_stands lim traces words logs t (pasts t) (lives_of s) (threads t).position (keeps.linked t few) place
      inside) ∙ keeps.tied t place (lives_of s place) loc

  read_at : (k : ℕ) (h : History) (words : List ℕ) (s : State) (threads : ℕ → Thread) (logs : Logs) (pasts : ℕ → Past)
      → Keeps program lim stops traces h words s threads logs pasts
      → IsRead lim (words_left words (take k h)) (state_after (setting_of program lim stops) s (erase (take k h)))
  read_at zero h words s threads logs pasts keeps = read_now h words s threads logs pasts keeps
  read_at (suc k) [] words s threads logs pasts keeps = read_now [] words s threads logs pasts keeps
  read_at (suc k) (e ∷ h) words s threads logs pasts keeps =
      let makes' = makes program lim range stops traces e h words s threads logs pasts keeps in
      subst (IsRead lim (words_left (words_after words e.1.op) (take k h)))
      (sym (state_more (setting_of program lim stops) s e.0 e.1.event (erase (take k h))))
      (read_at k h (words_after words e.1.op) (changed (setting_of program lim stops) s e.0 e.1.event)
      (replaced threads e.0 (moved program lim e.0 (threads e.0) e.1.old)) makes'.logs'
      (replaced pasts e.0 (past_behind e.1.event (pasts e.0)))
      (keeps_on program lim range stops traces e h words s threads logs pasts keeps))

-- from the start
module _ (program : Program) (lim : Bounds) (stops : List Stop) (traces : List (List Step)) (range : IsInRange lim)
    (known : IsRecord program lim stops traces) (h : History) (takes : Interleaves traces h)
    (legal : IsLegalRun program lim h) (explained : IsExplained program lim stops h) where
  read_from_start : (k : ℕ)
      → IsRead lim (words_behind program lim (take k h)) (state_behind program lim stops (take k h))
  read_from_start k =
      read_at program lim range stops traces k h
      (first program lim stops traces range known h takes legal explained) (first_state program lim)
      (λ t. first_thread lim) (none_drawn program lim stops traces range known h takes legal explained)
      (λ t. none_told program lim stops traces range known h takes legal explained)
      (keeps_first program lim stops traces range known h takes legal explained)

  pub logs_tell : (k t place loc : ℕ) → t < 16 → place < 256 * lim.pages
      → let words = words_behind program lim (take k h) in
      let s = state_behind program lim stops (take k h) in
      let life = lives_of s place in
      Contains s.noted (note_of place life loc t) ↔ Contains (logged lim words place life t) loc
  logs_tell k t place loc few inside =
      let words = words_behind program lim (take k h) in
      let s = state_behind program lim stops (take k h) in
      let life = lives_of s place in
      let same = read_from_start k t place loc few inside in (
        λ has. is_in_contains loc (logged lim words place life t)
            (same ∙ contains_noted place life loc t s.noted has),
        λ has. noted_contains place life loc t s.noted
            (sym same ∙ contains_is_in loc (logged lim words place life t) has),
      )
