-- Helpers: what is kept of a run while it is recorded. No clause of the top call speaks of them.
use Rattle.std.specs.Prelude.{◌≡◌, ℕ, List}
use Rattle.ds_map.specs.Bounds.{Bounds}
use Rattle.ds_step.specs.declared.Step.{Step}
use Rattle.ds_plain.specs.Behaviour.{Program}
use Rattle.ds_plain.specs.Thread.{Thread, first_thread, Follows, thread_after}
use Rattle.ds_plain.specs.History.{History, Interleaves}
use Rattle.ds_plain.specs.Explained.{trace_of, words_behind, IsLegalRun}

-- These traces follow the step table, in this order they are legal and leave these words, and they leave the threads
-- there.
pub record Stands (program : Program) (lim : Bounds) (traces : List (List Step)) (h : History) (words : List ℕ)
    (threads : ℕ → Thread) : Type 0 where
  pub interleaves : Interleaves traces h
  pub legal : IsLegalRun program lim h
  pub left : words_behind program lim h ≡ words
  pub follows : (t : ℕ) → Follows program lim t (first_thread lim) (trace_of traces t)
  pub at : (t : ℕ) → thread_after program lim t (first_thread lim) (trace_of traces t) ≡ threads t
