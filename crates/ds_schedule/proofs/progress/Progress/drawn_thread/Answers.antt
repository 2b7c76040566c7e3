use Rattle.std.proofs.Common.{◌≡◌, ◌<◌, ◌∙◌, ap, sym, subst, length, true, false, List, ℕ}
use Rattle.ds_plain.specs.Turns.{may_turn}
use Rattle.ds_schedule.specs.Standing.{Standing, main_has_ended}
use Rattle.ds_schedule.specs.Kept.{turns_of, may_by}
use Rattle.ds_schedule.proofs.Turning.{some_from, main_may, listed_may}
use Rattle.ds_schedule.proofs.progress.Progress.drawn_thread.Goals as goal

pub drawn-requires : goal.drawn-requires
drawn-requires c =
    let i = c.self.inside in
    let now : Standing = record { cues = i.cues.now; drawn = i.drawn; given = i.given; ended = i.ended } in
    let running : main_has_ended now ≡ false = ap main_has_ended c.self.view_is ∙ c.requires in
    subst (λ (threads : List ℕ). 0 < length threads) (sym c.self.invariant.listed)
    (some_from (may_by i.given i.ended) (main_may now c.self.invariant.some running))

pub returns-clause-may : goal.returns-clause-may
returns-clause-may c =
    let i = c.self.inside in
    subst (λ (s : Standing). may_turn (turns_of s) c.drawn.result ≡ true) c.self.view_is
    (listed_may (may_by i.given i.ended) i.turning _ c.drawn.result c.self.invariant.listed c.drawn.ensures)
