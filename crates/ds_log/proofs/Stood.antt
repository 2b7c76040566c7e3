-- What holds of the position at which a note stood.
use Rattle.std.proofs.Common.{◌≡◌, ℕ, sym, subst}
use Rattle.std.specs.Prelude.{IfSome}
use Rattle.ds_map.specs.Bounds.{Bounds}
use Rattle.ds_plain.specs.declared.NoteAt.{NoteAt}
use Rattle.ds_log.specs.declared.outcome.NoteStep.{NoteStep}
use Rattle.ds_log.specs.declared.outcome.NoteStep.TheVariants.{NotesOn}
use Rattle.ds_log.specs.Walks.{NoteState, notes_at, next_in, state_of}

pub stood : (P : Bounds → NoteAt → Type 0) (lim : Bounds) (thread : ℕ) (step : NoteStep) (at : NoteAt) (s : NoteState)
    → step ≡ NotesOn at → state_of lim thread step ≡ s → P lim at → IfSome (notes_at s.next) (λ at. P s.lim at)
stood P lim thread step at s is view holds =
    subst (λ (s : NoteState). IfSome (notes_at s.next) (λ at. P s.lim at)) view
    (subst (λ (step : NoteStep). IfSome (notes_at (next_in step)) (λ at. P lim at)) (sym is) holds)
