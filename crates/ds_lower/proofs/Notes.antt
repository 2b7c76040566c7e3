-- Calls of ds_note.
use Rattle.std.proofs.Common.{◌≡◌, refl}
use Rattle.ds_meaning.specs.Callees.{Callee, Defined, Declared, External, Malloc, Free, PrintI64, PthreadCreate}
use Rattle.ds_meaning.specs.Callees.{PthreadJoin}
use Rattle.ds_meaning.specs.Callees.{DsNote, is_ds_note, external_among, externals}
use Rattle.ds_meaning.specs.Callees as meaning
use Rattle.ds_code.specs.Callees.{called_as, known_as}
use Rattle.ds_lower.specs.Notes.{is_note_called, is_known_note}

known_same : (e : External) → is_known_note (known_as e) ≡ meaning.is_note e
known_same Malloc = refl
known_same Free = refl
known_same PrintI64 = refl
known_same PthreadCreate = refl
known_same PthreadJoin = refl
known_same DsNote = refl

-- what is told of a callee says whether it is ds_note
pub note_same : (c : Callee) → is_note_called (called_as c) ≡ is_ds_note c
note_same (Defined number f) = refl
note_same (Declared e) = known_same e
note_same meaning.Unknown = refl
