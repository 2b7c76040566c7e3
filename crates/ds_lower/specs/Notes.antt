-- What is called and notes a pointer.
use Rattle.std.specs.Prelude.{Bool, true, false}
use Rattle.ds_code.specs.declared.callees.Known.{Known}
use Rattle.ds_code.specs.declared.callees.Known.TheVariants as known
use Rattle.ds_code.specs.declared.callees.Called.{Called}
use Rattle.ds_code.specs.declared.callees.Called.TheVariants as called

-- the external notes a pointer
abbrev pub is_known_note : Known → Bool
is_known_note known.Malloc = false
is_known_note known.Free = false
is_known_note known.Print = false
is_known_note known.Create = false
is_known_note known.Join = false
is_known_note known.Note = true

-- what is called notes a pointer
abbrev pub is_note_called : Called → Bool
is_note_called (called.Defined number) = false
is_note_called (called.Declared external) = is_known_note external
is_note_called called.Unknown = false
