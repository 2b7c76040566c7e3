-- What calls call, as lowering tells it.
use Rattle.ds_meaning.specs.Callees.{External, Malloc, Free, PrintI64, PthreadCreate, PthreadJoin, DsNote}
use Rattle.ds_meaning.specs.Callees as meaning
use Rattle.ds_code.specs.declared.callees.Known.{Known}
use Rattle.ds_code.specs.declared.callees.Known.TheVariants as known
use Rattle.ds_code.specs.declared.callees.Called.{Called}
use Rattle.ds_code.specs.declared.callees.Called.TheVariants as called

abbrev pub known_as : External → Known
known_as Malloc = known.Malloc
known_as Free = known.Free
known_as PrintI64 = known.Print
known_as PthreadCreate = known.Create
known_as PthreadJoin = known.Join
known_as DsNote = known.Note

abbrev pub called_as : meaning.Callee → Called
called_as (meaning.Defined number f) = called.Defined number
called_as (meaning.Declared external) = called.Declared (known_as external)
called_as meaning.Unknown = called.Unknown
