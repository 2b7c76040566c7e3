-- The externals by their names, in the order in which lowering asks for them.
use Rattle.std.specs.Prelude.{ℕ, Bool, List, if◌then◌else◌, codes}
use Rattle.ds_ast.specs.declared.name.Name.{Name}
use Rattle.ds_ast.specs.declared.name.Name.TheVariants.{Text}
use Rattle.ds_ast.specs.Bounds.{is_name}
use Rattle.ds_code.specs.declared.callees.Known.TheVariants as known
use Rattle.ds_code.specs.declared.callees.Called.{Called}
use Rattle.ds_code.specs.declared.callees.Called.TheVariants as called

-- the name is this text
abbrev pub is_called : List ℕ → Name → Bool
is_called text name = is_name (Text text) name

-- the external of the name among those of memory, or else another
abbrev pub memory_or : Name → Called → Called
memory_or name other =
    if is_called (codes "malloc") name then called.Declared known.Malloc else
    (if is_called (codes "free") name then called.Declared known.Free else other)

-- among the print and the start of a thread
abbrev pub print_or : Name → Called → Called
print_or name other =
    if is_called (codes "print_i64") name then called.Declared known.Print else
    (if is_called (codes "pthread_create") name then called.Declared known.Create else other)

-- among the join and the note
abbrev pub join_or : Name → Called → Called
join_or name other =
    if is_called (codes "pthread_join") name then called.Declared known.Join else
    (if is_called (codes "ds_note") name then called.Declared known.Note else other)
