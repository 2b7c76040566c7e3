-- Which external a name is.
use Rattle.std.proofs.Common.{◌≡◌, Bool, true, false, if◌then◌else◌, refl}
use Rattle.std.specs.Prelude.{codes}
use Rattle.ds_ast.specs.declared.name.Name.{Name}
use Rattle.ds_meaning.specs.Callees.{Callee, Declared, Malloc, Free, PrintI64, PthreadCreate, PthreadJoin, DsNote}
use Rattle.ds_meaning.specs.Callees as meaning
use Rattle.ds_code.specs.declared.callees.Known.TheVariants as known
use Rattle.ds_code.specs.declared.callees.Called.TheVariants as called
use Rattle.ds_code.specs.Callees.{called_as}
use Rattle.ds_lower_parts.specs.Callees.{is_called, memory_or, print_or, join_or}

chain : (a b c d e f : Bool)
    → (if a then called.Declared known.Malloc else (if b then called.Declared known.Free else
    (if c then called.Declared known.Print else (if d then called.Declared known.Create else
    (if e then called.Declared known.Join else (if f then called.Declared known.Note else called.Unknown))))))
    ≡ called_as (if a then Declared Malloc else (if b then Declared Free else (if c then Declared PrintI64 else
    (if d then Declared PthreadCreate else (if e then Declared PthreadJoin else (if f then Declared DsNote
    else meaning.Unknown))))))
chain true b c d e f = refl
chain false true c d e f = refl
chain false false true d e f = refl
chain false false false true e f = refl
chain false false false false true f = refl
chain false false false false false true = refl
chain false false false false false false = refl

pub external_same : (name : Name)
    → memory_or name (print_or name (join_or name called.Unknown))
    ≡ called_as (meaning.external_among meaning.externals name)
external_same name =
    chain (is_called (codes "malloc") name) (is_called (codes "free") name) (is_called (codes "print_i64") name)
    (is_called (codes "pthread_create") name) (is_called (codes "pthread_join") name) (is_called (codes "ds_note") name)
