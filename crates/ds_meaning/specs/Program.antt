-- The program of a module: what each of its threads asks.
use Rattle.std.specs.Prelude.{ℕ, Bool, true, false, ◌&&◌, if◌then◌else◌, List, [], ◌∷◌, map, slice_get}
use Rattle.std.specs.Prelude.{Option, Some, None, unwrap_or, codes}
use Rattle.ds_ast.specs.declared.name.Name.{Name}
use Rattle.ds_ast.specs.declared.name.Name.TheVariants.{Number, Text}
use Rattle.ds_ast.specs.declared.ty.Ty.{Ty, Void, One, Struct, Array'}
use Rattle.ds_ast.specs.declared.module.Module.{Module}
use Rattle.ds_ast.specs.declared.module.Function.{Function}
use Rattle.ds_ast.specs.declared.module.Param.{Param}
use Rattle.ds_ast.specs.declared.module.Block.{Block}
use Rattle.ds_map.specs.Bounds.{Bounds}
use Rattle.ds_shape.specs.Image.{image_of}
use Rattle.ds_shape.specs.Site.{function_number}
use Rattle.ds_plain.specs.Behaviour.{Program, behaviour}
use Rattle.ds_meaning.specs.Values.{Values, cut, is_pointer, global_address}
use Rattle.ds_meaning.specs.Frames.{Context, State, Runs, TooLarge, first_frame, has_room}
use Rattle.ds_meaning.specs.Meaning.{step}

-- HOW A THREAD BEGINS

-- a parameter with 0
abbrev pub zero_for : Param → Option Name × ℕ
zero_for p = (Some p.name, 0)

-- the first parameter with the argument, and each other one with 0
abbrev pub with_argument : ℕ → List Param → Values
with_argument argument [] = []
with_argument argument (p ∷ ps) = (Some p.name, cut p.ty argument) ∷ map zero_for ps

-- a thread at the first instruction of the function that has the number
abbrev pub start_by : (number argument : ℕ) → Module → Option Function → State
start_by number argument m None =
    Runs (record { function = number; block = Number 0; index = 0; env = []; taken = 0 }) []
start_by number argument m (Some f) =
    if has_room m [] f then Runs (first_frame number f (with_argument argument f.params) 0) [] else TooLarge number

-- a thread at the first instruction of a function, with an argument
abbrev pub start : Module → (function argument : ℕ) → State
start m function argument = start_by function argument m (slice_get m.functions function)

-- THE PROGRAM

-- the function is defined
abbrev pub has_blocks : List Block → Bool
has_blocks [] = false
has_blocks (b ∷ bs) = true

-- the type is ptr
abbrev pub gives_pointer : Ty → Bool
gives_pointer Void = false
gives_pointer (One ty) = is_pointer ty
gives_pointer (Array' count _ of) = false
gives_pointer (Struct name) = false

-- there is one parameter, a ptr
abbrev pub takes_pointer : List Param → Bool
takes_pointer [] = false
takes_pointer (p ∷ []) = is_pointer p.ty
takes_pointer (p ∷ q ∷ ps) = false

-- a thread may run it: it is defined, takes a pointer, and gives a pointer
abbrev pub is_thread_function : Option Function → Bool
is_thread_function None = false
is_thread_function (Some f) = has_blocks f.blocks && gives_pointer f.result && takes_pointer f.params

-- the number of main
abbrev pub main_number : Module → ℕ
main_number m = unwrap_or (function_number m (Text (codes "main"))) 0

-- a thread of the module, noting or not
abbrev pub context : Bool → Bounds → Module → ℕ → Context
context noting lim m thread = record { code = m; noting = noting; lim = lim; thread = thread }

-- How the threads of a module behave. In a module as it was read each store of a pointer is noted; in one with calls of
-- ds_note these note.
abbrev pub program_of : (noting : Bool) → Bounds → Module → Program
program_of noting lim m = record {
  main = main_number m;
  image = image_of global_address m;
  may_start = λ function. is_thread_function (slice_get m.functions function);
  behaves = λ thread function argument.
      behaviour (step (context noting lim m thread)) lim.fuel (start m function argument);
}
