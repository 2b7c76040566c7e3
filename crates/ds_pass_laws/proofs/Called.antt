-- The functions of a module with its notes: their numbers, their blocks, and what calls call.
use Rattle.std.proofs.Common.{◌≡◌, ℕ, zero, suc, Bool, true, false, if◌then◌else◌, List, [], ◌∷◌, ◌++◌, ◌⊎◌, inl, inr}
use Rattle.std.proofs.Common.{length, map, Option, Some, None, slice_get, refl, ap, sym, ◌∙◌, subst}
use Rattle.std.specs.Option.{option_map}
use Rattle.std.proofs.lemmas.Option.{slice_get-map}
use Rattle.ds_ast.specs.declared.name.Name.{Name}
use Rattle.ds_ast.specs.declared.name.Name.TheVariants.{Text}
use Rattle.ds_ast.specs.declared.value.Value.{Value}
use Rattle.ds_ast.specs.declared.ty.Scalar.{Scalar}
use Rattle.ds_ast.specs.declared.ty.Scalar.TheVariants.{I1, I8, I16, I32, I64, Ptr}
use Rattle.ds_ast.specs.declared.words.RmwOp.TheVariants.{Xchg, Add, Sub, And, Or, Xor, Umax, Umin}
use Rattle.ds_ast.specs.declared.instr.Op.{Op}
use Rattle.ds_ast.specs.declared.instr.Op.TheVariants.{Bin, Icmp, Select, Cast, Alloca, Load, Store, Gep, Call, Phi}
use Rattle.ds_ast.specs.declared.instr.Op.TheVariants.{Rmw, Cmpxchg, Extract, Fence, Ret, Br, CondBr, Switch}
use Rattle.ds_ast.specs.declared.instr.Op.TheVariants.{Unreachable}
use Rattle.ds_ast.specs.declared.module.Module.{Module}
use Rattle.ds_ast.specs.declared.module.Function.{Function}
use Rattle.ds_ast.specs.declared.module.Block.{Block}
use Rattle.ds_ast.specs.Bounds.{is_name}
use Rattle.ds_names.specs.Names.{place_of}
use Rattle.ds_shape.specs.Site.{function_number}
use Rattle.ds_meaning.specs.Callees.{Callee, Defined, Declared, Unknown, DsNote, External, externals, external_among}
use Rattle.ds_meaning.specs.Callees.{callee_by, callee_at, callee_numbered, callee_of, is_ds_note}
use Rattle.ds_meaning.specs.Frames.{blocks_in}
use Rattle.ds_meaning.specs.Program.{is_thread_function}
use Rattle.ds_pass.specs.Noted.{note_name, note_of, notes_behind, noted_block, noted_function, declaration, noted}
use Rattle.ds_code_laws.proofs.Named.{place_left}
use Rattle.ds_code_laws.proofs.Found.{get_left}
use Rattle.ds_pass_laws.proofs.Shifted.{AllNotes, NotesAreNotes}

-- NUMBERS

abbrev pub names : List Function → List Name
names fs = map (λ (f : Function). f.name) fs

names_noted : (fs : List Function) → names (map noted_function fs ++ declaration ∷ []) ≡ names fs ++ note_name ∷ []
names_noted [] = refl
names_noted (f ∷ fs) = ap (λ ns. f.name ∷ ns) (names_noted fs)

not_none : {A : Type 0} (x : A) → Some x ≡ None → ⊥
not_none x e = absurd (cc)

place_right : (xs : List Name) (y x : Name) → place_of xs x ≡ None → is_name y x ≡ true
    → place_of (xs ++ y ∷ []) x ≡ Some (length xs)
place_right [] y x e is = ap (λ t. if t then Some 0 else None) is
place_right (z ∷ xs) y x e is = by_test (place_of xs x) refl (λ f. place_right xs y x f is) (is_name z x) e
  where
    by_test : (o : Option ℕ) → place_of xs x ≡ o
        → (place_of xs x ≡ None → place_of (xs ++ y ∷ []) x ≡ Some (length xs)) → (t : Bool)
        → (if t then Some 0 else option_map suc (place_of xs x)) ≡ None
        → (if t then Some 0 else option_map suc (place_of (xs ++ y ∷ []) x)) ≡ Some (suc (length xs))
    by_test o f rec true e = absurd (not_none 0 e)
    by_test None f rec false e = ap (λ o. option_map suc o) (rec f)
    by_test (Some k) f rec false e = absurd (not_none (suc k) (ap (λ o. option_map suc o) (sym f) ∙ e))

-- a function of the module keeps its number
pub number_kept : (m : Module) (name : Name) (n : ℕ) → function_number m name ≡ Some n
    → function_number (noted m) name ≡ Some n
number_kept m name n e =
    ap (λ ns. place_of ns name) (names_noted m.functions) ∙ place_left (names m.functions) (note_name ∷ []) name n e

-- ds_note comes behind them
note_number : (m : Module) → function_number m note_name ≡ None
    → function_number (noted m) note_name ≡ Some (length (names m.functions))
note_number m none =
    ap (λ ns. place_of ns note_name) (names_noted m.functions)
    ∙ place_right (names m.functions) note_name note_name none refl

-- FUNCTIONS

-- a function of the module stands there with its notes
pub function_kept : (m : Module) (n : ℕ) (f : Function) → slice_get m.functions n ≡ Some f
    → slice_get (noted m).functions n ≡ Some (noted_function f)
function_kept m n f e =
    get_left (map noted_function m.functions) (declaration ∷ []) n (noted_function f)
    (slice_get-map noted_function m.functions n ∙ ap (λ o. option_map noted_function o) e)

-- where the module has none, there is the declaration, or none
pub data NoFunction : Option Function → Type 0 where
  NoneThere : NoFunction None
  DeclaredThere : NoFunction (Some declaration)

none_there : (fs : List Function) (n : ℕ) → slice_get fs n ≡ None
    → NoFunction (slice_get (map noted_function fs ++ declaration ∷ []) n)
none_there [] zero e = DeclaredThere
none_there [] (suc n) e = NoneThere
none_there (f ∷ fs) zero e = absurd (not_none f e)
none_there (f ∷ fs) (suc n) e = none_there fs n e

pub no_function : (m : Module) (n : ℕ) → slice_get m.functions n ≡ None
    → NoFunction (slice_get (noted m).functions n)
no_function m n e = none_there m.functions n e

pub no_blocks : (o : Option Function) → NoFunction o → blocks_in o ≡ []
no_blocks None NoneThere = refl
no_blocks (Some f) DeclaredThere = refl

no_thread : (o : Option Function) → NoFunction o → is_thread_function o ≡ false
no_thread None NoneThere = refl
no_thread (Some f) DeclaredThere = refl

-- the blocks of a function with their notes
pub blocks_noted : (m : Module) (n : ℕ)
    → blocks_in (slice_get (noted m).functions n) ≡ map noted_block (blocks_in (slice_get m.functions n))
blocks_noted m n = by_function (slice_get m.functions n) refl
  where
    by_function : (o : Option Function) → slice_get m.functions n ≡ o
        → blocks_in (slice_get (noted m).functions n) ≡ map noted_block (blocks_in o)
    by_function None e = no_blocks (slice_get (noted m).functions n) (no_function m n e)
    by_function (Some f) e = ap blocks_in (function_kept m n f e)

-- a thread may be started on the same functions
pub starts_noted : (m : Module) (n : ℕ)
    → is_thread_function (slice_get (noted m).functions n) ≡ is_thread_function (slice_get m.functions n)
starts_noted m n = by_function (slice_get m.functions n) refl
  where
    by_blocks : (f : Function) (bs : List Block) → f.blocks ≡ bs
        → is_thread_function (Some (noted_function f)) ≡ is_thread_function (Some f)
    by_blocks f [] e =
        ap (λ (b : List Block). is_thread_function (Some (record (noted_function f) { blocks = map noted_block b }))) e
        ∙ sym (ap (λ (b : List Block). is_thread_function (Some (record f { blocks = b }))) e)
    by_blocks f (b ∷ bs) e =
        ap (λ (b : List Block). is_thread_function (Some (record (noted_function f) { blocks = map noted_block b }))) e
        ∙ sym (ap (λ (b : List Block). is_thread_function (Some (record f { blocks = b }))) e)

    by_function : (o : Option Function) → slice_get m.functions n ≡ o
        → is_thread_function (slice_get (noted m).functions n) ≡ is_thread_function (slice_get m.functions n)
    by_function None e =
        no_thread (slice_get (noted m).functions n) (no_function m n e) ∙ sym (ap is_thread_function e)
    by_function (Some f) e =
        ap is_thread_function (function_kept m n f e) ∙ by_blocks f f.blocks refl ∙ sym (ap is_thread_function e)

-- CALLS

-- what is called, with its notes
abbrev pub noted_callee : Callee → Callee
noted_callee (Defined number f) = Defined number (noted_function f)
noted_callee (Declared external) = Declared external
noted_callee Unknown = Unknown

by_blocks : (n : ℕ) (f : Function) (bs : List Block) → callee_by n (noted_function f) (map noted_block bs)
    ≡ noted_callee (callee_by n f bs)
by_blocks n f [] = among externals
  where
    among : (es : List (List ℕ × External)) → external_among es f.name ≡ noted_callee (external_among es f.name)
    among [] = refl
    among (e ∷ es) = by_test (among es) (is_name (Text e.0) f.name)
      where
        by_test : external_among es f.name ≡ noted_callee (external_among es f.name) → (t : Bool)
            → (if t then Declared e.1 else external_among es f.name)
            ≡ noted_callee (if t then Declared e.1 else external_among es f.name)
        by_test rec true = refl
        by_test rec false = rec
by_blocks n f (b ∷ bs) = refl

-- a function of the module is called with its notes
pub callee_kept : (m : Module) (name : Name) (n : ℕ) (f : Function) → function_number m name ≡ Some n
    → slice_get m.functions n ≡ Some f → callee_of (noted m) name ≡ noted_callee (callee_by n f f.blocks)
callee_kept m name n f is e =
    ap (callee_numbered (noted m)) (number_kept m name n is)
    ∙ ap (callee_at n) (function_kept m n f e)
    ∙ by_blocks n f f.blocks

-- what has no meaning in the module is left out; all else is called with its notes
pub callee_noted : (m : Module) (name : Name)
    → (callee_of m name ≡ Unknown) ⊎ (callee_of (noted m) name ≡ noted_callee (callee_of m name))
callee_noted m name = by_number (function_number m name) refl
  where
    by_function : (n : ℕ) → function_number m name ≡ Some n → (o : Option Function) → slice_get m.functions n ≡ o
        → (callee_numbered m (Some n) ≡ Unknown)
        ⊎ (callee_of (noted m) name ≡ noted_callee (callee_numbered m (Some n)))
    by_function n is None e = inl (ap (callee_at n) e)
    by_function n is (Some f) e =
        inr (callee_kept m name n f is e ∙ sym (ap (λ o. noted_callee (callee_at n o)) e))

    by_number : (o : Option ℕ) → function_number m name ≡ o
        → (callee_of m name ≡ Unknown) ⊎ (callee_of (noted m) name ≡ noted_callee (callee_of m name))
    by_number None e = inl (ap (callee_numbered m) e)
    by_number (Some n) e =
        subst (λ o. (callee_numbered m o ≡ Unknown) ⊎ (callee_of (noted m) name ≡ noted_callee (callee_numbered m o)))
        (sym e) (by_function n e (slice_get m.functions n) refl)

last_there : (fs : List Function) → slice_get (map noted_function fs ++ declaration ∷ []) (length (names fs))
    ≡ Some declaration
last_there [] = refl
last_there (f ∷ fs) = last_there fs

-- a note calls the declared ds_note
pub note_callee : (m : Module) → function_number m note_name ≡ None → callee_of (noted m) note_name ≡ Declared DsNote
note_callee m none =
    ap (callee_numbered (noted m)) (note_number m none)
    ∙ ap (callee_at (length (names m.functions))) (last_there m.functions)

-- NOTES

module _ (m : Module) (none : function_number m note_name ≡ None) where
  one_note : (ty : Scalar) (at value : Value) → AllNotes (noted m) (note_of ty at value)
  one_note I1 at value = tt
  one_note I8 at value = tt
  one_note I16 at value = tt
  one_note I32 at value = tt
  one_note I64 at value = tt
  one_note Ptr at value = (ap is_ds_note (note_callee m none), tt)

  behind : (op : Op) → AllNotes (noted m) (notes_behind op)
  behind (Bin op ty a b) = tt
  behind (Icmp condition ty a b) = tt
  behind (Select c ty a b) = tt
  behind (Cast op from a to) = tt
  behind (Alloca ty count) = tt
  behind (Load ty at) = tt
  behind (Store ty value at) = one_note ty at value
  behind (Gep ty base indices) = tt
  behind (Call result callee args) = tt
  behind (Phi ty arms) = tt
  behind (Rmw Xchg at ty value) = one_note ty at value
  behind (Rmw Add at ty value) = tt
  behind (Rmw Sub at ty value) = tt
  behind (Rmw And at ty value) = tt
  behind (Rmw Or at ty value) = tt
  behind (Rmw Xor at ty value) = tt
  behind (Rmw Umax at ty value) = tt
  behind (Rmw Umin at ty value) = tt
  behind (Cmpxchg at ty expected new) = one_note ty at new
  behind (Extract ty of index) = tt
  behind Fence = tt
  behind (Ret operand) = tt
  behind (Br target) = tt
  behind (CondBr c target other) = tt
  behind (Switch ty value other cases) = tt
  behind Unreachable = tt

  pub notes_are : NotesAreNotes (noted m)
  notes_are i = behind i.op
