-- A module has a layout or one first fault, and with a layout its types fit.
use Rattle.std.proofs.Common.{◌≡◌, ◌++◌, ℕ, Bool, true, false, List, [], ◌∷◌, Option, Some, None, refl, sym, ap, ◌∙◌, subst, inl, inr, cond, append_assoc}
use Rattle.std.specs.Prelude.{All, map, option_map, ◌⊎◌, Result, Ok, Err, IfOk, IfErr}
use Rattle.std.proofs.lemmas.List.{map-append}
use Rattle.std.proofs.lemmas.List.Elements.{All-head, All-tail}
use Rattle.ds_ast.specs.declared.name.Name.{Name}
use Rattle.ds_ast.specs.declared.ty.Ty.{Ty}
use Rattle.ds_ast.specs.declared.ty.Ty.TheBlock.{hidden-the_row-Ty-0}
use denote.Hole.Carrier.{hidden}
use Rattle.ds_ast.specs.declared.module.Module.{Module}
use Rattle.ds_ast.specs.declared.module.StructDef.{StructDef}
use Rattle.ds_ast.specs.Bounds.{is_name, fields_of}
use Rattle.ds_names.specs.Names.{Among, AreDistinct, IsFirstTwice}
use Rattle.ds_shape.specs.Sizes.{Extent, times, extent_by, struct_extent}
use Rattle.ds_shape.specs.Types.{Stands}
use Rattle.ds_shape.specs.Written.{Line, struct_line, global_line, function_line, lines_of, written_names, struct_names, IsFirst, IsUnknown, IsRecursive, WritesTooLarge, AnyTooLarge}
use Rattle.ds_shape.specs.Accepted.{HasLayout}
use Rattle.ds_shape.specs.Fault.{HasLines, HasDepth, HasShapeFault}
use Rattle.ds_shape.specs.Laws.{LayoutsAreNotRefused, OneFirstFault, WrittenTypesFit, FieldsFit, ElementsFit}
use Rattle.ds_shape.specs.declared.fault.ShapeFault.{ShapeFault}
use Rattle.ds_shape.specs.declared.fault.ShapeFault.TheVariants.{TwiceType, Unknown, RecursiveType, TooLarge, Memory}
use Rattle.ds_shape.proofs.Exist.{existing_extents}

-- FIRST ITEMS

all_at : {X : Type 0} (P : X → Type 0) (before after : List X) (x : X) → All P (before ++ x ∷ after) → P x
all_at P [] after x all = All-head P x after all
all_at P (y ∷ before) after x all = all_at P before after x (All-tail P y (before ++ x ∷ after) all)

-- where no item has the property, none is the first that has
never_first : {X : Type 0} (P : X → Type 0) (xs : List X) (x : X) → IsFirst P xs x → All (λ (y : X). P y → ⊥) xs → ⊥
never_first P xs x first none =
    all_at (λ (y : _). P y → ⊥) first.before first.after x (subst (All (λ (y : _). P y → ⊥)) first.split none)
    first.has

same_split : {X : Type 0} (P : X → Type 0) (b c a d : List X) (x y : X) → b ++ x ∷ a ≡ c ++ y ∷ d → P x → P y →
    All (λ (z : X). P z → ⊥) b → All (λ (z : X). P z → ⊥) c → x ≡ y
same_split P [] [] a d x y is p q none never = cc
same_split P [] (z ∷ c) a d x y is p q none never =
    let e : x ≡ z = cc in absurd (All-head (λ (w : _). P w → ⊥) z c never (subst P e p))
same_split P (z ∷ b) [] a d x y is p q none never =
    let e : y ≡ z = cc in absurd (All-head (λ (w : _). P w → ⊥) z b none (subst P e q))
same_split P (z ∷ b) (w ∷ c) a d x y is p q none never =
    let e : b ++ x ∷ a ≡ c ++ y ∷ d = cc in
    same_split P b c a d x y e p q (All-tail (λ (v : _). P v → ⊥) z b none) (All-tail (λ (v : _). P v → ⊥) w c never)

-- there is one first item
same_first : {X : Type 0} (P : X → Type 0) (xs : List X) (x y : X) → IsFirst P xs x → IsFirst P xs y → x ≡ y
same_first P xs x y f g =
    same_split P f.before g.before f.after g.after x y (sym f.split ∙ g.split) f.has g.has f.none_before g.none_before

-- SECOND TIMES

among_middle : (before after : List Name) (name : Name) → Among name (before ++ name ∷ after)
among_middle [] after name = inl refl
among_middle (n ∷ before) after name = inr (among_middle before after name)

not_twice : (before after : List Name) (name : Name) → AreDistinct (before ++ name ∷ after) → Among name before → ⊥
not_twice [] after name distinct a = a
not_twice (n ∷ before) after name (first, rest) (inl e) =
    first (subst (λ (m : Name). Among m (before ++ name ∷ after)) (sym e) (among_middle before after name))
not_twice (n ∷ before) after name (first, rest) (inr a) = not_twice before after name rest a

never_twice : (names : List Name) (name : Name) → IsFirstTwice names name → AreDistinct names → ⊥
never_twice names name twice distinct =
    not_twice twice.before twice.after name (subst AreDistinct twice.split distinct) twice.first_time

nothing_behind : (xs : List Name) → xs ++ [] ≡ xs
nothing_behind [] = refl
nothing_behind (x ∷ xs) = ap (λ (ys : List Name). x ∷ ys) (nothing_behind xs)

same_second : (seen b c a d : List Name) (x y : Name) → b ++ x ∷ a ≡ c ++ y ∷ d → Among x (seen ++ b) →
    Among y (seen ++ c) → AreDistinct (seen ++ b) → AreDistinct (seen ++ c) → x ≡ y
same_second seen [] [] a d x y is p q distinct other = cc
same_second seen [] (z ∷ c) a d x y is p q distinct other =
    let e : x ≡ z =
    cc in absurd (not_twice seen c z other
    (subst (λ (n : Name). Among n seen) e (subst (Among x) (nothing_behind seen) p)))
same_second seen (z ∷ b) [] a d x y is p q distinct other =
    let e : y ≡ z =
    cc in absurd (not_twice seen b z distinct
    (subst (λ (n : Name). Among n seen) e (subst (Among y) (nothing_behind seen) q)))
same_second seen (z ∷ b) (w ∷ c) a d x y is p q distinct other =
    let e : b ++ x ∷ a ≡ c ++ y ∷ d = cc in
    let s : w ≡ z = cc in
    let l : seen ++ z ∷ b ≡ (seen ++ z ∷ []) ++ b = sym (append_assoc seen (z ∷ []) b) in
    let r : seen ++ w ∷ c ≡ (seen ++ z ∷ []) ++ c = ap (λ (n : Name). seen ++ n ∷ c) s
    ∙ sym (append_assoc seen (z ∷ []) c) in
    same_second (seen ++ z ∷ []) b c a d x y e (subst (Among x) l p) (subst (Among y) r q)
    (subst AreDistinct l distinct) (subst AreDistinct r other)

same_twice : (names : List Name) (x y : Name) → IsFirstTwice names x → IsFirstTwice names y → x ≡ y
same_twice names x y f g =
    same_second [] f.before g.before f.after g.after x y (sym f.split ∙ g.split) f.first_time g.first_time
    f.none_before g.none_before

-- FAULTS

pub never_refused : LayoutsAreNotRefused
never_refused m (TwiceType name) layout fault = never_twice (struct_names m.structs) name fault layout.no_twice_type
never_refused m (Unknown name) layout fault =
    never_first (IsUnknown m) (written_names m) name fault.1 layout.no_unknown
never_refused m (RecursiveType name) layout fault =
    never_first (IsRecursive m.structs) (struct_names m.structs) name fault.1 layout.no_recursive_type
never_refused m (TooLarge name is_struct) layout fault =
    never_first (λ (l : Line). AnyTooLarge m.structs l.types) (lines_of m) fault.1.0 fault.1.1 layout.no_too_large
never_refused m Memory layout fault = fault

-- the kinds of fault, the earlier first
never_lines : (m : Module) (name : Name) → HasShapeFault m (Unknown name) → HasLines m → ⊥
never_lines m name fault lines = never_first (IsUnknown m) (written_names m) name fault.1 lines.no_unknown

never_depth : (m : Module) (name : Name) → HasShapeFault m (RecursiveType name) → HasDepth m → ⊥
never_depth m name fault depth =
    never_first (IsRecursive m.structs) (struct_names m.structs) name fault.1 depth.no_recursive_type

pub one_fault : OneFirstFault
one_fault m (TwiceType x) (TwiceType y) f g = ap TwiceType (same_twice (struct_names m.structs) x y f g)
one_fault m (TwiceType x) (Unknown y) f g = absurd (never_twice (struct_names m.structs) x f g.0)
one_fault m (TwiceType x) (RecursiveType y) f g = absurd (never_twice (struct_names m.structs) x f g.0.no_twice_type)
one_fault m (TwiceType x) (TooLarge y b) f g =
    absurd (never_twice (struct_names m.structs) x f g.0.lines.no_twice_type)
one_fault m (TwiceType x) Memory f g = absurd g
one_fault m (Unknown x) (TwiceType y) f g = absurd (never_twice (struct_names m.structs) y g f.0)
one_fault m (Unknown x) (Unknown y) f g = ap Unknown (same_first (IsUnknown m) (written_names m) x y f.1 g.1)
one_fault m (Unknown x) (RecursiveType y) f g = absurd (never_lines m x f g.0)
one_fault m (Unknown x) (TooLarge y b) f g = absurd (never_lines m x f g.0.lines)
one_fault m (Unknown x) Memory f g = absurd g
one_fault m (RecursiveType x) (TwiceType y) f g = absurd (never_twice (struct_names m.structs) y g f.0.no_twice_type)
one_fault m (RecursiveType x) (Unknown y) f g = absurd (never_lines m y g f.0)
one_fault m (RecursiveType x) (RecursiveType y) f g =
    ap RecursiveType (same_first (IsRecursive m.structs) (struct_names m.structs) x y f.1 g.1)
one_fault m (RecursiveType x) (TooLarge y b) f g = absurd (never_depth m x f g.0)
one_fault m (RecursiveType x) Memory f g = absurd g
one_fault m (TooLarge x a) (TwiceType y) f g =
    absurd (never_twice (struct_names m.structs) y g f.0.lines.no_twice_type)
one_fault m (TooLarge x a) (Unknown y) f g = absurd (never_lines m y g f.0.lines)
one_fault m (TooLarge x a) (RecursiveType y) f g = absurd (never_depth m y g f.0)
one_fault m (TooLarge x a) (TooLarge y b) (depth, (l, first, named, is)) (deep, (k, second, called, are)) =
    let same : l ≡ k = same_first (λ (l : Line). AnyTooLarge m.structs l.types) (lines_of m) l k first second in
    ap (λ (n : Name). TooLarge n a) (sym named) ∙ ap (λ (b : Bool). TooLarge l.name b) (sym is)
    ∙ ap (λ (l : Line). TooLarge l.name l.is_struct) same
    ∙ ap (λ (n : Name). TooLarge n k.is_struct) called ∙ ap (λ (b : Bool). TooLarge y b) are
one_fault m (TooLarge x a) Memory f g = absurd g
one_fault m Memory g f h = absurd f

-- TYPES THAT FIT

any_at : (structs : List StructDef) (before after : List Ty) (t : Ty) → WritesTooLarge structs t →
    AnyTooLarge structs (before ++ t ∷ after)
any_at structs [] after t w = inl w
any_at structs (u ∷ before) after t w = inr (any_at structs before after t w)

pub written_fit : WrittenTypesFit
written_fit m l t layout (before, after, is) (front, back, at) =
    let x = existing_extents m l t layout (before, after, is) (front, back, at) in
    let none = all_at (λ (k : Line). AnyTooLarge m.structs k.types → ⊥) before after l
    (subst (All (λ (k : Line). AnyTooLarge m.structs k.types → ⊥)) is layout.no_too_large) in
    (x.0, x.1, λ w. none (subst (AnyTooLarge m.structs) (sym at) (any_at m.structs front back t w)))

abbrev HasDef : List StructDef → List Ty → Type 0
HasDef structs fields = (s : StructDef) × Stands s structs × (s.fields ≡ fields)

def_by : (line : StructDef) (lines : List StructDef) (name : Name) (fields : List Ty) (b : Bool) →
    (fields_of lines name ≡ Some fields → HasDef lines fields) →
    cond b (Some line.fields) (fields_of lines name) ≡ Some fields → HasDef (line ∷ lines) fields
def_by line lines name fields true rest e = let same : line.fields ≡ fields = cc in (line, ([], lines, refl), same)
def_by line lines name fields false rest e =
    let r = rest e in (r.0, (line ∷ r.1.0, r.1.1, ap (λ (s : List StructDef). line ∷ s) r.1.2), r.2)

def_of : (structs : List StructDef) (name : Name) (fields : List Ty) → fields_of structs name ≡ Some fields →
    HasDef structs fields
def_of [] name fields e = absurd cc
def_of (line ∷ lines) name fields e =
    def_by line lines name fields (is_name line.name name) (def_of lines name fields) e

line_stands : (m : Module) (s : StructDef) → Stands s m.structs → Stands (struct_line s) (lines_of m)
line_stands m s (before, after, is) =
    let rest = map global_line m.globals ++ map function_line m.functions in (
      map struct_line before,
      map struct_line after ++ rest,
      append_assoc (map struct_line m.structs) (map global_line m.globals) (map function_line m.functions)
          ∙ ap (λ (ls : List Line). ls ++ rest) (ap (map struct_line) is ∙ map-append struct_line before (s ∷ after))
          ∙ append_assoc (map struct_line before) (struct_line s ∷ map struct_line after) rest,
    )

pub fields_fit : FieldsFit
fields_fit m name fields t layout of stands =
    let d = def_of m.structs name fields of in
    written_fit m (struct_line d.0) t layout (line_stands m d.0 d.1) (subst (Stands t) (sym d.2) stands)

inside_array : (structs : List StructDef) (count : ℕ) (o : Option Extent) (e : Extent) →
    option_map (times count) o ≡ Some e → (x : Extent) × (o ≡ Some x)
inside_array structs count None e is = absurd cc
inside_array structs count (Some x) e is = (x, refl)

pub elements_fit : ElementsFit
unfolding hidden-the_row-Ty-0 hidden
elements_fit structs count of (e, (d, is), none) =
    let x = inside_array structs count (extent_by (struct_extent structs d) of) e is in
    (x.0, (d, x.1), λ w. none (inr w))

-- THE ANSWER OF A LAYOUT

-- a module that has a layout is refused for want of memory alone
pub only_memory : {A : Type 0} (m : Module) (r : Result A ShapeFault) →
    IfErr r (λ (f : ShapeFault). (f ≡ Memory) ⊎ HasShapeFault m f) → HasLayout m →
    IfErr r (λ (f : ShapeFault). f ≡ Memory)
only_memory m (Ok x) refused layout = refused
only_memory m (Err f) (inl memory) layout = memory
only_memory m (Err f) (inr fault) layout = absurd (never_refused m f layout fault)

-- and another is refused for its first fault or for want of memory
pub first_or_memory : {A : Type 0} (m : Module) (P : A → Type 0) (r : Result A ShapeFault) →
    IfOk r (λ (x : A). HasLayout m × P x) →
    IfErr r (λ (f : ShapeFault). (f ≡ Memory) ⊎ HasShapeFault m f) → (g : ShapeFault) → HasShapeFault m g → (r ≡ Err g)
    ⊎ (r ≡ Err Memory)
first_or_memory m P (Ok x) laid_out refused g has = absurd (never_refused m g laid_out.0 has)
first_or_memory m P (Err f) laid_out (inl memory) g has = inr (ap Err memory)
first_or_memory m P (Err f) laid_out (inr fault) g has = inl (ap Err (one_fault m f g fault has))
