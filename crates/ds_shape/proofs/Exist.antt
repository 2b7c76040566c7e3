-- In a module whose struct types are known and hold themselves nowhere no chain of structs is longer than there are
-- lines, so that each type has an extent.
use Rattle.std.proofs.Common.{◌≡◌, ◌+◌, ◌<◌, ◌≤◌, ◌++◌, ◌⊎◌, ℕ, zero, suc, Bool, true, false, max, List, [], ◌∷◌, Option, Some, None, refl, sym, ap, ◌∙◌, subst, inl, inr, cond, true≢false, arith}
use Rattle.std.specs.Prelude.{All, map, flat_map, length, option_map, option_and_then}
use Rattle.std.proofs.lemmas.List.{append_assoc, length-map}
use Rattle.std.specs.Bool.{Decides}
use Rattle.std.proofs.lemmas.Bool.Decides.{Decides-eqb}
use Rattle.std.proofs.lemmas.Slice.Eq.{bytes_eq-Decides}
use Rattle.std.proofs.lemmas.List.Elements.{All-head, All-tail}
use Rattle.ds_ast.specs.declared.name.Name.{Name}
use Rattle.ds_ast.specs.declared.name.Name.TheVariants.{Number, Text}
use Rattle.ds_ast.specs.declared.ty.Ty.{Ty, Void, One, Struct, Array', more_of-Ty, end_of-Ty}
use Rattle.ds_ast.specs.declared.module.Module.{Module}
use Rattle.ds_ast.specs.declared.module.StructDef.{StructDef}
use Rattle.ds_ast.specs.Bounds.{is_name, fields_of}
use Rattle.ds_shape.specs.Sizes.{Extent, times, rounded, extent_by, fields_extent, field_offset, struct_extent, HasExtent, HasOffset}
use Rattle.ds_names.specs.Names.{Among, AreDistinct}
use Rattle.ds_shape.specs.Written.{Line, struct_line, global_line, function_line, lines_of, struct_in, written_names, struct_names, IsUnknown, Holds, HoldsThrough, IsRecursive}
use Rattle.ds_shape.specs.Types.{Stands}
use Rattle.ds_shape.specs.Accepted.{HasLayout}
use Rattle.ds_shape.specs.Fault.{HasLines, HasDepth}
use Rattle.ds_shape.specs.Laws.{ExtentsExist, OffsetsExist}

-- NAMES

abbrev number : Name → ℕ
number (Number n) = n
number (Text bytes) = 0

abbrev spelling : Name → List ℕ
spelling (Number n) = []
spelling (Text bytes) = bytes

pub names_decide : (m n : Name) → Decides (is_name m n) (m ≡ n)
names_decide (Number a) (Number b) = let d = Decides-eqb a b in (λ e. ap Number (d.0 e), λ e. d.1 (ap number e))
names_decide (Number a) (Text b) = (λ e. absurd (true≢false (sym e)), λ e. cc)
names_decide (Text a) (Number b) = (λ e. absurd (true≢false (sym e)), λ e. cc)
names_decide (Text a) (Text b) = let d = bytes_eq-Decides a b in (λ e. ap Text (d.0 e), λ e. d.1 (ap spelling e))

pub among_left : (n : Name) (xs ys : List Name) → Among n xs → Among n (xs ++ ys)
among_left n [] ys a = absurd a
among_left n (x ∷ xs) ys (inl e) = inl e
among_left n (x ∷ xs) ys (inr a) = inr (among_left n xs ys a)

pub among_right : (n : Name) (xs ys : List Name) → Among n ys → Among n (xs ++ ys)
among_right n [] ys a = a
among_right n (x ∷ xs) ys a = inr (among_right n xs ys a)

pub among_flat : {A : Type 0} (f : A → List Name) (xs : List A) (n : Name) (x : A) → Stands x xs → Among n (f x) →
    Among n (flat_map f xs)
among_flat f [] n x ([], after, is) a = absurd cc
among_flat f [] n x (z ∷ before, after, is) a = absurd cc
among_flat f (y ∷ ys) n x ([], after, is) a =
    let e : y ≡ x = cc in among_left n (f y) (flat_map f ys) (subst (λ z. Among n (f z)) (sym e) a)
among_flat f (y ∷ ys) n x (z ∷ before, after, is) a =
    let e : ys ≡ before ++ x ∷ after =
    cc in among_right n (f y) (flat_map f ys) (among_flat f ys n x (before, after, e) a)

pub all_among : (P : Name → Type 0) (xs : List Name) (n : Name) → All P xs → Among n xs → P n
all_among P [] n all a = absurd a
all_among P (x ∷ xs) n all (inl e) = subst P e (All-head P x xs all)
all_among P (x ∷ xs) n all (inr a) = all_among P xs n (All-tail P x xs all) a

-- DISTINCT NAMES AMONG OTHERS

abbrev Without : Name → List Name → Type 0
Without n xs = (ys : List Name) × (length xs ≡ suc (length ys)) × ((x : Name) → (n ≡ x → ⊥) → Among x xs → Among x ys)

pub without : (n : Name) (xs : List Name) → Among n xs → Without n xs
without n [] a = absurd a
without n (y ∷ ys) (inl e) = (ys, refl, λ x other a. elim a [ inl f ↦ absurd (other (sym e ∙ f)) | inr b ↦ b ])
without n (y ∷ ys) (inr b) =
    let w = without n ys b in
    (y ∷ w.0, ap suc w.1, λ x other a. elim a [ inl f ↦ inl f | inr c ↦ inr (w.2 x other c) ])

-- distinct names among others are no more than those
pub no_more : (ns xs : List Name) → AreDistinct ns → ((x : Name) → Among x ns → Among x xs) → length ns ≤ length xs
no_more [] xs d in_xs = omega arith
no_more (n ∷ ns) xs d in_xs =
    let w = without n xs (in_xs n (inl refl)) in
    let h : length ns ≤ length w.0 =
    no_more ns w.0 d.1 (λ x a. w.2 x (λ e. d.0 (subst (λ y. Among y ns) (sym e) a)) (in_xs x (inr a))) in
    let k : length xs ≡ suc (length w.0) = w.1 in
    omega (arith, h, k)

-- WHAT HAS NO EXTENT

pub found_or_not : {A : Type 0} (o : Option A) → (o ≡ None) ⊎ ((x : A) × (o ≡ Some x))
found_or_not None = inl refl
found_or_not (Some x) = inr (x, refl)

pub map_none : {A B : Type 0} (f : A → B) (o : Option A) → option_map f o ≡ None → o ≡ None
map_none f None is = refl
map_none f (Some x) is = absurd cc

-- a type without an extent has a struct type without one
pub missing_type : (g : Name → Option Extent) (t : Ty) → extent_by g t ≡ None → (n : Name) × Among n (struct_in t)
    × (g n ≡ None)
missing_type g Void is = absurd cc
missing_type g (One s) is = absurd cc
missing_type g (Array' count _ (more_of-Ty of end_of-Ty)) is =
    missing_type g of (map_none (times count) (extent_by g of) is)
missing_type g (Struct name) is = (name, inl refl, is)

missing_field : (g : Name → Option Extent) (at align : ℕ) (fields : List Ty) →
    fields_extent (extent_by g) at align fields ≡ None →
    (n : Name) × Among n (flat_map struct_in fields) × (g n ≡ None)
missing_field g at align [] is = absurd cc
missing_field g at align (t ∷ ts) is = elim (found_or_not (extent_by g t)) [
  | inl lacks ↦ let x = missing_type g t lacks in (x.0, among_left x.0 (struct_in t) (flat_map struct_in ts) x.1, x.2)
  | inr found ↦
      let e = found.0 in
      let rest : fields_extent (extent_by g) (rounded at e.align + e.size) (max align e.align) ts ≡ None =
      subst (λ (o : Option Extent). option_and_then
      (λ (y : Extent). fields_extent (extent_by g) (rounded at y.align + y.size) (max align y.align) ts) o ≡ None)
      found.1 is in
      let x = missing_field g (rounded at e.align + e.size) (max align e.align) ts rest in
      (x.0, among_right x.0 (struct_in t) (flat_map struct_in ts) x.1, x.2)
]

missing_struct : (structs : List StructDef) (d : ℕ) (name : Name) (fields : List Ty) →
    fields_of structs name ≡ Some fields → struct_extent structs (suc d) name ≡ None →
    (held : Name) × Holds structs name held × (struct_extent structs d held ≡ None)
missing_struct structs d name fields of is =
    let rest : fields_extent (extent_by (struct_extent structs d)) 0 1 fields ≡ None =
    subst (λ (o : Option (List Ty)). option_and_then (fields_extent (extent_by (struct_extent structs d)) 0 1) o ≡
    None) of is in
    let x = missing_field (struct_extent structs d) 0 1 fields rest in
    (x.0, (fields, of, x.1), x.2)

-- LINES

abbrev pub HasLine : List StructDef → Name → Type 0
HasLine structs name = (fields : List Ty) × (fields_of structs name ≡ Some fields) × Among name (struct_names structs)

by_line : (line : StructDef) (lines : List StructDef) (name : Name) (b : Bool) → is_name line.name name ≡ b →
    (Among name (struct_names lines) → ⊥) ⊎ HasLine lines name → (Among name (struct_names (line ∷ lines)) → ⊥)
    ⊎ HasLine (line ∷ lines) name
by_line line lines name true e rest = inr (line.fields, rw e refl, inl ((names_decide line.name name).0 e))
by_line line lines name false e (inl no_line) = inl (λ a. elim a [
  | inl same ↦ absurd (true≢false (sym ((names_decide line.name name).1 same) ∙ e))
  | inr b ↦ no_line b
])
by_line line lines name false e (inr found) = inr (found.0, rw e found.1, inr found.2)

pub line_or_none : (structs : List StructDef) (name : Name) → (Among name (struct_names structs) → ⊥)
    ⊎ HasLine structs name
line_or_none [] name = inl (λ a. a)
line_or_none (line ∷ lines) name = by_line line lines name (is_name line.name name) refl (line_or_none lines name)

-- what a struct holds is written in its line
abbrev names_in : List Line → List Name
names_in lines = flat_map (λ (l : Line). flat_map struct_in l.types) lines

held_by_line : (line : StructDef) (lines : List StructDef) (others : List Line) (name held : Name) (fields : List Ty)
    (b : Bool) → is_name line.name name ≡ b →
    fields_of (line ∷ lines) name ≡ Some fields → Among held (flat_map struct_in fields) →
    (fields_of lines name ≡ Some fields → Among held (names_in (map struct_line lines ++ others))) →
    Among held (names_in (map struct_line (line ∷ lines) ++ others))
held_by_line line lines others name held fields true e of a rest =
    let same : Some line.fields ≡ Some fields =
    subst (λ (b : Bool). cond b (Some line.fields) (fields_of lines name) ≡ Some fields) e of in
    let f : line.fields ≡ fields = cc in
    among_left held (flat_map struct_in line.fields) (names_in (map struct_line lines ++ others))
    (subst (λ (x : List Ty). Among held (flat_map struct_in x)) (sym f) a)
held_by_line line lines others name held fields false e of a rest =
    among_right held (flat_map struct_in line.fields) (names_in (map struct_line lines ++ others))
    (rest (subst (λ (b : Bool). cond b (Some line.fields) (fields_of lines name) ≡ Some fields) e of))

held_is_written : (structs : List StructDef) (others : List Line) (name held : Name) → Holds structs name held →
    Among held (names_in (map struct_line structs ++ others))
held_is_written [] others name held (fields, of, a) = absurd cc
held_is_written (line ∷ lines) others name held (fields, of, a) =
    held_by_line line lines others name held fields (is_name line.name name) refl of a
    (λ before. held_is_written lines others name held (fields, before, a))

-- CHAINS

-- each name's struct holds one of the next
abbrev Chain : List StructDef → Name → List Name → Type 0
Chain structs name [] = Unit {0}
Chain structs name (n ∷ ns) = Holds structs name n × Chain structs n ns

pub reaches : (structs : List StructDef) (name : Name) (ns : List Name) (x : Name) → Chain structs name ns →
    Among x ns → (by : List Name) × HoldsThrough structs name by x
reaches structs name [] x c a = absurd a
reaches structs name (n ∷ ns) x c (inl e) = ([], subst (λ (y : Name). Holds structs name y) e c.0)
reaches structs name (n ∷ ns) x c (inr a) = let r = reaches structs n ns x c.1 a in (n ∷ r.0, (c.0, r.1))

-- names that have lines, of which each struct holds only such ones, and none itself
module _ (structs : List StructDef) (Known : Name → Type 0)
    (lined : (n : Name) → Known n → Among n (struct_names structs))
    (closed : (n held : Name) → Known n → Holds structs n held → Known held)
    (apart : (n : Name) → Known n → IsRecursive structs n → ⊥) where
  abbrev ChainFrom : ℕ → Name → Type 0
  ChainFrom d name = (ns : List Name) × Chain structs name ns × ((x : Name) → Among x ns → Known x) × (length ns ≡ d)

  chain : (d : ℕ) (name : Name) → Known name → struct_extent structs d name ≡ None → ChainFrom d name
  chain zero name k is = ([], tt, λ x a. absurd a, refl)
  chain (suc d) name k is = elim (line_or_none structs name) [
    | inl unknown ↦ absurd (unknown (lined name k))
    | inr found ↦
        let x = missing_struct structs d name found.0 found.1 is in
        let known = closed name x.0 k x.1 in
        let c = chain d x.0 known x.2 in
        (x.0 ∷ c.0, (x.1, c.1), λ y a. elim a [ inl e ↦ subst Known e known | inr b ↦ c.2 y b ], ap suc c.3)
  ]

  distinct_chain : (name : Name) (ns : List Name) → Chain structs name ns → Known name →
      ((x : Name) → Among x ns → Known x) → AreDistinct (name ∷ ns)
  distinct_chain name [] c k ks = (λ a. a, tt)
  distinct_chain name (n ∷ ns) c k ks = (
    λ a. apart name k (reaches structs name (n ∷ ns) name c a),
    distinct_chain n ns c.1 (ks n (inl refl)) (λ x a. ks x (inr a)),
  )

  -- as many structs deep as there are lines each has its extent
  pub none_missing : (name : Name) → Known name → struct_extent structs (length structs) name ≡ None → ⊥
  none_missing name k is =
      let c = chain (length structs) name k is in
      let h : length (name ∷ c.0) ≤ length (struct_names structs) =
      no_more (name ∷ c.0) (struct_names structs) (distinct_chain name c.0 c.1 k c.2)
      (λ x a. elim a [
        | inl e ↦ subst (λ (n : Name). Among n (struct_names structs)) e (lined name k)
        | inr b ↦ lined x (c.2 x b)
      ]) in
      let l : length (struct_names structs) ≡ length structs = length-map structs (λ (s : StructDef). s.name) in
      let n : length c.0 ≡ length structs = c.3 in
      omega (arith, h, l, n)

module _ (m : Module) (lines : HasLines m) where
  abbrev pub Known : Name → Type 0
  Known name = Among name (struct_names m.structs)

  pub known_written : (name : Name) → Among name (written_names m) → Known name
  known_written name a = elim (line_or_none m.structs name) [
    | inl unknown ↦ absurd (all_among (λ n. IsUnknown m n → ⊥) (written_names m) name lines.no_unknown a unknown)
    | inr found ↦ found.2
  ]

  pub held_in_module : (name held : Name) → Holds m.structs name held → Among held (written_names m)
  held_in_module name held holds =
      let globals = map global_line m.globals in
      let functions = map function_line m.functions in
      subst (λ (ls : List Line). Among held (names_in ls))
      (sym (append_assoc (map struct_line m.structs) globals functions))
      (held_is_written m.structs (globals ++ functions) name held holds)

module _ (m : Module) (layout : HasDepth m) where
  pub none_lacks : (name : Name) → Known m layout.lines name → struct_extent m.structs (length m.structs) name ≡ None →
      ⊥
  none_lacks = none_missing m.structs (Known m layout.lines) (λ n k. k)
      (λ n held k holds. known_written m layout.lines held (held_in_module m layout.lines n held holds))
      (λ n k r. all_among (λ x. IsRecursive m.structs x → ⊥) (struct_names m.structs) n layout.no_recursive_type k r)

  -- a type whose struct types are known has an extent
  pub extent_known : (t : Ty) → ((n : Name) → Among n (struct_in t) → Known m layout.lines n) → (e : Extent)
      × HasExtent m.structs t e
  extent_known t known = elim (found_or_not (extent_by (struct_extent m.structs (length m.structs)) t)) [
    | inl lacks ↦ let x = missing_type (struct_extent m.structs (length m.structs)) t lacks in
        absurd (none_lacks x.0 (known x.0 x.1) x.2)
    | inr found ↦ (found.0, (length m.structs, found.1))
  ]

  written_extent : (l : Line) (t : Ty) → Stands l (lines_of m) → Stands t l.types → (e : Extent)
      × HasExtent m.structs t e
  written_extent l t stands in_line = elim (found_or_not (extent_by (struct_extent m.structs (length m.structs)) t)) [
    | inl lacks ↦
        let x = missing_type (struct_extent m.structs (length m.structs)) t lacks in
        let in_types = among_flat struct_in l.types x.0 t in_line x.1 in
        absurd (none_lacks x.0
        (known_written m layout.lines x.0
        (among_flat (λ (y : Line). flat_map struct_in y.types) (lines_of m) x.0 l stands in_types)) x.2)
    | inr found ↦ (found.0, (length m.structs, found.1))
  ]

-- what has a layout has depth
pub depth_of : (m : Module) → HasLayout m → HasDepth m
depth_of m layout =
    record {
      lines =
          record { no_twice_type = layout.no_twice_type; no_unknown = layout.no_unknown };
      no_recursive_type =
          layout.no_recursive_type;
    }

pub existing_extents : ExtentsExist
existing_extents m l t layout stands in_line = written_extent m (depth_of m layout) l t stands in_line

-- OFFSETS

-- a field among others whose types have extents has an offset
offset_among : (h : Ty → Option Extent) (at n : ℕ) (fields : List Ty) →
    ((t : Ty) → Stands t fields → (e : Extent) × (h t ≡ Some e)) → n < length fields →
    (offset : ℕ) × (field_offset h at n fields ≡ Some offset)
offset_among h at n [] found inside = absurd (omega (arith, inside))
offset_among h at zero (t ∷ ts) found inside = let e = found t ([], ts, refl) in (rounded at e.0.align, rw e.1 refl)
offset_among h at (suc n) (t ∷ ts) found inside =
    let e = found t ([], ts, refl) in
    let behind : n < length ts = omega (arith, inside) in
    let x = offset_among h (rounded at e.0.align + e.0.size) n ts
    (λ u s. found u (t ∷ s.0, s.1, ap (λ (us : List Ty). t ∷ us) s.2)) behind in
    (x.0, rw e.1 x.1)

-- the line of a name is the only one
fields_by_line : (line : StructDef) (lines : List StructDef) (s : StructDef) (b : Bool) →
    is_name line.name s.name ≡ b → (line.name ≡ s.name → line ≡ s) → fields_of lines s.name ≡ Some s.fields
    ⊎ (line ≡ s) →
    fields_of (line ∷ lines) s.name ≡ Some s.fields
fields_by_line line lines s true e only rest =
    let same : line ≡ s = only ((names_decide line.name s.name).0 e) in
    rw e (ap (λ (x : StructDef). Some x.fields) same)
fields_by_line line lines s false e only (inl rest) = rw e rest
fields_by_line line lines s false e only (inr same) =
    absurd (true≢false (sym ((names_decide line.name s.name).1 (ap (λ (x : StructDef). x.name) same)) ∙ e))

pub name_among : (structs : List StructDef) (s : StructDef) → Stands s structs → Among s.name (struct_names structs)
name_among [] s ([], after, is) = absurd cc
name_among [] s (z ∷ before, after, is) = absurd cc
name_among (x ∷ xs) s ([], after, is) = let e : x ≡ s = cc in inl (ap (λ (y : StructDef). y.name) e)
name_among (x ∷ xs) s (z ∷ before, after, is) =
    let e : xs ≡ before ++ s ∷ after = cc in inr (name_among xs s (before, after, e))

pub fields_of_line : (structs : List StructDef) (s : StructDef) → AreDistinct (struct_names structs) →
    Stands s structs → fields_of structs s.name ≡ Some s.fields
fields_of_line [] s d ([], after, is) = absurd cc
fields_of_line [] s d (z ∷ before, after, is) = absurd cc
fields_of_line (x ∷ xs) s d ([], after, is) =
    let e : x ≡ s = cc in fields_by_line x xs s (is_name x.name s.name) refl (λ n. e) (inr e)
fields_of_line (x ∷ xs) s d (z ∷ before, after, is) =
    let e : xs ≡ before ++ s ∷ after = cc in
    let behind : Stands s xs = (before, after, e) in
    fields_by_line x xs s (is_name x.name s.name) refl
    (λ n. absurd (d.0 (subst (λ (y : Name). Among y (struct_names xs)) (sym n) (name_among xs s behind))))
    (inl (fields_of_line xs s d.1 behind))

module _ (m : Module) (layout : HasDepth m) (s : StructDef) (stands : Stands s m.structs) where
  its_fields : fields_of m.structs s.name ≡ Some s.fields
  its_fields = fields_of_line m.structs s layout.lines.no_twice_type stands

  abbrev extent_in : Ty → Option Extent
  extent_in = extent_by (struct_extent m.structs (length m.structs))

  field_extent : (t : Ty) → Stands t s.fields → (e : Extent) × (extent_in t ≡ Some e)
  field_extent t in_fields = elim (found_or_not (extent_in t)) [
    | inl lacks ↦
        let x = missing_type (struct_extent m.structs (length m.structs)) t lacks in
        let held : Holds m.structs s.name x.0 =
        (s.fields, its_fields, among_flat struct_in s.fields x.0 t in_fields x.1) in
        absurd (none_lacks m layout x.0
        (known_written m layout.lines x.0 (held_in_module m layout.lines s.name x.0 held)) x.2)
    | inr found ↦ found
  ]

  offset_found : (n : ℕ) → n < length s.fields → (offset : ℕ) × HasOffset m.structs s.name n offset
  offset_found n inside =
      let x = offset_among extent_in 0 n s.fields field_extent inside in (x.0, (length m.structs, rw its_fields x.1))

pub existing_offsets : OffsetsExist
existing_offsets m s n layout stands inside = offset_found m (depth_of m layout) s stands n inside
