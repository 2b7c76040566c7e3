-- The addresses of globals, and the types that fit.
use Rattle.std.proofs.Common.{◌≡◌, ℕ, zero, suc, ◌+◌, ◌<◌, Bool, true, false, if◌then◌else◌, List, [], ◌∷◌, ◌++◌}
use Rattle.std.proofs.Common.{length, map}
use Rattle.std.proofs.Common.{get_or, slice_index_or, refl, ap, sym, ◌∙◌, subst, arith, append_assoc}
use Rattle.std.specs.Prelude.{Option, Some, None, All}
use Rattle.std.specs.Option.{option_map, option_map_or, option_copied}
use denote.Ref.{Bor}
use Rattle.std.proofs.lemmas.List.{length-map}
use Rattle.ds_ast.specs.declared.name.Name.{Name}
use Rattle.ds_ast.specs.declared.ty.Ty.{Ty}
use Rattle.ds_ast.specs.declared.module.Module.{Module}
use Rattle.ds_ast.specs.declared.module.StructDef.{StructDef}
use Rattle.ds_ast.specs.declared.module.GlobalDef.{GlobalDef}
use Rattle.ds_ast.specs.Bounds.{is_name, fields_of}
use Rattle.ds_names.specs.Names.{place_of}
use Rattle.ds_shape.specs.Accepted.{HasLayout}
use Rattle.ds_shape.specs.Fits.{Fits}
use Rattle.ds_shape.specs.Image.{words_taken, location_of, address_of}
use Rattle.ds_shape.specs.Laws.{WrittenTypesFit, FieldsFit}
use Rattle.ds_shape.specs.Types.{Stands}
use Rattle.ds_shape.specs.Written.{struct_line, global_line, function_line}
use Rattle.ds_meaning.specs.Values.{global_address}
use Rattle.ds_lower_parts.specs.Known.{addresses_from}
use Rattle.ds_lower_parts.proofs.Beside.{inside}

abbrev names : List GlobalDef → List Name
names gs = map (λ (g : GlobalDef). g.name) gs

-- the address that is told of a location from one on
abbrev told : ℕ → Option ℕ → ℕ
told at o = option_map_or (λ loc. global_address (at + loc)) o 0

further : (at w : ℕ) (o : Option ℕ) → told (at + w) o ≡ told at (option_map (λ n. w + n) o)
further at w None = refl
further at w (Some k) = let e : at + w + k ≡ at + (w + k) = omega arith in ap global_address e

address_at : (structs : List StructDef) (gs : List GlobalDef) (at n d : ℕ) (name : Name) → place_of (names gs) name
    ≡ Some n
    → get_or (addresses_from structs at gs) n d ≡ told at (location_of structs gs name)
address_at structs [] at n d name e = absurd (cc)
address_at structs (g ∷ gs) at n d name e =
    by_test (λ j f. address_at structs gs (at + words_taken structs g) j d name f) (is_name g.name name)
    (place_of (names gs) name) refl n e
  where
    by_test : ((j : ℕ) → place_of (names gs) name ≡ Some j
        → get_or (addresses_from structs (at + words_taken structs g) gs) j d
        ≡ told (at + words_taken structs g) (location_of structs gs name))
        → (t : Bool) (o : Option ℕ) → place_of (names gs) name ≡ o → (n : ℕ)
        → (if t then Some 0 else option_map suc o) ≡ Some n
        → get_or (global_address at ∷ addresses_from structs (at + words_taken structs g) gs) n d
        ≡ told at (if t then Some 0 else option_map (λ k. words_taken structs g + k) (location_of structs gs name))
    by_test rec true o f zero e = let z : at ≡ at + 0 = omega arith in ap global_address z
    by_test rec true o f (suc n) e = absurd (let bad : 0 ≡ suc n = cc in omega arith)
    by_test rec false None f n e = absurd (cc)
    by_test rec false (Some j) f zero e = absurd (let bad : suc j ≡ 0 = cc in omega arith)
    by_test rec false (Some j) f (suc n) e =
        let same : j ≡ n = (let both : suc j ≡ suc n = cc in omega arith) in
        rec n (f ∙ ap (λ x. Some x) same) ∙ further at (words_taken structs g) (location_of structs gs name)

missing : (structs : List StructDef) (gs : List GlobalDef) (name : Name) → place_of (names gs) name ≡ None
    → location_of structs gs name ≡ None
missing structs [] name e = refl
missing structs (g ∷ gs) name e =
    by_test (λ f. missing structs gs name f) (is_name g.name name) (place_of (names gs) name) refl e
  where
    by_test : (place_of (names gs) name ≡ None → location_of structs gs name ≡ None) → (t : Bool) (o : Option ℕ)
        → place_of (names gs) name ≡ o → (if t then Some 0 else option_map suc o) ≡ None
        → (if t then Some 0 else option_map (λ k. words_taken structs g + k) (location_of structs gs name)) ≡ None
    by_test rec true o f e = absurd (cc)
    by_test rec false None f e = ap (λ o. option_map (λ k. words_taken structs g + k) o) (rec f)
    by_test rec false (Some j) f e = absurd (cc)

addresses_long : (structs : List StructDef) (at : ℕ) (gs : List GlobalDef)
    → length (addresses_from structs at gs) ≡ length gs
addresses_long structs at [] = refl
addresses_long structs at (g ∷ gs) = ap suc (addresses_long structs (at + words_taken structs g) gs)

module _ (m w : Module) (globals : List Name) (addresses : List ℕ) (name : Name) (found : Option ℕ)
    (is : m ≡ w) (named : globals ≡ names m.globals) (begin : addresses ≡ addresses_from m.structs 0 m.globals)
    (place : found ≡ place_of globals name) where
  pub address_inside : (n : ℕ) → found ≡ Some n → n < length addresses
  address_inside n some =
      let lt = inside (names m.globals) name n (sym (ap (λ ns. place_of ns name) named) ∙ sym place ∙ some) in
      let long : length (names m.globals) ≡ length m.globals = length-map m.globals (λ (g : GlobalDef). g.name) in
      let same : length addresses ≡ length m.globals =
      ap (λ (xs : List ℕ). length xs) begin ∙ addresses_long m.structs 0 m.globals in
      omega arith

  pub address_there : (n r : ℕ) → found ≡ Some n → r ≡ get_or addresses n r → r ≡ address_of global_address w name
  address_there n r some read =
      read ∙ ap (λ (xs : List ℕ). get_or xs n r) begin
      ∙ address_at m.structs m.globals 0 n r name (sym (ap (λ ns. place_of ns name) named) ∙ sym place ∙ some)
      ∙ from_zero (location_of m.structs m.globals name)
      ∙ ap (λ (v : Module). address_of global_address v name) is
    where
      from_zero : (o : Option ℕ) → told 0 o ≡ option_map_or global_address o 0
      from_zero None = refl
      from_zero (Some k) = let z : 0 + k ≡ k = omega arith in ap global_address z

  pub address_missing : found ≡ None → 0 ≡ address_of global_address w name
  address_missing none =
      sym (ap (λ o. option_map_or global_address o 0)
      (missing m.structs m.globals name (sym (ap (λ ns. place_of ns name) named) ∙ sym place ∙ none)))
      ∙ ap (λ (v : Module). address_of global_address v name) is

-- WHAT FITS

right : {A : Type 0} (x : A) (xs ys : List A) → Stands x ys → Stands x (xs ++ ys)
right x xs ys s = (xs ++ s.0, s.1, ap (λ zs. xs ++ zs) s.2 ∙ sym (append_assoc xs s.0 (x ∷ s.1)))

left : {A : Type 0} (x : A) (xs ys : List A) → Stands x xs → Stands x (xs ++ ys)
left x xs ys s = (s.0, s.1 ++ ys, ap (λ zs. zs ++ ys) s.2 ∙ append_assoc s.0 (x ∷ s.1) ys)

mapped : {A B : Type 0} (g : A → B) (xs : List A) (n : ℕ) (d : A) → n < length xs
    → Stands (g (slice_index_or xs n d)) (map g xs)
mapped g [] n d lt = absurd (omega arith)
mapped g (x ∷ xs) zero d lt = ([], map g xs, refl)
mapped g (x ∷ xs) (suc n) d lt = let s = mapped g xs n d (omega arith) in (g x ∷ s.0, s.1, ap (λ zs. g x ∷ zs) s.2)

at_index : {A : Type 0} (xs : List A) (n : ℕ) (d : A) → n < length xs → Stands (slice_index_or xs n d) xs
at_index [] n d lt = absurd (omega arith)
at_index (x ∷ xs) zero d lt = ([], xs, refl)
at_index (x ∷ xs) (suc n) d lt = let s = at_index xs n d (omega arith) in (x ∷ s.0, s.1, ap (λ zs. x ∷ zs) s.2)

-- the type of a global fits
pub global_fits : (m : Module) (structs : List StructDef) (gs : List GlobalDef) (n : ℕ) (d : GlobalDef)
    → WrittenTypesFit
    → HasLayout m → structs ≡ m.structs → gs ≡ m.globals → n < length gs → Fits structs (slice_index_or gs n d).ty
global_fits m structs gs n d law layout same are lt =
    let there : n < length m.globals = subst (λ (xs : List GlobalDef). n < length xs) are lt in
    let line = left (global_line (slice_index_or m.globals n d)) (map struct_line m.structs ++ map global_line
    m.globals)
    (map function_line m.functions) (right (global_line (slice_index_or m.globals n d)) (map struct_line m.structs)
    (map global_line m.globals) (mapped global_line m.globals n d there)) in
    let fits = law m (global_line (slice_index_or m.globals n d)) (slice_index_or m.globals n d).ty layout line
    ([], [], refl) in
    subst (λ (ss : List StructDef). Fits ss (slice_index_or gs n d).ty) (sym same)
    (subst (λ (xs : List GlobalDef). Fits m.structs (slice_index_or xs n d).ty) (sym are) fits)

-- an item has what all have
pub item_has : {A : Type 0} (P : A → Type 0) (xs : List A) (n : ℕ) (x : A) → All P xs → n < length xs
    → x ≡ get_or xs n x → P x
item_has P xs n x all lt is = subst P (sym is) (all n x lt)

-- the type of a field of a struct fits
pub item_fits : (m : Module) (name : Name) (types : List Ty) (n : ℕ) (t : Ty) → FieldsFit → HasLayout m
    → fields_of m.structs name ≡ Some types → n < length types → t ≡ get_or types n t → Fits m.structs t
item_fits m name types n t law layout named lt read =
    law m name types t layout named (subst (λ (x : Ty). Stands x types) (sym read) (at_index types n t lt))

-- the fields that were found are those of the struct
pub fields_found : (m : Module) (name : Name) (found : Option (Bor (List Ty))) (there : Bor (List Ty))
    → option_copied found ≡ fields_of m.structs name → found ≡ Some there → fields_of m.structs name ≡ Some there.now
fields_found m name found there is some = sym is ∙ ap option_copied some
