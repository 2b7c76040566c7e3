-- How many words globals take, counted down from the front.
use Rattle.std.proofs.Common.{◌≡◌, ◌↔◌, ◌<◌, ◌≤◌, ◌+◌, ◌-◌, ◌/◌, ◌++◌, IsTrue, true, false, true≢false, ℕ, suc, List}
use Rattle.std.proofs.Common.{[], ◌∷◌, length, take, drop, slice_index_or, refl, sym, ap, ◌∙◌, subst, arith}
use Rattle.std.specs.Int.{div_ceil}
use Rattle.std.proofs.Math.Seq.{split_at, take-suc}
use Rattle.std.specs.Prelude.{map}
use Rattle.std.proofs.lemmas.List.{append_assoc, take_all, map-append}
use Rattle.ds_ast.specs.declared.module.Module.{Module}
use Rattle.ds_ast.specs.declared.module.StructDef.{StructDef}
use Rattle.ds_ast.specs.declared.module.GlobalDef.{GlobalDef}
use Rattle.ds_shape.specs.Sizes.{Extent, HasExtent, rounded}
use Rattle.ds_shape.specs.Accepted.{HasWords, HasLayout}
use Rattle.ds_shape.specs.Laws.{ExtentsAreUnique, WrittenTypesFit}
use Rattle.ds_shape.specs.Fits.{Fits}
use Rattle.ds_shape.specs.Types.{Stands}
use Rattle.ds_shape.specs.Written.{lines_of, struct_line, global_line, function_line}

pub words : (n : ℕ) → div_ceil n 8 ≡ rounded n 8 / 8
words n = omega arith

module _ (structs : List StructDef) (unique : ExtentsAreUnique) where
  one_number : (gs : List GlobalDef) (m n : ℕ) → HasWords structs gs m → HasWords structs gs n → m ≡ n
  one_number [] m n h k = h ∙ sym k
  one_number (g ∷ gs) m n (e, x, of, rest, is) (f, y, of', rest', is') =
      let same : e ≡ f = unique structs g.ty e f of of' in
      let also : x ≡ y = one_number gs x y rest rest' in
      is ∙ ap (λ (z : Extent). rounded z.size 8 / 8 + x) same ∙ ap (λ z. rounded f.size 8 / 8 + z) also ∙ sym is'

  in_front : (xs ys : List GlobalDef) (n : ℕ) → HasWords structs (xs ++ ys) n
      → (k : ℕ) × (r : ℕ) × HasWords structs xs k × HasWords structs ys r × (n ≡ k + r)
  in_front [] ys n h = (0, n, refl, h, grind arith)
  in_front (g ∷ xs) ys n (e, k, of, rest, is) =
      let x = in_front xs ys k rest in
      let total : n ≡ (rounded e.size 8 / 8 + x.0) + x.1 = let eq : k ≡ x.0 + x.1 = x.4 in omega (arith, is, eq) in
      (rounded e.size 8 / 8 + x.0, x.1, (e, x.0, of, x.2, refl), x.3, total)

  behind : (xs : List GlobalDef) (g : GlobalDef) (k : ℕ) (e : Extent) → HasWords structs xs k
      → HasExtent structs g.ty e → HasWords structs (xs ++ g ∷ []) (k + rounded e.size 8 / 8)
  behind [] g k e h of = (e, 0, of, refl, omega (arith, h))
  behind (x ∷ xs) g k e (f, j, of', rest, is) of =
      (f, j + rounded e.size 8 / 8, of', behind xs g j e rest of, omega (arith, is))

  all_words : (gs : List GlobalDef)
      → ((g : GlobalDef) (before after : List GlobalDef) → gs ≡ before ++ g ∷ after
      → (e : Extent) × HasExtent structs g.ty e) → (n : ℕ) × HasWords structs gs n
  all_words [] has = (0, refl)
  all_words (g ∷ gs) has =
      let e = has g [] gs refl in
      let rest = all_words gs (λ h before after is. has h (g ∷ before) after (ap (λ xs. g ∷ xs) is)) in
      (rounded e.0.size 8 / 8 + rest.0, (e.0, rest.0, e.1, rest.1, refl))

-- GLOBALS FIT

global_written : (m : Module) (g : GlobalDef) (before after : List GlobalDef) → m.globals ≡ before ++ g ∷ after
    → Stands (global_line g) (lines_of m)
global_written m g before after is =
    let ss = map struct_line m.structs in
    let fs = map function_line m.functions in
    let middle : map global_line m.globals ≡ map global_line before ++ global_line g ∷ map global_line after =
    ap (map global_line) is ∙ map-append global_line before (g ∷ after) in (
      ss ++ map global_line before,
      map global_line after ++ fs,
      ap (λ gs. ss ++ gs ++ fs) middle
          ∙ ap (λ x. x ++ fs) (sym (append_assoc ss (map global_line before) (global_line g ∷ map global_line after)))
          ∙ append_assoc (ss ++ map global_line before) (global_line g ∷ map global_line after) fs,
    )

pub globals_fit : (m : Module) → WrittenTypesFit → HasLayout m → (g : GlobalDef) (before after : List GlobalDef)
    → m.globals ≡ before ++ g ∷ after → Fits m.structs g.ty
globals_fit m fit layout g before after is =
    fit m (global_line g) g.ty layout (global_written m g before after is) ([], [], refl)

module _ (m : Module) (unique : ExtentsAreUnique) (fit : WrittenTypesFit) (layout : HasLayout m) (gs : List GlobalDef)
    (same : gs ≡ m.globals) where
  here : (i : ℕ) (g : GlobalDef) → i < length gs → g ≡ slice_index_or gs i g → m.globals ≡ take i m.globals
      ++ g ∷ drop (suc i) m.globals
  here i g h is =
      split_at m.globals i g (subst (λ xs. i < length xs) same h)
      ∙ ap (λ x. take i m.globals ++ x ∷ drop (suc i) m.globals) (sym (is ∙ ap (λ xs. slice_index_or xs i g) same))

  -- the global at a place fits
  pub fits_at : (i : ℕ) (g : GlobalDef) → i < length gs → g ≡ slice_index_or gs i g → Fits m.structs g.ty
  fits_at i g h is = globals_fit m fit layout g (take i m.globals) (drop (suc i) m.globals) (here i g h is)

  abbrev pub IsCounted : ℕ → ℕ → ℕ → Type 0
  IsCounted limit rest i = (taken : ℕ) × HasWords m.structs (take i m.globals) taken × (rest + taken ≡ limit)

  -- one global more is counted
  pub counted_more : (limit rest fewer w i : ℕ) (g : GlobalDef) → i < length gs → g ≡ slice_index_or gs i g
      → IsCounted limit rest i
      → ((e : Extent) → HasExtent m.structs g.ty e → w ≡ rounded e.size 8 / 8) → w ≤ rest → fewer ≡ rest - w
      → IsCounted limit fewer (i + 1)
  counted_more limit rest fewer w i g h is counted known most left =
      let fits = fits_at i g h is in
      let e = fits.0 in
      let many : w ≡ rounded e.size 8 / 8 = known e fits.1 in
      let next : suc i ≡ i + 1 = omega arith in
      let more : take i m.globals ++ g ∷ [] ≡ take (i + 1) m.globals =
      ap (λ x. take i m.globals ++ x ∷ []) (is ∙ ap (λ xs. slice_index_or xs i g) same)
      ∙ sym (take-suc m.globals i g (subst (λ xs. i < length xs) same h)) ∙ ap (λ k. take k m.globals) next in
      let total : fewer + (counted.0 + rounded e.size 8 / 8) ≡ limit = let eq : rest + counted.0 ≡ limit = counted.2 in
      omega (arith, many, most, left, eq) in (
        counted.0 + rounded e.size 8 / 8,
        subst (λ xs. HasWords m.structs xs (counted.0 + rounded e.size 8 / 8)) more
            (behind m.structs unique (take i m.globals) g counted.0 e counted.1 fits.1),
        total,
      )

  -- a global takes more than is left
  pub too_many : (limit rest w i : ℕ) (g : GlobalDef) → i < length gs → g ≡ slice_index_or gs i g
      → IsCounted limit rest i
      → ((e : Extent) → HasExtent m.structs g.ty e → w ≡ rounded e.size 8 / 8) → rest < w
      → IsTrue false ↔ ((n : ℕ) → HasWords m.structs m.globals n → n ≤ limit)
  too_many limit rest w i g h is counted known more = (
    (λ t. absurd (true≢false (sym t))),
    λ few.
        let all = all_words m.structs unique m.globals
        (λ x before after split. let f = globals_fit m fit layout x before after split in (f.0, f.1)) in
        let parts = in_front m.structs unique (take i m.globals) (g ∷ drop (suc i) m.globals) all.0
        (subst (λ xs. HasWords m.structs xs all.0) (here i g h is) all.1) in
        let taken : parts.0 ≡ counted.0 = one_number m.structs unique (take i m.globals) parts.0 counted.0 parts.2
        counted.1 in
        let e = parts.3.0 in
        let many : w ≡ rounded e.size 8 / 8 = known e parts.3.2 in
        let tail : parts.1 ≡ rounded e.size 8 / 8 + parts.3.1 = parts.3.4 in
        let total : all.0 ≡ parts.0 + parts.1 = parts.4 in
        let most : all.0 ≤ limit = few all.0 all.1 in
        let eq : rest + counted.0 ≡ limit = counted.2 in
        absurd (omega (arith, taken, many, tail, total, most, eq, more)),
  )

  -- all globals were counted
  pub few_enough : (limit rest i : ℕ) → length gs ≤ i → IsCounted limit rest i
      → IsTrue true ↔ ((n : ℕ) → HasWords m.structs m.globals n → n ≤ limit)
  few_enough limit rest i h counted = (
    (λ t n has.
        let whole : HasWords m.structs m.globals counted.0 =
        subst (λ xs. HasWords m.structs xs counted.0) (take_all i m.globals (subst (λ xs. length xs ≤ i) same h))
        counted.1 in
        let e : n ≡ counted.0 = one_number m.structs unique m.globals n counted.0 has whole in
        let eq : rest + counted.0 ≡ limit = counted.2 in
        omega (arith, e, eq)),
    λ few. refl,
  )
