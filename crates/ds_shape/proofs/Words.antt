-- The words with which the globals begin are as many as the globals have.
use Rattle.std.proofs.Common.{◌≡◌, ◌+◌, ◌/◌, ◌++◌, ℕ, zero, suc, Bool, true, false, cond, List, [], ◌∷◌, Option, Some, None, refl, sym, ap, ◌∙◌, subst, append_assoc, length-append}
use Rattle.std.specs.Prelude.{flat_map, length, map, drop, option_map}
use Rattle.std.specs.Option.{unwrap_or}
use Rattle.std.proofs.lemmas.List.{map-append}
use Rattle.ds_ast.specs.declared.name.Name.{Name}
use Rattle.ds_ast.specs.declared.module.Module.{Module}
use Rattle.ds_ast.specs.declared.module.StructDef.{StructDef}
use Rattle.ds_ast.specs.declared.module.GlobalDef.{GlobalDef}
use Rattle.ds_ast.specs.Bounds.{is_name}
use Rattle.ds_shape.specs.Sizes.{Extent, HasExtent, rounded}
use Rattle.ds_shape.specs.Written.{Line, struct_line, global_line, function_line, lines_of}
use Rattle.ds_shape.specs.Types.{Stands}
use Rattle.ds_shape.specs.Accepted.{HasWords}
use Rattle.ds_shape.specs.Image.{words_taken, location_of, words_of, words_of_global, bytes_of, address_of}
use Rattle.ds_shape.specs.Laws.{WordsAreCounted, GlobalsAreLaidOut}
use Rattle.ds_shape.proofs.Computed.{computed_extent}
use Rattle.ds_shape.proofs.Exist.{existing_extents, names_decide}

words_many : (n : ℕ) (bytes : List ℕ) → length (words_of n bytes) ≡ n
words_many zero bytes = refl
words_many (suc n) bytes = ap suc (words_many n (drop 8 bytes))

module _ (structs : List StructDef) (address : Name → ℕ) where
  abbrev word_count : List GlobalDef → ℕ
  word_count gs = length (flat_map (words_of_global structs address) gs)

  count_more : (g : GlobalDef) (gs : List GlobalDef) → word_count (g ∷ gs) ≡ words_taken structs g + word_count gs
  count_more g gs =
      length-append (words_of_global structs address g) (flat_map (words_of_global structs address) gs)
      ∙ ap (λ (n : ℕ). n + word_count gs) (words_many (words_taken structs g) (bytes_of structs address g.ty g.init))

  taken : (g : GlobalDef) (e : Extent) → HasExtent structs g.ty e → words_taken structs g ≡ rounded e.size 8 / 8
  taken g e has = ap (λ (o : Option Extent). rounded (unwrap_or o (record { size = 0; align = 1 })).size 8 / 8)
      (computed_extent structs g.ty e has)

  -- each global has so many words, where each has an extent
  pub has_words : (gs : List GlobalDef) → ((g : GlobalDef) → Stands g gs → (e : Extent) × HasExtent structs g.ty e) →
      HasWords structs gs (word_count gs)
  has_words [] found = refl
  has_words (g ∷ gs) found =
      let x = found g ([], gs, refl) in
      let rest = has_words gs (λ h s. found h (g ∷ s.0, s.1, ap (λ (hs : List GlobalDef). g ∷ hs) s.2)) in
      (x.0, word_count gs, x.1, rest, count_more g gs ∙ ap (λ (n : ℕ). n + word_count gs) (taken g x.0 x.1))

  -- and no other number
  pub only_words : (gs : List GlobalDef) (n : ℕ) → HasWords structs gs n → n ≡ word_count gs
  only_words [] n is = is
  only_words (g ∷ gs) n (e, k, has, rest, is) =
      is ∙ ap (λ (w : ℕ). w + k) (sym (taken g e has))
      ∙ ap (λ (w : ℕ). words_taken structs g + w) (only_words gs k rest) ∙ sym (count_more g gs)

global_stands : (m : Module) (g : GlobalDef) → Stands g m.globals → Stands (global_line g) (lines_of m)
global_stands m g (before, after, is) =
    let structs = map struct_line m.structs in
    let functions = map function_line m.functions in
    let front = map global_line before in
    let back = map global_line after in
    let globals : map global_line m.globals ≡ front ++ global_line g ∷ back = ap (map global_line) is
    ∙ map-append global_line before (g ∷ after) in (
      structs ++ front,
      back ++ functions,
      ap (λ (ls : List Line). (structs ++ ls) ++ functions) globals
          ∙ ap (λ (ls : List Line). ls ++ functions) (sym (append_assoc structs front (global_line g ∷ back)))
          ∙ append_assoc (structs ++ front) (global_line g ∷ back) functions,
    )

pub counted_words : WordsAreCounted
counted_words address m n layout = (
  only_words m.structs (address_of address m) m.globals n,
  λ is. rw is (has_words m.structs (address_of address m) m.globals
      (λ g stands. existing_extents m (global_line g) g.ty layout (global_stands m g stands) ([], [], refl))),
)

-- WHERE GLOBALS STAND

module _ (structs : List StructDef) (address : Name → ℕ) where
  abbrev words : GlobalDef → List ℕ
  words = words_of_global structs address

  -- a global of the name, and the words before and behind its own
  record IsAt (gs : List GlobalDef) (name : Name) (n : ℕ) : Type 0 where
    g : GlobalDef
    stands : Stands g gs
    named : g.name ≡ name
    front : List ℕ
    back : List ℕ
    image : flat_map words gs ≡ front ++ words g ++ back
    before : length front ≡ n

  behind_one : (first : GlobalDef) (gs : List GlobalDef) (name : Name) (n : ℕ) → IsAt gs name n →
      IsAt (first ∷ gs) name (words_taken structs first + n)
  behind_one first gs name n at = record {
    g = at.g;
    stands = (first ∷ at.stands.0, at.stands.1, ap (λ (hs : List GlobalDef). first ∷ hs) at.stands.2);
    named = at.named;
    front = words first ++ at.front;
    back = at.back;
    image = ap (λ (ws : List ℕ). words first ++ ws) at.image
        ∙ sym (append_assoc (words first) (at.front ++ words at.g) at.back)
        ∙ ap (λ (ws : List ℕ). ws ++ at.back) (sym (append_assoc (words first) at.front (words at.g)));
    before = length-append (words first) at.front
        ∙ ap (λ (k : ℕ). k + length at.front)
        (words_many (words_taken structs first) (bytes_of structs address first.ty first.init))
        ∙ ap (λ (k : ℕ). words_taken structs first + k) at.before;
  }

  by_name : (first : GlobalDef) (gs : List GlobalDef) (name : Name) (n : ℕ) (b : Bool) (o : Option ℕ) →
      (b ≡ true → first.name ≡ name) → ((k : ℕ) → o ≡ Some k → IsAt gs name k) →
      cond b (Some 0) (option_map (λ k. words_taken structs first + k) o) ≡ Some n → IsAt (first ∷ gs) name n
  by_name first gs name n true o same rest is = let e : 0 ≡ n = cc in
      subst (IsAt (first ∷ gs) name) e (record {
        g = first;
        stands = ([], gs, refl);
        named = same refl;
        front = [];
        back = flat_map words gs;
        image = refl;
        before = refl;
      })
  by_name first gs name n false None same rest is = absurd cc
  by_name first gs name n false (Some k) same rest is =
      let e : words_taken structs first + k ≡ n = cc in
      subst (IsAt (first ∷ gs) name) e (behind_one first gs name k (rest k refl))

  located : (gs : List GlobalDef) (name : Name) (n : ℕ) → location_of structs gs name ≡ Some n → IsAt gs name n
  located [] name n is = absurd cc
  located (first ∷ gs) name n is =
      by_name first gs name n (is_name first.name name) (location_of structs gs name) (names_decide first.name name).0
      (located gs name) is

pub laid_out_globals : GlobalsAreLaidOut
laid_out_globals address m name n is =
    let at = located m.structs (address_of address m) m.globals name n is in
    (at.g, at.stands, at.named, record { front = at.front; back = at.back; image = at.image; before = at.before })
