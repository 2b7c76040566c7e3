-- Where instructions stand among the notes.
use Rattle.std.proofs.Common.{◌≡◌, ℕ, zero, suc, Bool, true, false, not, if◌then◌else◌, List, [], ◌∷◌, ◌++◌}
use Rattle.std.proofs.Common.{length, map, take, Some, slice_get, refl, ap, sym, ◌∙◌, subst}
use Rattle.std.specs.Prelude.{filter, flat_map}
use Rattle.std.specs.Option.{option_map}
use Rattle.ds_ast.specs.declared.name.Name.{Name}
use Rattle.ds_ast.specs.declared.instr.Instr.{Instr}
use Rattle.ds_ast.specs.declared.module.Module.{Module}
use Rattle.ds_ast.specs.declared.module.Block.{Block}
use Rattle.ds_ast.specs.Bounds.{is_name}
use Rattle.ds_meaning.specs.Frames.{block_among, entry_of}
use Rattle.ds_meaning.specs.Places.{is_note_call, counted}
use Rattle.ds_pass.specs.Noted.{notes_behind, noted_instr, noted_block}

-- the code with its notes
abbrev pub with_notes : List Instr → List Instr
with_notes code = flat_map noted_instr code

-- the number n behind these
abbrev pub past : List Instr → ℕ → ℕ
past [] n = n
past (i ∷ notes) n = suc (past notes n)

past_next : (notes : List Instr) (n : ℕ) → past notes (suc n) ≡ suc (past notes n)
past_next [] n = refl
past_next (i ∷ notes) n = ap suc (past_next notes n)

past_twice : (notes more : List Instr) (n : ℕ) → past notes (past more n) ≡ past more (past notes n)
past_twice [] more n = refl
past_twice (i ∷ notes) more n = ap suc (past_twice notes more n) ∙ sym (past_next more (past notes n))

-- where the instruction of this number stands among the notes
abbrev pub shifted : List Instr → ℕ → ℕ
shifted code zero = 0
shifted [] (suc k) = suc k
shifted (i ∷ code) (suc k) = suc (past (notes_behind i.op) (shifted code k))

-- INSTRUCTIONS AT THEIR PLACES

get_past : (notes rest : List Instr) (n : ℕ) → slice_get (notes ++ rest) (past notes n) ≡ slice_get rest n
get_past [] rest n = refl
get_past (i ∷ notes) rest n = get_past notes rest n

pub stands_shifted : (code : List Instr) (k : ℕ) (i : Instr) → slice_get code k ≡ Some i
    → slice_get (with_notes code) (shifted code k) ≡ Some i
stands_shifted [] k i e = absurd (cc)
stands_shifted (j ∷ code) zero i e = e
stands_shifted (j ∷ code) (suc k) i e =
    get_past (notes_behind j.op) (with_notes code) (shifted code k) ∙ stands_shifted code k i e

-- the one note behind an instruction stands behind it
pub note_stands : (code : List Instr) (k : ℕ) (i note : Instr) → slice_get code k ≡ Some i
    → notes_behind i.op ≡ note ∷ [] → slice_get (with_notes code) (suc (shifted code k)) ≡ Some note
note_stands [] k i note e is = absurd (cc)
note_stands (j ∷ code) zero i note e is =
    let same : j ≡ i = cc in
    ap (λ (notes : List Instr). slice_get (notes ++ with_notes code) 0)
    (ap (λ (u : Instr). notes_behind u.op) same ∙ is)
note_stands (j ∷ code) (suc k) i note e is =
    ap (λ n. slice_get (notes_behind j.op ++ with_notes code) n) (sym (past_next (notes_behind j.op) (shifted code k)))
    ∙ get_past (notes_behind j.op) (with_notes code) (suc (shifted code k)) ∙ note_stands code k i note e is

-- the next instruction stands behind the notes of the one at hand
pub next_shifted : (code : List Instr) (k : ℕ) (i : Instr) → slice_get code k ≡ Some i
    → shifted code (suc k) ≡ suc (past (notes_behind i.op) (shifted code k))
next_shifted [] k i e = absurd (cc)
next_shifted (j ∷ code) zero i e =
    let same : j ≡ i = cc in ap (λ (u : Instr). suc (past (notes_behind u.op) 0)) same
next_shifted (j ∷ code) (suc k) i e =
    ap (λ n. suc (past (notes_behind j.op) n)) (next_shifted code k i e)
    ∙ ap suc (past_next (notes_behind j.op) (past (notes_behind i.op) (shifted code k)))
    ∙ ap (λ n. suc (suc n)) (past_twice (notes_behind j.op) (notes_behind i.op) (shifted code k))
    ∙ ap suc (sym (past_next (notes_behind i.op) (past (notes_behind j.op) (shifted code k))))

-- COUNTS: calls of ds_note are not counted

-- which of these are counted
abbrev pub kept : Module → List Instr → List Instr
kept m code = filter (λ (i : Instr). not (is_note_call m i.op)) code

-- each of these is a call of ds_note, or none of them is
abbrev pub AllNotes : Module → List Instr → Type 0
AllNotes m [] = Unit {0}
AllNotes m (i ∷ code) = (is_note_call m i.op ≡ true) × AllNotes m code

abbrev pub NoNotes : Module → List Instr → Type 0
NoNotes m [] = Unit {0}
NoNotes m (i ∷ code) = (is_note_call m i.op ≡ false) × NoNotes m code

counted_first : (m : Module) (i : Instr) (rest : List Instr) (t : Bool) → is_note_call m i.op ≡ t
    → counted m (i ∷ rest) ≡ (if t then counted m rest else suc (counted m rest))
counted_first m i rest true is = ap (λ t. length (if not t then i ∷ kept m rest else kept m rest)) is
counted_first m i rest false is = ap (λ t. length (if not t then i ∷ kept m rest else kept m rest)) is

-- notes add nothing
counted_notes : (m : Module) (notes rest : List Instr) → AllNotes m notes → counted m (notes ++ rest) ≡ counted m rest
counted_notes m [] rest all = refl
counted_notes m (i ∷ notes) rest all =
    counted_first m i (notes ++ rest) true all.0 ∙ counted_notes m notes rest all.1

-- notes of the module with notes
abbrev pub NotesAreNotes : Module → Type 0
NotesAreNotes m = (i : Instr) → AllNotes m (notes_behind i.op)

module _ (m : Module) (notes_are : NotesAreNotes m) where
  -- all of these are counted, and no note
  pub counted_noted : (code : List Instr) → NoNotes m code → counted m (with_notes code) ≡ length code
  counted_noted [] none = refl
  counted_noted (i ∷ code) none =
      counted_first m i (notes_behind i.op ++ with_notes code) false none.0
      ∙ ap suc (counted_notes m (notes_behind i.op) (with_notes code) (notes_are i) ∙ counted_noted code none.1)

  take_past : (notes rest : List Instr) (n : ℕ) → take (past notes n) (notes ++ rest) ≡ notes ++ take n rest
  take_past [] rest n = refl
  take_past (i ∷ notes) rest n = ap (λ is. i ∷ is) (take_past notes rest n)

  -- up to an instruction as many are counted as stand there without notes
  pub counted_shifted : (code : List Instr) (k : ℕ) (i : Instr) → NoNotes m code → slice_get code k ≡ Some i
      → counted m (take (suc (shifted code k)) (with_notes code)) ≡ suc k
  counted_shifted [] k i none e = absurd (cc)
  counted_shifted (j ∷ code) zero i none e = counted_first m j [] false none.0
  counted_shifted (j ∷ code) (suc k) i none e =
      let notes = notes_behind j.op in
      counted_first m j (take (suc (past notes (shifted code k))) (notes ++ with_notes code)) false none.0
      ∙ ap suc (ap (λ n. counted m (take n (notes ++ with_notes code))) (sym (past_next notes (shifted code k)))
      ∙ ap (λ is. counted m is) (take_past notes (with_notes code) (suc (shifted code k)))
      ∙ counted_notes m notes (take (suc (shifted code k)) (with_notes code)) (notes_are j)
      ∙ counted_shifted code k i none.1 e)

  -- and so many up to its note
  pub counted_note : (code : List Instr) (k : ℕ) (i note : Instr) → NoNotes m code → slice_get code k ≡ Some i
      → notes_behind i.op ≡ note ∷ []
      → counted m (take (suc (suc (shifted code k))) (with_notes code)) ≡ suc k
  counted_note [] k i note none e is = absurd (cc)
  counted_note (j ∷ code) zero i note none e is =
      let same : j ≡ i = cc in
      let one : notes_behind j.op ≡ note ∷ [] = ap (λ (u : Instr). notes_behind u.op) same ∙ is in
      counted_first m j (take 1 (notes_behind j.op ++ with_notes code)) false none.0
      ∙ ap suc (ap (λ (notes : List Instr). counted m (take 1 (notes ++ with_notes code))) one
      ∙ counted_notes m (note ∷ []) [] (subst (AllNotes m) one (notes_are j)))
  counted_note (j ∷ code) (suc k) i note none e is =
      let notes = notes_behind j.op in
      let far : suc (suc (past notes (shifted code k))) ≡ past notes (suc (suc (shifted code k))) =
      ap suc (sym (past_next notes (shifted code k))) ∙ sym (past_next notes (suc (shifted code k))) in
      counted_first m j (take (suc (suc (past notes (shifted code k)))) (notes ++ with_notes code)) false none.0
      ∙ ap suc (ap (λ n. counted m (take n (notes ++ with_notes code))) far
      ∙ ap (λ is. counted m is) (take_past notes (with_notes code) (suc (suc (shifted code k))))
      ∙ counted_notes m notes (take (suc (suc (shifted code k))) (with_notes code)) (notes_are j)
      ∙ counted_note code k i note none.1 e is)

-- where none is a note, all are counted
pub counted_all : (m : Module) (code : List Instr) → NoNotes m code → counted m code ≡ length code
counted_all m [] none = refl
counted_all m (i ∷ code) none = counted_first m i code false none.0 ∙ ap suc (counted_all m code none.1)

pub counted_take : (m : Module) (code : List Instr) (k : ℕ) (i : Instr) → NoNotes m code → slice_get code k ≡ Some i
    → counted m (take (suc k) code) ≡ suc k
counted_take m [] k i none e = absurd (cc)
counted_take m (j ∷ code) zero i none e = counted_first m j [] false none.0
counted_take m (j ∷ code) (suc k) i none e =
    counted_first m j (take (suc k) code) false none.0 ∙ ap suc (counted_take m code k i none.1 e)

-- BLOCKS

pub block_noted : (bs : List Block) (label : Name)
    → block_among (map noted_block bs) label ≡ option_map noted_block (block_among bs label)
block_noted [] label = refl
block_noted (b ∷ bs) label = by_test (block_noted bs label) (is_name b.name label)
  where
    by_test : block_among (map noted_block bs) label ≡ option_map noted_block (block_among bs label) → (t : Bool)
        → (if t then Some (noted_block b) else block_among (map noted_block bs) label)
        ≡ option_map noted_block (if t then Some b else block_among bs label)
    by_test rec true = refl
    by_test rec false = rec

pub entry_noted : (bs : List Block) → entry_of (map noted_block bs) ≡ entry_of bs
entry_noted [] = refl
entry_noted (b ∷ bs) = refl
