-- What a step does to the words, and that they go on to say what the plain state says.
use Rattle.std.proofs.Common.{◌≡◌, ℕ, ◌+◌, ◌-◌, ◌*◌, ◌%◌, ◌^◌, ◌<◌, ◌≤◌, List, [], ◌∷◌, ◌++◌, length, drop, replicate}
use Rattle.std.proofs.Common.{slice_index, slice_set, suc, Some, refl, sym, ap, ◌∙◌, subst, inl, inr, ◌⊎◌, arith}
use Rattle.std.proofs.Common.{mod-eq_of_lt}
use Rattle.std.proofs.lemmas.Bool.{cases_eq, eq-eqb, ne_eqb}
use Rattle.std.proofs.lemmas.List.{append_assoc, length-append, length-replicate, length_push, drop_at, drop-set-lt}
use Rattle.std.proofs.lemmas.List.{drop-set-add, get_or-drop, get_or-set_same, get_or-set_other, set-get_or}
use Rattle.std.proofs.lemmas.List.{get_or_append_left, get_or-append_right, get_or-replicate}
use Rattle.ds_map.specs.Bounds.{Bounds}
use Rattle.ds_map.specs.Regions.{program_words}
use Rattle.ds_map.specs.Blocks.{page_word}
use Rattle.ds_map.specs.Words.{control_words, first_page_word, first_block_word, first_home_word, first_program_word}
use Rattle.ds_map.specs.Words.{word_of, first_control_words, first_words}
use Rattle.ds_step.specs.declared.OpKind.TheVariants.{Cas}
use Rattle.ds_step.specs.Word.{written_by}
use Rattle.ds_plain.specs.Behaviour.{Program}
use Rattle.ds_plain.specs.State.{Block, State, first_state, block_word, replaced}
use Rattle.ds_plain.specs.Spawning.{given_word}
use Rattle.ds_plain.specs.Table.{prints_word}
use Rattle.ds_plain.specs.Explained.{Agrees}
use Rattle.ds_plain_laws.proofs.Choices.{replaced_same, replaced_other}

-- the counts, the pages and the blocks are the same in both states
pub record SameTables (s s' : State) : Type 0 where
  pub given : s'.given ≡ s.given
  pub out : s'.out ≡ s.out
  pub pages : s'.pages ≡ s.pages
  pub blocks : s'.blocks ≡ s.blocks

module _ (lim : Bounds) (words : List ℕ) (s s' : State) (agrees : Agrees lim words s) where
  -- a word that is none of a page or a block, where pages and blocks are the same
  module _ (i v : ℕ) (apart : (k : ℕ) → control_words ≤ k → k < first_home_word lim → k ≡ i → ⊥) where
    pages_kept : s'.pages ≡ s.pages → (page : ℕ) → page < lim.pages
        → slice_index (slice_set words i v) (first_page_word + page) ≡ page_word (s'.pages page)
    pages_kept same page lt =
        get_or-set_other words i (first_page_word + page) v 0
        (apart (first_page_word + page) (omega arith) (omega arith))
        ∙ (agrees.pages page lt ∙ ap (λ pages. page_word (pages page)) (sym same))

    blocks_kept : s'.blocks ≡ s.blocks → (place : ℕ) → place < 256 * lim.pages
        → slice_index (slice_set words i v) (first_block_word lim + place) ≡ block_word (s'.blocks place)
    blocks_kept same place lt =
        get_or-set_other words i (first_block_word lim + place) v 0
        (apart (first_block_word lim + place) (omega arith) (omega arith))
        ∙ (agrees.blocks place lt ∙ ap (λ blocks. block_word (blocks place)) (sym same))

  -- a load leaves the words as they are
  pub agrees_loaded : (i : ℕ) → SameTables s s' → s'.words ≡ s.words
      → Agrees lim (slice_set words i (slice_index words i)) s'
  agrees_loaded i same words_same =
      subst (λ (ws : List ℕ). Agrees lim ws s') (sym (set-get_or words i 0)) (record {
        given = agrees.given ∙ sym same.given;
        prints = agrees.prints ∙ sym (ap length same.out);
        pages = λ page lt. agrees.pages page lt ∙ ap (λ pages. page_word (pages page)) (sym same.pages);
        blocks = λ place lt. agrees.blocks place lt ∙ ap (λ blocks. block_word (blocks place)) (sym same.blocks);
        program = agrees.program ∙ sym words_same;
      })

  -- a control word behind the counts says nothing of the plain state
  pub agrees_marked : (i v : ℕ) → 2 < i → i < control_words → SameTables s s' → s'.words ≡ s.words
      → Agrees lim (slice_set words i v) s'
  agrees_marked i v beyond control same words_same = record {
    given = get_or-set_other words i 1 v 0 (omega arith) ∙ (agrees.given ∙ sym same.given);
    prints = get_or-set_other words i 2 v 0 (omega arith) ∙ (agrees.prints ∙ sym (ap length same.out));
    pages = pages_kept i v (λ k le lt e. omega arith) same.pages;
    blocks = blocks_kept i v (λ k le lt e. omega arith) same.blocks;
    program = drop-set-lt (first_program_word lim) words i v (omega arith) ∙ (agrees.program ∙ sym words_same);
  }

  -- a word between those of the blocks and those of the program, as are those of the logs, says nothing of the plain
  -- state
  pub agrees_listed : (i v : ℕ) → first_home_word lim ≤ i → i < first_program_word lim → SameTables s s'
      → s'.words ≡ s.words → Agrees lim (slice_set words i v) s'
  agrees_listed i v behind before same words_same = record {
    given = get_or-set_other words i 1 v 0 (omega (arith, behind)) ∙ (agrees.given ∙ sym same.given);
    prints = get_or-set_other words i 2 v 0 (omega (arith, behind)) ∙ (agrees.prints ∙ sym (ap length same.out));
    pages = pages_kept i v (λ k le lt e. omega (arith, lt, e, behind)) same.pages;
    blocks = blocks_kept i v (λ k le lt e. omega (arith, lt, e, behind)) same.blocks;
    program = drop-set-lt (first_program_word lim) words i v before ∙ (agrees.program ∙ sym words_same);
  }

  -- a program word lies behind all others
  pub agrees_stored : (loc v : ℕ) → SameTables s s' → s'.words ≡ slice_set s.words loc v
      → Agrees lim (slice_set words (word_of lim loc) v) s'
  agrees_stored loc v same stored = record {
    given = get_or-set_other words (word_of lim loc) 1 v 0 (omega arith) ∙ (agrees.given ∙ sym same.given);
    prints = get_or-set_other words (word_of lim loc) 2 v 0 (omega arith) ∙ (agrees.prints ∙ sym (ap length same.out));
    pages = pages_kept (word_of lim loc) v (λ k le lt e. omega arith) same.pages;
    blocks = blocks_kept (word_of lim loc) v (λ k le lt e. omega arith) same.blocks;
    program = drop-set-add (first_program_word lim) words loc v
        ∙ (ap (λ (ws : List ℕ). slice_set ws loc v) agrees.program ∙ sym stored);
  }

  -- the count of the prints rises by one
  pub agrees_printed : (value : ℕ) → 2 < length words → length s.out + 1 < 2 ^ 64 → s'.given ≡ s.given
      → s'.out ≡ s.out ++ value ∷ [] → s'.pages ≡ s.pages → s'.blocks ≡ s.blocks → s'.words ≡ s.words
      → Agrees lim (slice_set words prints_word ((slice_index words prints_word + 1) % 2 ^ 64)) s'
  agrees_printed value roomy few given out pages blocks words_same =
      let count : ℕ = (slice_index words prints_word + 1) % 2 ^ 64 in
      let next : count ≡ length s'.out =
      ap (λ n. (n + 1) % 2 ^ 64) agrees.prints
      ∙ (mod-eq_of_lt few ∙ (sym (length_push s.out value) ∙ sym (ap length out))) in
      record {
        given = get_or-set_other words 2 1 count 0 (omega arith) ∙ (agrees.given ∙ sym given);
        prints = get_or-set_same words 2 count 0 roomy ∙ next;
        pages = pages_kept 2 count (λ k le lt e. omega arith) pages;
        blocks = blocks_kept 2 count (λ k le lt e. omega arith) blocks;
        program = drop-set-lt (first_program_word lim) words 2 count (omega arith)
            ∙ (agrees.program ∙ sym words_same);
      }

  -- the count of the threads that were given out rises by one
  pub agrees_drawn : 2 < length words → s.given + 1 < 2 ^ 64 → s'.given ≡ suc s.given → s'.out ≡ s.out
      → s'.pages ≡ s.pages → s'.blocks ≡ s.blocks → s'.words ≡ s.words
      → Agrees lim (slice_set words given_word ((slice_index words given_word + 1) % 2 ^ 64)) s'
  agrees_drawn roomy few given out pages blocks words_same =
      let count : ℕ = (slice_index words given_word + 1) % 2 ^ 64 in
      let next : count ≡ s'.given =
      ap (λ n. (n + 1) % 2 ^ 64) agrees.given
      ∙ (mod-eq_of_lt few ∙ omega (arith, given)) in
      record {
        given = get_or-set_same words 1 count 0 (omega (arith, roomy)) ∙ next;
        prints = get_or-set_other words 1 2 count 0 (omega arith) ∙ (agrees.prints ∙ sym (ap length out));
        pages = pages_kept 1 count (λ k le lt e. omega arith) pages;
        blocks = blocks_kept 1 count (λ k le lt e. omega arith) blocks;
        program = drop-set-lt (first_program_word lim) words 1 count (omega arith)
            ∙ (agrees.program ∙ sym words_same);
      }

  -- a page is given a class
  pub agrees_sized : (page class : ℕ) → page < lim.pages → first_program_word lim ≤ length words → s'.given ≡ s.given
      → s'.out ≡ s.out → s'.pages ≡ replaced s.pages page (Some class) → s'.blocks ≡ s.blocks → s'.words ≡ s.words
      → Agrees lim (slice_set words (first_page_word + page) (suc class)) s'
  agrees_sized page class lt roomy given out pages blocks words_same =
      let i : ℕ = first_page_word + page in
      record {
        given = get_or-set_other words i 1 (suc class) 0 (omega arith) ∙ (agrees.given ∙ sym given);
        prints = get_or-set_other words i 2 (suc class) 0 (omega arith) ∙ (agrees.prints ∙ sym (ap length out));
        pages = λ page' lt'. sized page' lt' (cases_eq page page') ∙ ap (λ pages. page_word (pages page')) (sym pages);
        blocks = λ place lt'.
            get_or-set_other words i (first_block_word lim + place) (suc class) 0 (omega (arith, lt))
            ∙ (agrees.blocks place lt' ∙ ap (λ blocks. block_word (blocks place)) (sym blocks));
        program = drop-set-lt (first_program_word lim) words i (suc class) (omega (arith, lt))
            ∙ (agrees.program ∙ sym words_same);
      }
    where
      sized : (page' : ℕ) → page' < lim.pages → ((page ≡ page') ⊎ (page ≡ page' → ⊥))
          → slice_index (slice_set words (first_page_word + page) (suc class)) (first_page_word + page')
          ≡ page_word (replaced s.pages page (Some class) page')
      sized page' lt' (inl e) = subst (λ p. slice_index (slice_set words (first_page_word + page) (suc class))
          (first_page_word + p) ≡ page_word (replaced s.pages page (Some class) p)) e
          (get_or-set_same words (first_page_word + page) (suc class) 0 (omega (arith, lt, roomy))
          ∙ ap page_word (sym (replaced_same s.pages page (Some class))))
      sized page' lt' (inr ne) =
          get_or-set_other words (first_page_word + page) (first_page_word + page') (suc class) 0
          (λ e. ne (omega (arith, e)))
          ∙ (agrees.pages page' lt' ∙ ap page_word (sym (replaced_other s.pages page (Some class) page' ne)))

  -- a block is changed
  pub agrees_changed : (place : ℕ) (block : Block) → place < 256 * lim.pages → first_program_word lim ≤ length words
      → s'.given ≡ s.given → s'.out ≡ s.out → s'.pages ≡ s.pages → s'.blocks ≡ replaced s.blocks place block
      → s'.words ≡ s.words → Agrees lim (slice_set words (first_block_word lim + place) (block_word block)) s'
  agrees_changed place block lt roomy given out pages blocks words_same =
      let i : ℕ = first_block_word lim + place in
      let v : ℕ = block_word block in
      record {
        given = get_or-set_other words i 1 v 0 (omega arith) ∙ (agrees.given ∙ sym given);
        prints = get_or-set_other words i 2 v 0 (omega arith) ∙ (agrees.prints ∙ sym (ap length out));
        pages = λ page lt'.
            get_or-set_other words i (first_page_word + page) v 0 (omega (arith, lt'))
            ∙ (agrees.pages page lt' ∙ ap (λ pages. page_word (pages page)) (sym pages));
        blocks = λ place' lt'. becomes place' lt' (cases_eq place place')
            ∙ ap (λ blocks. block_word (blocks place')) (sym blocks);
        program = drop-set-lt (first_program_word lim) words i v (omega (arith, lt))
            ∙ (agrees.program ∙ sym words_same);
      }
    where
      becomes : (place' : ℕ) → place' < 256 * lim.pages → ((place ≡ place') ⊎ (place ≡ place' → ⊥))
          → slice_index (slice_set words (first_block_word lim + place) (block_word block))
          (first_block_word lim + place') ≡ block_word (replaced s.blocks place block place')
      becomes place' lt' (inl e) =
          subst (λ p. slice_index (slice_set words (first_block_word lim + place) (block_word block))
          (first_block_word lim + p) ≡ block_word (replaced s.blocks place block p)) e
          (get_or-set_same words (first_block_word lim + place) (block_word block) 0 (omega (arith, lt, roomy))
          ∙ ap block_word (sym (replaced_same s.blocks place block)))
      becomes place' lt' (inr ne) =
          get_or-set_other words (first_block_word lim + place) (first_block_word lim + place') (block_word block) 0
          (λ e. ne (omega (arith, e)))
          ∙ (agrees.blocks place' lt' ∙ ap block_word (sym (replaced_other s.blocks place block place' ne)))

-- a compare-and-swap that finds another value leaves the word as it is
pub swap_kept : (a b n : ℕ) → (n ≡ a → ⊥) → written_by Cas a b n ≡ n
swap_kept a b n ne = rw (ne_eqb n a ne) refl

-- and one that finds its value writes
pub swap_made : (a b n : ℕ) → n ≡ a → written_by Cas a b n ≡ b
swap_made a b n e = rw (eq-eqb n a e) refl

-- the word of a location is the plain word there
pub program_word : (lim : Bounds) (words : List ℕ) (s : State) → Agrees lim words s → (loc : ℕ)
    → slice_index words (word_of lim loc) ≡ slice_index s.words loc
program_word lim words s agrees loc =
    sym (get_or-drop (first_program_word lim) words loc 0) ∙ ap (λ (ws : List ℕ). slice_index ws loc) agrees.program

-- AT THE START

-- what lies behind the front of a list
behind : (front zeros image rest : List ℕ) (n : ℕ) → length front + length zeros ≡ n
    → drop n (front ++ zeros ++ image ++ rest) ≡ image ++ rest
behind front zeros image rest n is =
    ap (drop n) (append_assoc (front ++ zeros) image rest) ∙ drop_at (front ++ zeros) (image ++ rest) n
    (length-append front zeros ∙ is)

-- what lies between
between : (front image rest : List ℕ) (n k : ℕ) → length front ≤ k → k < length front + n
    → slice_index (front ++ replicate n 0 ++ image ++ rest) k ≡ 0
between front image rest n k le lt =
    let long : length (front ++ replicate n 0) ≡ length front + n =
    length-append front (replicate n 0) ∙ ap (λ m. length front + m) (length-replicate {A = ℕ} n 0) in
    get_or_append_left (front ++ replicate n 0 ++ image) rest 0 k
    (omega (arith, length-append (front ++ replicate n 0) image, long))
    ∙ (get_or_append_left (front ++ replicate n 0) image 0 k (omega (arith, long))
    ∙ (get_or-append_right front (replicate n 0) (length front) k 0 refl le
    ∙ get_or-replicate n (k - length front) 0 0 (omega arith)))

longer : (front zeros image rest : List ℕ) (n : ℕ) → length front + length zeros ≡ n
    → n ≤ length (front ++ zeros ++ image ++ rest)
longer front zeros image rest n is =
    omega (
      arith,
      is,
      length-append (front ++ zeros ++ image) rest,
      length-append (front ++ zeros) image,
      length-append front zeros,
    )

-- the words between the control words and the program words
abbrev padding : Bounds → List ℕ
padding lim = replicate (first_program_word lim - control_words) 0

-- behind the control words and before the program words there are zeros
zero_word : (lim : Bounds) (image : List ℕ) (k : ℕ) → control_words ≤ k → k < first_program_word lim
    → slice_index (first_words lim image) k ≡ 0
unfolding first_words
zero_word lim image k le lt =
    between first_control_words image (replicate (program_words lim - length image) 0)
    (first_program_word lim - control_words) k le (omega arith)

program_first : (lim : Bounds) (image : List ℕ)
    → drop (first_program_word lim) (first_words lim image)
    ≡ image ++ replicate (program_words lim - length image) 0
unfolding first_words
program_first lim image =
    behind first_control_words (padding lim) image (replicate (program_words lim - length image) 0)
    (first_program_word lim) (omega (arith, length-replicate {A = ℕ} (first_program_word lim - control_words) 0))

first_counts : (lim : Bounds) (image : List ℕ)
    → (slice_index (first_words lim image) 1 ≡ 1) × (slice_index (first_words lim image) 2 ≡ 0)
unfolding first_words
first_counts lim image = (refl, refl)

pub agrees_first : (program : Program) (lim : Bounds)
    → Agrees lim (first_words lim program.image) (first_state program lim)
agrees_first program lim = record {
  given = (first_counts lim program.image).0;
  prints = (first_counts lim program.image).1;
  pages = λ page lt. zero_word lim program.image (first_page_word + page) (omega arith) (omega arith);
  blocks = λ place lt. zero_word lim program.image (first_block_word lim + place) (omega arith) (omega arith);
  program = program_first lim program.image;
}

pub roomy_first : (lim : Bounds) (image : List ℕ) → first_program_word lim ≤ length (first_words lim image)
unfolding first_words
roomy_first lim image =
    longer first_control_words (padding lim) image (replicate (program_words lim - length image) 0)
    (first_program_word lim) (omega (arith, length-replicate {A = ℕ} (first_program_word lim - control_words) 0))
