-- What the words of pages and blocks say of the plain state.
use Rattle.std.proofs.Common.{◌≡◌, ℕ, zero, suc, ◌+◌, ◌-◌, ◌*◌, ◌/◌, ◌%◌, ◌^◌, ◌<◌, ◌≤◌, ◌==◌, Bool, true, false}
use Rattle.std.proofs.Common.{nat_lt}
use Rattle.std.proofs.Common.{if◌then◌else◌, Option, Some, None, refl, sym, ap, ◌∙◌, subst, arith}
use Rattle.std.proofs.Common.{eqb-true, ltb-true}
use Rattle.std.proofs.lemmas.Bool.{eq-eqb}
use Rattle.ds_map.specs.Bounds.{Bounds}
use Rattle.ds_map.specs.Blocks.{Pages, class_words, class_blocks, place_of, page_of}
use Rattle.ds_map.specs.Blocks.{index_of, block_start, page_at, place_in, if_starting, place_from}
use Rattle.ds_map.specs.Blocks.{place_holding, place_starting, page_word}
use Rattle.ds_map.specs.Regions.{heap, lies_in}
use Rattle.ds_pages.specs.declared.BlockState.{BlockState}
use Rattle.ds_pages.specs.declared.BlockState.TheVariants as words
use Rattle.ds_pages.specs.Words.{is_page_word, class_in, block_at, state_code, state_word, state_of_code, in_life}
use Rattle.ds_pages.specs.Words.{read_state}
use Rattle.ds_plain.specs.State.{Use, Free, Live, Freeing, Block, use_word, block_word}
use Rattle.ds_plain.specs.Searching.{PageSeen, Unsized, Wanted, Other, NoPageWord, page_seen, BlockSeen, Unused, Used}
use Rattle.ds_plain.specs.Searching.{NoBlockWord, seen_as, block_seen}
use Rattle.ds_plain.specs.Noting as noting
use Rattle.ds_plain.specs.Freeing as freeing
use Rattle.ds_plain.specs.Freeing.{LifeSeen, LiveIn, NotLive, seen_life, life_seen}

-- PAGES

-- a page word tells the class of its page
pub class_in_word : (pages : Option ℕ) → class_in (page_word pages) ≡ pages
class_in_word None = refl
class_in_word (Some class) = refl

pub page_none : (pages : Option ℕ) → page_word pages ≡ 0 → pages ≡ None
page_none None e = refl
page_none (Some class) e = absurd (omega (arith, e))

pub page_some : (pages : Option ℕ) (class : ℕ) → page_word pages ≡ suc class → pages ≡ Some class
page_some None class e = absurd (omega (arith, e))
page_some (Some given) class e = ap Some (omega (arith, e))

-- what a malloc makes of the word of a page
pub record SeesPage (class word : ℕ) (seen : PageSeen) : Type 0 where
  pub unsized : seen ≡ Unsized → word ≡ 0
  pub wanted : seen ≡ Wanted → word ≡ suc class
  pub other : seen ≡ Other → (word ≡ 0 → ⊥) × (word ≡ suc class → ⊥)
  pub no_word : seen ≡ NoPageWord → word ≡ 0 → ⊥

pub sees_page : (class word : ℕ) → SeesPage class word (page_seen class word)
sees_page class word = by (word == 0) refl
  where
    last : (b : Bool) → (word ≡ 0 → ⊥) → (word ≡ suc class → ⊥) → SeesPage class word (if b then Other else NoPageWord)
    last true ne ne' = record {
      unsized = λ e. absurd (cc (e));
      wanted = λ e. absurd (cc (e));
      other = λ e. (ne, ne');
      no_word = λ e. absurd (cc (e));
    }
    last false ne ne' = record {
      unsized = λ e. absurd (cc (e));
      wanted = λ e. absurd (cc (e));
      other = λ e. absurd (cc (e));
      no_word = λ e. ne;
    }

    middle : (b : Bool) → (word == suc class) ≡ b → (word ≡ 0 → ⊥)
        → SeesPage class word (if b then Wanted else (if is_page_word word then Other else NoPageWord))
    middle true is ne = record {
      unsized = λ e. absurd (cc (e));
      wanted = λ e. eqb-true word (suc class) is;
      other = λ e. absurd (cc (e));
      no_word = λ e. absurd (cc (e));
    }
    middle false is ne = last (is_page_word word) ne
        (λ e. let yes' : (word == suc class) ≡ true = eq-eqb word (suc class) e in absurd (cc (is, yes')))

    by : (b : Bool) → (word == 0) ≡ b → SeesPage class word
        (if b then Unsized else (if word == suc class then Wanted else (if is_page_word word then Other else NoPageWord)))
    by true is = record {
      unsized = λ e. eqb-true word 0 is;
      wanted = λ e. absurd (cc (e));
      other = λ e. absurd (cc (e));
      no_word = λ e. absurd (cc (e));
    }
    by false is = middle (word == suc class) refl
        (λ e. let yes' : (word == 0) ≡ true = eq-eqb word 0 e in absurd (cc (is, yes')))

-- BLOCKS

-- the two last bits of a block word, and the rest
pub word_parts : (block : Block) (life code : ℕ) → block_word block ≡ life * 4 + code → code < 4
    → (block.life ≡ life) × (use_word block.state ≡ code)
word_parts block life code e lt = let small = use_small block.state in (omega (arith, e, lt, small), omega (arith, e, lt, small))
  where
    use_small : (use' : Use) → use_word use' < 4
    use_small Free = omega arith
    use_small Live = omega arith
    use_small (Freeing thread) = omega arith

-- a use with its number
pub use_free : (use' : Use) → use_word use' ≡ 0 → use' ≡ Free
use_free Free e = refl
use_free Live e = absurd (omega (arith, e))
use_free (Freeing thread) e = absurd (omega (arith, e))

pub use_live : (use' : Use) → use_word use' ≡ 1 → use' ≡ Live
use_live Free e = absurd (omega (arith, e))
use_live Live e = refl
use_live (Freeing thread) e = absurd (omega (arith, e))

-- a life and a state apart
abbrev life_of : Option (ℕ × BlockState) → ℕ
life_of None = 0
life_of (Some read) = read.0

abbrev state_of : Option (ℕ × BlockState) → BlockState
state_of None = words.Free
state_of (Some read) = read.1

-- what a word reads as that is this life and state
pub read_word : (word life : ℕ) (state : BlockState) → read_state word ≡ Some (life, state)
    → word ≡ life * 4 + state_code state
read_word word life state e = by (nat_lt word (2 ^ 34)) e
  where
    by_code : (code : ℕ) → word % 4 ≡ code → in_life (word / 4) (state_of_code code) ≡ Some (life, state)
        → word ≡ life * 4 + state_code state
    by_code zero is e' =
        let l : word / 4 ≡ life = ap life_of e' in let st : words.Free ≡ state = ap state_of e' in
        subst (λ st. word ≡ life * 4 + state_code st) st (omega (arith, l, is))
    by_code (suc zero) is e' =
        let l : word / 4 ≡ life = ap life_of e' in let st : words.Live ≡ state = ap state_of e' in
        subst (λ st. word ≡ life * 4 + state_code st) st (omega (arith, l, is))
    by_code (suc (suc zero)) is e' =
        let l : word / 4 ≡ life = ap life_of e' in let st : words.Freeing ≡ state = ap state_of e' in
        subst (λ st. word ≡ life * 4 + state_code st) st (omega (arith, l, is))
    by_code (suc (suc (suc n))) is e' = absurd (cc (e'))

    by : (b : Bool) → (if b then in_life (word / 4) (state_of_code (word % 4)) else None) ≡ Some (life, state)
        → word ≡ life * 4 + state_code state
    by true e' = by_code (word % 4) refl e'
    by false e' = absurd (cc (e'))

-- its life fits 32 bits
read_small : (word life : ℕ) (state : BlockState) → read_state word ≡ Some (life, state) → life < 2 ^ 32
read_small word life state e = by (nat_lt word (2 ^ 34)) refl e
  where
    by : (b : Bool) → nat_lt word (2 ^ 34) ≡ b
        → (if b then in_life (word / 4) (state_of_code (word % 4)) else None) ≡ Some (life, state) → life < 2 ^ 32
    by true small e' =
        let lt = ltb-true word (2 ^ 34) small in
        let is = read_word word life state e in
        omega (arith, lt, is)
    by false small e' = absurd (cc (e'))

-- and that word reads so
pub read_back : (life : ℕ) (state : BlockState) → life < 2 ^ 32
    → read_state (life * 4 + state_code state) ≡ Some (life, state)
read_back life state lt = by state
  where
    lives : (code : ℕ) → code < 4 → (life * 4 + code) / 4 ≡ life
    lives code small = omega (arith, small)

    codes : (code : ℕ) → code < 4 → (life * 4 + code) % 4 ≡ code
    codes code small = omega (arith, small)

    small_word : (code : ℕ) → code < 4 → nat_lt (life * 4 + code) (2 ^ 34) ≡ true
    small_word code small = grind (arith, lt, small)

    reads : (code : ℕ) (st : Option BlockState) → code < 4 → state_of_code code ≡ st
        → read_state (life * 4 + code) ≡ in_life life st
    reads code st small is =
        rw (small_word code small) (ap (λ q. in_life q (state_of_code ((life * 4 + code) % 4))) (lives code small)
        ∙ ap (λ c. in_life life (state_of_code c)) (codes code small) ∙ ap (in_life life) is)

    by : (st : BlockState) → read_state (life * 4 + state_code st) ≡ Some (life, st)
    by words.Free = reads 0 (Some words.Free) (omega arith) refl
    by words.Live = reads 1 (Some words.Live) (omega arith) refl
    by words.Freeing = reads 2 (Some words.Freeing) (omega arith) refl

-- what a malloc makes of the word of a block
pub record SeesBlock (word : ℕ) (seen : BlockSeen) : Type 0 where
  pub free : (life : ℕ) → seen ≡ Unused life → (word ≡ life * 4) × (life < 2 ^ 32 - 1)
  pub in_use : seen ≡ Used → word % 4 ≡ 0 → ⊥

pub sees_block : (word : ℕ) → SeesBlock word (block_seen word)
sees_block word = by (read_state word) refl
  where
    by_life : (b : Bool) (life : ℕ) → nat_lt life (2 ^ 32 - 1) ≡ b → word ≡ life * 4 + 0
        → SeesBlock word (if b then Unused life else NoBlockWord)
    by_life true life small is = record {
      free = λ life' e. let same : life ≡ life' = cc (e) in
          subst (λ n. (word ≡ n * 4) × (n < 2 ^ 32 - 1)) same (omega (arith, is), ltb-true life (2 ^ 32 - 1) small);
      in_use = λ e. absurd (cc (e));
    }
    by_life false life small is = record { free = λ life' e. absurd (cc (e)); in_use = λ e. absurd (cc (e)) }

    busy : (life code : ℕ) → word ≡ life * 4 + code → 0 < code → code < 4 → SeesBlock word Used
    busy life code is some small = record {
      free = λ life' e. absurd (cc (e));
      in_use = λ e none. absurd (omega (arith, is, none, some, small));
    }

    by : (read : Option (ℕ × BlockState)) → read_state word ≡ read → SeesBlock word (seen_as read)
    by None is = record { free = λ life e. absurd (cc (e)); in_use = λ e. absurd (cc (e)) }
    by (Some (life, words.Free)) is =
        by_life (nat_lt life (2 ^ 32 - 1)) life refl (read_word word life words.Free is)
    by (Some (life, words.Live)) is = busy life 1 (read_word word life words.Live is) (omega arith) (omega arith)
    by (Some (life, words.Freeing)) is =
        busy life 2 (read_word word life words.Freeing is) (omega arith) (omega arith)

-- the word of a free block is seen so
pub free_seen : (life : ℕ) → life < 2 ^ 32 - 1 → block_seen (state_word life words.Free) ≡ Unused life
free_seen life lt =
    ap seen_as (read_back life words.Free (omega (arith, lt)))
    ∙ rw (ltb-is life (2 ^ 32 - 1) lt) refl
  where
    ltb-is : (n m : ℕ) → n < m → nat_lt n m ≡ true
    ltb-is n m lt = grind (arith, lt)

-- what a free makes of the word of a block
pub record SeesLife (word : ℕ) (seen : LifeSeen) : Type 0 where
  pub live : (life : ℕ) → seen ≡ LiveIn life → (word ≡ life * 4 + 1) × (life < 2 ^ 32)
  pub not_live : seen ≡ NotLive → word % 4 ≡ 1 → ⊥

pub sees_life : (word : ℕ) → SeesLife word (life_seen word)
sees_life word = by (read_state word) refl
  where
    other : (life code : ℕ) → word ≡ life * 4 + code → (code ≡ 1 → ⊥) → code < 4 → SeesLife word NotLive
    other life code is ne small = record {
      live = λ life' e. absurd (cc (e));
      not_live = λ e one. ne (omega (arith, is, one, small));
    }

    by : (read : Option (ℕ × BlockState)) → read_state word ≡ read → SeesLife word (seen_life read)
    by None is = record { live = λ life e. absurd (cc (e)); not_live = λ e. absurd (cc (e)) }
    by (Some (life, words.Free)) is =
        other life 0 (read_word word life words.Free is) (λ e. absurd (omega (arith, e))) (omega arith)
    by (Some (life, words.Live)) is = record {
      live = λ life' e. let same : life ≡ life' = cc (e) in
          subst (λ n. (word ≡ n * 4 + 1) × (n < 2 ^ 32)) same
          (read_word word life words.Live is, read_small word life words.Live is);
      not_live = λ e. absurd (cc (e));
    }
    by (Some (life, words.Freeing)) is =
        other life 2 (read_word word life words.Freeing is) (λ e. absurd (omega (arith, e))) (omega arith)

-- the word of a live block is seen so
pub live_seen : (life : ℕ) → life < 2 ^ 32 → life_seen (state_word life words.Live) ≡ LiveIn life
live_seen life lt = ap seen_life (read_back life words.Live lt)

-- PLACES

-- a page has at most 256 blocks
pub few_blocks : (class : ℕ) → class_blocks class ≤ 256
few_blocks zero = omega arith
few_blocks (suc zero) = omega arith
few_blocks (suc (suc zero)) = omega arith
few_blocks (suc (suc (suc zero))) = omega arith
few_blocks (suc (suc (suc (suc zero)))) = omega arith
few_blocks (suc (suc (suc (suc (suc zero))))) = omega arith
few_blocks (suc (suc (suc (suc (suc (suc zero)))))) = omega arith
few_blocks (suc (suc (suc (suc (suc (suc (suc zero))))))) = omega arith
few_blocks (suc (suc (suc (suc (suc (suc (suc (suc zero)))))))) = omega arith
few_blocks (suc (suc (suc (suc (suc (suc (suc (suc (suc zero))))))))) = omega arith
few_blocks (suc (suc (suc (suc (suc (suc (suc (suc (suc (suc zero)))))))))) = omega arith
few_blocks (suc (suc (suc (suc (suc (suc (suc (suc (suc (suc (suc zero))))))))))) = omega arith
few_blocks (suc (suc (suc (suc (suc (suc (suc (suc (suc (suc (suc (suc zero)))))))))))) = omega arith
few_blocks (suc (suc (suc (suc (suc (suc (suc (suc (suc (suc (suc (suc (suc zero))))))))))))) = omega arith
few_blocks (suc (suc (suc (suc (suc (suc (suc (suc (suc (suc (suc (suc (suc (suc zero)))))))))))))) = omega arith
few_blocks (suc (suc (suc (suc (suc (suc (suc (suc (suc (suc (suc (suc (suc (suc (suc more))))))))))))))) = omega arith

-- the page and the index of a place
pub page_of_place : (page index : ℕ) → index < 256 → page_of (place_of page index) ≡ page
page_of_place page index lt = omega (arith, lt)

pub index_of_place : (page index : ℕ) → index < 256 → index_of (place_of page index) ≡ index
index_of_place page index lt = omega (arith, lt)

-- WHERE A BLOCK HOLDS AN ADDRESS

-- how far an address of the heap lies behind the start of its page
abbrev offset_of : (address : ℕ) → ℕ
offset_of address = (address - 0x1000000) % 4096

-- what holds an address of the heap, by the class of its page
holding_is : (lim : Bounds) (pages : Pages) (address : ℕ) (class : Option ℕ) → lies_in (heap lim) address ≡ true
    → pages (page_at address) ≡ class
    → place_holding lim pages address ≡ place_in (page_at address) (offset_of address) class
holding_is lim pages address class lies is =
    ap (λ b. if b then place_in (page_at address) (offset_of address) (pages (page_at address)) else None) lies
    ∙ ap (place_in (page_at address) (offset_of address)) is

-- a block that holds an address of a page is one of that page
page_held : (page offset class place : ℕ) → place_in page offset (Some class) ≡ Some place → page_of place ≡ page
page_held page offset class place e = by (nat_lt (offset / (8 * class_words class)) (class_blocks class)) refl e
  where
    by : (b : Bool) → nat_lt (offset / (8 * class_words class)) (class_blocks class) ≡ b
        → (if b then Some (place_of page (offset / (8 * class_words class))) else None) ≡ Some place
        → page_of place ≡ page
    by true lt e' =
        let less = ltb-true (offset / (8 * class_words class)) (class_blocks class) lt in
        let here : place_of page (offset / (8 * class_words class)) ≡ place = cc (e') in
        ap page_of (sym here)
        ∙ page_of_place page (offset / (8 * class_words class)) (omega (arith, less, few_blocks class))
    by false lt e' = absurd (cc (e'))

-- where the pages keep their classes the block still holds it
pub holding_on : (lim : Bounds) (pages pages' : Pages) (address place : ℕ)
    → ((page class : ℕ) → pages page ≡ Some class → pages' page ≡ Some class)
    → place_holding lim pages address ≡ Some place → place_holding lim pages' address ≡ Some place
holding_on lim pages pages' address place kept e = by_lies (lies_in (heap lim) address) refl e
  where
    by_class : (class : Option ℕ) → pages (page_at address) ≡ class → lies_in (heap lim) address ≡ true
        → place_in (page_at address) (offset_of address) class ≡ Some place
        → place_holding lim pages' address ≡ Some place
    by_class None is lies e' = absurd (cc (e'))
    by_class (Some class) is lies e' =
        holding_is lim pages' address (Some class) lies (kept (page_at address) class is) ∙ e'

    by_lies : (b : Bool) → lies_in (heap lim) address ≡ b
        → (if b then place_in (page_at address) (offset_of address) (pages (page_at address)) else None)
        ≡ Some place → place_holding lim pages' address ≡ Some place
    by_lies true lies e' = by_class (pages (page_at address)) refl lies e'
    by_lies false lies e' = absurd (cc (e'))

-- the block at a place holds an address of the heap, and starts there
pub record Held (lim : Bounds) (pages : Pages) (address place start : ℕ) : Type 0 where
  pub holds : place_holding lim pages address ≡ Some place
  pub page : page_of place ≡ page_at address
  pub class : ℕ
  pub class_is : pages (page_of place) ≡ Some class
  pub start_is : start ≡ block_start place class

-- what a note makes of the word of a page
pub record SeesHeld (lim : Bounds) (pages : Pages) (value : ℕ) (seen : noting.HeldSeen) : Type 0 where
  pub held : (place start : ℕ) → seen ≡ noting.HeldIn place start → Held lim pages value place start
  pub none : seen ≡ noting.HeldByNone → place_holding lim pages value ≡ None

pub sees_held : (lim : Bounds) (pages : Pages) (value word : ℕ) → lies_in (heap lim) value ≡ true
    → class_in word ≡ pages (page_at value) → SeesHeld lim pages value (noting.held_seen value word)
sees_held lim pages value word lies is = by_word (is_page_word word)
  where
    by_none : (word : ℕ) → place_holding lim pages value ≡ None
        → SeesHeld lim pages value (noting.held_by word None)
    by_none word none = record { held = λ place start e. absurd (cc (e)); none = λ e. none }

    by_place : (class : ℕ) (o : Option ℕ) → pages (page_at value) ≡ Some class
        → place_in (page_at value) (offset_of value) (Some class) ≡ o
        → SeesHeld lim pages value (noting.held_by (suc class) o)
    by_place class None has e = by_none (suc class) (holding_is lim pages value (Some class) lies has ∙ e)
    by_place class (Some place) has e = record {
      held = λ place' start' e'. let same : place ≡ place' = cc (e') in
          let starts : block_start place (suc class - 1) ≡ start' = cc (e') in
          let less : suc class - 1 ≡ class = omega arith in
          subst (λ p. Held lim pages value p start') same (record {
            holds = holding_is lim pages value (Some class) lies has ∙ e;
            page = page_held (page_at value) (offset_of value) class place e;
            class = class;
            class_is = ap pages (page_held (page_at value) (offset_of value) class place e) ∙ has;
            start_is = sym starts ∙ ap (block_start place) less;
          });
      none = λ e'. absurd (cc (e'));
    }

    by_class : (word : ℕ) → class_in word ≡ pages (page_at value)
        → SeesHeld lim pages value (noting.held_by word (place_in (page_at value) (offset_of value) (class_in word)))
    by_class zero has = by_none zero (holding_is lim pages value None lies (sym has))
    by_class (suc class) has = by_place class (place_in (page_at value) (offset_of value) (Some class)) (sym has) refl

    by_word : (b : Bool) → SeesHeld lim pages value
        (if b then noting.held_by word (place_in (page_at value) (offset_of value) (class_in word))
        else noting.NoPageWord)
    by_word true = by_class word is
    by_word false = record { held = λ place start e. absurd (cc (e)); none = λ e. absurd (cc (e)) }

-- WHERE A BLOCK STARTS AT AN ADDRESS

-- the block that starts at an address, by the class of its page
abbrev start_at : (address place : ℕ) → ℕ → Option ℕ
start_at address place class = if block_start place class == address then Some place else None

abbrev start_by : (address page offset : ℕ) → Option ℕ → Option ℕ
start_by address page offset None = None
start_by address page offset (Some class) =
    if nat_lt (offset / (8 * class_words class)) (class_blocks class)
    then start_at address (place_of page (offset / (8 * class_words class))) class else None

start_is : (pages : Pages) (address page offset : ℕ) (class : Option ℕ) → pages page ≡ class
    → place_from pages address (place_in page offset class) ≡ start_by address page offset class
start_is pages address page offset None is = refl
start_is pages address page offset (Some class) is =
    by (nat_lt (offset / (8 * class_words class)) (class_blocks class)) refl
  where
    here : (index : ℕ) → index < 256 → place_from pages address (Some (place_of page index))
        ≡ start_at address (place_of page index) class
    here index lt =
        ap (λ p. if_starting pages address (place_of page index) (pages p)) (page_of_place page index lt)
        ∙ ap (if_starting pages address (place_of page index)) is

    by : (b : Bool) → nat_lt (offset / (8 * class_words class)) (class_blocks class) ≡ b
        → place_from pages address (if b then Some (place_of page (offset / (8 * class_words class))) else None)
        ≡ (if b then start_at address (place_of page (offset / (8 * class_words class))) class else None)
    by true lt =
        let less = ltb-true (offset / (8 * class_words class)) (class_blocks class) lt in
        here (offset / (8 * class_words class)) (omega (arith, less, few_blocks class))
    by false lt = refl

-- the same by the word of the page as by the pages
pub starts_by_word : (lim : Bounds) (pages : Pages) (address word : ℕ) → lies_in (heap lim) address ≡ true
    → class_in word ≡ pages (page_at address) → block_at address word ≡ place_starting lim pages address
starts_by_word lim pages address word lies is =
    let page = page_at address in
    let offset = (address - 0x1000000) % 4096 in
    let by_word = start_is (λ p. class_in word) address page offset (class_in word) refl in
    let by_pages = start_is pages address page offset (pages page) refl in
    by_word ∙ (ap (start_by address page offset) is ∙ sym (rw lies by_pages))

-- what is known of the place of a block that starts at an address
pub record Starts (lim : Bounds) (pages : Pages) (address place : ℕ) : Type 0 where
  pub lies : lies_in (heap lim) address ≡ true
  pub page : page_of place ≡ page_at address
  pub class : ℕ
  pub class_is : pages (page_at address) ≡ Some class

pub starts : (lim : Bounds) (pages : Pages) (address place : ℕ) → place_starting lim pages address ≡ Some place
    → Starts lim pages address place
starts lim pages address place e = by_lies (lies_in (heap lim) address) refl e
  where
    at_start : (b : Bool) (p : ℕ) → (if b then Some p else None) ≡ Some place → p ≡ place
    at_start true p e' = cc (e')
    at_start false p e' = absurd (cc (e'))

    by_index : (b : Bool) (index class : ℕ) → nat_lt index (class_blocks class) ≡ b
        → (if b then start_at address (place_of (page_at address) index) class else None) ≡ Some place
        → page_of place ≡ page_at address
    by_index true index class lt e' =
        let less = ltb-true index (class_blocks class) lt in
        let here = at_start (block_start (place_of (page_at address) index) class == address)
        (place_of (page_at address) index) e' in
        ap page_of (sym here) ∙ page_of_place (page_at address) index (omega (arith, less, few_blocks class))
    by_index false index class lt e' = absurd (cc (e'))

    by_class : (class : Option ℕ) → pages (page_at address) ≡ class → lies_in (heap lim) address ≡ true
        → start_by address (page_at address) ((address - 0x1000000) % 4096) class ≡ Some place
        → Starts lim pages address place
    by_class None is lies e' = absurd (cc (e'))
    by_class (Some class) is lies e' = record {
      lies = lies;
      page = by_index (nat_lt (((address - 0x1000000) % 4096) / (8 * class_words class)) (class_blocks class))
          (((address - 0x1000000) % 4096) / (8 * class_words class)) class refl e';
      class = class;
      class_is = is;
    }

    by_lies : (b : Bool) → lies_in (heap lim) address ≡ b
        → place_from pages address
        (if b then place_in (page_at address) ((address - 0x1000000) % 4096) (pages (page_at address)) else None)
        ≡ Some place → Starts lim pages address place
    by_lies true lies e' =
        by_class (pages (page_at address)) refl lies
        (sym (start_is pages address (page_at address) ((address - 0x1000000) % 4096) (pages (page_at address)) refl)
        ∙ e')
    by_lies false lies e' = absurd (cc (e'))

-- where the pages keep their classes it still starts there
pub starts_on : (lim : Bounds) (pages pages' : Pages) (address place : ℕ)
    → ((page class : ℕ) → pages page ≡ Some class → pages' page ≡ Some class)
    → place_starting lim pages address ≡ Some place → place_starting lim pages' address ≡ Some place
starts_on lim pages pages' address place kept e =
    let at = starts lim pages address place e in
    let known : class_in (page_word (Some at.class)) ≡ pages (page_at address) = sym at.class_is in
    let known' : class_in (page_word (Some at.class)) ≡ pages' (page_at address) =
    sym (kept (page_at address) at.class at.class_is) in
    sym (starts_by_word lim pages' address (page_word (Some at.class)) at.lies known')
    ∙ (starts_by_word lim pages address (page_word (Some at.class)) at.lies known ∙ e)

-- a page of the heap
pub page_inside : (lim : Bounds) (address : ℕ) → lies_in (heap lim) address ≡ true → page_at address < lim.pages
page_inside lim address lies = grind (arith, lies)

-- what the word of a page says of an address
pub start_of_seen : (address word place : ℕ) → freeing.start_seen address word ≡ freeing.StartOf place
    → block_at address word ≡ Some place
start_of_seen address word place e = by_word (is_page_word word) e
  where
    by_start : (o : Option ℕ) → freeing.start_found o ≡ freeing.StartOf place → o ≡ Some place
    by_start None e' = absurd (cc (e'))
    by_start (Some found) e' = let same : found ≡ place = cc (e') in ap Some same

    by_word : (b : Bool) → (if b then freeing.start_found (block_at address word) else freeing.NoPageWord)
        ≡ freeing.StartOf place → block_at address word ≡ Some place
    by_word true e' = by_start (block_at address word) e'
    by_word false e' = absurd (cc (e'))

pub no_start_seen : (address word : ℕ) → freeing.start_seen address word ≡ freeing.NoStart
    → block_at address word ≡ None
no_start_seen address word e = by_word (is_page_word word) e
  where
    by_start : (o : Option ℕ) → freeing.start_found o ≡ freeing.NoStart → o ≡ None
    by_start None e' = refl
    by_start (Some found) e' = absurd (cc (e'))

    by_word : (b : Bool) → (if b then freeing.start_found (block_at address word) else freeing.NoPageWord)
        ≡ freeing.NoStart → block_at address word ≡ None
    by_word true e' = by_start (block_at address word) e'
    by_word false e' = absurd (cc (e'))
