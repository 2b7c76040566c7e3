-- What a step leaves of pages and blocks, and where a thread begins to free.
use Rattle.std.proofs.Common.{◌≡◌, ℕ, ◌≤◌, Some, None, refl, ap, sym}
use Rattle.std.proofs.Common.{◌∙◌, subst, inl, inr, ◌⊎◌, arith}
use Rattle.std.proofs.lemmas.Bool.{cases_eq}
use Rattle.ds_plain.specs.declared.FreeAt.TheVariants as frees
use Rattle.ds_plain.specs.declared.Position.{Position}
use Rattle.ds_plain.specs.declared.Position.TheVariants.{Start, Malloc, Note, Free, Spawn, Join}
use Rattle.ds_plain.specs.declared.Position.TheVariants.{DrawPrint, StoreEnded, Over, NoRow}
use Rattle.ds_plain.specs.declared.Position.TheVariants as positions
use Rattle.ds_plain.specs.State.{Freeing, Block, State, replaced}
use Rattle.ds_plain.specs.State as states
use Rattle.ds_plain_laws.proofs.Choices.{replaced_same, replaced_other}

-- what a step of thread t leaves alone: a page keeps its class, lives do not fall, what another thread frees stays as
-- it is, and no other thread begins to free
pub record Leaves (t : ℕ) (s s' : State) : Type 0 where
  pub pages : (page class : ℕ) → s.pages page ≡ Some class → s'.pages page ≡ Some class
  pub lives : (place : ℕ) → (s.blocks place).life ≤ (s'.blocks place).life
  pub freed : (u place : ℕ) → (t ≡ u → ⊥) → (s.blocks place).state ≡ Freeing u → s'.blocks place ≡ s.blocks place
  pub begun : (u place : ℕ) → (t ≡ u → ⊥) → (s'.blocks place).state ≡ Freeing u
      → (s.blocks place).state ≡ Freeing u

-- as a step does that changes none of them
pub leaves_all : (t : ℕ) (s s' : State) → s'.pages ≡ s.pages → s'.blocks ≡ s.blocks → Leaves t s s'
leaves_all t s s' pages blocks = record {
  pages = λ page class is. ap (λ pages. pages page) pages ∙ is;
  lives = λ place. omega (arith, ap (λ (blocks : ℕ → Block). (blocks place).life) blocks);
  freed = λ u place ne is. ap (λ (blocks : ℕ → Block). blocks place) blocks;
  begun = λ u place ne is. ap (λ (blocks : ℕ → Block). (blocks place).state) (sym blocks) ∙ is;
}

-- one that gives a page a class which had none
pub leaves_page : (t : ℕ) (s s' : State) (page class : ℕ) → s.pages page ≡ None
    → s'.pages ≡ replaced s.pages page (Some class) → s'.blocks ≡ s.blocks → Leaves t s s'
leaves_page t s s' page class none pages blocks =
    let same = leaves_all t s (record s' { pages = s.pages }) refl blocks in
    record {
      pages = λ page' class' is. ap (λ pages. pages page') pages ∙ kept page' class' is (cases_eq page page');
      lives = same.lives;
      freed = same.freed;
      begun = same.begun;
    }
  where
    kept : (page' class' : ℕ) → s.pages page' ≡ Some class' → ((page ≡ page') ⊎ (page ≡ page' → ⊥))
        → replaced s.pages page (Some class) page' ≡ Some class'
    kept page' class' is (inl e) =
        let known : None ≡ Some class' = sym none ∙ (ap s.pages e ∙ is) in absurd (cc (known))
    kept page' class' is (inr ne) = replaced_other s.pages page (Some class) page' ne ∙ is

-- a block that thread t changes: its life does not fall, no other thread frees it, before or afterwards
pub record MayChange (t : ℕ) (old new : Block) : Type 0 where
  pub life : old.life ≤ new.life
  pub freed : (u : ℕ) → (t ≡ u → ⊥) → old.state ≡ Freeing u → ⊥
  pub begun : (u : ℕ) → (t ≡ u → ⊥) → new.state ≡ Freeing u → ⊥

-- one that changes a block
pub leaves_block : (t : ℕ) (s s' : State) (place : ℕ) (block : Block) → MayChange t (s.blocks place) block
    → s'.pages ≡ s.pages → s'.blocks ≡ replaced s.blocks place block → Leaves t s s'
leaves_block t s s' place block may pages blocks = record {
  pages = λ page class is. ap (λ pages. pages page) pages ∙ is;
  lives = λ p. subst (λ (bs : ℕ → Block). (s.blocks p).life ≤ (bs p).life) (sym blocks) (lives p (cases_eq place p));
  freed = λ u p ne is. ap (λ (bs : ℕ → Block). bs p) blocks ∙ freed u p ne is (cases_eq place p);
  begun = λ u p ne is. begun u p ne (ap (λ (bs : ℕ → Block). (bs p).state) (sym blocks) ∙ is) (cases_eq place p);
}
  where
    lives : (p : ℕ) → ((place ≡ p) ⊎ (place ≡ p → ⊥)) → (s.blocks p).life ≤ (replaced s.blocks place block p).life
    lives p (inl e) = subst (λ p. (s.blocks p).life ≤ (replaced s.blocks place block p).life) e
        (subst (λ (b : Block). (s.blocks place).life ≤ b.life) (sym (replaced_same s.blocks place block)) may.life)
    lives p (inr ne) = subst (λ (b : Block). (s.blocks p).life ≤ b.life) (sym (replaced_other s.blocks place block p ne))
        (omega arith)

    freed : (u p : ℕ) → (t ≡ u → ⊥) → (s.blocks p).state ≡ Freeing u → ((place ≡ p) ⊎ (place ≡ p → ⊥))
        → replaced s.blocks place block p ≡ s.blocks p
    freed u p ne is (inl e) = absurd (may.freed u ne (ap (λ p. (s.blocks p).state) e ∙ is))
    freed u p ne is (inr other) = replaced_other s.blocks place block p other

    begun : (u p : ℕ) → (t ≡ u → ⊥) → (replaced s.blocks place block p).state ≡ Freeing u
        → ((place ≡ p) ⊎ (place ≡ p → ⊥)) → (s.blocks p).state ≡ Freeing u
    begun u p ne is (inl e) =
        absurd (may.begun u ne (ap (λ (b : Block). b.state) (sym (replaced_same s.blocks place block))
        ∙ (ap (λ p. (replaced s.blocks place block p).state) e ∙ is)))
    begun u p ne is (inr other) = ap (λ (b : Block). b.state) (sym (replaced_other s.blocks place block p other)) ∙ is

-- WHAT A THREAD FREES

-- thread t frees no block
abbrev pub FreesNone : (t : ℕ) → (ℕ → Block) → Type 0
FreesNone t blocks = (place : ℕ) → (blocks place).state ≡ Freeing t → ⊥

-- it frees this one alone
abbrev pub FreesOnly : (t place : ℕ) → (ℕ → Block) → Type 0
FreesOnly t place blocks = (other : ℕ) → (blocks other).state ≡ Freeing t → other ≡ place

-- what a thread frees that stands there
abbrev pub FreesAt : (t : ℕ) → (ℕ → Block) → Position → Type 0
FreesAt t blocks (Start at) = FreesNone t blocks
FreesAt t blocks (positions.Access at) = FreesNone t blocks
FreesAt t blocks (Malloc at) = FreesNone t blocks
FreesAt t blocks (Note at) = FreesNone t blocks
FreesAt t blocks (Free (frees.LoadPage address)) = FreesNone t blocks
FreesAt t blocks (Free (frees.LoadBlock address place)) = FreesNone t blocks
FreesAt t blocks (Free (frees.SwapBlock address place life)) = FreesNone t blocks
FreesAt t blocks (Free (frees.StoreFree place life)) = FreesOnly t place blocks
FreesAt t blocks (Spawn at) = FreesNone t blocks
FreesAt t blocks (Join at) = FreesNone t blocks
FreesAt t blocks (DrawPrint value) = FreesNone t blocks
FreesAt t blocks (StoreEnded stop) = Unit {0}
FreesAt t blocks (Over stop) = Unit {0}
FreesAt t blocks NoRow = FreesNone t blocks

-- one that frees none may stand anywhere
pub frees_anywhere : (t : ℕ) (blocks : ℕ → Block) (p : Position) → FreesNone t blocks → FreesAt t blocks p
frees_anywhere t blocks (Start at) none = none
frees_anywhere t blocks (positions.Access at) none = none
frees_anywhere t blocks (Malloc at) none = none
frees_anywhere t blocks (Note at) none = none
frees_anywhere t blocks (Free (frees.LoadPage address)) none = none
frees_anywhere t blocks (Free (frees.LoadBlock address place)) none = none
frees_anywhere t blocks (Free (frees.SwapBlock address place life)) none = none
frees_anywhere t blocks (Free (frees.StoreFree place life)) none = λ other is. absurd (none other is)
frees_anywhere t blocks (Spawn at) none = none
frees_anywhere t blocks (Join at) none = none
frees_anywhere t blocks (DrawPrint value) none = none
frees_anywhere t blocks (StoreEnded stop) none = tt
frees_anywhere t blocks (Over stop) none = tt
frees_anywhere t blocks NoRow none = none

-- a step of another thread keeps it
pub frees_on : (u t : ℕ) (s s' : State) (p : Position) → (t ≡ u → ⊥) → Leaves t s s' → FreesAt u s.blocks p
    → FreesAt u s'.blocks p
frees_on u t s s' p ne leaves held = by p held
  where
    none : FreesNone u s.blocks → FreesNone u s'.blocks
    none before place is = before place (leaves.begun u place ne is)

    by : (p : Position) → FreesAt u s.blocks p → FreesAt u s'.blocks p
    by (Start at) f = none f
    by (positions.Access at) f = none f
    by (Malloc at) f = none f
    by (Note at) f = none f
    by (Free (frees.LoadPage address)) f = none f
    by (Free (frees.LoadBlock address place)) f = none f
    by (Free (frees.SwapBlock address place life)) f = none f
    by (Free (frees.StoreFree place life)) f = λ other is. f other (leaves.begun u other ne is)
    by (Spawn at) f = none f
    by (Join at) f = none f
    by (DrawPrint value) f = none f
    by (StoreEnded stop) f = tt
    by (Over stop) f = tt
    by NoRow f = none f

-- no block is being freed at first
pub frees_first : (t : ℕ) → FreesNone t (λ place. states.block_in 0 states.Free)
frees_first t place is = absurd (cc (is))
