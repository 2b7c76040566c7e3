-- A page word is that of a page without a class, or of one of the 15.
use Rattle.std.proofs.Common.{◌≡◌, ℕ, zero, suc, ◌≤◌, Option, Some, None, refl, arith}
use Rattle.ds_map.specs.Blocks.{page_word}
use Rattle.ds_pages.specs.Words.{IsClass}

-- a word of at most 15 is the word of such a page
pub class_of_word : (word : ℕ) → word ≤ 15 → (class : Option ℕ) × IsClass class × (word ≡ page_word class)
class_of_word zero le = (None, tt, refl)
class_of_word (suc c) le = (Some c, omega arith, refl)

-- the word of such a page is at most 15
pub word_of_class : (word : ℕ) (class : Option ℕ) → IsClass class → word ≡ page_word class → word ≤ 15
word_of_class word None is e = omega arith
word_of_class word (Some c) is e = omega arith
