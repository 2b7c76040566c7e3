-- Words.
use Rattle.std.proofs.Common.{◌≡◌, ℕ, Bool, List, [], ◌∷◌, length, get_or, Some, ap, ◌∙◌, sym}
use Rattle.std.specs.Prelude.{String, string_bytes, ◌↔◌, IsTrue}
use Rattle.std.specs.Str.{bytes_eq}
use Rattle.std.specs.Cmp.Lexicographic.{bytes_decides}
use Rattle.ds_main.specs.declared.job.Options as code
use Rattle.ds_main.specs.Job.{texts, with_option, if_options, options_from, options_with}

-- the text of a single word
one_word : {Z : Type 0} (words : List (String Z)) (word : String Z) → length words ≡ 1 → word ≡ get_or words 0 word
    → texts words ≡ string_bytes word ∷ []
one_word [] word one is = absurd (cc)
one_word (w ∷ []) word one is = ap (λ w. string_bytes w ∷ []) (sym is)
one_word (w ∷ v ∷ ws) word one is = absurd (cc)

only_is : (a b : List ℕ) → a ∷ [] ≡ b ∷ [] → a ≡ b
only_is a b e = cc (e)

-- whether the bytes of a single word are these
pub is_only : {Z : Type 0} (words : List (String Z)) (word : String Z) (bytes text : List ℕ) (b : Bool)
    → length words ≡ 1 → word ≡ get_or words 0 word → bytes ≡ string_bytes word → b ≡ bytes_eq bytes text
    → IsTrue b ↔ (texts words ≡ text ∷ [])
is_only words word bytes text b one is same e = (
  (λ t. one_word words word one is ∙ ap (λ x. x ∷ []) (sym same ∙ (bytes_decides bytes text).0 (sym e ∙ t))),
  (λ w. e ∙ (bytes_decides bytes text).1 (same ∙ only_is _ _ (sym (one_word words word one is) ∙ w))),
)

-- one option, and the words behind it
pub pair_more : {Z : Type 0} (options more : code.Options) (words behind left : List (String Z)) (name number : String Z)
    (first second : List ℕ) → words ≡ name ∷ behind → behind ≡ number ∷ left → first ≡ string_bytes name
    → second ≡ string_bytes number → Some (options_with more) ≡ with_option (options_with options) first second
    → options_from (options_with options) (texts words) ≡ options_from (options_with more) (texts left)
pair_more options more words behind left name number first second head next same same' given =
    ap (λ ws. options_from (options_with options) (texts ws)) head
    ∙ (ap (λ ws. options_from (options_with options) (texts (name ∷ ws))) next
    ∙ ap (if_options (λ o. options_from o (texts left)))
    (ap (with_option (options_with options) (string_bytes name)) (sym same')
    ∙ (ap (λ n. with_option (options_with options) n second) (sym same) ∙ sym given)))
