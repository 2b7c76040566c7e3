-- How a balanced group is read token by token.
use Rattle.std.proofs.Common.{◌≡◌, ℕ, List, [], ◌∷◌, refl, sym, ap, ◌∙◌}
use Rattle.std.specs.Prelude.{Some, None, Ok}
use Rattle.ds_grammar.specs.Sort.{Lexeme, a_number, list_of}
use Rattle.ds_grammar.specs.Grammar.{Done}
use Rattle.ds_grammar.specs.Reading.{Place, first_value, past, stopped, then_at, value_at}
use Rattle.ds_grammar.specs.Laws.{RunsTakeItems, RunsEnd}
use Rattle.ds_grammar.specs.Rows.{open_behind, group_from, all_closed, balanced}

pub group_more : RunsTakeItems → (opened next : List ℕ) (p : Place)
    → first_value (λ t. open_behind opened t.kind t.bytes) p.left ≡ Some next
    → value_at (group_from opened) p ≡ value_at (group_from next) (past p)
unfolding group_from
group_more law opened next p e = law (list_of a_number) (list_of a_number) (λ s t. open_behind s t.kind t.bytes)
    (λ s v. Done v) opened next next p (past p) e refl

group_end : RunsEnd → (opened : List ℕ) (p : Place)
    → first_value (λ t. open_behind opened t.kind t.bytes) p.left ≡ None
    → value_at (group_from opened) p ≡ Ok (opened, p)
unfolding group_from
group_end law opened p e =
    law (list_of a_number) (list_of a_number) (λ s t. open_behind s t.kind t.bytes) (λ s v. Done v) opened p e

-- a group by what is read up to the token with which it does not go on
balanced_by : RunsEnd → (closer : ℕ) (opened : List ℕ) (p q : Place)
    → value_at (group_from opened) q ≡ value_at (group_from (closer ∷ [])) p
    → first_value (λ t. open_behind opened t.kind t.bytes) q.left ≡ None
    → value_at (balanced closer) p ≡ value_at (all_closed opened) q
unfolding balanced
balanced_by law closer opened p q i e =
    ap (λ r. then_at r (λ o q. value_at (all_closed o) q)) (sym i ∙ group_end law opened q e)

pub balanced_done : RunsEnd → (closer : ℕ) (opened : List ℕ) (p q : Place)
    → value_at (group_from opened) q ≡ value_at (group_from (closer ∷ [])) p
    → first_value (λ t. open_behind opened t.kind t.bytes) q.left ≡ None → opened ≡ []
    → value_at (balanced closer) p ≡ Ok (tt, q)
balanced_done law closer opened p q i e none =
    balanced_by law closer opened p q i e ∙ ap (λ o. value_at (all_closed o) q) none

pub never : {A : Type 0} (ts : List Lexeme) → first_value {A = A} (λ t. None) ts ≡ None
never [] = refl
never (t ∷ ts) = refl

dead_at : (opened : List ℕ) (q : Place) → (opened ≡ [] → ⊥) → value_at (all_closed opened) q ≡ stopped q
dead_at [] q h = absurd (h refl)
dead_at (c ∷ opened) q h = rw (never {A = Unit {0}} q.left)

pub balanced_dead : RunsEnd → (closer : ℕ) (opened : List ℕ) (p q : Place)
    → value_at (group_from opened) q ≡ value_at (group_from (closer ∷ [])) p
    → first_value (λ t. open_behind opened t.kind t.bytes) q.left ≡ None → (opened ≡ [] → ⊥)
    → value_at (balanced closer) p ≡ stopped q
balanced_dead law closer opened p q i e none = balanced_by law closer opened p q i e ∙ dead_at opened q none
