-- How the arrays of a type are closed, one by one.
use Rattle.std.proofs.Common.{◌≡◌, ℕ, Bool, true, false, List, [], ◌∷◌, length, refl, sym, ap, ◌∙◌, true≢false}
use Rattle.std.specs.Prelude.{nat_lt, Some, None, Ok}
use Rattle.ds_ast.specs.declared.ty.Ty.{Ty}
use Rattle.ds_grammar.specs.Sort.{no_value, a_number, a_ty, both_of, list_of}
use Rattle.ds_grammar.specs.Grammar.{Done}
use Rattle.ds_grammar.specs.Reading.{Place, first_value, past, stopped, then_at, value_at}
use Rattle.ds_grammar.specs.Laws.{RunsTakeItems, RunsEnd}
use Rattle.ds_grammar.specs.Types.{Arrays, closes, around, closed, all_arrays_closed, array_ends, closed_type, is_flat}
use Rattle.ds_parse_parts.proofs.Groups.{never}

pub ends_more : RunsTakeItems → (deep : Bool) (counts : List ℕ) (n : ℕ) (ns : List ℕ) (t : Ty) (p : Place)
    → first_value (λ l. closes counts l.kind l.bytes) p.left ≡ Some tt
    → counts ≡ n ∷ ns → value_at (array_ends deep (counts, t)) p
    ≡ value_at (array_ends deep (ns, around deep n t)) (past p)
unfolding array_ends
ends_more law deep counts n ns t p e is =
    law (both_of (list_of a_number) a_ty) no_value (λ s l. closes s.0 l.kind l.bytes) (λ s u. Done (closed deep s))
    (counts, t) (ns, around deep n t) tt p (past p) e
    (ap (λ cs. Ok (closed deep (cs, t), past p)) is)

ends_end : RunsEnd → (deep : Bool) (counts : List ℕ) (t : Ty) (p : Place)
    → first_value (λ l. closes counts l.kind l.bytes) p.left ≡ None
    → value_at (array_ends deep (counts, t)) p ≡ Ok ((counts, t), p)
unfolding array_ends
ends_end law deep counts t p e = law (both_of (list_of a_number) a_ty) no_value (λ s l. closes s.0 l.kind l.bytes)
    (λ s u. Done (closed deep s)) (counts, t) p e

-- a type by what is read up to the token that closes no array
closed_by : RunsEnd → (opened : Arrays) (base t : Ty) (counts : List ℕ) (d : ℕ) (p q : Place) → d ≡ length opened.1
    → value_at (array_ends (nat_lt 32 d) (counts, t)) q ≡ value_at (array_ends (nat_lt 32 d) (opened.1, base)) p
    → first_value (λ l. closes counts l.kind l.bytes) q.left ≡ None
    → value_at (closed_type opened base) p ≡ value_at (all_arrays_closed (counts, t)) q
unfolding closed_type
closed_by law opened base t counts d p q same i e =
    ap (λ n. then_at (value_at (array_ends (nat_lt 32 n) (opened.1, base)) p)
    (λ c q. value_at (all_arrays_closed c) q)) (sym same)
    ∙ ap (λ r. then_at r (λ c q. value_at (all_arrays_closed c) q)) (sym i ∙ ends_end law (nat_lt 32 d) counts t q e)

flat : (counts : List ℕ) (t : Ty) (q : Place) → is_flat counts ≡ true
    → value_at (all_arrays_closed (counts, t)) q ≡ Ok (t, q)
flat [] t q e = refl
flat (n ∷ ns) t q e = absurd (true≢false (sym e))

deep : (counts : List ℕ) (t : Ty) (q : Place) → is_flat counts ≡ false
    → value_at (all_arrays_closed (counts, t)) q ≡ stopped q
deep [] t q e = absurd (true≢false e)
deep (n ∷ ns) t q e = rw (never {A = Ty} q.left)

pub type_done : RunsEnd → (opened : Arrays) (base t : Ty) (counts : List ℕ) (d : ℕ) (p q : Place) → d ≡ length opened.1
    → value_at (array_ends (nat_lt 32 d) (counts, t)) q ≡ value_at (array_ends (nat_lt 32 d) (opened.1, base)) p
    → first_value (λ l. closes counts l.kind l.bytes) q.left ≡ None → is_flat counts ≡ true
    → value_at (closed_type opened base) p ≡ Ok (t, q)
type_done law opened base t counts d p q same i e none =
    closed_by law opened base t counts d p q same i e ∙ flat counts t q none

pub type_dead : RunsEnd → (opened : Arrays) (base t : Ty) (counts : List ℕ) (d : ℕ) (p q : Place) → d ≡ length opened.1
    → value_at (array_ends (nat_lt 32 d) (counts, t)) q ≡ value_at (array_ends (nat_lt 32 d) (opened.1, base)) p
    → first_value (λ l. closes counts l.kind l.bytes) q.left ≡ None → is_flat counts ≡ false
    → value_at (closed_type opened base) p ≡ stopped q
type_dead law opened base t counts d p q same i e some =
    closed_by law opened base t counts d p q same i e ∙ deep counts t q some
