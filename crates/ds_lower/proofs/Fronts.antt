-- The phis at the front of instructions, one after another.
use Rattle.std.proofs.Common.{◌≡◌, ℕ, suc, ◌+◌, ◌<◌, Bool, true, false, List, [], ◌∷◌, ◌++◌, length, drop, get_or}
use Rattle.std.proofs.Common.{refl, ap, sym, ◌∙◌, arith, append_assoc, drop-cons}
use Rattle.std.specs.Prelude.{Option, Some, None}
use Rattle.std.specs.Option.{is_some}
use Rattle.ds_ast.specs.declared.instr.Instr.{Instr}
use Rattle.ds_meaning.specs.Control.{Choice, choice_of}
use Rattle.ds_code.specs.Lowering.{front_by, front}

drop_on : (xs : List Instr) (n : ℕ) (x : Instr) → n < length xs → x ≡ get_or xs n x → drop n xs ≡ x ∷ drop (n + 1) xs
drop_on xs n x lt is =
    let one : suc n ≡ n + 1 = omega arith in
    drop-cons xs n x lt ∙ ap (λ y. y ∷ drop (suc n) xs) (sym is) ∙ ap (λ k. x ∷ drop k xs) one

front_on : (i : Instr) (o : Option Choice) (rest : List Instr) → is_some o ≡ true
    → front_by i o [] ++ rest ≡ front_by i o rest
front_on i None rest e = absurd (cc)
front_on i (Some choice) rest e = refl

front_ends : (i : Instr) (o : Option Choice) (rest : List Instr) → is_some o ≡ false
    → front_by i o [] ≡ front_by i o rest
front_ends i None rest e = refl
front_ends i (Some choice) rest e = absurd (cc)

-- one phi more
pub phis_on : (now next all code : List Instr) (n : ℕ) (i : Instr) (told : Bool) → n < length code
    → i ≡ get_or code n i → now ++ front (drop n code) ≡ all → next ≡ now ++ front (i ∷ [])
    → told ≡ is_some (choice_of i.op) → told ≡ true → next ++ front (drop (n + 1) code) ≡ all
phis_on now next all code n i told lt is h e tells is_one =
    ap (λ xs. xs ++ front (drop (n + 1) code)) e ∙ append_assoc now (front (i ∷ [])) (front (drop (n + 1) code))
    ∙ ap (λ xs. now ++ xs) (front_on i (choice_of i.op) (front (drop (n + 1) code)) (sym tells ∙ is_one)
    ∙ ap front (sym (drop_on code n i lt is)))
    ∙ h

-- no phi stands there
pub phis_end : (now next all code : List Instr) (n : ℕ) (i : Instr) (told : Bool) → n < length code
    → i ≡ get_or code n i → now ++ front (drop n code) ≡ all → next ≡ now ++ front (i ∷ [])
    → told ≡ is_some (choice_of i.op) → told ≡ false → next ≡ all
phis_end now next all code n i told lt is h e tells is_none =
    e
    ∙ ap (λ xs. now ++ xs) (front_ends i (choice_of i.op) (front (drop (n + 1) code)) (sym tells ∙ is_none)
    ∙ ap front (sym (drop_on code n i lt is)))
    ∙ h
