-- The run of bytes of a set.
use Rattle.std.proofs.Common.{◌≡◌, ℕ, ◌+◌, ◌≤◌, Bool, true, false, ◌&&◌, cond, List, [], ◌∷◌, ◌++◌, length, take}
use Rattle.std.proofs.Common.{drop, suc, zero, refl, sym, ◌∙◌, ap, arith, length-append, append_assoc}
use Rattle.std.specs.List.{list_all}
use Rattle.std.proofs.lemmas.List.{take-append-drop}
use Rattle.ds_lex.specs.declared.bytes.RunOf.{RunOf}
use Rattle.ds_lex.specs.Bytes.{belongs}
use Rattle.ds_lex.specs.Scan.{run_len}

pub run_more : (set : RunOf) (b : ℕ) (bs : List ℕ) → belongs set b ≡ true → run_len set (b ∷ bs) ≡ suc (run_len set bs)
unfolding run_len
run_more set b bs h = ap (λ t. cond t (suc (run_len set bs)) 0) h

pub run_none : (set : RunOf) (b : ℕ) (bs : List ℕ) → belongs set b ≡ false → run_len set (b ∷ bs) ≡ 0
unfolding run_len
run_none set b bs h = ap (λ t. cond t (suc (run_len set bs)) 0) h

pub run_nil : (set : RunOf) → run_len set [] ≡ 0
unfolding run_len
run_nil set = refl

-- the first of the bytes belongs to the set
abbrev pub first_belongs : RunOf → List ℕ → Bool
first_belongs set [] = false
first_belongs set (b ∷ bs) = belongs set b

-- the bytes up to n all belong to the set, and what follows them does not
pub record Run (set : RunOf) (bytes : List ℕ) (n : ℕ) : Type 0 where
  pub all : list_all (belongs set) (take n bytes) ≡ true
  pub ends : first_belongs set (drop n bytes) ≡ false
  pub within : n ≤ length bytes

one_more : (set : RunOf) (b : ℕ) (bs : List ℕ) (n : ℕ) (t : Bool) → belongs set b ≡ t → Run set bs n
    → Run set (b ∷ bs) (cond t (suc n) 0)
one_more set b bs n true h r = record {
  all = ap (λ x. x && list_all (belongs set) (take n bs)) h
      ∙ r.all;
  ends = r.ends;
  within = omega (arith, r.within);
}
one_more set b bs n false h r = record { all = refl; ends = h; within = omega arith }

pub run : (set : RunOf) (bytes : List ℕ) → Run set bytes (run_len set bytes)
unfolding run_len
run set [] = record { all = refl; ends = refl; within = omega arith }
run set (b ∷ bs) = one_more set b bs (run_len set bs) (belongs set b) refl (run set bs)

pub and_parts : (a b : Bool) → (a && b) ≡ true → (a ≡ true) × (b ≡ true)
and_parts true b h = (refl, h)
and_parts false b h = absurd cc

-- no more bytes than the run belong to the set
pub run_take : (set : RunOf) (bytes : List ℕ) (i : ℕ) → i ≤ length bytes
    → list_all (belongs set) (take i bytes) ≡ true → i ≤ run_len set bytes
run_take set bytes zero l a = omega arith
run_take set [] (suc i) l a = absurd (omega (arith, l))
run_take set (b ∷ bs) (suc i) l a =
    let p = and_parts (belongs set b) (list_all (belongs set) (take i bs)) a in
    omega (arith, run_more set b bs p.0, run_take set bs i (omega (arith, l)) p.1)

pub run_only : (set : RunOf) (inside : List ℕ) (e : ℕ) (rest : List ℕ) → list_all (belongs set) inside ≡ true
    → belongs set e ≡ false → run_len set (inside ++ e ∷ rest) ≡ length inside
run_only set [] e rest a n = run_none set e rest n
run_only set (b ∷ bs) e rest a n =
    let p = and_parts (belongs set b) (list_all (belongs set) bs) a in
    run_more set b (bs ++ e ∷ rest) p.0 ∙ ap suc (run_only set bs e rest p.1 n)

-- what a run is that ends in the first i bytes
pub record Ended (set : RunOf) (bytes inside : List ℕ) (e : ℕ) (more : List ℕ) (i : ℕ) : Type 0 where
  pub run : run_len set bytes ≡ length inside
  pub taken : i ≡ length inside + suc (length more)
  pub rest : List ℕ
  pub whole : bytes ≡ inside ++ (e ∷ (more ++ rest))

length_taken : (i : ℕ) (bytes : List ℕ) → i ≤ length bytes → length (take i bytes) ≡ i
length_taken zero bytes l = refl
length_taken (suc i) [] l = absurd (omega (arith, l))
length_taken (suc i) (b ∷ bs) l = ap suc (length_taken i bs (omega (arith, l)))

pub run_ended : (set : RunOf) (bytes inside : List ℕ) (e : ℕ) (more : List ℕ) (i : ℕ) → i ≤ length bytes
    → list_all (belongs set) inside ≡ true → belongs set e ≡ false
    → take i bytes ≡ inside ++ e ∷ more → Ended set bytes inside e more i
run_ended set bytes inside e more i l a n h =
    let rest = drop i bytes in
    let whole =
    sym (take-append-drop i bytes) ∙ ap (λ (xs : List ℕ). xs ++ rest) h ∙ append_assoc inside (e ∷ more) rest in
    record {
      run = ap (run_len set) whole ∙ run_only set inside e (more ++ rest) a n;
      taken = sym (length_taken i bytes l) ∙ ap length h ∙ length-append inside (e ∷ more);
      rest = rest;
      whole = whole;
    }

pub drop_inside : (inside rest : List ℕ) → drop (length inside) (inside ++ rest) ≡ rest
drop_inside [] rest = refl
drop_inside (b ∷ bs) rest = drop_inside bs rest

-- one more byte behind a run
pub take_next : (n : ℕ) (bytes : List ℕ) (e : ℕ) (rest : List ℕ) → drop n bytes ≡ e ∷ rest
    → take (suc n) bytes ≡ take n bytes ++ e ∷ []
take_next zero [] e rest h = absurd cc
take_next (suc n) [] e rest h = absurd cc
take_next zero (b ∷ bs) e rest h = let p : b ≡ e = cc in ap (λ (x : ℕ). x ∷ []) p
take_next (suc n) (b ∷ bs) e rest h = ap (λ (xs : List ℕ). b ∷ xs) (take_next n bs e rest h)

pub has_next : (n : ℕ) (bytes : List ℕ) (e : ℕ) (rest : List ℕ) → drop n bytes ≡ e ∷ rest → suc n ≤ length bytes
has_next zero [] e rest h = absurd cc
has_next (suc n) [] e rest h = absurd cc
has_next zero (b ∷ bs) e rest h = omega arith
has_next (suc n) (b ∷ bs) e rest h = omega (arith, has_next n bs e rest h)
