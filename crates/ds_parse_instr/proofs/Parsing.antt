-- What the answer to all tokens says of them.
use Rattle.std.proofs.Common.{◌≡◌, ℕ, ◌+◌, List, length, take, drop, sym, ap, ◌∙◌, subst, arith, ◌<◌, ◌-◌, inl, inr}
use Rattle.std.proofs.Common.{◌⊎◌}
use Rattle.std.proofs.lemmas.List.{length-take, length-drop, length-map}
use Rattle.std.specs.Prelude.{Result, Ok, Err, IsErr, IsErrAnd, MatchResult}
use Rattle.ds_lex.specs.declared.token.Token.{Token}
use Rattle.ds_grammar.specs.Lexemes.{lexemes, lexemes_from}
use Rattle.ds_grammar.specs.declared.fault.ParseFault.{ParseFault}
use Rattle.ds_grammar.specs.declared.fault.ParseFault.TheVariants as fault
use Rattle.ds_grammar.specs.Sort.{Lexeme, Sort, TypeOf}
use Rattle.ds_grammar.specs.Grammar.{Grammar}
use Rattle.ds_grammar.specs.Reading.{Place, start, value_at}
use Rattle.ds_grammar.specs.Parsed.{Spells, Refuses, answer, IsAnswer}
use Rattle.ds_grammar.specs.Laws.{AnswersAreExact, SpelledIsAnswered, RefusedIsAnswered}

-- how many tokens stand from a place on before the end
pub length_from : (text : List ℕ) (ts : List Token) (at : ℕ) → at < length ts
    → length (lexemes_from text ts at) ≡ length ts - 1 - at
length_from text ts at lt = simp (length-map, length-take, length-drop) (omega arith)

pub start_is : (text : List ℕ) (us ts : List Token) (at end : ℕ) → us ≡ ts
    → start (lexemes text (take (length us - 1 - at) (drop at us))) end ≡ start (lexemes_from text ts at) end
start_is text us ts at end e = ap (λ xs. start (lexemes text (take (length xs - 1 - at) (drop at xs))) end) e

-- where the place is behind n tokens of all before the end, of which so many are left
pub moved : (len all at left n m : ℕ) → all ≡ len → at < len → n + left ≡ m → m ≡ len - 1 - at
    → all - 1 - left ≡ at + n
moved len all at left n m e lt count total = omega arith

-- what a fault that is passed on says
pub passed_on : {T E : Type 0} (r : Result T E) (P : T → Type 0) (Q R : E → Type 0) → IsErr r × IsErrAnd r R
    → ((x : E) → R x → Q x) → MatchResult r P Q
passed_on (Ok x) P Q R h f = absurd h.1
passed_on (Err x) P Q R h f = f x h.1

-- this fault is told, or there was not enough memory
abbrev IsTold : {A : Type 0} → Result A ParseFault → ParseFault → Type 0
IsTold r f = (r ≡ Err f) ⊎ (r ≡ Err fault.Memory)

err_told : {A : Type 0} (f h : ParseFault) → (f ≡ h) ⊎ (f ≡ fault.Memory) → IsTold {A = A} (Err f) h
err_told f h (inl e) = inl (ap Err e)
err_told f h (inr e) = inr (ap Err e)

-- a fault that is passed on is told
pub told_on : {A : Type 0} (r : Result A ParseFault) (f h : ParseFault) → IsErr r × IsErrAnd r (λ x. x ≡ f) → (f ≡ h)
    ⊎ (f ≡ fault.Memory) → IsTold r h
told_on (Ok x) f h is t = absurd is.1
told_on {A = A} (Err x) f h is t = subst (λ y. IsTold {A = A} (Err y) h) (sym is.1) (err_told f h t)

module _ {a : Sort} (g : Grammar a) (ts : List Lexeme) (end : ℕ) where
  pub answered : AnswersAreExact → (v : TypeOf a) (left : ℕ) → answer (value_at g (start ts end)) ≡ Ok (v, left)
      → (n : ℕ) × Spells g ts v n × (n + left ≡ length ts)
  answered exact v left e = subst (IsAnswer g ts end) e (exact a g ts end)

  ok_same : (v w : TypeOf a) (l m : ℕ) → ◌≡◌ {A = Result (TypeOf a × ℕ) ParseFault} (Ok (v, l)) (Ok (w, m)) → v ≡ w
  ok_same v w l m e = let pair : (v, l) ≡ (w, m) = cc (e) in ap (λ (x : TypeOf a × ℕ). x.0) pair

  pub only_ok : SpelledIsAnswered → (v w : TypeOf a) (left n : ℕ) → answer (value_at g (start ts end)) ≡ Ok (v, left)
      → Spells g ts w n → v ≡ w
  only_ok spelled v w left n e h = let r = spelled a g ts end w n h in ok_same v w left r.0 (sym e ∙ r.1)

  pub only_err : SpelledIsAnswered → (f : ParseFault) (w : TypeOf a) (n : ℕ)
      → answer (value_at g (start ts end)) ≡ Err f → Spells g ts w n → ⊥
  only_err spelled f w n e h = let r = spelled a g ts end w n h in cc (sym e ∙ r.1)

  -- where the tokens spell a value, a fault is want of memory
  pub only_memory : SpelledIsAnswered → (p : Place) → p ≡ start ts end → (f : ParseFault) → (f ≡ fault.Memory)
      ⊎ (answer (value_at g p) ≡ Err f) → (w : TypeOf a) (n : ℕ) → Spells g ts w n → f ≡ fault.Memory
  only_memory spelled p s f (inl m) w n h = m
  only_memory spelled p s f (inr e) w n h =
      absurd (only_err spelled f w n (subst (λ q. answer (value_at g q) ≡ Err f) s e) h)

  -- tokens that are refused have no value
  pub no_value : RefusedIsAnswered → (v : TypeOf a) (left : ℕ) → answer (value_at g (start ts end)) ≡ Ok (v, left)
      → (f : ParseFault) → Refuses g ts end f → ⊥
  no_value refused v left e f h = cc (sym e ∙ refused a g ts end f h)

  err_same : (f h : ParseFault) → ◌≡◌ {A = Result (TypeOf a × ℕ) ParseFault} (Err f) (Err h) → f ≡ h
  err_same f h e = cc (e)

  -- where the tokens are refused, the fault is theirs or want of memory
  pub only_theirs : RefusedIsAnswered → (p : Place) → p ≡ start ts end → (f : ParseFault) → (f ≡ fault.Memory)
      ⊎ (answer (value_at g p) ≡ Err f)
      → (h : ParseFault) → Refuses g ts end h → (f ≡ h) ⊎ (f ≡ fault.Memory)
  only_theirs refused p s f (inl m) h r = inr m
  only_theirs refused p s f (inr e) h r =
      inl (err_same f h (sym (subst (λ q. answer (value_at g q) ≡ Err f) s e) ∙ refused a g ts end h r))
