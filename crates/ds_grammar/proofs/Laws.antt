-- The laws about grammars.
use Rattle.std.proofs.Common.{◌≡◌, ℕ, List, [], ◌∷◌, refl, sym, ap, ◌∙◌, subst, inl}
use Rattle.std.specs.Prelude.{Ok, Err}
use Rattle.ds_grammar.specs.Sort.{Lexeme, Sort, TypeOf}
use Rattle.ds_grammar.specs.Grammar.{Mark, Grammar}
use Rattle.ds_grammar.specs.Form.{Form, Stops, DeadEnd}
use Rattle.ds_grammar.specs.Fault.{dead_fault, IsWorst}
use Rattle.ds_grammar.specs.Reading.{Place, start, Reading, value_at}
use Rattle.ds_grammar.specs.Laws.{FormsAreUnique, MarksAreUnique, PrefixesAreFronts, DeadEndsAreUnique, DeadEndsExist}
use Rattle.ds_grammar.specs.Laws.{Answers, ReadingIsExact, FormsAreRead}
use Rattle.ds_grammar.proofs.Outcome.{Outcome, got, short, dead, read}
use Rattle.ds_grammar.proofs.Told.{Told, told, shortens}
use Rattle.ds_grammar.proofs.Complete.{read_form, read_stops}
use Rattle.ds_grammar.proofs.Threaded.{settled, value_is}
use Rattle.ds_grammar.proofs.Worst.{worst_is, fault_is}
use Rattle.ds_grammar.proofs.Ends.{form_whole, front_read, whole_unique, prefix_front, got_dead_end, short_dead_end}
use Rattle.ds_grammar.proofs.Ends.{dead_dead_end, dead_end_unique}

got_same : {A : Type 0} (a b : A) (ks ls : List Mark) (r s : List Lexeme) → got a ks r ≡ got b ls s → (a ≡ b)
    × (ks ≡ ls)
got_same a b ks ls r s e = (cc (e), cc (e))

pub forms_unique : FormsAreUnique
forms_unique a g ts behind v w ks ls x y =
    got_same v w ks ls behind behind (sym (read_form g ts behind v ks x) ∙ read_form g ts behind w ls y)

pub marks_unique : MarksAreUnique
marks_unique a g ts ks ls x y = whole_unique (read g ts) ks ls (front_read g ts ks x) (front_read g ts ls y)

pub prefixes : PrefixesAreFronts
prefixes a g us vs h = prefix_front g us vs h

pub dead_ends_unique : DeadEndsAreUnique
dead_ends_unique a g ts f r f' r' d d' = dead_end_unique g ts f r f' r' d d'

dead_end_of : {a : Sort} (g : Grammar a) (ts : List Lexeme) (o : Outcome (TypeOf a)) → read g ts ≡ o
    → Told (Form g) (Stops g) ts o → (front : List Lexeme) × (rest : List Lexeme) × DeadEnd g ts front rest
dead_end_of g ts (got v ms rest) r (us, e, h) = (us, rest, got_dead_end g ts us rest v ms r e h)
dead_end_of g ts (short ms) r h = (ts, [], short_dead_end g ts ms h)
dead_end_of g ts (dead ms t rest) r (us, e, h) = (us, t ∷ rest, dead_dead_end g ts us t rest ms r e h)

pub dead_ends_exist : DeadEndsExist
dead_ends_exist a g ts = dead_end_of g ts (read g ts) refl (told g ts)

-- tokens that stop inside have not the form
no_form : {a : Sort} (g : Grammar a) (ts : List Lexeme) (ms : List Mark) → Stops g ts ms
    → (v : TypeOf a) (ks : List Mark) → Form g ts [] v ks → ⊥
no_form g ts ms h v ks x = short_got ms v ks (sym (read_stops g ts ms h) ∙ form_whole g ts v ks x)
  where
    short_got : {A : Type 0} (ms : List Mark) (v : A) (ks : List Mark) → short ms ≡ got v ks [] → ⊥
    short_got ms v ks e = cc (e)

answers_of : {a : Sort} (g : Grammar a) (ts : List Lexeme) (end : ℕ) (o : Outcome (TypeOf a)) → read g ts ≡ o
    → Told (Form g) (Stops g) ts o → Answers g ts end (settled (start ts end) o)
answers_of g ts end (got v ms rest) r (us, e, h) =
    (us, ms, got_dead_end g ts us rest v ms r e h, shortens g us [] rest v ms h, worst_is ms, refl)
answers_of g ts end (short ms) r h =
    (ts, [], ms, short_dead_end g ts ms h, inl h, no_form g ts ms h, fault_is ms (dead_fault end []))
answers_of g ts end (dead ms t rest) r (us, e, h) = (
  us,
  t ∷ rest,
  ms,
  dead_dead_end g ts us t rest ms r e h,
  inl h,
  no_form g us ms h,
  fault_is ms
      (dead_fault end (t ∷ rest)),
)

pub reading_exact : ReadingIsExact
reading_exact a g ts end =
    subst (Answers g ts end) (sym (value_is g (start ts end))) (answers_of g ts end (read g ts) refl (told g ts))

read_by : {a : Sort} (g : Grammar a) (ts : List Lexeme) (end : ℕ) (front rest : List Lexeme) (v : TypeOf a)
    (ms : List Mark)
    → DeadEnd g ts front rest → Form g front [] v ms → (r : Reading (TypeOf a)) → Answers g ts end r → (p : Place)
    × (r ≡ Ok (v, p)) × (p.left ≡ rest) × IsWorst ms p.worst
read_by {a} g ts end front rest v ms d h (Ok (w, p)) (front', ks, d', h', worst, e) =
    let same = dead_end_unique g ts front' p.left front rest d' d in
    let value = forms_unique a g front [] w v ks ms (subst (λ xs. Form g xs [] w ks) same.0 h') h in
    (p, ap (λ x. Ok (x, p)) value.0, same.1, subst (λ ls. IsWorst ls p.worst) value.1 worst)
read_by g ts end front rest v ms d h (Err f) (front', rest', ks, d', x, none, y) =
    absurd (none v ms (subst (λ xs. Form g xs [] v ms) (dead_end_unique g ts front rest front' rest' d d').0 h))

pub forms_read : FormsAreRead
forms_read a g ts end front rest v ms d h =
    read_by g ts end front rest v ms d h (value_at g (start ts end)) (reading_exact a g ts end)
