-- What each row of an access to program memory does: its event is allowed, and words, state and threads go together
-- afterwards.
use Rattle.std.proofs.Common.{◌≡◌, ℕ, ◌+◌, ◌==◌, Bool, true, false, not, if◌then◌else◌, List, Some, slice_index}
use Rattle.std.proofs.Common.{slice_set}
use Rattle.std.proofs.Common.{refl, sym, ap, ◌∙◌, subst, inl, inr, arith, eqb-true}
use Rattle.std.proofs.lemmas.Bool.{and_parts, eq-eqb}
use Rattle.ds_ast.specs.declared.words.RmwOp.{RmwOp}
use Rattle.ds_ast.specs.declared.words.RmwOp.TheVariants.{Xchg, Add, Sub, And, Or, Xor, Umax, Umin}
use Rattle.ds_map.specs.Bounds.{Bounds}
use Rattle.ds_map.specs.Words.{word_of}
use Rattle.ds_step.specs.declared.OpKind.{OpKind}
use Rattle.ds_step.specs.declared.OpKind.TheVariants as kinds
use Rattle.ds_step.specs.declared.WordOp.{WordOp}
use Rattle.ds_step.specs.declared.Event.TheVariants as events
use Rattle.ds_step.specs.Word.{written_by, answered_by, answer_on}
use Rattle.ds_plain.specs.declared.Access.{Access}
use Rattle.ds_plain.specs.declared.Change.{Change}
use Rattle.ds_plain.specs.declared.Change.TheVariants.{Put, Combine, Replace}
use Rattle.ds_plain.specs.declared.AccessAt.{AccessAt}
use Rattle.ds_plain.specs.declared.AccessAt.TheVariants.{LoadWord, StoreWord, CombineWord, ReplaceWord, LoadPart}
use Rattle.ds_plain.specs.declared.AccessAt.TheVariants.{SwapPart}
use Rattle.ds_plain.specs.declared.Position.TheVariants as positions
use Rattle.ds_plain.specs.declared.Request.{Request}
use Rattle.ds_plain.specs.declared.Request.TheVariants as requests
use Rattle.ds_plain.specs.Behaviour.{Behaviour, told}
use Rattle.ds_plain.specs.Parts.{is_whole, part, with_part, combined}
use Rattle.ds_plain.specs.State.{Phase, State, Setting}
use Rattle.ds_plain.specs.Plain.{Allowed, Reads, request_of, phase_answered, phase_with, not_due, answered, written}
use Rattle.ds_plain.specs.Plain.{exchange_answer, changed}
use Rattle.ds_plain.specs.Accessing.{changed_word, is_refused, change_answer, combining_kind, access_op, access_event}
use Rattle.ds_plain.specs.Accessing.{AccessesOn, Tells, access_next}
use Rattle.ds_plain.specs.Reached.{AreCursors}
use Rattle.ds_plain.specs.Thread.{Thread, going_on, moved_from_access}
use Rattle.ds_plain.specs.Explained.{Agrees}
use Rattle.ds_plain_laws.proofs.Words.{agrees_loaded, agrees_stored, swap_kept, swap_made, program_word}
use Rattle.ds_plain_laws.proofs.Phases.{Asking, asked_for, asks_for, passes_not_due, goes_run}
use Rattle.ds_plain_laws.proofs.Leaving.{leaves_all, FreesNone}
use Rattle.ds_plain_laws.proofs.Links.{Spent, LinkedAt, paying_linked, change_request, PartLinked}
use Rattle.ds_plain_laws.proofs.Makes.{Makes, Before, replaced_passes, all_same, answered_linked, load_word_makes}
use Rattle.ds_plain_laws.proofs.Makes.{store_word_makes}

-- OPERATIONS ON WHOLE WORDS

-- an operation that combines a word with a value answers the word before
combining_answers : (op : RmwOp) (n : ℕ) → answered_by (combining_kind op) n ≡ n
combining_answers Xchg n = refl
combining_answers Add n = refl
combining_answers Sub n = refl
combining_answers And n = refl
combining_answers Or n = refl
combining_answers Xor n = refl
combining_answers Umax n = refl
combining_answers Umin n = refl

-- and writes what the operation of an atomicrmw does
combining_writes : (op : RmwOp) (value n : ℕ) → written_by (combining_kind op) value 0 n ≡ combined op 64 n value
combining_writes Xchg value n = refl
combining_writes Add value n = refl
combining_writes Sub value n = refl
combining_writes And value n = refl
combining_writes Or value n = refl
combining_writes Xor value n = refl
combining_writes Umax value n = refl
combining_writes Umin value n = refl

-- a whole word is its own part
whole_part : (access : Access) (word : ℕ) → is_whole access ≡ true → part access word ≡ word
whole_part access word whole = rw whole refl

whole_with : (access : Access) (value word : ℕ) → is_whole access ≡ true → with_part access value word ≡ value
whole_with access value word whole = rw whole refl

whole_combined : (access : Access) (op : RmwOp) (value word : ℕ) → is_whole access ≡ true
    → combined op 64 word value ≡ with_part access (combined op access.bits (part access word) value) word
whole_combined access op value word whole =
    let bits : access.bits ≡ 64 = eqb-true access.bits 64 (and_parts (access.shift == 0) (access.bits == 64) whole).1 in
    ap (λ b. combined op b word value) (sym bits)
    ∙ (ap (λ w. combined op access.bits w value) (sym (whole_part access word whole))
    ∙ sym (whole_with access (combined op access.bits (part access word) value) word whole))

-- a change that is refused asks for another value than it finds
refused_other : (access : Access) (expected new word : ℕ) → is_refused access (Replace expected new) word ≡ true
    → part access word ≡ expected → ⊥
refused_other access expected new word refused is =
    let same : (part access word == expected) ≡ true = eq-eqb (part access word) expected is in
    let bad : not true ≡ true = ap not (sym same) ∙ refused in
    absurd (cc (bad))

found_by : (b : Bool) (n m : ℕ) → (n == m) ≡ b → not b ≡ false → n ≡ m
found_by true n m e found = eqb-true n m e
found_by false n m e found = absurd (cc (found))

-- and one that is made finds it
found_expected : (access : Access) (expected new word : ℕ) → is_refused access (Replace expected new) word ≡ false
    → part access word ≡ expected
found_expected access expected new word found =
    found_by (part access word == expected) (part access word) expected refl found

module _ (setting : Setting) (t : ℕ) (words : List ℕ) (s : State) (before : Before setting words s)
    (rest : Behaviour) (units : ℕ) (began : Bool) (cursors : List ℕ) where
  abbrev lim : Bounds
  lim = setting.lim

  abbrev thread : AccessAt → Thread
  thread at = record { rest = rest; position = positions.Access at; units = units; began = began; cursors = cursors }

  -- an operation on the program word of a location
  abbrev on_word : OpKind → (loc a b : ℕ) → WordOp
  on_word kind loc a b = record { kind = kind; word = word_of lim loc; a = a; b = b }

  -- with this value in the word of a location, the words agree
  abbrev AgreesWith : (loc v : ℕ) → State → Type 0
  AgreesWith loc v s' = Agrees lim (slice_set words (word_of lim loc) v) s'

  -- what the word holds, by table and by plain state
  abbrev held : ℕ → ℕ
  held loc = slice_index s.words loc

  seen_held : (loc old : ℕ) → old ≡ slice_index words (word_of lim loc) → old ≡ held loc
  seen_held loc old is = is ∙ program_word lim words s before.agrees loc

  -- A STEP THAT WRITES

  exchange_makes : (kind : OpKind) (loc a b value answer : ℕ) (request : Request)
      → written_by kind a b (slice_index words (word_of lim loc)) ≡ value → Asking rest (s.threads t) request
      → exchange_answer (held loc) (Some request) ≡ answer → Allowed setting s t (events.Exchange loc value)
      → FreesNone t s.blocks → AreCursors lim cursors
      → Makes setting t words s (on_word kind loc a b) (events.Exchange loc value)
      (changed setting s t (events.Exchange loc value)) (going_on lim cursors (units + 1) (told rest answer))
  exchange_makes kind loc a b value answer request writes asking is allowed none looks =
      let runs = asking.runs in
      let s' : State = written loc value s in
      let phase : Phase = phase_answered lim s' answer (s'.threads t) in
      let told_so : exchange_answer (held loc) (request_of (s.threads t)) ≡ answer =
      ap (exchange_answer (held loc)) (asked_for rest (s.threads t) request asking) ∙ is in
      subst (λ (n : ℕ). Makes setting t words s (on_word kind loc a b) (events.Exchange loc value)
      (answered lim t n s') (going_on lim cursors (units + 1) (told rest answer))) (sym told_so) (record {
        allowed = λ _. allowed;
        linked = answered_linked setting t s before.walks before.range s' answer rest (not_due loc runs.doing) (units + 1)
            cursors (ap (phase_with (not_due loc)) runs.going) none looks;
        others = replaced_passes setting t s s' phase (λ u. passes_not_due loc (s.threads u));
        leaves = leaves_all t s (answered lim t answer s') refl refl;
        agrees = agrees_stored lim words s (answered lim t answer s') before.agrees loc
            (written_by kind a b (slice_index words (word_of lim loc)))
            (record { given = refl; out = refl; pages = refl; blocks = refl })
            (ap (slice_set s.words loc) (sym writes));
        prints = omega arith;
      })

  -- A STEP THAT ONLY SEES THE WORD

  seeing_makes : (kind : OpKind) (loc a b old : ℕ) (request : Request)
      → written_by kind a b (slice_index words (word_of lim loc)) ≡ slice_index words (word_of lim loc)
      → Asking rest (s.threads t) request → Reads setting s t loc → old ≡ held loc → FreesNone t s.blocks
      → AreCursors lim cursors
      → Makes setting t words s (on_word kind loc a b) (events.Load loc old)
      (changed setting s t (events.Load loc old)) (going_on lim cursors (units + 1) (told rest old))
  seeing_makes kind loc a b old request kept asking reads is none looks =
      let runs = asking.runs in
      record {
        allowed = λ _. (reads, is);
        linked = answered_linked setting t s before.walks before.range s old rest runs.doing (units + 1) cursors
            runs.going none looks;
        others = replaced_passes setting t s s (phase_answered lim s old (s.threads t)) (all_same setting t s);
        leaves = leaves_all t s (changed setting s t (events.Load loc old)) refl refl;
        agrees = subst (λ (v : ℕ). AgreesWith loc v (changed setting s t (events.Load loc old))) (sym kept)
            (agrees_loaded lim words s (changed setting s t (events.Load loc old)) before.agrees (word_of lim loc)
            (record { given = refl; out = refl; pages = refl; blocks = refl }) refl);
        prints = omega arith;
      }

  -- WHOLE WORDS

  combine_makes : (loc : ℕ) (op : RmwOp) (value old : ℕ)
      → old ≡ answer_on words (access_op lim (CombineWord loc op value))
      → LinkedAt setting.program lim t rest began s cursors (positions.Access (CombineWord loc op value))
      → Makes setting t words s (access_op lim (CombineWord loc op value)) (access_event (CombineWord loc op value) old)
      (changed setting s t (access_event (CombineWord loc op value) old))
      (moved_from_access lim (thread (CombineWord loc op value)) (access_next (CombineWord loc op value) old))
  combine_makes loc op value old is l =
      let access : Access = l.stands.0 in
      let asking = l.stands.3 in
      let n : ℕ = slice_index words (word_of lim loc) in
      let seen : old ≡ n = is ∙ combining_answers op n in
      let same : old ≡ held loc = seen_held loc old seen in
      exchange_makes (combining_kind op) loc value 0 (combined op 64 old value) old (requests.Rmw access op value)
      (combining_writes op value n ∙ ap (λ n. combined op 64 n value) (sym seen)) asking (sym same)
      (inr (inl (
        access,
        op,
        value,
        asks_for setting s t rest (requests.Rmw access op value) asking,
        l.stands.1,
        ap (λ n. combined op 64 n value) same ∙ whole_combined access op value (held loc) l.stands.2,
      ))) l.frees_so l.looks

  replace_makes : (loc expected new old : ℕ) (b : Bool) → (old == expected) ≡ b
      → old ≡ slice_index words (word_of lim loc)
      → LinkedAt setting.program lim t rest began s cursors (positions.Access (ReplaceWord loc expected new))
      → Makes setting t words s (access_op lim (ReplaceWord loc expected new))
      (if b then events.Exchange loc new else events.Load loc old)
      (changed setting s t (if b then events.Exchange loc new else events.Load loc old))
      (moved_from_access lim (thread (ReplaceWord loc expected new)) (Tells old))
  replace_makes loc expected new old true e is l =
      let access : Access = l.stands.0 in
      let asking = l.stands.3 in
      let found : old ≡ expected = eqb-true old expected e in
      let same : old ≡ held loc = seen_held loc old is in
      exchange_makes kinds.Cas loc expected new new old (requests.Cas access expected new)
      (swap_made expected new (slice_index words (word_of lim loc)) (sym is ∙ found)) asking (sym same)
      (inr (inr (
        access,
        expected,
        new,
        asks_for setting s t rest (requests.Cas access expected new) asking,
        l.stands.1,
        whole_part access (held loc) l.stands.2 ∙ (sym same ∙ found),
        sym (whole_with access new (held loc) l.stands.2),
      ))) l.frees_so l.looks
  replace_makes loc expected new old false e is l =
      let access : Access = l.stands.0 in
      let asking = l.stands.3 in
      let same : old ≡ held loc = seen_held loc old is in
      let other : old ≡ expected → ⊥ =
      λ found. let bad : true ≡ false = sym (eq-eqb old expected found) ∙ e in absurd (cc (bad)) in
      seeing_makes kinds.Cas loc expected new old (requests.Cas access expected new)
      (swap_kept expected new (slice_index words (word_of lim loc)) (λ found. other (is ∙ found))) asking
      (inr (
        access,
        expected,
        new,
        asks_for setting s t rest (requests.Cas access expected new) asking,
        l.stands.1,
        λ found. other (same ∙ (sym (whole_part access (held loc) l.stands.2) ∙ found)),
      )) same l.frees_so l.looks

  -- PARTS OF WORDS

  -- a refused change reads the word
  refused_reads : (access : Access) (change : Change) → PartLinked rest began (s.threads t) access change
      → is_refused access change (held access.loc) ≡ true → Reads setting s t access.loc
  refused_reads access (Put value) l refused = absurd (cc (refused))
  refused_reads access (Combine op value) l refused = absurd (cc (refused))
  refused_reads access (Replace expected new) l refused = inr (
    access,
    expected,
    new,
    asks_for setting s t rest (requests.Cas access expected new) l.asking,
    refl,
    refused_other access expected new (held access.loc) refused,
  )

  -- a step that sees the word of which a part is to be changed, and leaves it
  part_makes : (at : AccessAt) (kind : OpKind) (a b : ℕ) (access : Access) (change : Change) (old : ℕ) (c : Bool)
      → is_refused access change old ≡ c
      → written_by kind a b (slice_index words (word_of lim access.loc)) ≡ slice_index words (word_of lim access.loc)
      → old ≡ held access.loc → PartLinked rest began (s.threads t) access change → FreesNone t s.blocks
      → AreCursors lim cursors
      → Makes setting t words s (on_word kind access.loc a b) (if c then events.Load access.loc old else events.Log)
      (changed setting s t (if c then events.Load access.loc old else events.Log))
      (moved_from_access lim (thread at) (if c then Tells old else AccessesOn (SwapPart access change old)))
  part_makes at kind a b access change old true refused kept is l none looks =
      seeing_makes kind access.loc a b old (change_request access change) kept l.asking
      (refused_reads access change l (subst (λ n. is_refused access change n ≡ true) is refused)) is none looks
  part_makes at kind a b access change old false refused kept is l none looks = record {
    allowed = λ h. absurd (cc (h));
    linked = paying_linked setting.program lim t s cursors looks rest (units + 1) began
        (positions.Access (SwapPart access change old)) (l, refused) none
        (Spent l.has_begun (goes_run rest (s.threads t) l.asking.runs) refl);
    others = λ u ne. all_same setting t s u;
    leaves = leaves_all t s s refl refl;
    agrees = subst (λ (v : ℕ). AgreesWith access.loc v s) (sym kept)
        (agrees_loaded lim words s s before.agrees (word_of lim access.loc)
        (record { given = refl; out = refl; pages = refl; blocks = refl }) refl);
    prints = omega arith;
  }

  -- a change that is made is an exchange of the word
  change_allowed : (access : Access) (change : Change) (seen : ℕ) → PartLinked rest began (s.threads t) access change
      → is_refused access change seen ≡ false → seen ≡ held access.loc
      → Allowed setting s t (events.Exchange access.loc (changed_word access change seen))
  change_allowed access (Put value) seen l found is = inl (
    access,
    value,
    asks_for setting s t rest (requests.Store access value) l.asking,
    refl,
    l.narrow,
    ap (with_part access value) is,
  )
  change_allowed access (Combine op value) seen l found is = inr (inl (
    access,
    op,
    value,
    asks_for setting s t rest (requests.Rmw access op value) l.asking,
    refl,
    ap (λ n. with_part access (combined op access.bits (part access n) value) n) is,
  ))
  change_allowed access (Replace expected new) seen l found is = inr (inr (
    access,
    expected,
    new,
    asks_for setting s t rest (requests.Cas access expected new) l.asking,
    refl,
    ap (part access) (sym is) ∙ found_expected access expected new seen found,
    ap (with_part access new) is,
  ))

  -- and answers what the plain machine does
  change_answers : (access : Access) (change : Change) (seen : ℕ) → seen ≡ held access.loc
      → exchange_answer (held access.loc) (Some (change_request access change)) ≡ change_answer change seen
  change_answers access (Put value) seen is = refl
  change_answers access (Combine op value) seen is = sym is
  change_answers access (Replace expected new) seen is = sym is

  swap_makes : (access : Access) (change : Change) (seen old : ℕ) (b : Bool) → (old == seen) ≡ b
      → old ≡ slice_index words (word_of lim access.loc)
      → LinkedAt setting.program lim t rest began s cursors (positions.Access (SwapPart access change seen))
      → Makes setting t words s (access_op lim (SwapPart access change seen))
      (if b then events.Exchange access.loc (changed_word access change seen) else
      (if is_refused access change old then events.Load access.loc old else events.Log))
      (changed setting s t (if b then events.Exchange access.loc (changed_word access change seen) else
      (if is_refused access change old then events.Load access.loc old else events.Log)))
      (moved_from_access lim (thread (SwapPart access change seen)) (if b then Tells (change_answer change seen) else
      (if is_refused access change old then Tells old else AccessesOn (SwapPart access change old))))
  swap_makes access change seen old true e is l =
      let found : old ≡ seen = eqb-true old seen e in
      let same : seen ≡ held access.loc = sym found ∙ seen_held access.loc old is in
      exchange_makes kinds.Cas access.loc seen (changed_word access change seen) (changed_word access change seen)
      (change_answer change seen) (change_request access change)
      (swap_made seen (changed_word access change seen) (slice_index words (word_of lim access.loc)) (sym is ∙ found))
      l.stands.0.asking (change_answers access change seen same)
      (change_allowed access change seen l.stands.0 l.stands.1 same) l.frees_so l.looks
  swap_makes access change seen old false e is l =
      let other : old ≡ seen → ⊥ =
      λ found. let bad : true ≡ false = sym (eq-eqb old seen found) ∙ e in absurd (cc (bad)) in
      part_makes (SwapPart access change seen) kinds.Cas seen (changed_word access change seen) access change old
      (is_refused access change old) refl
      (swap_kept seen (changed_word access change seen) (slice_index words (word_of lim access.loc))
      (λ found. other (is ∙ found))) (seen_held access.loc old is) l.stands.0 l.frees_so l.looks

  -- EACH ROW

  pub access_makes : (at : AccessAt) (old : ℕ) → old ≡ answer_on words (access_op lim at)
      → LinkedAt setting.program lim t rest began s cursors (positions.Access at)
      → Makes setting t words s (access_op lim at) (access_event at old) (changed setting s t (access_event at old))
      (moved_from_access lim (thread at) (access_next at old))
  access_makes (LoadWord loc) old is l =
      load_word_makes setting t words s before rest units began cursors loc old is l
  access_makes (StoreWord loc value) old is l =
      store_word_makes setting t words s before rest units began cursors loc value l
  access_makes (CombineWord loc op value) old is l = combine_makes loc op value old is l
  access_makes (ReplaceWord loc expected new) old is l =
      replace_makes loc expected new old (old == expected) refl is l
  access_makes (LoadPart access change) old is l =
      part_makes (LoadPart access change) kinds.Load 0 0 access change old (is_refused access change old) refl refl
      (seen_held access.loc old is) l.stands l.frees_so l.looks
  access_makes (SwapPart access change seen) old is l =
      swap_makes access change seen old (old == seen) refl is l
