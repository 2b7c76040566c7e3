-- Types are within their bounds.
use Rattle.std.proofs.Common.{◌≡◌, ℕ, ◌<◌, ◌≤◌, ◌+◌, ◌%◌, ◌^◌, Bool, true, false, cond, not, ◌&&◌, ◌||◌, nat_le}
use Rattle.std.proofs.Common.{nat_lt, List, [], ◌∷◌, ◌++◌, length, refl, sym, ap, subst, arith, le-ltb}
use Rattle.std.specs.Prelude.{All, Option, Some, None, option_map, codes}
use Rattle.std.specs.Str.{bytes_eq}
use Rattle.std.proofs.lemmas.List.Elements.{All-nil, All-cons, All-head, All-tail, All-same, All-push}
use Rattle.ds_lex.specs.Number.{number_of}
use Rattle.ds_lex.specs.declared.token.TokenKind.{TokenKind}
use Rattle.ds_lex.specs.declared.token.TokenKind.TheVariants as kind
use Rattle.ds_ast.specs.declared.ty.Ty.{Ty}
use Rattle.ds_ast.specs.declared.ty.Ty as ty
use Rattle.ds_ast.specs.Bounds.{IsType, IsNamed, counts, innermost, has_values}
use Rattle.ds_ast.specs.Equations.{counts-array, innermost-array}
use Rattle.ds_grammar.specs.declared.fault.Mark.{Mark}
use Rattle.ds_grammar.specs.Sort.{Sort, TypeOf}
use Rattle.ds_grammar.specs.Grammar.{Grammar, marked_by}
use Rattle.ds_grammar.specs.Tokens.{range_mark, lookup, scalar_words, token_name}
use Rattle.ds_grammar.specs.Types.{Arrays, Closing, array_place, array_front, array_count, count_of, arrays_from}
use Rattle.ds_grammar.specs.Types.{base_type, word_type, array_ends, all_arrays_closed, closed_type, is_flat}
use Rattle.ds_grammar.specs.Types.{marked_front, taken_by, type_of, closes, closed, type_place}
use Rattle.ds_grammar.specs.Globals.{type_rest, types, types_more, next_type, type_begin}
use Rattle.ds_grammar.specs.Rows.{is_punct}
use Rattle.ds_grammar.specs.Instructions.{if_none}
use Rattle.ds_parse_laws.proofs.Within.{Within, EachWithin, done, one, never, skip, marked, all_marked, run, weaker}
use Rattle.ds_parse_laws.proofs.Within.{◌⨾◌}
use Rattle.ds_parse_laws.proofs.Leaves.{mapped, most_true, below_true, token_name_is}

-- how many elements an array may have
abbrev pub IsCount : ℕ → Type 0
IsCount n = n ≤ 2 ^ 31

-- the arrays around a type are not too many
pub record Opened (o : Arrays) : Type 0 where
  pub depth : length o.1 ≤ 32
  pub elements : All IsCount o.1

abbrev IsCounted : ℕ × Mark → Type 0
IsCounted found = found.1.within ≡ true → IsCount found.0

count_is : (k : TokenKind) (bs : List ℕ) (at : ℕ) (v : ℕ × Mark) → count_of k bs at ≡ Some v → IsCounted v
count_is kind.Number bs at v e =
    let (n, i, same) = mapped (λ n. (n % 2 ^ 32, range_mark at (nat_le n (2 ^ 31)))) (number_of bs) v e in
    subst IsCounted (sym same) (λ w. kept n (most_true n (2 ^ 31) w))
  where
    kept : (n : ℕ) → n ≤ 2 ^ 31 → n % 2 ^ 32 ≤ 2 ^ 31
    kept n le = omega (arith, le)
count_is other bs at v e = absurd (cc (e))

count_within : Within array_count IsCount
unfolding array_count
count_within = ◌⨾◌ {Q = IsCounted} (one (λ t v b e. count_is t.kind t.bytes t.at v e))
    (λ found i. marked (λ w. done found.0 (i w)))

pub front_within : (o : Arrays) (at : ℕ) → Opened o → Within (array_front o at) Opened
unfolding array_front
front_within o at h =
    marked (λ w. count_within ⨾ (λ n i. skip (λ u. done (type_place o at, n ∷ o.1) (record {
      depth = let lt = below_true (length o.1) 32 w in omega (arith, lt);
      elements = All-cons IsCount n o.1 i h.elements;
    }))))

pub arrays_within : (o : Arrays) → Opened o → Within (arrays_from [] o) Opened
unfolding arrays_from
arrays_within o h = run h (λ o t at p b e. front_within o at p)

pub none_opened : Opened (0, [])
none_opened = record { depth = omega arith; elements = All-nil IsCount }

-- a type with arrays around it, of which something is said by whether it has values
pub record Closes (V : Bool → Type 0) (c : Closing) : Type 0 where
  pub depth : length c.0 + length (counts c.1) ≤ 32
  pub outer : All IsCount c.0
  pub elements : All IsCount (counts c.1)
  pub name : IsNamed (innermost c.1)
  pub has : is_flat c.0 ≡ true → V (has_values c.1)
  pub nested : is_flat c.0 ≡ false → V true

-- a whole type, of which this is said
abbrev pub IsWhole : (Bool → Type 0) → Ty → Type 0
IsWhole V t = IsType t × V (has_values t)

module _ (V : Bool → Type 0) where
  one_closed : (c : Closing) (k : TokenKind) (bs : List ℕ) (u : Unit {0}) → closes c.0 k bs ≡ Some u → Closes V c
      → Closes V (closed false c)
  one_closed ([], t) k bs u e h = absurd (cc (e))
  one_closed (n ∷ ns, t) k bs u e h = record {
    depth = let depth = h.depth in let lens = ap length (counts-array n t) in omega (arith, depth, lens);
    outer = All-tail IsCount n ns h.outer;
    elements = All-same IsCount (counts (ty.Array n t)) (n ∷ counts t) (counts-array n t)
        (All-cons IsCount n (counts t) (All-head IsCount n ns h.outer) h.elements);
    name = subst IsNamed (sym (innermost-array n t)) h.name;
    has = λ e. h.nested refl;
    nested = λ e. h.nested refl;
  }

  ends_within : (deep : Bool) (c : Closing) → deep ≡ false → Closes V c → Within (array_ends deep c) (Closes V)
  unfolding array_ends
  ends_within deep c no_deep h = run h (λ c t u p b e. done (closed deep c)
      (subst (λ d. Closes V (closed d c)) (sym no_deep) (one_closed c t.kind t.bytes u e p)))

  closed_all : (c : Closing) → Closes V c → Within (all_arrays_closed c) (IsWhole V)
  closed_all ([], t) h = done t (
    record {
      depth = let depth = h.depth in
          omega (arith, depth);
      elements = h.elements;
      name = h.name;
    },
    h.has refl,
  )
  closed_all (n ∷ ns, t) h = never

  pub closed_within : (o : Arrays) (t : Ty) → Opened o → Closes V (o.1, t) → Within (closed_type o t) (IsWhole V)
  unfolding closed_type
  closed_within o t opened h =
      ends_within (nat_lt 32 (length o.1)) (o.1, t) (le-ltb 32 (length o.1) opened.depth) h ⨾ (λ c i. closed_all c i)

-- a type that is no array
pub record IsBase (may_be_void : Bool) (t : Ty) : Type 0 where
  pub none : counts t ≡ []
  pub name : IsNamed (innermost t)
  pub has : may_be_void ≡ false → has_values t ≡ true

word_is_base : (m : Bool) (bs : List ℕ) (t : Ty) → word_type m bs ≡ Some t → IsBase m t
word_is_base m bs t e = by (bytes_eq bs (codes "void")) m e
  where
    by : (c m : Bool) → cond c (cond m (Some ty.Void) None) (option_map (λ s. ty.One s) (lookup scalar_words bs))
        ≡ Some t → IsBase m t
    by true true e = let same : ty.Void ≡ t = cc (e) in
        subst (IsBase true) same (record { none = refl; name = tt; has = λ e. absurd (cc (e)) })
    by true false e = absurd (cc (e))
    by false m e =
        let (s, i, same) = mapped (λ s. ty.One s) (lookup scalar_words bs) t e in
        subst (IsBase m) (sym same) (record { none = refl; name = tt; has = λ e. refl })

pub base_is : (m : Bool) (k : TokenKind) (bs : List ℕ) (t : Ty) → All (λ b. b < 2 ^ 8) bs → base_type m k bs ≡ Some t
    → IsBase m t
base_is m kind.Word bs t b e = word_is_base m bs t e
base_is m kind.Local bs t b e =
    let (n, i, same) = mapped (λ n. ty.Struct n) (token_name bs) t e in
    subst (IsBase m) (sym same) (record { none = refl; name = token_name_is bs n b i; has = λ e. refl })
base_is m other bs t b e = absurd (cc (e))

-- a type inside arrays
pub inside : (V : Bool → Type 0) (m : Bool) (o : Arrays) (t : Ty) → Opened o → IsBase m t
    → (is_flat o.1 ≡ true → V (has_values t)) → (is_flat o.1 ≡ false → V true) → Closes V (o.1, t)
inside V m o t h b has nested = record {
  depth = let depth = h.depth in let lens = ap length b.none in omega (arith, depth, lens);
  outer = h.elements;
  elements = All-same IsCount (counts t) [] b.none (All-nil IsCount);
  name = b.name;
  has = has;
  nested = nested;
}

-- the type has values, where it must have some
abbrev pub HasValues : Bool → Bool → Type 0
HasValues may_be_void has = may_be_void ≡ false → has ≡ true

pub type_within : (may : Bool) → Within (type_of may []) (IsWhole (HasValues may))
unfolding type_of
type_within may =
    arrays_within (0, []) none_opened ⨾ (λ o h. ◌⨾◌ {Q = IsBase (may || not (is_flat o.1))}
    (one (λ t v b e. base_is (may || not (is_flat o.1)) t.kind t.bytes v b e))
    (λ t b. closed_within (HasValues may) o t h (inside (HasValues may) (may || not (is_flat o.1)) o t h b
    (λ flat no. b.has (both may (is_flat o.1) flat no)) (λ flat no. refl))))
  where
    both : (m f : Bool) → f ≡ true → m ≡ false → m || not f ≡ false
    both m f e g = rw (e, g) refl

-- any type
pub any_type_within : (may : Bool) → Within (type_of may []) IsType
any_type_within may = weaker (type_within may) (λ t h. h.0)

-- THE TYPE OF A CALL that takes a number where it is not void

-- where the type has values, the marks of the number are within their bounds
abbrev pub Takes : List Mark → Bool → Type 0
Takes marks has = has ≡ true → EachWithin marks

abbrev TakenFront : List Mark → Arrays → Type 0
TakenFront marks o = Opened o × (is_flat o.1 ≡ false → EachWithin marks)

-- where the marks are taken they are within their bounds
all_taken : {a : Sort} {g : Grammar a} {P : TypeOf a → Type 0} (marks : List Mark) (taken : Bool)
    → ((taken ≡ true → EachWithin marks) → Within g P)
    → Within (marked_by (taken_by marks taken) g) P
all_taken [] taken h = h (λ e. tt)
all_taken (m ∷ ms) true h = all_marked (m ∷ ms) (λ w. h (λ e. w))
all_taken (m ∷ ms) false h = h (λ e. absurd (cc (e)))

taken_front_within : (marks : List Mark) (o : Arrays) (at : ℕ) → TakenFront marks o
    → Within (marked_front marks o at) (TakenFront marks)
taken_front_within marks o at h =
    all_taken marks (is_flat o.1) (λ w. weaker (front_within o at h.0) (λ r i. (i, λ e. by (is_flat o.1) refl w)))
  where
    by : (f : Bool) → is_flat o.1 ≡ f → (is_flat o.1 ≡ true → EachWithin marks) → EachWithin marks
    by true e w = w e
    by false e w = h.1 e

pub taking_type_within : (marks : List Mark) → Within (type_of true marks) (IsWhole (Takes marks))
unfolding type_of arrays_from
taking_type_within marks =
    run {P = TakenFront marks} (none_opened, λ e. absurd (cc (e))) (λ o t at p b e. taken_front_within marks o at p)
    ⨾ (λ o h. ◌⨾◌ {Q = IsBase true} (one (λ t v b e. base_is true t.kind t.bytes v b e))
    (λ t b. all_taken marks (is_flat o.1 && has_values t)
    (λ w. closed_within (Takes marks) o t h.0 (inside (Takes marks) true o t h.0 b
    (λ flat has. w (both_true (is_flat o.1) (has_values t) flat has)) (λ flat has. h.1 flat)))))
  where
    both_true : (f v : Bool) → f ≡ true → v ≡ true → f && v ≡ true
    both_true f v e g = rw (e, g) refl

-- LISTS OF TYPES

-- a type that is begun: one with no others in it
abbrev IsBegun : Option Ty × ℕ → Type 0
IsBegun (None, at) = Unit {0}
IsBegun (Some t, at) = IsType t

base_type_is : (t : Ty) → IsBase true t → IsType t
base_type_is t b = record {
  depth = let lens = ap length b.none in omega (arith, lens);
  elements = All-same IsCount (counts t) [] b.none (All-nil IsCount);
  name = b.name;
}

begun : (k : TokenKind) (bs : List ℕ) (at : ℕ) (v : Option Ty × ℕ) → All (λ b. b < 2 ^ 8) bs
    → type_begin k bs at ≡ Some v → IsBegun v
begun k bs at v h e = by (array_place k bs at) e
  where
    by : (o : Option ℕ) → if_none (option_map (λ place. (None, place)) o)
        (option_map (λ t. (Some t, at)) (base_type true k bs)) ≡ Some v → IsBegun v
    by (Some place) e = let same : (None, place) ≡ v = cc (e) in subst IsBegun same tt
    by None e =
        let (t, i, same) = mapped (λ t. (Some t, at)) (base_type true k bs) v e in
        subst IsBegun (sym same) (base_type_is t (base_is true k bs t h i))

type_rest_within : (v : Option Ty × ℕ) → IsBegun v → Within (type_rest v) IsType
unfolding type_rest
type_rest_within (Some t, at) h = done t h
type_rest_within (None, at) h =
    front_within (0, []) at none_opened ⨾ (λ f i. arrays_within f i ⨾
    (λ o j. ◌⨾◌ {Q = IsBase true} (one (λ t v b e. base_is true t.kind t.bytes v b e))
    (λ t b. weaker (closed_within (λ b. Unit {0}) o t j (inside (λ b. Unit {0}) true o t j b (λ e. tt) (λ e. tt)))
    (λ t h. h.0))))

-- what begins the next type of a list is begun
abbrev IsNext : Option (Option Ty × ℕ) → Type 0
IsNext None = Unit {0}
IsNext (Some b) = IsBegun b

next_is : (ts : List Ty) (k : TokenKind) (bs : List ℕ) (at : ℕ) (v : Option (Option Ty × ℕ)) → All (λ b. b < 2 ^ 8) bs
    → next_type ts k bs at ≡ Some v → IsNext v
next_is [] k bs at v h e =
    let (b, i, same) = mapped (λ b. Some b) (type_begin k bs at) v e in subst IsNext (sym same) (begun k bs at b h i)
next_is (t ∷ ts) k bs at None h e = tt
next_is (t ∷ ts) k bs at (Some b) h e = by (is_punct (codes ",") k bs) e
  where
    by : (c : Bool) → cond c (Some None) None ≡ Some (Some b) → IsBegun b
    by true e = absurd (cc (e))
    by false e = absurd (cc (e))

types_more_within : (ts : List Ty) (v : Option (Option Ty × ℕ)) → All IsType ts → IsNext v
    → Within (types_more ts v) (All IsType)
types_more_within ts (Some b) h i = type_rest_within b i ⨾ (λ t j. done (ts ++ t ∷ []) (All-push IsType ts t h j))
types_more_within ts None h i = any_type_within true ⨾ (λ t j. done (ts ++ t ∷ []) (All-push IsType ts t h j))

pub types_within : Within types (All IsType)
unfolding types
types_within = run (All-nil IsType) (λ ts t v p b e. types_more_within ts v p (next_is ts t.kind t.bytes t.at v b e))
