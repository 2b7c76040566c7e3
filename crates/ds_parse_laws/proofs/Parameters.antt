-- The parameters of functions are within their bounds.
use Rattle.std.proofs.Common.{◌≡◌, ℕ, zero, suc, ◌<◌, ◌≤◌, ◌+◌, ◌^◌, Bool, true, false, cond, List, [], ◌∷◌, ◌++◌}
use Rattle.std.proofs.Common.{length, map, refl, sym, ap, ◌∙◌, subst, arith}
use Rattle.std.specs.Prelude.{All, Option, Some, None, codes}
use Rattle.std.proofs.lemmas.List.{length-append, map-append}
use Rattle.std.proofs.lemmas.List.Elements.{All-nil, All-cons, All-push}
use Rattle.ds_lex.specs.declared.token.TokenKind.{TokenKind}
use Rattle.ds_ast.specs.declared.name.Name.{Name}
use Rattle.ds_ast.specs.declared.name.Name.TheVariants.{Number}
use Rattle.ds_ast.specs.declared.ty.Scalar.{Scalar}
use Rattle.ds_ast.specs.declared.module.Param.{Param}
use Rattle.ds_ast.specs.Bounds.{IsName, IsNumbered}
use Rattle.ds_grammar.specs.declared.fault.Mark.{Mark}
use Rattle.ds_grammar.specs.Sort.{Lexeme, Params, Sort, TypeOf}
use Rattle.ds_grammar.specs.Grammar.{Grammar, Loop}
use Rattle.ds_grammar.specs.Form.{Form, Run}
use Rattle.ds_grammar.specs.Fault.{AreWithin}
use Rattle.ds_grammar.specs.Rows.{is_punct, local_name}
use Rattle.ds_grammar.specs.Functions.{next_parameter, placed_name, with_parameter, name_marks, parameter_rest}
use Rattle.ds_grammar.specs.Functions.{parameters_more, parameters, declared_more, declared_parameters, numbered}
use Rattle.ds_grammar.specs.Functions.{counted, risen}
use Rattle.ds_parse_laws.proofs.Within.{Within, AreShort, EachWithin, IfThere, done, skip, all_marked, maybe_there}
use Rattle.ds_parse_laws.proofs.Within.{run, weaker, short_left, short_right, breach_left, breach_right, ◌⨾◌}
use Rattle.ds_parse_laws.proofs.Leaves.{mapped, local_name_is}
use Rattle.ds_parse_laws.proofs.Counters.{Rises, rise_on, written_rises, taken_rises, numbered_name}

abbrev pub name_of : Param → Name
name_of p = p.name

abbrev pub IsParam : Param → Type 0
IsParam p = IsName p.name

-- the parameters are named by names within their bounds, whose numbers rise
pub record Ready (ps : Params) : Type 0 where
  pub names : All IsParam ps.params
  pub rise : Rises 0 (map name_of ps.params) ps.counter

-- the parameters are ready where the number of the last one is within its bound, and before the first they are
record Steady (ps : Params) : Type 0 where
  pub pending : EachWithin ps.pending → Ready ps
  pub none : ps.params ≡ [] → Ready ps

more_ready : (ps : List Param) (c d : ℕ) (p : Param) → All IsParam ps → Rises 0 (map name_of ps) c → IsName p.name
    → Rises c (p.name ∷ []) d → Ready (record { params = ps ++ p ∷ []; counter = d; pending = [] })
more_ready ps c d p h r i k = record {
  names = All-push IsParam ps p h i;
  rise = subst (λ ns. Rises 0 ns d) (sym (map-append name_of ps (p ∷ [])))
      (rise_on 0 (map name_of ps) (p.name ∷ []) c d r k);
}

not_empty : {A : Type 0} (xs : List A) (x : A) → xs ++ x ∷ [] ≡ [] → ⊥
not_empty [] x e = cc (e)
not_empty (y ∷ ys) x e = cc (e)

abbrev HasName : Option (Name × ℕ) → Type 0
HasName o = IfThere (λ (n : Name × ℕ). IsName n.0) o

with_name : (ps : Params) (s : Scalar × ℕ) (n : Option (Name × ℕ)) → Ready ps → HasName n
    → EachWithin (name_marks ps n) → Steady (with_parameter ps s n)
with_name ps s (Some n) h i w = record {
  pending = λ u. let r = more_ready ps.params ps.counter (counted n.0 ps.counter)
      (record { name = n.0; ty = s.0 }) h.names h.rise i (written_rises n.0 ps.counter n.1 i w.0) in
      record { names = r.names; rise = r.rise };
  none = λ e. absurd (not_empty ps.params (record { name = n.0; ty = s.0 }) e);
}
with_name ps s None h i w = record {
  pending = λ u. let r = more_ready ps.params ps.counter (risen ps.counter)
      (record { name = numbered ps.counter; ty = s.0 }) h.names h.rise (numbered_name ps.counter)
      (taken_rises ps.counter s.1 u.0) in record { names = r.names; rise = r.rise };
  none = λ e. absurd (not_empty ps.params (record { name = numbered ps.counter; ty = s.0 }) e);
}

placed : (k : TokenKind) (bs : List ℕ) (at : ℕ) (v : Name × ℕ) → All (λ b. b < 2 ^ 8) bs
    → placed_name k bs at ≡ Some v → IsName v.0
placed k bs at v h e =
    let (n, i, same) = mapped (λ n. (n, at)) (local_name k bs) v e in
    subst (λ (v : Name × ℕ). IsName v.0) (sym same) (local_name_is k bs n h i)

rest_within : (ps : Params) (s : Scalar × ℕ) → Ready ps → Within (parameter_rest ps s) Steady
unfolding parameter_rest
rest_within ps s h =
    skip (λ u. maybe_there {P = λ (n : Name × ℕ). IsName n.0} (λ t v b e. done v (placed t.kind t.bytes t.at v b e))
    ⨾ (λ n i. all_marked (name_marks ps n) (λ w. done (with_parameter ps s n) (with_name ps s n h i w))))

-- a type stands before the first parameter alone, and a comma before each other
first_alone : (ps : List Param) (k : TokenKind) (bs : List ℕ) (at : ℕ) (s : Scalar × ℕ)
    → next_parameter ps k bs at ≡ Some (Some s) → ps ≡ []
first_alone [] k bs at s e = refl
first_alone (p ∷ ps) k bs at s e = by (is_punct (codes ",") k bs) e
  where
    by : (c : Bool) → cond c (Some None) None ≡ Some (Some s) → p ∷ ps ≡ []
    by true e = absurd (cc (e))
    by false e = absurd (cc (e))

more_within : (ps : Params) (t : Lexeme) (v : Option (Scalar × ℕ)) → Steady ps
    → next_parameter ps.params t.kind t.bytes t.at ≡ Some v → Within (parameters_more ps v) Steady
more_within ps t (Some s) h e = rest_within ps s (h.none (first_alone ps.params t.kind t.bytes t.at s e))
more_within ps t None h e = all_marked ps.pending (λ w. skip (λ s. rest_within ps s (h.pending w)))

none_ready : Ready (record { params = []; counter = 0; pending = [] })
none_ready = record { names = All-nil IsParam; rise = refl }

pub parameters_within : Within parameters Ready
unfolding parameters
parameters_within =
    run {P = Steady} (record { pending = λ u. none_ready; none = λ u. none_ready })
    (λ ps t v p b e. more_within ps t v p e)
    ⨾ (λ ps h. skip (λ u. all_marked ps.pending (λ w. done ps (h.pending w))))

-- THE PARAMETERS OF A DECLARATION

-- a run whose states have a property of the number of items so far, which is at most that of the tokens
counted_run : {s a : Sort} {test : TypeOf s → Lexeme → Option (TypeOf a)} {item : TypeOf s → TypeOf a → Grammar s}
    {state : TypeOf s} (P : ℕ → TypeOf s → Type 0)
    → P 0 state → ((k : ℕ) (r : TypeOf s) (t : Lexeme) (v : TypeOf a) → P k r → test r t ≡ Some v
    → Within (item r v) (P (k + 1)))
    → Within (Loop a test item state) (λ r. (k : ℕ) × (k < 2 ^ 32) × P k r)
counted_run {s} {a} {test} {item} {state} P start step =
    record { is = λ ts behind v ms f w sh. few v ts (rounds f.0 0 state ts behind v ms start f.1 w sh) sh }
  where
    rounds : (n k : ℕ) (r : TypeOf s) (ts behind : List Lexeme) (v : TypeOf s) (ms : List Mark) → P k r
        → Run test (λ s v. Form (item s v)) n r ts behind v ms → AreWithin ms → AreShort ts
        → (j : ℕ) × (j ≤ k + length ts) × P j v
    rounds zero k r ts behind v ms p f w sh = (k, omega arith, subst (P k) (sym f.1) p)
    rounds (suc n) k r ts behind v ms p (t, xs, x, e, takes, (q, us, vs, ks, ls, e2, m, f, g)) w sh =
        let w' = subst AreWithin m w in
        let s1 = subst AreShort e sh in
        let s2 = subst AreShort e2 (short_right (t ∷ []) xs s1) in
        let rest = rounds n (k + 1) q vs behind v ls ((step k r t x p takes).is us (vs ++ behind) q ks f
        (λ b i. w' b (breach_left ks ls b i)) (short_left us vs s2)) g (λ b i. w' b (breach_right ks ls b i))
        (short_right us vs s2) in
        let le = rest.1 in
        let lens = ap length e in
        let lens2 = ap length e2 in
        (rest.0, omega (arith, le, lens, lens2, length-append us vs), rest.2)

    few : (v : TypeOf s) (ts : List Lexeme) → (j : ℕ) × (j ≤ 0 + length ts) × P j v → AreShort ts → (j : ℕ)
        × (j < 2 ^ 32) × P j v
    few v ts h sh = let le = h.1 in let lt = sh.few in (h.0, omega (arith, le, lt), h.2)

-- the parameters are named by their places, as far as there are numbers
abbrev ByPlace : ℕ → List Param → Type 0
ByPlace k ps = (length ps ≤ k) × (k ≤ 2 ^ 32 → IsNumbered 0 ps)

number_more : (n : ℕ) (ps : List Param) (p : Param) → IsNumbered n ps → p.name ≡ Number (n + length ps)
    → IsNumbered n (ps ++ p ∷ [])
number_more n [] p h e = (e ∙ ap (λ m. Number m) (omega arith), tt)
number_more n (q ∷ ps) p h e = (h.0, number_more (n + 1) ps p h.1 (e ∙ ap (λ m. Number m) (omega arith)))

one_more : (k : ℕ) (ps : List Param) (s : Scalar) → ByPlace k ps
    → ByPlace (k + 1) (ps ++ (record { name = numbered (length ps); ty = s }) ∷ [])
one_more k ps s h = (
  let le = h.0 in omega (arith, le, length-append ps ((record { name = numbered (length ps); ty = s }) ∷ [])),
  λ few. number_more 0 ps (record { name = numbered (length ps); ty = s }) (h.1 (omega (arith, few)))
      (ap (λ m. Number m) (let le = h.0 in omega (arith, few, le))),
)

declared_within : (k : ℕ) (ps : List Param) (v : Option (Scalar × ℕ)) → ByPlace k ps
    → Within (declared_more ps v) (ByPlace (k + 1))
declared_within k ps (Some s) h =
    skip (λ u. skip (λ u. done (ps ++ (record { name = numbered (length ps); ty = s.0 }) ∷ []) (one_more k ps s.0 h)))
declared_within k ps None h = skip (λ s. skip
    (λ u. skip (λ u. done (ps ++ (record { name = numbered (length ps); ty = s }) ∷ []) (one_more k ps s h))))

-- the parameters are the numbers from 0 on, fewer than names have numbers
pub record AreDeclared (ps : List Param) : Type 0 where
  pub few : length ps < 2 ^ 32
  pub numbered : IsNumbered 0 ps

pub declared_parameters_within : Within declared_parameters AreDeclared
unfolding declared_parameters
declared_parameters_within =
    weaker (counted_run ByPlace (omega arith, λ few. tt) (λ k ps t v p e. declared_within k ps v p))
    (λ ps h. of ps h.0 h.1 h.2)
  where
    of : (ps : List Param) (k : ℕ) → k < 2 ^ 32 → ByPlace k ps → AreDeclared ps
    of ps k lt h = record { few = let le = h.0 in omega (arith, le, lt); numbered = h.1 (omega (arith, lt)) }

pub declared_names : (n : ℕ) (ps : List Param) → n + length ps < 2 ^ 32 → IsNumbered n ps → All IsParam ps
declared_names n [] lt h = All-nil IsParam
declared_names n (p ∷ ps) lt h = All-cons IsParam p ps (subst IsName (sym h.0) (omega (arith, lt)))
    (declared_names (n + 1) ps (omega (arith, lt)) h.1)

pub declared_rise : (n : ℕ) (ps : List Param) → IsNumbered n ps → Rises n (map name_of ps) (n + length ps)
declared_rise n [] h = omega arith
declared_rise n (p ∷ ps) h =
    let e : n + 1 + length ps ≡ n + length (p ∷ ps) = omega arith in
    let r = subst (λ d. Rises (n + 1) (map name_of ps) d) e (declared_rise (n + 1) ps h.1) in
    subst (λ name. Rises n (name ∷ map name_of ps) (n + length (p ∷ ps))) (sym h.0) (omega arith, r)
