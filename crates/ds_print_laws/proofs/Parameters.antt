-- The parameters of functions are read back.
use Rattle.std.proofs.Common.{◌≡◌, ℕ, suc, ◌<◌, ◌+◌, ◌^◌, false, List, [], ◌∷◌, ◌++◌, length, map, refl, sym, ap, ◌∙◌}
use Rattle.std.proofs.Common.{subst, arith, append-nil, length-append, mod-eq_of_lt}
use Rattle.std.specs.Prelude.{All, Some, None, option_map}
use Rattle.ds_lex.specs.Written.{Piece}
use Rattle.ds_lex.specs.declared.token.TokenKind.TheVariants as kind
use Rattle.ds_ast.specs.declared.name.Name.{Name}
use Rattle.ds_ast.specs.declared.name.Name.TheVariants.{Number}
use Rattle.ds_ast.specs.declared.ty.Scalar.{Scalar}
use Rattle.ds_ast.specs.declared.ty.Scalar.TheVariants.{I1, I8, I16, I32, I64, Ptr}
use Rattle.ds_ast.specs.declared.module.Param.{Param}
use Rattle.ds_ast.specs.Bounds.{IsName, IsCounted, IsNumbered, numbers}
use Rattle.ds_grammar.specs.Sort.{Params, a_number, a_scalar, a_param, some_params, both_of, list_of, maybe}
use Rattle.ds_grammar.specs.Grammar.{Grammar, Then, Loop}
use Rattle.ds_grammar.specs.Tokens.{word_in, scalar_words}
use Rattle.ds_grammar.specs.Rows.{local_name}
use Rattle.ds_grammar.specs.Functions.{next_parameter, parameter_rest, placed_scalar, parameters_more, parameters}
use Rattle.ds_grammar.specs.Functions.{declared_more, declared_parameters, numbered, counted}
use Rattle.ds_print.specs.Names as print
use Rattle.ds_print.specs.Canonical.{more_listed, listed, param_pieces, param_type}
use Rattle.ds_print_laws.proofs.Gets.{Known, Gets, NoneBegins, gap, done, one, one_at, marked, run_end, run_item}
use Rattle.ds_print_laws.proofs.Gets.{without, with_it_then, ◌⨾◌}
use Rattle.ds_print_laws.proofs.Alls.{all_first, all_rest}
use Rattle.ds_print_laws.proofs.Names.{name_is}
use Rattle.ds_print_laws.proofs.Values.{done_as, scalar_read}
use Rattle.ds_print_laws.proofs.Lists.{read_as, behind_these}
use Rattle.ds_print_laws.proofs.Ends.{run_test, no_ignored}
use Rattle.ds_print_laws.proofs.Counters.{name_within, counted_on}

-- parameters that are all named
abbrev pub named_params : List Param → ℕ → Params
named_params ps c = record { params = ps; counter = c; pending = [] }

abbrev next_lines : Params → Grammar some_params
next_lines ps =
    Loop (maybe (both_of a_scalar a_number)) (λ ps t. next_parameter ps.params t.kind t.bytes t.at) parameters_more ps

scalar_placed : (s : Scalar) (at : ℕ) → option_map {U = Scalar × ℕ} (λ s. (s, at))
    (word_in scalar_words kind.Word (print.scalar_word s)) ≡ Some (s, at)
scalar_placed I1 at = refl
scalar_placed I8 at = refl
scalar_placed I16 at = refl
scalar_placed I32 at = refl
scalar_placed I64 at = refl
scalar_placed Ptr at = refl

scalar_first : (s : Scalar) (at : ℕ) → next_parameter [] kind.Word (print.scalar_word s) at ≡ Some (Some (s, at))
scalar_first I1 at = refl
scalar_first I8 at = refl
scalar_first I16 at = refl
scalar_first I32 at = refl
scalar_first I64 at = refl
scalar_first Ptr at = refl

abbrev param_names : List Param → List Name
param_names ps = map (λ param. param.name) ps

module _ (known : Known) where
  -- the name behind the type of a parameter
  rest_read : (acc : List Param) (c place : ℕ) (p : Param) (names : List Name) (ps : List Piece) → IsName p.name
      → IsCounted c (numbers (p.name ∷ names))
      → Gets (parameter_rest (named_params acc c) (p.ty, place)) (print.space ∷ print.local p.name ∷ ps)
      (named_params (acc ++ p ∷ []) (counted p.name c)) ps
  unfolding parameter_rest
  rest_read acc c place p names ps h ic =
      gap (no_ignored known (print.local p.name ∷ ps) (λ at. refl) ⨾ with_it_then known (λ at. (p.name, at))
      (λ at. (p.name, at)) (λ at. ap (option_map (λ n. (n, at))) (name_is known p.name h))
      (λ at. done (p.name, at) ps)
      (λ at. marked (name_within p.name names c at ic) (done _ ps)))

  -- S L
  whole_read : (acc : List Param) (c : ℕ) (o : Param) (names : List Name) (ps : List Piece) → IsName o.name
      → IsCounted c (numbers (o.name ∷ names))
      → Gets (Then placed_scalar (parameter_rest (named_params acc c)))
      (print.scalar o.ty ∷ print.space ∷ print.local o.name ∷ ps) (named_params (acc ++ o ∷ []) (counted o.name c)) ps
  unfolding placed_scalar
  whole_read acc c o names ps h ic =
      one_at (λ at. (o.ty, at)) (λ at. scalar_placed o.ty at) (λ at. rest_read acc c at o names ps h ic)

  -- , S L any number of times, behind a parameter
  more_params_read : (first : Param) (acc os : List Param) (c : ℕ) (names : List Name) (ps : List Piece)
      → All (λ param. IsName param.name) os → IsCounted c (numbers (param_names os ++ names))
      → (k : ℕ) × IsCounted k (numbers names) × Gets (next_lines (named_params (first ∷ acc) c))
      (more_listed (map param_pieces os) ++ print.punct ")" ∷ ps) (named_params (first ∷ (acc ++ os)) k)
      (print.punct ")" ∷ ps)
  more_params_read first acc [] c names ps h ic = (
    c,
    ic,
    read_as (named_params (first ∷ acc) c) (named_params (first ∷ (acc ++ [])) c)
        (ap (λ xs. named_params (first ∷ xs) c) (sym (append-nil acc))) (run_end known (λ at. refl)),
  )
  more_params_read first acc (o ∷ os) c names ps h ic =
      let is_name = all_first (λ param. IsName param.name) o os h in
      let x = more_params_read first (acc ++ o ∷ []) os (counted o.name c) names ps
      (all_rest (λ param. IsName param.name) o os h) (counted_on o.name (param_names os ++ names) c is_name ic) in (
        x.0,
        x.1,
        run_item known (λ at. None) (λ at. refl)
            (λ at. gap (whole_read (first ∷ acc) c o (param_names os ++ names) _ is_name ic))
            (read_as _ _ (ap (λ xs. named_params (first ∷ xs) x.0) (behind_these o acc os)) x.2),
      )

  lines_read : (os : List Param) (names : List Name) (ps : List Piece) → All (λ param. IsName param.name) os
      → IsCounted 0 (numbers (param_names os ++ names))
      → (k : ℕ) × IsCounted k (numbers names) × Gets (next_lines (named_params [] 0))
      (listed (map param_pieces os) ++ print.punct ")" ∷ ps) (named_params os k) (print.punct ")" ∷ ps)
  lines_read [] names ps h ic = (0, ic, run_end known (λ at. refl))
  lines_read (o ∷ os) names ps h ic =
      let is_name = all_first (λ param. IsName param.name) o os h in
      let x = more_params_read o [] os (counted o.name 0) names ps (all_rest (λ param. IsName param.name) o os h)
      (counted_on o.name (param_names os ++ names) 0 is_name ic) in (
        x.0,
        x.1,
        run_item known (λ at. Some (o.ty, at)) (λ at. scalar_first o.ty at)
            (λ at. rest_read [] 0 at o (param_names os ++ names) _ is_name ic) x.2,
      )

  -- the parameters of a definition, and the bracket behind them
  pub params_read : (os : List Param) (names : List Name) (ps : List Piece) → All (λ param. IsName param.name) os
      → IsCounted 0 (numbers (param_names os ++ names))
      → (k : ℕ) × IsCounted k (numbers names) × Gets parameters (listed (map param_pieces os) ++ print.punct ")" ∷ ps)
      (named_params os k) ps
  unfolding parameters
  params_read os names ps h ic = let x = lines_read os names ps h ic in
      (x.0, x.1, x.2 ⨾ (one {v = tt} (λ at. refl) ⨾ done (named_params os x.0) ps))

-- the number that a parameter of a declaration is, is its name
numbered_is : (n : ℕ) (o : Param) → o.name ≡ Number n → IsName o.name → record { name = numbered n; ty = o.ty } ≡ o
numbered_is n o e h =
    let small : n < 2 ^ 32 = subst IsName e h in
    ap (λ name. record { name = name; ty = o.ty }) (ap Number (mod-eq_of_lt small) ∙ sym e)

module _ (known : Known) where
  -- behind the type of a parameter of a declaration stands a comma or a bracket
  no_word : (os : List Param) (ps : List Piece)
      → NoneBegins (run_test false) (more_listed (map param_type os) ++ print.punct ")" ∷ ps)
  no_word [] ps = λ at. refl
  no_word (o ∷ os) ps = λ at. refl

  no_name : (os : List Param) (ps : List Piece)
      → NoneBegins (λ t. local_name t.kind t.bytes) (more_listed (map param_type os) ++ print.punct ")" ∷ ps)
  no_name [] ps = λ at. refl
  no_name (o ∷ os) ps = λ at. refl

  abbrev declared_lines : List Param → Grammar (list_of a_param)
  declared_lines ps =
      Loop (maybe (both_of a_scalar a_number)) (λ ps t. next_parameter ps t.kind t.bytes t.at) declared_more ps

  more_declared_read : (first : Param) (acc os : List Param) (ps : List Piece) → All (λ param. IsName param.name) os
      → IsNumbered (suc (length acc)) os
      → Gets (declared_lines (first ∷ acc)) (more_listed (map param_type os) ++ print.punct ")" ∷ ps)
      (first ∷ (acc ++ os)) (print.punct ")" ∷ ps)
  more_declared_read first acc [] ps h in_order = read_as (first ∷ acc) (first ∷ (acc ++ []))
      (ap (λ xs. first ∷ xs) (sym (append-nil acc))) (run_end known (λ at. refl))
  more_declared_read first acc (o ∷ os) ps h in_order =
      let is_name = all_first (λ param. IsName param.name) o os h in
      let longer : suc (length acc) + 1 ≡ suc (length (acc ++ o ∷ [])) = omega (arith, length-append acc (o ∷ [])) in
      run_item known (λ at. None) (λ at. refl)
      (λ at. gap (scalar_read o.ty _ ⨾ (no_ignored known _ (no_word os ps) ⨾
      (without known (no_name os ps) ⨾ done_as _ _ _
      (ap (λ p. (first ∷ acc) ++ p ∷ []) (numbered_is (suc (length acc)) o in_order.0 is_name))))))
      (read_as _ _ (ap (λ xs. first ∷ xs) (behind_these o acc os))
      (more_declared_read first (acc ++ o ∷ []) os ps (all_rest (λ param. IsName param.name) o os h)
      (subst (λ n. IsNumbered n os) longer in_order.1)))

  -- the parameters of a declaration
  pub declared_read : (os : List Param) (ps : List Piece) → All (λ param. IsName param.name) os → IsNumbered 0 os
      → Gets declared_parameters (listed (map param_type os) ++ print.punct ")" ∷ ps) os (print.punct ")" ∷ ps)
  unfolding declared_parameters
  declared_read [] ps h in_order = run_end known (λ at. refl)
  declared_read (o ∷ os) ps h in_order =
      let is_name = all_first (λ param. IsName param.name) o os h in
      run_item known (λ at. Some (o.ty, at)) (λ at. scalar_first o.ty at)
      (λ at. no_ignored known _ (no_word os ps) ⨾ (without known (no_name os ps) ⨾ done_as _ _ _
      (ap (λ p. p ∷ []) (numbered_is 0 o in_order.0 is_name))))
      (more_declared_read o [] os ps (all_rest (λ param. IsName param.name) o os h) in_order.1)
