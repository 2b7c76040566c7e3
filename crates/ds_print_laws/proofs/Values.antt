-- Single tokens: brackets, words, types of registers, names and values.
use Rattle.std.proofs.Common.{◌≡◌, ℕ, zero, suc, ◌<◌, ◌%◌, ◌^◌, Bool, true, false, ◌||◌, eqb, not, List, ◌∷◌, refl}
use Rattle.std.proofs.Common.{ap, subst, arith}
use Rattle.std.specs.Prelude.{option_map}
use Rattle.ds_lex.specs.Written.{Piece, Written}
use Rattle.ds_lex.specs.declared.token.TokenKind.TheVariants as kind
use Rattle.ds_ast.specs.declared.name.Name.{Name}
use Rattle.ds_ast.specs.declared.ty.Scalar.{Scalar}
use Rattle.ds_ast.specs.declared.ty.Scalar.TheVariants.{I1, I8, I16, I32, I64, Ptr}
use Rattle.ds_ast.specs.declared.value.Value.{Value}
use Rattle.ds_ast.specs.declared.value.Value.TheVariants.{Int, Null, Undef, Local, Global}
use Rattle.ds_ast.specs.Bounds.{IsName, IsValue, width}
use Rattle.ds_grammar.specs.Sort.{Sort, TypeOf}
use Rattle.ds_grammar.specs.Grammar.{Done}
use Rattle.ds_grammar.specs.Tokens.{width_of, is_address, fits_width, is_negative, range_mark, literal}
use Rattle.ds_grammar.specs.Rows.{scalar, value}
use Rattle.ds_grammar.specs.Instructions.{same_scalar, typed_value, local, global, target}
use Rattle.ds_print.specs.Names as print
use Rattle.ds_print_laws.proofs.Gets.{Known, Gets, gap, done, one, one_at, marked, ◌⨾◌}
use Rattle.ds_print_laws.proofs.Names.{name_is}
use Rattle.ds_print_laws.proofs.Numbers.{IsRead, signed_is}

pub done_as : {a : Sort} (v w : TypeOf a) (ps : List Piece) → v ≡ w → Gets (Done {a = a} v) ps w ps
done_as v w ps e = subst (λ x. Gets (Done v) ps x ps) e (done v ps)

pub or_true : (a b : Bool) → b ≡ true → (a || b) ≡ true
or_true true b h = refl
or_true false b h = h

pub width_is : (s : Scalar) → width_of s ≡ width s
width_is I1 = refl
width_is I8 = refl
width_is I16 = refl
width_is I32 = refl
width_is I64 = refl
width_is Ptr = refl

-- the type of a register
pub scalar_read : (s : Scalar) (ps : List Piece) → Gets scalar (print.scalar s ∷ ps) s ps
unfolding scalar
scalar_read I1 ps = one (λ at. refl)
scalar_read I8 ps = one (λ at. refl)
scalar_read I16 ps = one (λ at. refl)
scalar_read I32 ps = one (λ at. refl)
scalar_read I64 ps = one (λ at. refl)
scalar_read Ptr ps = one (λ at. refl)

pub same_scalar_read : (s : Scalar) (ps : List Piece) → Gets (same_scalar s) (print.scalar s ∷ ps) tt ps
unfolding same_scalar
same_scalar_read I1 ps = one (λ at. refl)
same_scalar_read I8 ps = one (λ at. refl)
same_scalar_read I16 ps = one (λ at. refl)
same_scalar_read I32 ps = one (λ at. refl)
same_scalar_read I64 ps = one (λ at. refl)
same_scalar_read Ptr ps = one (λ at. refl)

-- a literal is read as a value of its type
literal_read : (s : Scalar) (bytes : List ℕ) (n : ℕ) (ps : List Piece) → IsRead (width_of s) bytes n
    → Gets (value s) (Written kind.Number bytes ∷ ps) (Int n) ps
unfolding value
literal_read s bytes n ps r =
    one_at (λ at. literal s bytes at r.number) (λ at. ap (option_map (literal s bytes at)) r.is)
    (λ at. marked (or_true (is_address s) (fits_width (width_of s) (is_negative bytes) r.number) r.fits)
    (done_as (Int (r.number % 2 ^ width_of s)) (Int n) ps (ap Int r.same)))

truth_read : (n : ℕ) (ps : List Piece) → n < 2 → Gets (value I1) (print.truth (not (eqb n 0)) ∷ ps) (Int n) ps
unfolding value
truth_read zero ps lt = one_at (λ at. (Int 0, range_mark at true)) (λ at. refl) (λ at. marked refl (done (Int 0) ps))
truth_read (suc zero) ps lt =
    one_at (λ at. (Int 1, range_mark at true)) (λ at. refl) (λ at. marked refl (done (Int 1) ps))
truth_read (suc (suc n)) ps lt = absurd (omega (arith, lt))

module _ (known : Known) where
  integer_read : (s : Scalar) (n : ℕ) (ps : List Piece) → n < 2 ^ width s
      → Gets (value s) (print.integer_operand s n ∷ ps) (Int n) ps
  integer_read I1 n ps lt = truth_read n ps lt
  integer_read I8 n ps lt = literal_read I8 (print.signed 8 n) n ps (signed_is known I8 n lt)
  integer_read I16 n ps lt = literal_read I16 (print.signed 16 n) n ps (signed_is known I16 n lt)
  integer_read I32 n ps lt = literal_read I32 (print.signed 32 n) n ps (signed_is known I32 n lt)
  integer_read I64 n ps lt = literal_read I64 (print.signed 64 n) n ps (signed_is known I64 n lt)
  integer_read Ptr n ps lt = literal_read Ptr (print.signed 64 n) n ps (signed_is known Ptr n lt)

  -- a value of a type
  pub value_read : (s : Scalar) (v : Value) (ps : List Piece) → IsValue (width s) v
      → Gets (value s) (print.value s v ∷ ps) v ps
  unfolding value
  value_read s (Int n) ps h = integer_read s n ps h
  value_read s Null ps h = one_at (λ at. (Null, range_mark at true)) (λ at. refl) (λ at. marked refl (done Null ps))
  value_read s Undef ps h = one_at (λ at. (Undef, range_mark at true)) (λ at. refl) (λ at. marked refl (done Undef ps))
  value_read s (Local name) ps h =
      one_at (λ at. (Local name, range_mark at true))
      (λ at. ap (option_map (λ n. (Local n, range_mark at true))) (name_is known name h))
      (λ at. marked refl (done (Local name) ps))
  value_read s (Global name) ps h =
      one_at (λ at. (Global name, range_mark at true))
      (λ at. ap (option_map (λ n. (Global n, range_mark at true))) (name_is known name h))
      (λ at. marked refl (done (Global name) ps))

  pub local_read : (name : Name) (ps : List Piece) → IsName name → Gets local (print.local name ∷ ps) name ps
  unfolding local
  local_read name ps h = one (λ at. name_is known name h)

  pub global_read : (name : Name) (ps : List Piece) → IsName name → Gets global (print.global name ∷ ps) name ps
  unfolding global
  global_read name ps h = one (λ at. name_is known name h)

  pub typed_read : (s : Scalar) (v : Value) (ps : List Piece) → IsValue (width s) v
      → Gets (typed_value s) (print.scalar s ∷ print.space ∷ print.value s v ∷ ps) v ps
  unfolding typed_value
  typed_read s v ps h = same_scalar_read s (print.space ∷ print.value s v ∷ ps) ⨾ gap (value_read s v ps h)

  pub target_read : (name : Name) (ps : List Piece) → IsName name
      → Gets target (print.word "label" ∷ print.space ∷ print.local name ∷ ps) name ps
  unfolding target
  target_read name ps h = one (λ at. refl) ⨾ gap (local_read name ps h)
