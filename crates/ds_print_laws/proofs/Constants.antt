-- The values that globals begin with.
use Rattle.std.proofs.Common.{◌≡◌, ℕ, zero, suc, ◌<◌, ◌^◌, true, eqb, not, List, ◌∷◌, refl, ap, ◌∙◌, arith}
use Rattle.std.specs.Prelude.{Some, option_map, codes}
use Rattle.ds_lex.specs.Written.{Piece, Written}
use Rattle.ds_lex.specs.declared.token.TokenKind.{TokenKind}
use Rattle.ds_lex.specs.declared.token.TokenKind.TheVariants as kind
use Rattle.ds_ast.specs.declared.ty.Scalar.{Scalar}
use Rattle.ds_ast.specs.declared.ty.Scalar.TheVariants.{I1, I8, I16, I32, I64, Ptr}
use Rattle.ds_ast.specs.declared.ty.Ty.{Ty, Void, One, Struct, Array'}
use Rattle.ds_ast.specs.declared.value.Value.{Value}
use Rattle.ds_ast.specs.declared.value.Value.TheVariants.{Int, Null, Undef, Local, Global}
use Rattle.ds_ast.specs.declared.module.StructDef.{StructDef}
use Rattle.ds_ast.specs.Bounds.{IsValue, IsConstant, width, width_at}
use Rattle.ds_grammar.specs.declared.fault.Mark.{Mark}
use Rattle.ds_grammar.specs.declared.item.InitHead.{InitHead}
use Rattle.ds_grammar.specs.declared.item.InitHead.TheVariants as head
use Rattle.ds_grammar.specs.Tokens.{width_of, is_address, fits_width, is_negative, fits_type, is_truth, range_mark}
use Rattle.ds_grammar.specs.Tokens.{literal, value_of}
use Rattle.ds_grammar.specs.Globals.{init_head}
use Rattle.ds_grammar.specs.Globals as globals
use Rattle.ds_print.specs.Names as print
use Rattle.ds_print.specs.Canonical as canon
use Rattle.ds_print_laws.proofs.Gets.{Known}
use Rattle.ds_print_laws.proofs.Names.{name_is}
use Rattle.ds_print_laws.proofs.Numbers.{IsRead, signed_is}
use Rattle.ds_print_laws.proofs.Values.{or_true}

-- a value with its mark, as what an initialiser begins with
abbrev as_head : Value × Mark → InitHead × Mark
as_head found = (head.Word found.0, found.1)

-- the piece is a token that an initialiser of this type may begin with, and that is this value, within its bound
pub record BeginsWith (structs : List StructDef) (t : Ty) (v : Value) (p : Piece) : Type 0 where
  pub k : TokenKind
  pub bytes : List ℕ
  pub mark : ℕ → Mark
  pub whole : p ≡ Written k bytes
  pub begins : (at : ℕ) → init_head structs t k bytes at ≡ Some (head.Word v, mark at)
  pub within : (at : ℕ) → (mark at).within ≡ true

module _ (structs : List StructDef) (t : Ty) where
  number_begins : (s : Scalar) (bytes : List ℕ) (n : ℕ) → globals.literal_type t ≡ s → IsRead (width_of s) bytes n
      → BeginsWith structs t (Int n) (Written kind.Number bytes)
  number_begins s bytes n e r = record {
    k = kind.Number;
    bytes = bytes;
    mark = λ at. range_mark at (fits_type s bytes r.number);
    whole = refl;
    begins = λ at. ap (λ s. option_map as_head (value_of s kind.Number bytes at)) e
        ∙ (ap (λ found. option_map as_head (option_map (literal s bytes at) found)) r.is
        ∙ ap (λ n. Some (head.Word (Int n), range_mark at (fits_type s bytes r.number))) r.same);
    within = λ at. or_true (is_address s) (fits_width (width_of s) (is_negative bytes) r.number) r.fits;
  }

  truth_begins : (n : ℕ) → globals.literal_type t ≡ I1 → n < 2
      → BeginsWith structs t (Int n) (print.truth (not (eqb n 0)))
  truth_begins zero e lt = record {
    k = kind.Word;
    bytes = codes "false";
    mark = λ at. range_mark at (is_truth (globals.literal_type t));
    whole = refl;
    begins = λ at. refl;
    within = λ at. ap is_truth e;
  }
  truth_begins (suc zero) e lt = record {
    k = kind.Word;
    bytes = codes "true";
    mark = λ at. range_mark at (is_truth (globals.literal_type t));
    whole = refl;
    begins = λ at. refl;
    within = λ at. ap is_truth e;
  }
  truth_begins (suc (suc n)) e lt = absurd (omega (arith, lt))

  module _ (known : Known) where
    integer_begins : (s : Scalar) (n : ℕ) → globals.literal_type t ≡ s → n < 2 ^ width s
        → BeginsWith structs t (Int n) (print.integer_operand s n)
    integer_begins I1 n e lt = truth_begins n e lt
    integer_begins I8 n e lt = number_begins I8 _ n e (signed_is known I8 n lt)
    integer_begins I16 n e lt = number_begins I16 _ n e (signed_is known I16 n lt)
    integer_begins I32 n e lt = number_begins I32 _ n e (signed_is known I32 n lt)
    integer_begins I64 n e lt = number_begins I64 _ n e (signed_is known I64 n lt)
    integer_begins Ptr n e lt = number_begins Ptr _ n e (signed_is known Ptr n lt)

    value_begins : (s : Scalar) (v : Value) → globals.literal_type t ≡ s → IsConstant v → IsValue (width s) v
        → BeginsWith structs t v (print.value s v)
    value_begins s (Int n) e c h = integer_begins s n e h
    value_begins s Null e c h = record {
      k = kind.Word;
      bytes = codes "null";
      mark = λ at. range_mark at true;
      whole =
          refl;
      begins = λ at. refl;
      within = λ at. refl;
    }
    value_begins s Undef e c h = record {
      k = kind.Word;
      bytes = codes "undef";
      mark = λ at. range_mark at true;
      whole = refl;
      begins = λ at. refl;
      within = λ at. refl;
    }
    value_begins s (Local name) e c h = absurd c
    value_begins s (Global name) e c h = record {
      k = kind.Global;
      bytes = 64 ∷ print.name_text name;
      mark = λ at. range_mark at true;
      whole = refl;
      begins = λ at. ap (λ found. option_map as_head (option_map (λ n. (Global n, range_mark at true)) found))
          (name_is known name h);
      within = λ at. refl;
    }

-- a value behind its type
pub constant_begins : (structs : List StructDef) (known : Known) (t : Ty) (v : Value) → IsConstant v
    → IsValue (width_at t) v → BeginsWith structs t v (print.value (canon.literal_type t) v)
constant_begins structs known Void v c h = value_begins structs Void known Ptr v refl c h
constant_begins structs known (One s) v c h = value_begins structs (One s) known s v refl c h
constant_begins structs known (Array' n shape of) v c h = value_begins structs (Array' n shape of) known Ptr v refl c h
constant_begins structs known (Struct name) v c h = value_begins structs (Struct name) known Ptr v refl c h
