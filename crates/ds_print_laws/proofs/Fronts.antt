-- Types that are written again, and lists of types.
use Rattle.std.proofs.Common.{◌≡◌, ℕ, ◌<◌, ◌≤◌, ◌^◌, true, List, [], ◌∷◌, ◌++◌, map, refl, sym, ap, ◌∙◌, arith, inl}
use Rattle.std.proofs.Common.{append-nil, eq-eqb}
use Rattle.std.specs.Prelude.{All, Option, Some, None, option_map, codes, bytes_eq}
use Rattle.ds_lex.specs.Written.{Piece, Written}
use Rattle.ds_lex.specs.declared.token.TokenKind.{TokenKind}
use Rattle.ds_lex.specs.declared.token.TokenKind.TheVariants as kind
use Rattle.ds_ast.specs.declared.name.Name.{Name}
use Rattle.ds_ast.specs.declared.name.Name.TheVariants.{Number, Text}
use Rattle.ds_ast.specs.declared.ty.Ty.{Ty, Void, One, Struct, Array', more_of-Ty, end_of-Ty}
use Rattle.ds_ast.specs.declared.ty.Ty as ty
use Rattle.ds_ast.specs.declared.ty.Ty.TheBlock.{hidden-the_row-Ty-0}
use denote.Hole.Carrier.{hidden}
use Rattle.ds_ast.specs.declared.ty.Scalar.{Scalar}
use Rattle.ds_ast.specs.declared.ty.Scalar.TheVariants.{I1, I8, I16, I32, I64, Ptr}
use Rattle.ds_ast.specs.Bounds.{IsName, IsType, IsNamed, counts, innermost, is_name}
use Rattle.ds_grammar.specs.Sort.{no_value, a_number, a_ty, both_of, maybe}
use Rattle.ds_grammar.specs.Grammar.{Grammar, Done, Then, Marked, Loop}
use Rattle.ds_grammar.specs.Grammar as grammar
use Rattle.ds_grammar.specs.Rows.{fact, is_word}
use Rattle.ds_grammar.specs.Instructions.{scalar_word, if_none}
use Rattle.ds_grammar.specs.Types.{array_ends}
use Rattle.ds_grammar.specs.Globals.{type_begin, type_rest, next_type, types_more, types, struct_line, is_this}
use Rattle.ds_grammar.specs.Globals.{is_local, is_type_front, is_number, is_count, same_rest, same_type}
use Rattle.ds_print.specs.Names as print
use Rattle.ds_print.specs.Canonical.{type_pieces, more_listed, listed_behind_space}
use Rattle.ds_print_laws.proofs.Gets.{Known, Gets, never, gap, done, one, run_end, run_item, read_from, ◌⨾◌}
use Rattle.ds_print_laws.proofs.Alls.{all_first, all_rest}
use Rattle.ds_print_laws.proofs.Names.{name_is}
use Rattle.ds_print_laws.proofs.Types.{regroup, type_read, inside_read, front_read, end_read}
use Rattle.ds_print_laws.proofs.Lists.{read_as, behind_these}

-- A TYPE WRITTEN AGAIN

bytes_are : (xs : List ℕ) → bytes_eq xs xs ≡ true
bytes_are [] = refl
bytes_are (x ∷ xs) = rw (eq-eqb x x refl, bytes_are xs) refl

name_itself : (name : Name) → is_name name name ≡ true
name_itself (Number n) = eq-eqb n n refl
name_itself (Text bytes) = bytes_are bytes

-- a type begins with this token, and the rest of it is read
pub record IsFront (t : Ty) (ps : List Piece) : Type 0 where
  pub k : TokenKind
  pub bytes : List ℕ
  pub rest : List Piece
  pub whole : type_pieces t ++ ps ≡ Written k bytes ∷ rest
  pub is_front : is_type_front t k bytes ≡ true
  pub read : Gets (same_rest t) rest tt ps

scalar_front : (s : Scalar) → is_word (scalar_word s) kind.Word (print.scalar_word s) ≡ true
scalar_front I1 = refl
scalar_front I8 = refl
scalar_front I16 = refl
scalar_front I32 = refl
scalar_front I64 = refl
scalar_front Ptr = refl

module _ (known : Known) where
  name_front : (name : Name) → IsName name → is_local name kind.Local (37 ∷ print.name_text name) ≡ true
  name_front name h = ap (λ found. is_this found name) (name_is known name h) ∙ name_itself name

  count_again : (n : ℕ) (ps : List Piece) → n ≤ 2 ^ 31
      → Gets (grammar.One {a = no_value} (λ t. is_count n t.kind t.bytes)) (print.number n ∷ ps) tt ps
  count_again n ps le =
      let small : n < 2 ^ 64 = omega (arith, le) in
      one (λ at. ap (λ found. fact (is_number n found)) (known.decimals n small) ∙ ap fact (eq-eqb n n refl))

  front_of : (t : Ty) (ps : List Piece) → All (λ count. count ≤ 2 ^ 31) (counts t) → IsNamed (innermost t)
      → IsFront t ps
  front_of Void ps all named =
      record { k = kind.Word; bytes = codes "void"; rest = ps; whole = refl; is_front = refl; read = done tt ps }
  front_of (One s) ps all named = record {
    k = kind.Word;
    bytes = print.scalar_word s;
    rest = ps;
    whole = refl;
    is_front = scalar_front s;
    read = done tt ps;
  }
  front_of (Struct name) ps all named = record {
    k = kind.Local;
    bytes = 37 ∷ print.name_text name;
    rest = ps;
    whole =
        refl;
    is_front = name_front name named;
    read = done tt ps;
  }
  front_of (Array' n _ (more_of-Ty of end_of-Ty)) ps all named =
      let inner = front_of of (print.punct "]" ∷ ps) (all_rest (λ count. count ≤ 2 ^ 31) n (counts of) all) named in
      record {
        k = kind.Punct;
        bytes = codes "[";
        rest = _;
        whole = refl;
        is_front = refl;
        read = count_again n _ (all_first (λ count. count ≤ 2 ^ 31) n (counts of) all) ⨾ gap
            (one {v = tt} (λ at. refl) ⨾ gap (regroup (type_pieces of) (print.punct "]" ∷ []) ps
            (read_from _ _ inner.whole (one {v = tt} (λ at. ap fact inner.is_front) ⨾
            (inner.read ⨾ one (λ at. refl))))));
      }

  pub type_front : (t : Ty) (ps : List Piece) → IsType t → IsFront t ps
  type_front t ps h = front_of t ps h.elements h.name

  -- the whole type again
  pub same_type_read : (t : Ty) (ps : List Piece) → IsType t → Gets (same_type t) (type_pieces t ++ ps) tt ps
  same_type_read t ps h =
      let f = type_front t ps h in read_from _ _ f.whole (one {v = tt} (λ at. ap fact f.is_front) ⨾ f.read)

-- LISTS OF TYPES

-- a type begins with this token, by which the rest of it is read
record IsBegun (t : Ty) (ps : List Piece) : Type 0 where
  k : TokenKind
  bytes : List ℕ
  rest : List Piece
  begun : ℕ → Option Ty × ℕ
  whole : type_pieces t ++ ps ≡ Written k bytes ∷ rest
  begins : (at : ℕ) → type_begin k bytes at ≡ Some (begun at)
  read : (at : ℕ) → Gets (type_rest (begun at)) rest t ps

-- what a name begins, if it is one
abbrev begun_by : ℕ → Option Name → Option (Option Ty × ℕ)
begun_by at found = if_none None (option_map (λ t. (Some t, at)) (option_map (λ n. ty.Struct n) found))

scalar_begins : (s : Scalar) (at : ℕ) → type_begin kind.Word (print.scalar_word s) at ≡ Some (Some (ty.One s), at)
scalar_begins I1 at = refl
scalar_begins I8 at = refl
scalar_begins I16 at = refl
scalar_begins I32 at = refl
scalar_begins I64 at = refl
scalar_begins Ptr at = refl

module _ (known : Known) where
  type_begun : (t : Ty) (ps : List Piece) → IsType t → IsBegun t ps
  unfolding type_rest array_ends hidden-the_row-Ty-0 hidden
  type_begun Void ps h = record {
    k = kind.Word;
    bytes = codes "void";
    rest = ps;
    begun = λ at.
        (Some Void, at);
    whole = refl;
    begins = λ at. refl;
    read = λ at. done Void ps;
  }
  type_begun (One s) ps h = record {
    k = kind.Word;
    bytes = print.scalar_word s;
    rest = ps;
    begun = λ at.
        (Some (One s), at);
    whole = refl;
    begins = scalar_begins s;
    read = λ at. done (One s) ps;
  }
  type_begun (Struct name) ps h = record {
    k = kind.Local;
    bytes = 37 ∷ print.name_text name;
    rest = ps;
    begun = λ at. (Some (Struct name), at);
    whole = refl;
    begins = λ at. ap (begun_by at) (name_is known name h.name);
    read = λ at. done (Struct name) ps;
  }
  type_begun (Array' n _ (more_of-Ty of end_of-Ty)) ps h =
      let depth = h.depth in
      record {
        k = kind.Punct;
        bytes = codes "[";
        rest = _;
        begun = λ at. (None, at);
        whole = refl;
        begins = λ at. refl;
        read = λ at. front_read known 0 [] n at _ (omega arith)
            (all_first (λ count. count ≤ 2 ^ 31) n (counts of) h.elements) ⨾ gap
            (regroup (type_pieces of) (print.punct "]" ∷ []) ps
            (inside_read known (λ ns. true) (λ n ns. refl) of at (n ∷ []) (print.punct "]" ∷ ps) ps (ty.Array n of)
            (inl refl) (omega (arith, depth)) (all_rest (λ count. count ≤ 2 ^ 31) n (counts of) h.elements) h.name
            (end_read known n [] of ps ps (ty.Array n of) (run_end known (never ps) ⨾ done (ty.Array n of) ps))));
      }

  -- , T any number of times, behind a type
  more_types_read : (first : Ty) (acc ts : List Ty) (ps : List Piece) → All IsType ts
      → Gets (Loop (maybe (both_of (maybe a_ty) a_number)) (λ ts t. next_type ts t.kind t.bytes t.at) types_more
      (first ∷ acc)) (more_listed (map type_pieces ts) ++ print.space ∷ print.punct "}" ∷ ps) (first ∷ (acc ++ ts))
      (print.space ∷ print.punct "}" ∷ ps)
  more_types_read first acc [] ps h = read_as (first ∷ acc) (first ∷ (acc ++ []))
      (ap (λ xs. first ∷ xs) (sym (append-nil acc))) (run_end known (λ at. refl))
  more_types_read first acc (t ∷ ts) ps h =
      run_item known (λ at. None) (λ at. refl) (λ at. gap
      (regroup (type_pieces t) (more_listed (map type_pieces ts)) _
      (type_read known t _ (all_first IsType t ts h) ⨾ done ((first ∷ acc) ++ t ∷ []) _)))
      (read_as (first ∷ ((acc ++ t ∷ []) ++ ts)) (first ∷ (acc ++ t ∷ ts))
      (ap (λ xs. first ∷ xs) (behind_these t acc ts))
      (more_types_read first (acc ++ t ∷ []) ts ps (all_rest IsType t ts h)))

  -- T,* up to a }
  types_read : (ts : List Ty) (ps : List Piece) → All IsType ts
      → Gets types (listed_behind_space (map type_pieces ts) ++ print.space ∷ print.punct "}" ∷ ps) ts
      (print.space ∷ print.punct "}" ∷ ps)
  unfolding types
  types_read [] ps h = run_end known (λ at. refl)
  types_read (t ∷ ts) ps h =
      let b = type_begun t (more_listed (map type_pieces ts) ++ print.space ∷ print.punct "}" ∷ ps)
      (all_first IsType t ts h) in
      gap (regroup (type_pieces t) (more_listed (map type_pieces ts)) _ (read_from _ _ b.whole
      (run_item known (λ at. Some (b.begun at)) (λ at. ap (option_map (λ b. Some b)) (b.begins at))
      (λ at. b.read at ⨾ done (t ∷ []) _) (more_types_read t [] ts ps (all_rest IsType t ts h)))))

  -- = type { T,* }
  pub struct_read : (name : Name) (ts : List Ty) (ps : List Piece) → All IsType ts
      → Gets (struct_line name) (print.space ∷ print.punct "=" ∷ print.space ∷ print.word "type" ∷ print.space ∷
      print.punct "{" ∷ listed_behind_space (map type_pieces ts) ++ print.space ∷ print.punct "}" ∷ ps)
      (record { name = name; fields = ts }) ps
  unfolding struct_line
  struct_read name ts ps h = gap (one {v = tt} (λ at. refl) ⨾ gap
      (one {v = tt} (λ at. refl) ⨾ gap (one {v = tt} (λ at. refl) ⨾
      (types_read ts ps h ⨾ gap (one {v = tt} (λ at. refl) ⨾ done _ ps)))))
