-- Types are read back.
use Rattle.std.proofs.Common.{◌≡◌, ℕ, ◌<◌, ◌≤◌, ◌+◌, ◌%◌, ◌^◌, Bool, true, false, not, leb, List, [], ◌∷◌, ◌++◌}
use Rattle.std.proofs.Common.{length, refl, sym, ap, subst, arith, append_assoc, inl, inr, ◌⊎◌, lt-ltb, le-ltb}
use Rattle.std.proofs.Common.{le-leb, mod-eq_of_lt}
use Rattle.std.specs.Prelude.{All, Some, None, option_map, codes}
use Rattle.ds_lex.specs.Written.{Piece, Written}
use Rattle.ds_lex.specs.declared.token.TokenKind.TheVariants as kind
use Rattle.ds_ast.specs.declared.ty.Ty.{Ty, Void, One, Struct, Array', more_of-Ty, end_of-Ty}
use Rattle.ds_ast.specs.declared.ty.Ty as ty
use Rattle.ds_ast.specs.declared.ty.Ty.TheBlock.{hidden-the_row-Ty-0}
use denote.Hole.Carrier.{hidden}
use Rattle.ds_ast.specs.declared.ty.Scalar.{Scalar}
use Rattle.ds_ast.specs.declared.ty.Scalar.TheVariants.{I1, I8, I16, I32, I64, Ptr}
use Rattle.ds_ast.specs.Bounds.{IsType, IsNamed, counts, innermost, has_values}
use Rattle.ds_grammar.specs.Sort.{Sort, TypeOf, a_ty}
use Rattle.ds_grammar.specs.Grammar.{Grammar, Then}
use Rattle.ds_grammar.specs.Grammar as grammar
use Rattle.ds_grammar.specs.Tokens.{range_mark}
use Rattle.ds_grammar.specs.Types.{Arrays, Closing, array_place, array_front, array_count, arrays_from, base_type}
use Rattle.ds_grammar.specs.Types.{array_ends, all_arrays_closed, closed_type, is_flat, type_of, type_place}
use Rattle.ds_print.specs.Names as print
use Rattle.ds_print.specs.Canonical.{type_pieces}
use Rattle.ds_print_laws.proofs.Gets.{Known, Gets, never, gap, done, one, one_at, marked, run_end, run_item_at, ◌⨾◌}
use Rattle.ds_print_laws.proofs.Alls.{all_first, all_rest}
use Rattle.ds_print_laws.proofs.Names.{name_is}
use Rattle.ds_print_laws.proofs.Values.{done_as}
use Rattle.ds_print_laws.proofs.Numbers.{}

-- pieces in two groups are pieces in a row
pub regroup : {a : Sort} {g : Grammar a} {v : TypeOf a} {rs : List Piece} (xs ys zs : List Piece)
    → Gets g (xs ++ (ys ++ zs)) v rs → Gets g ((xs ++ ys) ++ zs) v rs
regroup {g = g} {v = v} {rs = rs} xs ys zs h = subst (λ ps. Gets g ps v rs) (sym (append_assoc xs ys zs)) h

-- the ends of these arrays around a type
abbrev pub closing : Closing → Grammar a_ty
closing c = Then (array_ends false c) all_arrays_closed

-- a type inside these arrays
abbrev pub inside : (List ℕ → Bool) → Arrays → Grammar a_ty
inside may opened = Then (arrays_from [] opened)
    (λ o. Then (grammar.One {a = a_ty} (λ t. base_type (may o.1) t.kind t.bytes)) (λ b. closed_type o b))

-- arrays that are not too many are built
closed_by_depth : (place : ℕ) (ns : List ℕ) (t : Ty) (ps rs : List Piece) (w : Ty) → length ns ≤ 32
    → Gets (closing (ns, t)) ps w rs → Gets (closed_type (place, ns) t) ps w rs
unfolding closed_type
closed_by_depth place ns t ps rs w le h =
    subst (λ b. Gets (Then (array_ends b (ns, t)) all_arrays_closed) ps w rs) (sym (le-ltb 32 (length ns) le)) h

scalar_is_base : (s : Scalar) (m : Bool) → base_type m kind.Word (print.scalar_word s) ≡ Some (ty.One s)
scalar_is_base I1 m = refl
scalar_is_base I8 m = refl
scalar_is_base I16 m = refl
scalar_is_base I32 m = refl
scalar_is_base I64 m = refl
scalar_is_base Ptr m = refl

-- the count of an array
count_read : (known : Known) (n : ℕ) (ps : List Piece) → n ≤ 2 ^ 31 → Gets array_count (print.number n ∷ ps) n ps
unfolding array_count
count_read known n ps le =
    let small : n < 2 ^ 64 = omega (arith, le) in
    let within : n < 2 ^ 32 = omega (arith, le) in
    one_at (λ at. (n % 2 ^ 32, range_mark at (leb n (2 ^ 31))))
    (λ at. ap (option_map (λ n. (n % 2 ^ 32, range_mark at (leb n (2 ^ 31))))) (known.decimals n small))
    (λ at. marked (le-leb n (2 ^ 31) le) (done_as (n % 2 ^ 32) n ps (mod-eq_of_lt within)))

-- [ N x
pub front_read : (known : Known) (place : ℕ) (ns : List ℕ) (n at : ℕ) (ps : List Piece) → length ns < 32 → n ≤ 2 ^ 31
    → Gets (array_front (place, ns) at) (print.number n ∷ print.space ∷ print.word "x" ∷ print.space ∷ ps)
    (type_place (place, ns) at, n ∷ ns) (print.space ∷ ps)
unfolding array_front
front_read known place ns n at ps lt le =
    marked (lt-ltb (length ns) 32 lt) (count_read known n (print.space ∷ print.word "x" ∷ print.space ∷ ps) le ⨾ gap
    (one {v = tt} (λ at. refl) ⨾ done (type_place (place, ns) at, n ∷ ns) (print.space ∷ ps)))

-- a ] behind the type of the elements
pub end_read : (known : Known) (n : ℕ) (ns : List ℕ) (of : Ty) (ps rs : List Piece) (w : Ty)
    → Gets (closing (ns, ty.Array n of)) ps w rs → Gets (closing (n ∷ ns, of)) (print.punct "]" ∷ ps) w rs
unfolding array_ends
end_read known n ns of ps rs w h =
    run_item_at known (λ at. tt) (λ at. (ns, ty.Array n of)) (λ at. refl) (λ at. done (ns, ty.Array n of) ps) (λ at. h)

module _ (known : Known) (may : List ℕ → Bool) (nested : (n : ℕ) (ns : List ℕ) → may (n ∷ ns) ≡ true) where
  -- a type that is no array
  base_read : (t : Ty) (place : ℕ) (ns : List ℕ) (k : _) (bytes : List ℕ) (ps rs : List Piece) (w : Ty)
      → length ns ≤ 32 → ((at : ℕ) → array_place k bytes at ≡ None)
      → base_type (may ns) k bytes ≡ Some t → Gets (closing (ns, t)) ps w rs
      → Gets (inside may (place, ns)) (Written k bytes ∷ ps) w rs
  unfolding arrays_from
  base_read t place ns k bytes ps rs w le no_array is h =
      run_end known (λ at. no_array at) ⨾ (one (λ at. is) ⨾ closed_by_depth place ns t ps rs w le h)

  void_is_base : (ns : List ℕ) → (may ns ≡ true) ⊎ (has_values Void ≡ true)
      → base_type (may ns) kind.Word (codes "void") ≡ Some ty.Void
  void_is_base ns (inl e) = rw e refl
  void_is_base ns (inr h) = cc

  pub inside_read : (t : Ty) (place : ℕ) (ns : List ℕ) (ps rs : List Piece) (w : Ty) → (may ns ≡ true)
      ⊎ (has_values t ≡ true) → length ns + length (counts t) ≤ 32
      → All (λ count. count ≤ 2 ^ 31) (counts t) → IsNamed (innermost t) → Gets (closing (ns, t)) ps w rs
      → Gets (inside may (place, ns)) (type_pieces t ++ ps) w rs
  unfolding arrays_from hidden-the_row-Ty-0 hidden
  inside_read Void place ns ps rs w allowed depth all named h = base_read Void place ns kind.Word
      (codes "void") ps rs w (omega (arith, depth)) (λ at. refl) (void_is_base ns allowed) h
  inside_read (One s) place ns ps rs w allowed depth all named h = base_read (One s) place ns kind.Word
      (print.scalar_word s) ps rs w (omega (arith, depth)) (λ at. refl) (scalar_is_base s (may ns)) h
  inside_read (Struct name) place ns ps rs w allowed depth all named h = base_read
      (Struct name) place ns kind.Local _ ps rs w (omega (arith, depth)) (λ at. refl)
      (ap (option_map (λ n. ty.Struct n)) (name_is known name named)) h
  inside_read (Array' n _ (more_of-Ty of end_of-Ty)) place ns ps rs w allowed depth all named h =
      run_item_at known (λ at. at) (λ at. (type_place (place, ns) at, n ∷ ns)) (λ at. refl)
      (λ at. front_read known place ns n at ((type_pieces of ++ print.punct "]" ∷ []) ++ ps) (omega (arith, depth))
      (all_first (λ count. count ≤ 2 ^ 31) n (counts of) all))
      (λ at. gap (regroup (type_pieces of) (print.punct "]" ∷ []) ps
      (inside_read of (type_place (place, ns) at) (n ∷ ns) (print.punct "]" ∷ ps) rs w (inl (nested n ns))
      (omega (arith, depth)) (all_rest (λ count. count ≤ 2 ^ 31) n (counts of) all) named
      (end_read known n ns of ps rs w h))))

  -- a whole type
  pub whole_read : (t : Ty) (ps : List Piece) → (may [] ≡ true) ⊎ (has_values t ≡ true) → IsType t
      → Gets (inside may (0, [])) (type_pieces t ++ ps) t ps
  unfolding array_ends
  whole_read t ps allowed h =
      let depth = h.depth in inside_read t 0 [] ps ps t allowed (omega (arith, depth)) h.elements h.name
      (run_end known (never ps) ⨾ done t ps)

module _ (known : Known) where
  -- a type, where void may stand
  pub type_read : (t : Ty) (ps : List Piece) → IsType t → Gets (type_of true []) (type_pieces t ++ ps) t ps
  unfolding type_of
  type_read t ps h = whole_read known (λ ns. true) (λ n ns. refl) t ps (inl refl) h

  -- a type, where void may not stand
  pub type_with_values_read : (t : Ty) (ps : List Piece) → has_values t ≡ true → IsType t
      → Gets (type_of false []) (type_pieces t ++ ps) t ps
  unfolding type_of
  type_with_values_read t ps e h = whole_read known (λ ns. not (is_flat ns)) (λ n ns. refl) t ps (inr e) h

  -- void inside no array
  pub void_closed : (ps : List Piece) → Gets (closed_type (0, []) Void) ps Void ps
  unfolding closed_type array_ends
  void_closed ps = run_end known (never ps) ⨾ done Void ps
