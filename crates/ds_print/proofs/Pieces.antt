-- Texts that are written piece after piece.
use Rattle.std.proofs.Common.{◌≡◌, ℕ, ◌+◌, ◌<◌, List, [], ◌∷◌, ◌++◌, length, take, map, get_or, refl, append_assoc}
use Rattle.std.proofs.Common.{append-nil, ap, sym, ◌∙◌, arith}
use Rattle.std.proofs.lemmas.List.{take_more, map-append, length-map, length-take-le}
use Rattle.std.specs.List.{flat_map}
use Rattle.std.proofs.lemmas.Grind.{flat_map-append}
use Rattle.ds_lex.specs.Written.{Piece, piece_bytes, written}
use Rattle.ds_ast.specs.declared.module.Function.{Function}
use Rattle.ds_print.specs.Names.{space, punct, global}
use Rattle.ds_print.specs.Canonical.{listed, listed_behind_space, more_listed, type_pieces, head_pieces}
use Rattle.ds_print.specs.Separators.{comma_before, space_before}

-- pieces behind pieces
pub written_append : (ps qs : List Piece) → written (ps ++ qs) ≡ written ps ++ written qs
written_append [] qs = refl
written_append (p ∷ ps) qs = ap (λ (l : List ℕ). piece_bytes p ++ l) (written_append ps qs)
    ∙ sym (append_assoc (piece_bytes p) (written ps) (written qs))

-- a text to which pieces are added, and then more
pub then : (a b c : List ℕ) (ps qs : List Piece) → b ≡ a ++ written ps → c ≡ b ++ written qs
    → c ≡ a ++ written (ps ++ qs)
then a b c ps qs p q = q ∙ ap (λ (l : List ℕ). l ++ written qs) p ∙ append_assoc a (written ps) (written qs)
    ∙ ap (λ (l : List ℕ). a ++ l) (sym (written_append ps qs))

-- the parameters and a bracket behind what stands in front of them
pub with_params : (f : Function) (params : List (List Piece)) (a b c : List ℕ)
    → b ≡ a ++ written (space ∷ type_pieces f.result ++ space ∷ global f.name ∷ punct "(" ∷ [])
    → c ≡ b ++ written (listed params ++ punct ")" ∷ []) → c ≡ a ++ written (head_pieces f params)
with_params f params a b c p q =
    let front : List Piece = space ∷ global f.name ∷ punct "(" ∷ [] in
    let close : List Piece = punct ")" ∷ [] in
    then a b c (space ∷ type_pieces f.result ++ front) (listed params ++ close) p q
    ∙ ap (λ (l : List Piece). a ++ written (space ∷ l))
    (append_assoc (type_pieces f.result) front (listed params ++ close)
    ∙ sym (append_assoc (type_pieces f.result) (front ++ listed params) close))

-- one item more at the end of a list
listed-more : (xs : List (List Piece)) (x : List Piece)
    → listed (xs ++ x ∷ []) ≡ listed xs ++ (comma_before (length xs) ++ x)
listed-more [] x = append-nil x
listed-more (y ∷ ys) x =
    ap (λ (l : List Piece). y ++ l) (flat_map-append (λ (item : List Piece). punct "," ∷ space ∷ item) ys (x ∷ [])
    ∙ ap (λ (l : List Piece). more_listed ys ++ punct "," ∷ space ∷ l) (append-nil x))
    ∙ sym (append_assoc y (more_listed ys) (punct "," ∷ space ∷ x))

spaced-more : (xs : List (List Piece)) (x : List Piece)
    → listed_behind_space (xs ++ x ∷ []) ≡ listed_behind_space xs ++ (space_before (length xs) ++ x)
spaced-more [] x = ap (λ (l : List Piece). space ∷ l) (append-nil x)
spaced-more (y ∷ ys) x =
    ap (λ (l : List Piece). space ∷ l) (listed-more (y ∷ ys) x)

module _ (old before between after : List ℕ) (xs ys : List (List Piece)) (x : List Piece) (i : ℕ)
    (more : ys ≡ xs ++ x ∷ []) (count : length xs ≡ i) where
  -- one item more at the end of a text
  pub listed_step : before ≡ old ++ written (listed xs) → between ≡ before ++ written (comma_before i)
      → after ≡ between ++ written x → after ≡ old ++ written (listed ys)
  listed_step p q r =
      then old before after (listed xs) (comma_before i ++ x) p (then before between after (comma_before i) x q r)
      ∙ ap (λ (l : List Piece). old ++ written l) (ap (λ (n : ℕ). listed xs ++ (comma_before n ++ x)) (sym count)
      ∙ sym (listed-more xs x) ∙ ap listed (sym more))

  pub spaced_step : before ≡ old ++ written (listed_behind_space xs) → between ≡ before ++ written (space_before i)
      → after ≡ between ++ written x → after ≡ old ++ written (listed_behind_space ys)
  spaced_step p q r =
      then old before after (listed_behind_space xs) (space_before i ++ x) p
      (then before between after (space_before i) x q r)
      ∙ ap (λ (l : List Piece). old ++ written l) (ap (λ (n : ℕ). listed_behind_space xs ++ (space_before n ++ x))
      (sym count) ∙ sym (spaced-more xs x) ∙ ap listed_behind_space (sym more))

module _ {A : Type 0} (f : A → List Piece) (xs : List A) (i : ℕ) (x : A) (inside : i < length xs)
    (is : x ≡ get_or xs i x) where
  -- one item more of a list is gone through
  take-item : take (i + 1) xs ≡ take i xs ++ x ∷ []
  take-item = take_more xs i x inside ∙ ap (λ (y : A). take i xs ++ y ∷ []) (sym is)

  flat_more : flat_map f (take (i + 1) xs) ≡ flat_map f (take i xs) ++ f x
  flat_more = ap (flat_map f) (take-item) ∙ flat_map-append f (take i xs) (x ∷ [])
      ∙ ap (λ (l : List Piece). flat_map f (take i xs) ++ l) (append-nil (f x))

  map_more : map f (take (i + 1) xs) ≡ map f (take i xs) ++ f x ∷ []
  map_more = ap (map f) (take-item) ∙ map-append f (take i xs) (x ∷ [])

  map_count : length (map f (take i xs)) ≡ i
  map_count = length-map (take i xs) f ∙ length-take-le i xs (omega (arith, inside))

  pub flat_step : (old before after : List ℕ) → before ≡ old ++ written (flat_map f (take i xs))
      → after ≡ before ++ written (f x) → after ≡ old ++ written (flat_map f (take (i + 1) xs))
  flat_step old before after p q = then old before after (flat_map f (take i xs)) (f x) p q
      ∙ ap (λ (l : List Piece). old ++ written l) (sym flat_more)

  pub listed_item : (old before between after : List ℕ) → before ≡ old ++ written (listed (map f (take i xs)))
      → between ≡ before ++ written (comma_before i) → after ≡ between ++ written (f x)
      → after ≡ old ++ written (listed (map f (take (i + 1) xs)))
  listed_item old before between after p q r = listed_step old before between after (map f (take i xs))
      (map f (take (i + 1) xs)) (f x) i map_more map_count p q r

  pub spaced_item : (old before between after : List ℕ)
      → before ≡ old ++ written (listed_behind_space (map f (take i xs)))
      → between ≡ before ++ written (space_before i)
      → after ≡ between ++ written (f x) → after ≡ old ++ written (listed_behind_space (map f (take (i + 1) xs)))
  spaced_item old before between after p q r = spaced_step old before between after (map f (take i xs))
      (map f (take (i + 1) xs)) (f x) i map_more map_count p q r

  pub more_item : (old before between after : List ℕ) → before ≡ old ++ written (more_listed (map f (take i xs)))
      → between ≡ before ++ written (punct "," ∷ space ∷ []) → after ≡ between ++ written (f x)
      → after ≡ old ++ written (more_listed (map f (take (i + 1) xs)))
  more_item old before between after p q r =
      let front : List Piece = punct "," ∷ space ∷ [] in
      then old before after (more_listed (map f (take i xs))) (front ++ f x) p
      (then before between after front (f x) q r)
      ∙ ap (λ (l : List Piece). old ++ written l)
      (ap (λ (l : List Piece). more_listed (map f (take i xs)) ++ l) (sym (append-nil (front ++ f x)))
      ∙ sym (flat_map-append (λ (item : List Piece). punct "," ∷ space ∷ item) (map f (take i xs)) (f x ∷ []))
      ∙ ap more_listed (sym map_more))
