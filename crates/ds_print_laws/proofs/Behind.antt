-- Pieces that are apart, put one in front of the other: what a token ends before matters only by its first byte.
use Rattle.std.proofs.Common.{List, [], ◌∷◌, ◌++◌, map, refl, sym, subst, append_assoc}
use Rattle.std.specs.Prelude.{All, IsTrue, flat_map}
use Rattle.ds_lex.specs.Bytes.{class_of}
use Rattle.ds_lex.specs.Written.{Piece, written, ends_tokens, AreApart}
use Rattle.ds_print.specs.Names.{space, line_end, indent, punct}
use Rattle.ds_print.specs.Canonical.{more_listed, listed, listed_behind_space}
use Rattle.ds_print_laws.proofs.Alls.{all_first, all_rest}

pub record Apart (ps : List Piece) : Type 0 where
  pub are : AreApart ps

-- these pieces may stand behind any token: they begin with a blank, a bracket or the like, or with nothing
pub record Behind (ps : List Piece) : Type 0 where
  pub ends : IsTrue (ends_tokens (written ps))
  pub are : AreApart ps

-- the piece may stand before those
pub record IsPiece (p : Piece) : Type 0 where
  pub before : (ps : List Piece) → Behind ps → Apart (p ∷ ps)

-- so may these pieces in a row
pub record ArePieces (qs : List Piece) : Type 0 where
  pub before : (ps : List Piece) → Behind ps → Apart (qs ++ ps)

pub apart : {ps : List Piece} → Behind ps → Apart ps
apart h = record { are = h.are }

pub nothing : Behind []
nothing = record { ends = refl; are = tt }

pub put : {p : Piece} {ps : List Piece} → IsPiece p → Behind ps → Apart (p ∷ ps)
put {ps = ps} h k = h.before ps k

pub put_all : {ps : List Piece} (qs : List Piece) → ArePieces qs → Behind ps → Apart (qs ++ ps)
put_all {ps = ps} qs h k = h.before ps k

pub only : {p : Piece} → IsPiece p → ArePieces (p ∷ [])
only h = record { before = λ ps k. h.before ps k }

-- pieces in two groups are pieces in a row
pub in_a_row : (xs ys zs : List Piece) → Apart (xs ++ (ys ++ zs)) → Apart ((xs ++ ys) ++ zs)
in_a_row xs ys zs h = subst Apart (sym (append_assoc xs ys zs)) h

pub in_a_row_behind : (xs ys zs : List Piece) → Behind (xs ++ (ys ++ zs)) → Behind ((xs ++ ys) ++ zs)
in_a_row_behind xs ys zs h = subst Behind (sym (append_assoc xs ys zs)) h

-- BLANKS AND MARKS

pub blank : {ps : List Piece} → Apart ps → Behind (space ∷ ps)
blank h = record { ends = refl; are = (refl, h.are) }

pub ended : {ps : List Piece} → Apart ps → Behind (line_end ∷ ps)
ended h = record { ends = refl; are = (refl, h.are) }

pub indented : {ps : List Piece} → Apart ps → Behind (indent ∷ ps)
indented h = record { ends = refl; are = (refl, h.are) }

pub comma : {ps : List Piece} → Apart ps → Behind (punct "," ∷ ps)
unfolding class_of
comma h = record { ends = refl; are = ((refl, refl), tt, tt, h.are) }

pub equals : {ps : List Piece} → Apart ps → Behind (punct "=" ∷ ps)
unfolding class_of
equals h = record { ends = refl; are = ((refl, refl), tt, tt, h.are) }

pub opening : {ps : List Piece} → Apart ps → Behind (punct "(" ∷ ps)
unfolding class_of
opening h = record { ends = refl; are = ((refl, refl), tt, tt, h.are) }

pub closing : {ps : List Piece} → Apart ps → Behind (punct ")" ∷ ps)
unfolding class_of
closing h = record { ends = refl; are = ((refl, refl), tt, tt, h.are) }

pub opening_square : {ps : List Piece} → Apart ps → Behind (punct "[" ∷ ps)
unfolding class_of
opening_square h = record { ends = refl; are = ((refl, refl), tt, tt, h.are) }

pub closing_square : {ps : List Piece} → Apart ps → Behind (punct "]" ∷ ps)
unfolding class_of
closing_square h = record { ends = refl; are = ((refl, refl), tt, tt, h.are) }

pub opening_curly : {ps : List Piece} → Apart ps → Behind (punct "{" ∷ ps)
unfolding class_of
opening_curly h = record { ends = refl; are = ((refl, refl), tt, tt, h.are) }

pub closing_curly : {ps : List Piece} → Apart ps → Behind (punct "}" ∷ ps)
unfolding class_of
closing_curly h = record { ends = refl; are = ((refl, refl), tt, tt, h.are) }

-- a comma and a space
pub comma_blank : {ps : List Piece} → Apart ps → Behind (punct "," ∷ space ∷ ps)
comma_blank h = comma (apart (blank h))

-- LISTS

module _ {A : Type 0} (f : A → List Piece) (P : A → Type 0) (each : (x : A) → P x → ArePieces (f x)) where
  -- each behind a comma and a space
  pub more_apart : {ps : List Piece} (xs : List A) → All P xs → Behind ps → Behind (more_listed (map f xs) ++ ps)
  more_apart [] h k = k
  more_apart (x ∷ xs) h k =
      comma_blank (in_a_row (f x) (more_listed (map f xs)) _
      (put_all (f x) (each x (all_first P x xs h)) (more_apart xs (all_rest P x xs h) k)))

  -- with commas between them
  pub listed_apart : {ps : List Piece} (xs : List A) → All P xs → Behind ps → Apart (listed (map f xs) ++ ps)
  listed_apart [] h k = apart k
  listed_apart (x ∷ xs) h k =
      in_a_row (f x) (more_listed (map f xs)) _ (put_all (f x) (each x (all_first P x xs h))
      (more_apart xs (all_rest P x xs h) k))

  -- the same behind a space
  pub listed_behind_space_apart : {ps : List Piece} (xs : List A) → All P xs → Behind ps
      → Behind (listed_behind_space (map f xs) ++ ps)
  listed_behind_space_apart [] h k = k
  listed_behind_space_apart (x ∷ xs) h k =
      blank (in_a_row (f x) (more_listed (map f xs)) _
      (put_all (f x) (each x (all_first P x xs h)) (more_apart xs (all_rest P x xs h) k)))

-- pieces that end in a blank or a mark, one list behind the other
module _ {A : Type 0} (f : A → List Piece) (P : A → Type 0)
    (each : (x : A) (ps : List Piece) → P x → Apart ps → Apart (f x ++ ps)) where
  pub rows_apart : {ps : List Piece} (xs : List A) → All P xs → Apart ps → Apart (flat_map f xs ++ ps)
  rows_apart [] h k = k
  rows_apart (x ∷ xs) h k =
      in_a_row (f x) (flat_map f xs) _ (each x _ (all_first P x xs h) (rows_apart xs (all_rest P x xs h) k))
