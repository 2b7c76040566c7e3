-- Names in a row: which stand there, where, and which stands there a second time.
use Rattle.std.specs.Prelude.{◌≡◌, ℕ, suc, ◌⊎◌, List, [], ◌∷◌, ◌++◌, Option, Some, None, option_map, if◌then◌else◌}
use Rattle.ds_ast.specs.declared.name.Name.{Name}
use Rattle.ds_ast.specs.Bounds.{is_name}

-- the name stands among these
abbrev pub Among : Name → List Name → Type 0
Among name [] = ⊥
Among name (n ∷ names) = (n ≡ name) ⊎ Among name names

-- each name stands there once
abbrev pub AreDistinct : List Name → Type 0
AreDistinct [] = Unit {0}
AreDistinct (n ∷ names) = (Among n names → ⊥) × AreDistinct names

-- the name stands there a second time, and none does before it
pub record IsFirstTwice (names : List Name) (name : Name) : Type 0 where
  pub before : List Name
  pub after : List Name
  pub split : names ≡ before ++ name ∷ after
  pub first_time : Among name before
  pub none_before : AreDistinct before

-- the place at which the name stands first, from 0 on
abbrev pub place_of : List Name → Name → Option ℕ
place_of [] name = None
place_of (n ∷ names) name = if is_name n name then Some 0 else option_map suc (place_of names name)
