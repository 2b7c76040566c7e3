-- The places that two maps have for names: one for texts, and one for numbers.
use Rattle.std.specs.Prelude.{ℕ, List, map, Option}
use Rattle.std.specs.BTreeMap.{BTreeMap, get_by}
use Rattle.std.specs.Cmp.Lexicographic.{slice_cmp}
use Rattle.std.specs.Ordering.{nat_cmp}
use denote.Ref.{Bor}
use Rattle.ds_ast.specs.declared.name.Name.{Name}
use Rattle.ds_ast.specs.declared.name.Name.TheVariants.{Number, Text}

abbrev pub place_in : BTreeMap (Bor (List ℕ)) ℕ → BTreeMap ℕ ℕ → Name → Option ℕ
place_in texts numbers (Number n) = get_by (nat_cmp n) numbers
place_in texts numbers (Text bytes) = get_by (λ k. slice_cmp nat_cmp bytes k.now) texts

-- the names that are borrowed
abbrev pub nows : List (Bor Name) → List Name
nows names = map (λ (n : Bor Name). n.now) names
