-- Helpers of the code, which no public clause cites: the values that the arms of a phi give to the blocks before it.
use Rattle.std.specs.Prelude.{◌≡◌, ℕ, Bool, true, false, List, [], ◌∷◌, ◌++◌, Option, Some, None, Contains, IsSome}
use Rattle.std.specs.Ordering.{nat_cmp}
use Rattle.std.specs.BTreeMap.{BTreeMap, get}
use denote.Ref.{Bor}
use Rattle.ds_ast.specs.declared.name.Name.{Name}
use Rattle.ds_ast.specs.declared.value.Value.{Value}
use Rattle.ds_ast.specs.declared.operand.Arm.{Arm}
use Rattle.ds_ast.specs.declared.module.Function.{Function}
use Rattle.ds_shape.specs.Types.{Stands}
use Rattle.ds_check_names.specs.Scope.{Means}
use Rattle.ds_check_names.specs.declared.meaning.Meaning.TheVariants.{Label}

-- a value for each number of a block
abbrev pub Values : Type 0
Values = BTreeMap ℕ (Bor Value)

-- the block of this number has this value
abbrev pub HasValue : Values → ℕ → Value → Type 0
HasValue values k x = (v : Bor Value) × (get nat_cmp values k ≡ Some v) × (v.now ≡ x)

-- the label is that of the block of this number and of no other
abbrev pub IsNumber : Function → Name → ℕ → Type 0
IsNumber f label k = Means f label (Label k) × ((j : ℕ) → Means f label (Label j) → j ≡ k)

-- the label of each arm is that of one of these blocks, and each label has one value
pub record AreArmsFor (f : Function) (row : List ℕ) (arms : List Arm) : Type 0 where
  pub known : (a : Arm) → Stands a arms → (k : ℕ) × Means f a.from (Label k) × Contains row k
  pub one_value : (a b : Arm) → Stands a arms → Stands b arms → a.from ≡ b.from → a.value ≡ b.value

-- the values are those of the arms
pub record Agrees (f : Function) (row : List ℕ) (arms : List Arm) (values : Values) : Type 0 where
  pub arm : (a : Arm) → Stands a arms → (k : ℕ) × IsNumber f a.from k × Contains row k × HasValue values k a.value
  pub value : (k : ℕ) (x : Value) → HasValue values k x → (a : Arm) × Stands a arms × Means f a.from (Label k)
      × (a.value ≡ x)

-- one arm more was kept; where it was not, no arms that go on so fit
abbrev pub Keeps : Function → List ℕ → Arm → Values → Values → Bool → Type 0
Keeps f row arm old new true = (arms : List Arm) → Agrees f row arms old → Agrees f row (arms ++ arm ∷ []) new
Keeps f row arm old new false =
    (arms rest : List Arm) → Agrees f row arms old → AreArmsFor f row (arms ++ arm ∷ rest) → ⊥

-- the values of all arms were found; where they were not, the arms do not fit
abbrev pub AreKept : Function → List ℕ → List Arm → Option Values → Type 0
AreKept f row arms (Some values) = Agrees f row arms values
AreKept f row arms None = AreArmsFor f row arms → ⊥

-- each of the blocks has a value
abbrev pub HasEach : Values → List ℕ → Type 0
HasEach values row = (k : ℕ) → Contains row k → IsSome (get nat_cmp values k)
