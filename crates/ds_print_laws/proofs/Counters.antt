-- The counter of a function's names.
use Rattle.std.proofs.Common.{◌≡◌, ℕ, ◌<◌, ◌+◌, ◌^◌, true, List, ◌∷◌, refl, subst, arith, le-leb}
use Rattle.std.specs.Prelude.{}
use Rattle.ds_ast.specs.declared.name.Name.{Name}
use Rattle.ds_ast.specs.declared.name.Name.TheVariants.{Number, Text}
use Rattle.ds_ast.specs.Bounds.{IsName, IsCounted, numbers}
use Rattle.ds_grammar.specs.Functions.{written_mark, risen, counted}

-- a number below 2 ^ 32 raises the counter to the next
risen_is : (n : ℕ) → n < 2 ^ 32 → n + 1 ≡ risen n
risen_is n lt = omega (arith, lt)

-- a name that is counted is within its bound
pub name_within : (name : Name) (names : List Name) (c at : ℕ) → IsCounted c (numbers (name ∷ names))
    → (written_mark at name c).within ≡ true
name_within (Number n) names c at h = le-leb c n h.0
name_within (Text bytes) names c at h = refl

-- the names behind it are counted on
pub counted_on : (name : Name) (names : List Name) (c : ℕ) → IsName name → IsCounted c (numbers (name ∷ names))
    → IsCounted (counted name c) (numbers names)
counted_on (Number n) names c lt h = subst (λ m. IsCounted m (numbers names)) (risen_is n lt) h.1
counted_on (Text bytes) names c lt h = h
