-- The numbers of a function's names rise.
use Rattle.std.proofs.Common.{◌≡◌, ℕ, ◌<◌, ◌≤◌, ◌+◌, ◌^◌, true, List, [], ◌∷◌, ◌++◌, refl, sym, subst, arith}
use Rattle.ds_ast.specs.declared.name.Name.{Name}
use Rattle.ds_ast.specs.declared.name.Name.TheVariants.{Number, Text}
use Rattle.ds_ast.specs.Bounds.{IsName, IsCounted, numbers}
use Rattle.ds_grammar.specs.Functions.{written_mark, taken_mark, risen, counted, numbered}
use Rattle.ds_parse_laws.proofs.Leaves.{most_true, below_true}

-- the numbers among these names rise from the counter c, and d is the counter behind them
abbrev pub Rises : ℕ → List Name → ℕ → Type 0
Rises c [] d = c ≡ d
Rises c (Number n ∷ names) d = (c ≤ n) × Rises (n + 1) names d
Rises c (Text bytes ∷ names) d = Rises c names d

pub are_counted : (c : ℕ) (names : List Name) (d : ℕ) → Rises c names d → IsCounted c (numbers names)
are_counted c [] d h = tt
are_counted c (Number n ∷ names) d h = (h.0, are_counted (n + 1) names d h.1)
are_counted c (Text bytes ∷ names) d h = are_counted c names d h

pub rise_on : (c : ℕ) (xs ys : List Name) (d e : ℕ) → Rises c xs d → Rises d ys e → Rises c (xs ++ ys) e
rise_on c [] ys d e h k = subst (λ c. Rises c ys e) (sym h) k
rise_on c (Number n ∷ xs) ys d e h k = (h.0, rise_on (n + 1) xs ys d e h.1 k)
rise_on c (Text bytes ∷ xs) ys d e h k = rise_on c xs ys d e h k

-- a number below 2 ^ 32 raises the counter to the next
risen_is : (n : ℕ) → n < 2 ^ 32 → n + 1 ≡ risen n
risen_is n lt = omega (arith, lt)

-- a name that is written
pub written_rises : (name : Name) (c at : ℕ) → IsName name → (written_mark at name c).within ≡ true
    → Rises c (name ∷ []) (counted name c)
written_rises (Number n) c at lt w = (most_true c n w, risen_is n lt)
written_rises (Text bytes) c at h w = refl

-- a name that is a number which is taken
pub taken_rises : (c at : ℕ) → (taken_mark at c).within ≡ true → Rises c (numbered c ∷ []) (risen c)
taken_rises c at w = by (below_true c (2 ^ 32) w)
  where
    by : c < 2 ^ 32 → Rises c (numbered c ∷ []) (risen c)
    by lt = (omega (arith, lt), omega (arith, lt))

pub numbered_name : (c : ℕ) → IsName (numbered c)
numbered_name c = omega arith
