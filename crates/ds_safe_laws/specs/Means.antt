-- When a thread has a meaning all along: no instruction that begins is without one.
use Rattle.std.specs.Prelude.{ℕ, zero, suc, List, [], ◌∷◌}
use Rattle.ds_plain.specs.Behaviour.{Outcome, Goes, Wants, Stops, Stuck, tell}

-- what comes has a meaning, and so has what follows before anything is asked
abbrev pub MeansBy : {S : Type 0} → (S → Type 0) → Outcome S → Type 0
MeansBy go (Goes s) = go s
MeansBy go (Wants place request answered) = Unit {0}
MeansBy go (Stops place stop) = Unit {0}
MeansBy go Stuck = ⊥

-- whatever begins before the next request has a meaning, if at most n instructions begin
abbrev pub MeansNext : {S : Type 0} → (S → Outcome S) → ℕ → S → Type 0
MeansNext step zero s = Unit {0}
MeansNext step (suc n) s = MeansBy (MeansNext step n) (step s)

-- the same up to the request behind these answers
abbrev pub Means : {S : Type 0} → (S → Outcome S) → ℕ → S → List ℕ → Type 0
Means step n s [] = MeansNext step n s
Means step n s (answer ∷ answers) = MeansNext step n s × Means step n (tell step n s answer) answers
