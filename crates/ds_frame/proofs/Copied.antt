-- The values that copies take are as many as there are copies.
use Rattle.std.proofs.Common.{◌≡◌, ℕ, ◌+◌, List, [], ◌∷◌, length, take, slice_set, refl}
use Rattle.ds_code.specs.declared.sources.Copying.{Copying}
use Rattle.ds_code.specs.Machine.{all_written}

-- values behind those for the copies are not written
pub written_front : (base : ℕ) (copies : List Copying) (values cells : List ℕ)
    → all_written base copies (take (length copies) values) cells ≡ all_written base copies values cells
written_front base [] values cells = refl
written_front base (c ∷ cs) [] cells = refl
written_front base (c ∷ cs) (v ∷ vs) cells = written_front base cs vs (slice_set cells (base + c.to) v)
