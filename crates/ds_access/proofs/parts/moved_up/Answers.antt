use Rattle.std.proofs.Common.{ℕ, ◌*◌, ◌%◌, ◌^◌, ◌<◌, sym, subst}
use Rattle.ds_access.proofs.Bits.{moved_fits}
use Rattle.ds_access.proofs.parts.moved_up.Goals as goal

pub overflow_cast-result-2 : goal.overflow_cast-result-2
overflow_cast-result-2 c =
    let lt : c.from.result * 2 ^ c.args.shift % 2 ^ 128 < 2 ^ 64 =
    subst (λ (n : ℕ). n * 2 ^ c.args.shift % 2 ^ 128 < 2 ^ 64) (sym c.from.ensures)
    (moved_fits c.args.shift c.args.bits c.args.value c.requires.inside c.requires.small) in
    record { fits = lt }
