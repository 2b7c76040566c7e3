use Rattle.std.proofs.Common.{◌≡◌, ℕ, ◌+◌, ◌-◌, ◌*◌, ◌^◌, ◌<◌, ap, sym, subst, ◌∙◌}
use Rattle.ds_plain.specs.Parts.{bits_from}
use Rattle.ds_access.proofs.Bits.{fits}
use Rattle.ds_access.proofs.parts.with_bits.Goals as goal

pub overflow_add-result : goal.overflow_add-result
overflow_add-result c =
    let shift = c.args.shift in
    let bits = c.args.bits in
    let word = c.args.word in
    let was : c.moved_up.result ≡ bits_from shift bits word * 2 ^ shift =
    c.moved_up.ensures ∙ ap (λ (n : ℕ). n * 2 ^ shift) c.bits_from-part.ensures in
    let lt : word - c.moved_up.result + c.moved_up-2.result < 2 ^ 64 =
    subst (λ (n : ℕ). word - n + c.moved_up-2.result < 2 ^ 64) (sym was)
    (subst (λ (n : ℕ). word - bits_from shift bits word * 2 ^ shift + n < 2 ^ 64) (sym c.moved_up-2.ensures)
    (fits shift bits word c.lowest-put.result c.requires c.ranges.word.fits c.lowest-put.ensures.below)) in
    record { fits = lt }
