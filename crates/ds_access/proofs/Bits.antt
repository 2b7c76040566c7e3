-- A value in place of some bits of a word stays a word.
use Rattle.std.proofs.Common.{◌≡◌, ℕ, ◌+◌, ◌-◌, ◌*◌, ◌/◌, ◌%◌, ◌^◌, ◌<◌, ◌≤◌, sym, ap, subst, ◌∙◌, arith, pow_mono}
use Rattle.std.proofs.Math.Nat.{mod-le}
use Rattle.std.proofs.lemmas.Nat.{pow_pos, pow-add, shr_split, mod-pow-add, mod_below, mod_low, mul-add-lt, row_fits}
use Rattle.std.proofs.lemmas.Nat.{shl_below, shr_below}
use Rattle.ds_map.specs.Bounds.{Bounds}
use Rattle.ds_plain.specs.declared.AccessAt.{AccessAt}
use Rattle.ds_plain.specs.declared.AccessAt.TheVariants.{LoadWord, StoreWord, CombineWord, ReplaceWord}
use Rattle.ds_plain.specs.declared.AccessAt.TheVariants.{LoadPart, SwapPart}
use Rattle.ds_plain.specs.Parts.{bits_from}
use Rattle.ds_plain.specs.Accessing.{IsAccessAt}
use Rattle.ds_access.specs.Walks.{IsInWord}

-- a position that is reached changes a part within its word
pub in_word : (lim : Bounds) (at : AccessAt) → IsAccessAt lim at → IsInWord at
in_word lim (LoadWord loc) h = tt
in_word lim (StoreWord loc value) h = tt
in_word lim (CombineWord loc op value) h = tt
in_word lim (ReplaceWord loc expected new) h = tt
in_word lim (LoadPart access change) h = h.inside
in_word lim (SwapPart access change seen) h = h.inside

-- the lowest bits of a word are those of its lowest 64
pub cut : (n bits : ℕ) → bits ≤ 64 → n % 2 ^ 64 % 2 ^ bits ≡ n % 2 ^ bits
cut n bits le =
    let all : 64 - bits + bits ≡ 64 = omega (arith, le) in
    ap (λ (k : ℕ). n % 2 ^ k % 2 ^ bits) (sym all)
    ∙ (ap (λ (m : ℕ). m % 2 ^ bits) (mod-pow-add n (64 - bits) bits)
    ∙ mod_low (n / 2 ^ bits % 2 ^ (64 - bits)) bits (n % 2 ^ bits) (mod_below n (2 ^ bits) (pow_pos bits)))

-- a value of so many bits, moved up within a word
pub moved_fits : (shift bits value : ℕ) → shift + bits ≤ 64 → value < 2 ^ bits → value * 2 ^ shift % 2 ^ 128 < 2 ^ 64
moved_fits shift bits value inside small =
    let below = shl_below value bits shift small in
    let most : 2 ^ (bits + shift) ≤ 2 ^ 64 = pow_mono {i = bits + shift} {j = 64} (omega (arith, inside)) in
    let less = mod-le (value * 2 ^ shift) (2 ^ 128) in
    omega (arith, below, most, less)

-- what lies above a part, the part, and what lies below it
put_in : (word above part low n room whole : ℕ) → word ≡ above + (part + low) → n + low < room → above + room ≤ whole
    → word - part + n < whole
put_in word above part low n room whole e lt le = omega (arith, e, lt, le)

module _ (shift bits word : ℕ) where
  split : word ≡ word / 2 ^ (bits + shift) * 2 ^ (bits + shift)
      + (bits_from shift bits word * 2 ^ shift + word % 2 ^ shift)
  split =
      sym (shr_split word (bits + shift))
      ∙ ap (λ (n : ℕ). word / 2 ^ (bits + shift) * 2 ^ (bits + shift) + n) (mod-pow-add word bits shift)

  all_bits : shift + bits ≤ 64 → 64 - (bits + shift) + (bits + shift) ≡ 64
  all_bits inside = omega (arith, inside)

  -- one more fits above
  above_fits : shift + bits ≤ 64 → word < 2 ^ 64
      → word / 2 ^ (bits + shift) * 2 ^ (bits + shift) + 2 ^ (bits + shift) ≤ 2 ^ 64
  above_fits inside below =
      subst (λ (n : ℕ). word / 2 ^ (bits + shift) * 2 ^ (bits + shift) + 2 ^ (bits + shift) ≤ n)
      (sym (pow-add 2 (64 - (bits + shift)) (bits + shift)) ∙ ap (λ (n : ℕ). 2 ^ n) (all_bits inside))
      (row_fits (word / 2 ^ (bits + shift)) (2 ^ (bits + shift)) (2 ^ (64 - (bits + shift))) (2 ^ (bits + shift))
      (shr_below word (64 - (bits + shift)) (bits + shift)
      (subst (λ (n : ℕ). word < 2 ^ n) (sym (all_bits inside)) below)) (omega arith))

  low_fits : (n : ℕ) → n < 2 ^ bits → n * 2 ^ shift + word % 2 ^ shift < 2 ^ (bits + shift)
  low_fits n lt =
      let turned : bits + shift ≡ shift + bits = omega arith in
      subst (λ (k : ℕ). n * 2 ^ shift + word % 2 ^ shift < k)
      (sym (ap (λ (k : ℕ). 2 ^ k) turned ∙ pow-add 2 shift bits))
      (mul-add-lt n (2 ^ shift) (word % 2 ^ shift) (2 ^ bits) lt (mod_below word (2 ^ shift) (pow_pos shift)))

  pub fits : (n : ℕ) → shift + bits ≤ 64 → word < 2 ^ 64 → n < 2 ^ bits
      → word - bits_from shift bits word * 2 ^ shift + n * 2 ^ shift < 2 ^ 64
  fits n inside below lt =
      put_in word (word / 2 ^ (bits + shift) * 2 ^ (bits + shift)) (bits_from shift bits word * 2 ^ shift)
      (word % 2 ^ shift) (n * 2 ^ shift) (2 ^ (bits + shift)) (2 ^ 64) split (low_fits n lt) (above_fits inside below)
