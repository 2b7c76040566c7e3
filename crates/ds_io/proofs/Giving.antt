-- What a source gives in several pieces.
use Rattle.std.proofs.Common.{◌≡◌, ℕ, ◌+◌, ◌<◌, ◌≤◌, List, ◌++◌, Option, Some, None, length, drop, refl, ap}
use Rattle.std.proofs.Common.{append_assoc, arith, length-append}
use Rattle.std.proofs.Math.Seq.{drop-append_seam}
use Rattle.ds_io.specs.Source.{Gives, TookAtMost, HadMore}

-- one piece after another
pub Gives-append : (a b c : Option (List ℕ)) (xs ys : List ℕ) → Gives a xs b → Gives b ys c → Gives a (xs ++ ys) c
Gives-append a b None xs ys first second = cc
Gives-append a b (Some rest) xs ys first second =
    let e : (xs ++ ys) ++ rest ≡ xs ++ (ys ++ rest) = append_assoc xs ys rest in cc

-- what was given was taken from the front
pub TookAtMost-given : (most : ℕ) (a b : Option (List ℕ)) (xs : List ℕ) → Gives a xs b → length xs ≤ most
    → TookAtMost most a b
TookAtMost-given most None None xs given few = refl
TookAtMost-given most None (Some rest) xs given few = cc
TookAtMost-given most (Some bytes) None xs given few = cc
TookAtMost-given most (Some bytes) (Some rest) xs given few =
    let e : bytes ≡ xs ++ rest = cc in
    let within : length xs ≤ length bytes = omega (arith, ap length e, length-append xs rest) in
    let d : drop (length xs) (xs ++ rest) ≡ rest = drop-append_seam xs rest in
    (length xs, few, within, cc)

-- one byte more than the limit came
pub HadMore-given : (limit : ℕ) (a b : Option (List ℕ)) (xs : List ℕ) → Gives a xs b → length xs ≡ limit + 1
    → HadMore limit a b
HadMore-given limit None None xs given more = refl
HadMore-given limit None (Some rest) xs given more = cc
HadMore-given limit (Some bytes) None xs given more = cc
HadMore-given limit (Some bytes) (Some rest) xs given more =
    let e : bytes ≡ xs ++ rest = cc in
    let above : limit < length bytes = omega (arith, ap length e, length-append xs rest) in
    let d : drop (length xs) (xs ++ rest) ≡ rest = drop-append_seam xs rest in
    (above, cc)

-- the same after one piece more
pub TookAtMost-append : (most : ℕ) (a b c : Option (List ℕ)) (xs ys : List ℕ) → Gives a xs b → Gives b ys c
    → length xs + length ys ≤ most → TookAtMost most a c
TookAtMost-append most a b c xs ys first second few =
    TookAtMost-given most a c (xs ++ ys) (Gives-append a b c xs ys first second) (omega (arith, length-append xs ys))

pub HadMore-append : (limit : ℕ) (a b c : Option (List ℕ)) (xs ys : List ℕ) → Gives a xs b → Gives b ys c
    → length xs + length ys ≡ limit + 1 → HadMore limit a c
HadMore-append limit a b c xs ys first second more =
    HadMore-given limit a c (xs ++ ys) (Gives-append a b c xs ys first second) (omega (arith, length-append xs ys))
