-- What a sink takes in several pieces.
use Rattle.std.proofs.Common.{◌≡◌, ℕ, ◌+◌, ◌-◌, List, ◌++◌, Option, Some, None, length, take, drop, append_assoc}
use Rattle.std.proofs.Common.{arith}
use Rattle.std.proofs.lemmas.List.{take-append-drop, take-take, drop-take, take_rest}
use Rattle.ds_io.specs.Sink.{Takes}

-- the first n bytes, and then m of the others
take_more : (n m : ℕ) (xs : List ℕ) → take n xs ++ take m (drop n xs) ≡ take (n + m) xs
take_more n m xs =
    let whole : take n (take (n + m) xs) ++ drop n (take (n + m) xs) ≡ take (n + m) xs =
    take-append-drop n (take (n + m) xs) in
    let front : take n (take (n + m) xs) ≡ take n xs = take-take n (n + m) xs (omega arith) in
    let back : drop n (take (n + m) xs) ≡ take m (drop n xs) = drop-take n m xs in
    cc

-- one piece after another
pub Takes-more : (a b c : Option (List ℕ)) (n m : ℕ) (xs : List ℕ) → Takes a (take n xs) b
    → Takes b (take m (drop n xs)) c → Takes a (take (n + m) xs) c
Takes-more None b c n m xs first second = cc
Takes-more (Some held) b c n m xs first second =
    let e : take n xs ++ take m (drop n xs) ≡ take (n + m) xs = take_more n m xs in
    let f : (held ++ take n xs) ++ take m (drop n xs) ≡ held ++ (take n xs ++ take m (drop n xs)) =
    append_assoc held (take n xs) (take m (drop n xs)) in
    cc

-- the same where the second piece is of the part of a slice from n on
pub Takes-part : (a b c : Option (List ℕ)) (n m : ℕ) (xs : List ℕ) → Takes a (take n xs) b
    → Takes b (take m (take (length xs - n) (drop n xs))) c → Takes a (take (n + m) xs) c
Takes-part a b c n m xs first second =
    let rest : take (length xs - n) (drop n xs) ≡ drop n xs = take_rest xs n in
    Takes-more a b c n m xs first (rw rest at second)

pub ruleset pieces_taken = Takes-part
