-- Trials by computing.
use Rattle.std.proofs.Common.{◌≡◌, Bool, true, not, ◌&&◌, List, [], ◌∷◌}
use Rattle.std.proofs.lemmas.Bool.{and_parts}
use Rattle.ds_plain.specs.State.{State, Setting, first_state}
use Rattle.ds_tried.specs.Programs.{Events, behind, EachMay, NoneMay, Trial, Holds, EachHolds, Hold}
use Rattle.ds_tried.proofs.Tests.{Tells, both, not_so, always}
use Rattle.ds_tried.proofs.Decides.{may, decides, runs, is_run}

abbrev pub each_may : Setting → State → Events → Bool
each_may setting s [] = true
each_may setting s (e ∷ es) = may setting s e.0 e.1 && each_may setting s es

abbrev pub none_may : Setting → State → Events → Bool
none_may setting s [] = true
none_may setting s (e ∷ es) = not (may setting s e.0 e.1) && none_may setting s es

each_tells : (setting : Setting) (s : State) (es : Events) → Tells (each_may setting s es) (EachMay setting s es)
each_tells setting s [] = always
each_tells setting s (e ∷ es) = both (decides setting s e.0 e.1) (each_tells setting s es)

none_tells : (setting : Setting) (s : State) (es : Events) → Tells (none_may setting s es) (NoneMay setting s es)
none_tells setting s [] = always
none_tells setting s (e ∷ es) = both (not_so (decides setting s e.0 e.1)) (none_tells setting s es)

-- what is tried, as one test
abbrev pub is_tried : Trial → Bool
is_tried x =
    runs x.setting (first_state x.setting.program x.setting.lim) x.made
    && (each_may x.setting (behind x.setting x.made) x.next && none_may x.setting (behind x.setting x.made) x.others)

holds : (x : Trial) → is_tried x ≡ true → Holds x
holds x e =
    let h = (both (is_run x.setting (first_state x.setting.program x.setting.lim) x.made)
    (both (each_tells x.setting (behind x.setting x.made) x.next)
    (none_tells x.setting (behind x.setting x.made) x.others))).so e in
    record { can = h.0; may = h.1.0; may_not = h.1.1 }

abbrev pub are_tried : List Trial → Bool
are_tried [] = true
are_tried (x ∷ xs) = is_tried x && are_tried xs

each_holds : (xs : List Trial) → are_tried xs ≡ true → EachHolds xs
each_holds [] e = tt
each_holds (x ∷ xs) e = let h = and_parts (is_tried x) (are_tried xs) e in (holds x h.0, each_holds xs h.1)

-- The trials are handed in, since what is left to be found is computed without sharing.
pub tried : (xs : List Trial) → are_tried xs ≡ true → Hold xs
tried xs e = record { each = each_holds xs e }
