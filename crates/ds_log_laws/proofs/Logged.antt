-- What is logged, by what the words say of a thread's logs.
use Rattle.std.proofs.Common.{◌≡◌, ℕ, zero, suc, ◌<◌, ◌==◌, true, false, List, []}
use Rattle.std.proofs.Common.{refl, sym, ◌∙◌, subst, arith, eqb-true}
use Rattle.std.proofs.lemmas.Bool.Decides.{nat_tests}
use Rattle.ds_map.specs.Bounds.{Bounds}
use Rattle.ds_entry.specs.Header.{header_of, life_in, used_in}
use Rattle.ds_step.specs.declared.Step.{Step}
use Rattle.ds_log_laws.specs.Reading.{entries_hold, log_holds, home_holds, logged}
use Rattle.ds_log_laws.proofs.Choices.{of_test}
use Rattle.ds_log_laws.proofs.Goes.{life_is, used_is}
use Rattle.ds_log_laws.proofs.Links.{home, header, is_in, Logs, Past, IsSound, Logged, Kept}

module _ (lim : Bounds) (traces : List (List Step)) (words : List ℕ) (logs : Logs) (t : ℕ) (past : Past)
    (lives : ℕ → ℕ) (sound : IsSound past) (place loc : ℕ) (kept : Kept lim traces words logs t past lives place) where
  -- what is noted for the present life
  abbrev Tells : List ℕ → Type 0
  Tells locs = is_in loc locs ≡ past.has place (lives place) loc

  log_tells : (log : ℕ) → Logged lim traces words logs t past lives place log
      → Tells (log_holds lim words (lives place) log (header lim words log))
  log_tells log own =
      subst (λ h. Tells (log_holds lim words (lives place) log h)) (sym own.header_is)
      (of_test Tells (life_in (header_of own.life own.used 0) == lives place)
      (entries_hold lim words log (used_in (header_of own.life own.used 0))) [] same other)
    where
      same : (life_in (header_of own.life own.used 0) == lives place) ≡ true
          → Tells (entries_hold lim words log (used_in (header_of own.life own.used 0)))
      same e =
          let life : own.life ≡ lives place =
          sym (life_is own.life own.used own.used_few)
          ∙ eqb-true (life_in (header_of own.life own.used 0)) (lives place) e in
          subst (λ n. Tells (entries_hold lim words log n)) (sym (used_is own.life own.used own.used_few))
          (subst (λ since. is_in loc (entries_hold lim words log own.used) ≡ past.has place since loc) life
          (own.held loc))

      other : (life_in (header_of own.life own.used 0) == lives place) ≡ false → Tells []
      other e =
          let later : own.life < lives place =
          let is = life_is own.life own.used own.used_few in
          let ahead = own.not_ahead in
          let now = kept.seen_now in
          grind (arith, nat_tests, e, is, ahead, now) in
          sym (sound.unheld place (lives place) loc (own.none_later (lives place) later))

  home_tells : (n : ℕ) → home lim words t place ≡ n → Tells (home_holds lim words (lives place) n)
  home_tells zero is = sym (sound.unheld place (lives place) loc (kept.unnoted is (lives place)))
  home_tells (suc log) is = log_tells log (kept.some log (omega (arith, is)))

  pub reads : Tells (logged lim words place (lives place) t)
  reads = home_tells (home lim words t place) refl
