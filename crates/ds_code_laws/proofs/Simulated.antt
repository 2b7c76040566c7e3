-- Two steps that agree on related states ask the same, whatever the answers, as long as the first has a meaning.
use Rattle.std.proofs.Common.{◌≡◌, ℕ, zero, suc, ◌%◌, ◌^◌, List, [], ◌∷◌, refl, ap, ◌∙◌}
use Rattle.ds_plain.specs.declared.Request.TheVariants as requests
use Rattle.ds_plain.specs.Behaviour.{Asked, Asks, Outcome, Goes, Wants, Stops, Stuck}
use Rattle.ds_plain.specs.Behaviour.{one_more, asked_by, ask, told_by, tell, behaviour}
use Rattle.ds_safe_laws.specs.Means.{MeansBy, MeansNext, Means}

-- what comes is related; nothing is said where the first has no meaning
abbrev pub Agree : {S T : Type 0} → (S → T → Type 0) → Outcome S → Outcome T → Type 0
Agree R Stuck o = Unit {0}
Agree R (Goes s) (Goes t) = R s t
Agree R (Goes s) (Wants place request answered) = ⊥
Agree R (Goes s) (Stops place stop) = ⊥
Agree R (Goes s) Stuck = ⊥
Agree R (Wants place request answered) (Goes t) = ⊥
Agree R (Wants place request answered) (Wants place' request' answered') =
    (place ≡ place') × (request ≡ request') × ((answer : ℕ) → R (answered answer) (answered' answer))
Agree R (Wants place request answered) (Stops place' stop) = ⊥
Agree R (Wants place request answered) Stuck = ⊥
Agree R (Stops place stop) (Goes t) = ⊥
Agree R (Stops place stop) (Wants place' request answered) = ⊥
Agree R (Stops place stop) (Stops place' stop') = (place ≡ place') × (stop ≡ stop')
Agree R (Stops place stop) Stuck = ⊥

module _ {S T : Type 0} (R : S → T → Type 0) where
  asks_same : (M : S → Type 0) (go : S → Asked) (go' : T → Asked) → ((s : S) (t : T) → M s → R s t → go s ≡ go' t)
      → (o : Outcome S) (o' : Outcome T) → MeansBy M o → Agree R o o' → asked_by go o ≡ asked_by go' o'
  asks_same M go go' h Stuck o' i r = absurd i
  asks_same M go go' h (Goes s) (Goes t) i r = ap one_more (h s t i r)
  asks_same M go go' h (Goes s) (Wants p q k) i r = absurd r
  asks_same M go go' h (Goes s) (Stops p b) i r = absurd r
  asks_same M go go' h (Goes s) Stuck i r = absurd r
  asks_same M go go' h (Wants p q k) (Goes t) i r = absurd r
  asks_same M go go' h (Wants p q k) (Wants p' q' k') i r =
      ap (λ x. Asks 1 x q) r.0 ∙ ap (λ x. Asks 1 p' x) r.1
  asks_same M go go' h (Wants p q k) (Stops p' b) i r = absurd r
  asks_same M go go' h (Wants p q k) Stuck i r = absurd r
  asks_same M go go' h (Stops p b) (Goes t) i r = absurd r
  asks_same M go go' h (Stops p b) (Wants p' q k) i r = absurd r
  asks_same M go go' h (Stops p b) (Stops p' b') i r =
      ap (λ x. Asks 1 x (requests.Stop b)) r.0 ∙ ap (λ x. Asks 1 p' (requests.Stop x)) r.1
  asks_same M go go' h (Stops p b) Stuck i r = absurd r

  means_by : (M : S → Type 0) (M' : T → Type 0) → ((s : S) (t : T) → M s → R s t → M' t)
      → (o : Outcome S) (o' : Outcome T) → MeansBy M o → Agree R o o' → MeansBy M' o'
  means_by M M' h Stuck o' i r = absurd i
  means_by M M' h (Goes s) (Goes t) i r = h s t i r
  means_by M M' h (Goes s) (Wants p q k) i r = absurd r
  means_by M M' h (Goes s) (Stops p b) i r = absurd r
  means_by M M' h (Goes s) Stuck i r = absurd r
  means_by M M' h (Wants p q k) (Goes t) i r = absurd r
  means_by M M' h (Wants p q k) (Wants p' q' k') i r = tt
  means_by M M' h (Wants p q k) (Stops p' b) i r = absurd r
  means_by M M' h (Wants p q k) Stuck i r = absurd r
  means_by M M' h (Stops p b) (Goes t) i r = absurd r
  means_by M M' h (Stops p b) (Wants p' q k) i r = absurd r
  means_by M M' h (Stops p b) (Stops p' b') i r = tt
  means_by M M' h (Stops p b) Stuck i r = absurd r

  tells_related : (M : S → Type 0) (go : S → S) (go' : T → T) (s : S) (t : T) (a : ℕ) → R s t
      → ((s : S) (t : T) → M s → R s t → R (go s) (go' t))
      → (o : Outcome S) (o' : Outcome T) → MeansBy M o → Agree R o o' → R (told_by go s a o) (told_by go' t a o')
  tells_related M go go' s t a now h Stuck o' i r = absurd i
  tells_related M go go' s t a now h (Goes x) (Goes y) i r = h x y i r
  tells_related M go go' s t a now h (Goes x) (Wants p q k) i r = absurd r
  tells_related M go go' s t a now h (Goes x) (Stops p b) i r = absurd r
  tells_related M go go' s t a now h (Goes x) Stuck i r = absurd r
  tells_related M go go' s t a now h (Wants p q k) (Goes y) i r = absurd r
  tells_related M go go' s t a now h (Wants p q k) (Wants p' q' k') i r = r.2 (a % 2 ^ 64)
  tells_related M go go' s t a now h (Wants p q k) (Stops p' b) i r = absurd r
  tells_related M go go' s t a now h (Wants p q k) Stuck i r = absurd r
  tells_related M go go' s t a now h (Stops p b) (Goes y) i r = absurd r
  tells_related M go go' s t a now h (Stops p b) (Wants p' q k) i r = absurd r
  tells_related M go go' s t a now h (Stops p b) (Stops p' b') i r = now
  tells_related M go go' s t a now h (Stops p b) Stuck i r = absurd r

module _ {S T : Type 0} (R : S → T → Type 0) (step : S → Outcome S) (step' : T → Outcome T)
    (agree : (s : S) (t : T) → R s t → Agree R (step s) (step' t)) where
  ask_same : (n : ℕ) (s : S) (t : T) → MeansNext step n s → R s t → ask step n s ≡ ask step' n t
  ask_same zero s t i r = refl
  ask_same (suc n) s t i r =
      asks_same R (MeansNext step n) (ask step n) (ask step' n) (λ x y j u. ask_same n x y j u) (step s) (step' t) i
      (agree s t r)

  tell_related : (a n : ℕ) (s : S) (t : T) → MeansNext step n s → R s t → R (tell step n s a) (tell step' n t a)
  tell_related a zero s t i r = r
  tell_related a (suc n) s t i r =
      tells_related R (MeansNext step n) (λ x. tell step n x a) (λ y. tell step' n y a) s t a r
      (λ x y j u. tell_related a n x y j u) (step s) (step' t) i (agree s t r)

  means_next : (n : ℕ) (s : S) (t : T) → MeansNext step n s → R s t → MeansNext step' n t
  means_next zero s t i r = tt
  means_next (suc n) s t i r =
      means_by R (MeansNext step n) (MeansNext step' n) (λ x y j u. means_next n x y j u) (step s) (step' t) i
      (agree s t r)

  -- the second has a meaning too
  pub means_too : (n : ℕ) (answers : List ℕ) (s : S) (t : T) → Means step n s answers → R s t → Means step' n t answers
  means_too n [] s t i r = means_next n s t i r
  means_too n (a ∷ answers) s t i r = (
    means_next n s t i.0 r,
    means_too n answers _ _ i.1 (tell_related a n s t i.0 r),
  )

  -- they behave the same
  pub behaves_same : (n : ℕ) (answers : List ℕ) (s : S) (t : T) → Means step n s answers → R s t
      → behaviour step n s answers ≡ behaviour step' n t answers
  behaves_same n [] s t i r = ask_same n s t i r
  behaves_same n (a ∷ answers) s t i r = behaves_same n answers _ _ i.1 (tell_related a n s t i.0 r)
