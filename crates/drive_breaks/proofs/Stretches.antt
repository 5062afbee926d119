-- The stretch behind one step more.
use Rattle.std.proofs.Common.{◌≡◌, inl, inr, ⊎_elim, ℕ, zero, suc, ◌+◌, ◌-◌, ◌≤◌, ◌<◌, Option, List, [], ◌∷◌, ◌++◌, length, replicate, append_assoc, refl, sym, ◌∙◌, ap, arith}
use Rattle.std.proofs.lemmas.List.{replicate-append-replicate}
use Rattle.route_base.specs.Setting.{Road}
use Rattle.route_base.specs.Itinerary.{Step, drive, wait}
use Rattle.drive_breaks.specs.Rested.{driven, minutes_of, IsSinceBreak, IsSinceLastBreak, IsStretch}
use Rattle.drive_breaks.proofs.Since.{since_drive, since_wait, IsDriven, few_waits}

module _ (roads : ℕ → Option Road) (rest : ℕ) (some : 1 ≤ rest) where
  -- nothing comes behind a break
  no_break : (n : ℕ) → 1 ≤ n → (late : List Step) → IsSinceBreak n [] late → ⊥
  no_break zero none late since = omega (arith, none)
  no_break (suc n) _ [] since = absurd (cc)
  no_break (suc n) _ (y ∷ late) since = absurd (cc)

  pub stretch_start : IsStretch roads rest [] 0
  stretch_start = inr (no_break rest some, refl)

  pub stretch_drive : (back : List Step) (x a : ℕ) → IsStretch roads rest back x → IsStretch roads rest (drive a ∷ back) (x + minutes_of (roads a))
  stretch_drive back x a stretch = ⊎_elim
      (λ (last : (late : List Step) × IsSinceLastBreak rest back late × (driven roads late ≡ x)). inl (
        drive a ∷ last.0,
        record {
          since = (last.1.since.0, ap (λ (w : List Step). drive a ∷ w) last.1.since.1);
          last = λ other since.
              let more = since_drive rest a back other some since in
              omega (arith, last.1.last more.0 more.1, ap (λ (w : List Step). length w) more.2);
        },
        omega (arith, last.2),
      ))
      (λ (none : ((late : List Step) → IsSinceBreak rest back late → ⊥) × (driven roads back ≡ x)). inr (
        λ late since. (let more = since_drive rest a back late some since in none.0 more.0 more.1),
        omega (arith, none.1),
      ))
      stretch

  -- a wait that ends no break
  stretch_wait : (back : List Step) (x : ℕ) → ((early : List Step) → wait ∷ back ≡ replicate rest wait ++ early → ⊥) → IsStretch roads rest back x
      → IsStretch roads rest (wait ∷ back) x
  stretch_wait back x none_new stretch = ⊎_elim
      (λ (last : (late : List Step) × IsSinceLastBreak rest back late × (driven roads late ≡ x)). inl (
        wait ∷ last.0,
        record {
          since = (last.1.since.0, ap (λ (w : List Step). wait ∷ w) last.1.since.1);
          last = λ other since. ⊎_elim
              (λ (more : (more : List Step) × IsSinceBreak rest back more × (other ≡ wait ∷ more)).
              omega (arith, last.1.last more.0 more.1, ap (λ (w : List Step). length w) more.2))
              (λ (here : (early : List Step) × (wait ∷ back ≡ replicate rest wait ++ early) × (other ≡ [])). absurd (none_new here.0 here.1))
              (since_wait rest back other some since);
        },
        last.2,
      ))
      (λ (none : ((late : List Step) → IsSinceBreak rest back late → ⊥) × (driven roads back ≡ x)). inr (
        λ late since. ⊎_elim
            (λ (more : (more : List Step) × IsSinceBreak rest back more × (late ≡ wait ∷ more)). none.0 more.0 more.1)
            (λ (here : (early : List Step) × (wait ∷ back ≡ replicate rest wait ++ early) × (late ≡ [])). none_new here.0 here.1)
            (since_wait rest back late some since),
        none.1,
      ))
      stretch

  -- fewer waits than a break
  pub stretch_few : (n : ℕ) (back : List Step) (x : ℕ) → IsDriven back → n < rest → IsStretch roads rest back x
      → IsStretch roads rest (replicate n wait ++ back) x
  stretch_few zero back x driven few stretch = stretch
  stretch_few (suc n) back x driven few stretch =
      stretch_wait (replicate n wait ++ back) x
      (λ early same.
      (let n_few = few_waits (replicate (suc n) wait ++ back) early (suc n) rest (record { front = back; is = refl; driven = driven }) same in
      omega (arith, few, n_few)))
      (stretch_few n back x driven (omega (arith, few)) stretch)

  -- at least as many
  pub stretch_many : (n : ℕ) (back : List Step) → rest ≤ n → IsStretch roads rest (replicate n wait ++ back) 0
  stretch_many n back many =
      let more : ℕ = n - rest in
      let whole : rest + more ≡ n = omega (arith, many) in
      let is : replicate n wait ++ back ≡ replicate rest wait ++ (replicate more wait ++ back) =
      ap (λ (m : ℕ). replicate m wait ++ back) (sym whole)
      ∙ ap (λ (w : List Step). w ++ back) (sym (replicate-append-replicate rest more wait))
      ∙ append_assoc (replicate rest wait) (replicate more wait) back in
      inl ([], record { since = (replicate more wait ++ back, is); last = λ other since. omega arith }, refl)
