-- There is a last break or none, and the minutes since it are the fewest since any.
use Rattle.std.proofs.Common.{◌≡◌, ◌⊎◌, inl, inr, ⊎_elim, ℕ, zero, suc, ◌+◌, ◌≤◌, Option, List, [], ◌∷◌, ◌++◌, length, replicate, refl, sym, ◌∙◌, ap, arith}
use Rattle.route_base.specs.Setting.{Road}
use Rattle.route_base.specs.Itinerary.{Step, drive, wait}
use Rattle.route_base.proofs.Lists.{same_head, same_tail}
use Rattle.drive_breaks.specs.Rested.{driven, minutes_of, IsSinceBreak, IsSinceLastBreak, IsStretch, KeepsRule, IsRestedFrom}
use Rattle.drive_breaks.specs.Inside.WithinRule.{IsWithinRule, IsWithinRuleFrom}
use Rattle.drive_states.specs.declared.rule.BreakRule.{BreakRule}
use Rattle.drive_breaks.proofs.Since.{HasSince, no_drive, within_itself}

not_nil : (x : Step) (xs : List Step) → [] ≡ x ∷ xs → ⊥
not_nil x xs is = cc

-- whether steps begin with so many waits
starts : (n : ℕ) (xs : List Step) → ((early : List Step) × (xs ≡ replicate n wait ++ early)) ⊎ ((early : List Step) → xs ≡ replicate n wait ++ early → ⊥)
starts zero xs = inl (xs, refl)
starts (suc n) [] = inr (λ early is. not_nil wait (replicate n wait ++ early) is)
starts (suc n) (drive a ∷ xs) = inr (λ early is. no_drive a (same_head is))
starts (suc n) (wait ∷ xs) = ⊎_elim
    (λ (yes_starts : (early : List Step) × (xs ≡ replicate n wait ++ early)). inl (yes_starts.0, ap (λ (w : List Step). wait ∷ w) yes_starts.1))
    (λ (other : (early : List Step) → xs ≡ replicate n wait ++ early → ⊥). inr
    (λ early is. other early (same_tail is)))
    (starts n xs)

-- there is a last break, or none
last_break : (rest : ℕ) (back : List Step) → 1 ≤ rest → ((late : List Step) × IsSinceLastBreak rest back late)
    ⊎ ((late : List Step) → IsSinceBreak rest back late → ⊥)
last_break zero back some = absurd (omega (arith, some))
last_break (suc n) [] some = inr none
  where
    none : (late : List Step) → IsSinceBreak (suc n) [] late → ⊥
    none [] since = not_nil wait (replicate n wait ++ since.0) since.1
    none (y ∷ late) since = not_nil y (late ++ (replicate (suc n) wait ++ since.0)) since.1
last_break (suc n) (x ∷ back) some = ⊎_elim
    (λ (here : (early : List Step) × (x ∷ back ≡ replicate (suc n) wait ++ early)). inl ([], record { since = here; last = λ other since. omega arith }))
    (λ (not_here : (early : List Step) → x ∷ back ≡ replicate (suc n) wait ++ early → ⊥). ⊎_elim
    (λ (before : (late : List Step) × IsSinceLastBreak (suc n) back late). inl (
      x ∷ before.0,
      record {
        since = (before.1.since.0, ap (λ (w : List Step). x ∷ w) before.1.since.1);
        last = longer before.0 before.1 not_here;
      },
    ))
    (λ (none : (late : List Step) → IsSinceBreak (suc n) back late → ⊥). inr (still none not_here))
    (last_break (suc n) back some))
    (starts (suc n) (x ∷ back))
  where
    longer : (late : List Step) → IsSinceLastBreak (suc n) back late → ((early : List Step) → x ∷ back ≡ replicate (suc n) wait ++ early → ⊥)
        → (other : List Step) → IsSinceBreak (suc n) (x ∷ back) other → length (x ∷ late) ≤ length other
    longer late is not_here [] since = absurd (not_here since.0 since.1)
    longer late is not_here (y ∷ other) since =
        omega (arith, is.last other (since.0, same_tail since.1))

    still : ((late : List Step) → IsSinceBreak (suc n) back late → ⊥) → ((early : List Step) → x ∷ back ≡ replicate (suc n) wait ++ early → ⊥)
        → (late : List Step) → IsSinceBreak (suc n) (x ∷ back) late → ⊥
    still none not_here [] since = not_here since.0 since.1
    still none not_here (y ∷ late) since = none late (since.0, same_tail since.1)

module _ (roads : ℕ → Option Road) where
  -- the longer of two fronts of one list has at least the drives of the shorter
  front_less : (xs ys more rest : List Step) → xs ++ more ≡ ys ++ rest → length xs ≤ length ys → driven roads xs ≤ driven roads ys
  front_less [] ys more rest same le = omega arith
  front_less (x ∷ xs) [] more rest same le = absurd (omega (arith, le))
  front_less (drive a ∷ xs) (drive b ∷ ys) more rest same le =
      omega (
        arith,
        front_less xs ys more rest (same_tail same) (omega (arith, le)),
        ap (λ (n : ℕ). minutes_of (roads n)) (number_same a b (same_head same)),
      )
    where
      number_same : (i j : ℕ) → drive i ≡ drive j → i ≡ j
      number_same i j is = cc
  front_less (drive a ∷ xs) (wait ∷ ys) more rest same le = absurd (no_drive a (same_head same))
  front_less (wait ∷ xs) (drive b ∷ ys) more rest same le = absurd (no_drive b (sym (same_head same)))
  front_less (wait ∷ xs) (wait ∷ ys) more rest same le = front_less xs ys more rest (same_tail same) (omega (arith, le))

  driven_less : (xs ys : List Step) → driven roads xs ≤ driven roads (xs ++ ys)
  driven_less [] ys = omega arith
  driven_less (drive a ∷ xs) ys = omega (arith, driven_less xs ys)
  driven_less (wait ∷ xs) ys = driven_less xs ys

  -- there is a stretch
  pub some_stretch : (rest : ℕ) (back : List Step) → 1 ≤ rest → (x : ℕ) × IsStretch roads rest back x
  some_stretch rest back some = ⊎_elim
      (λ (last : (late : List Step) × IsSinceLastBreak rest back late). (driven roads last.0, inl (last.0, last.1, refl)))
      (λ (none : (late : List Step) → IsSinceBreak rest back late → ⊥). (driven roads back, inr (none, refl)))
      (last_break rest back some)

  -- steps since the last break have as few drives as others since it
  last_less : (rest : ℕ) (back xs ys : List Step) → IsSinceLastBreak rest back xs → IsSinceLastBreak rest back ys → driven roads xs ≤ driven roads ys
  last_less rest back xs ys one other =
      front_less xs ys (replicate rest wait ++ one.since.0) (replicate rest wait ++ other.since.0) (sym one.since.1 ∙ other.since.1) (one.last ys other.since)

  -- there is no more than one
  pub same_stretch : (rest : ℕ) (back : List Step) (x y : ℕ) → IsStretch roads rest back x → IsStretch roads rest back y → x ≡ y
  same_stretch rest back x y one other = ⊎_elim
      (λ (last : (late : List Step) × IsSinceLastBreak rest back late × (driven roads late ≡ x)). ⊎_elim
      (λ (too : (late : List Step) × IsSinceLastBreak rest back late × (driven roads late ≡ y)).
      omega (arith, last.2, too.2, last_less rest back last.0 too.0 last.1 too.1, last_less rest back too.0 last.0 too.1 last.1))
      (λ (none : ((late : List Step) → IsSinceBreak rest back late → ⊥) × (driven roads back ≡ y)). absurd (none.0 last.0 last.1.since))
      other)
      (λ (none : ((late : List Step) → IsSinceBreak rest back late → ⊥) × (driven roads back ≡ x)). ⊎_elim
      (λ (too : (late : List Step) × IsSinceLastBreak rest back late × (driven roads late ≡ y)). absurd (none.0 too.0 too.1.since))
      (λ (all : ((late : List Step) → IsSinceBreak rest back late → ⊥) × (driven roads back ≡ y)). sym none.1 ∙ all.1)
      other)
      one

  module _ (rule : BreakRule) (back : List Step) (minutes : ℕ) where
    within_stretch : IsWithinRule roads rule back minutes → KeepsRule roads rule back minutes
    within_stretch within x stretch = ⊎_elim
        (λ (some : (late : List Step) × IsSinceLastBreak rule.rest back late × (driven roads late ≡ x)). ⊎_elim
        (λ (all : driven roads back + minutes ≤ rule.drive).
        omega (arith, all, some.2, ap (driven roads) some.1.since.1, driven_less some.0 (replicate rule.rest wait ++ some.1.since.0)))
        (λ (other : (late : List Step) × IsSinceBreak rule.rest back late × (driven roads late + minutes ≤ rule.drive)).
        omega (
          arith,
          other.2,
          some.2,
          front_less some.0 other.0 (replicate rule.rest wait ++ some.1.since.0) (replicate rule.rest wait ++ other.1.0)
              (sym some.1.since.1 ∙ other.1.1) (some.1.last other.0 other.1),
        ))
        within)
        (λ (none : ((late : List Step) → IsSinceBreak rule.rest back late → ⊥) × (driven roads back ≡ x)). ⊎_elim
        (λ (all : driven roads back + minutes ≤ rule.drive). omega (arith, all, none.1))
        (λ (other : (late : List Step) × IsSinceBreak rule.rest back late × (driven roads late + minutes ≤ rule.drive)). absurd (none.0 other.0 other.1))
        within)
        stretch

    stretch_within : 1 ≤ rule.rest → KeepsRule roads rule back minutes → IsWithinRule roads rule back minutes
    stretch_within some each = ⊎_elim
        (λ (last : (late : List Step) × IsSinceLastBreak rule.rest back late).
        inr (last.0, last.1.since, each (driven roads last.0) (inl (last.0, last.1, refl))))
        (λ (none : (late : List Step) → IsSinceBreak rule.rest back late → ⊥). inl (each (driven roads back) (inr (none, refl))))
        (last_break rule.rest back some)

  -- the stretch is no longer than what was driven since the start or some break
  pub stretch_least : (rule : BreakRule) (back : List Step) (r x : ℕ) → HasSince roads rule back r → IsStretch roads rule.rest back x → x ≤ r
  stretch_least rule back r x has stretch =
      omega (arith, within_stretch (record { drive = r; rest = rule.rest }) back 0 (within_itself roads rule back r has) x stretch)

  module _ (rule : BreakRule) (some : 1 ≤ rule.rest) where
    -- steps that are within the rule since some break keep it
    pub rested_from : (xs back : List Step) → IsWithinRuleFrom roads rule back xs → IsRestedFrom roads rule back xs
    rested_from [] back within = tt
    rested_from (drive a ∷ xs) back within = (within_stretch rule back (minutes_of (roads a)) within.0, rested_from xs (drive a ∷ back) within.1)
    rested_from (wait ∷ xs) back within = rested_from xs (wait ∷ back) within

    pub within_from : (xs back : List Step) → IsRestedFrom roads rule back xs → IsWithinRuleFrom roads rule back xs
    within_from [] back rested = tt
    within_from (drive a ∷ xs) back rested = (stretch_within rule back (minutes_of (roads a)) some rested.0, within_from xs (drive a ∷ back) rested.1)
    within_from (wait ∷ xs) back rested = within_from xs (wait ∷ back) rested
