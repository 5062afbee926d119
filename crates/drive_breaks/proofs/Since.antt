-- Where the last break of a list of steps, the last first, can stand.
use Rattle.std.proofs.Common.{◌≡◌, ◌⊎◌, inl, inr, ⊎_elim, ℕ, zero, suc, ◌+◌, ◌≤◌, Option, Some, List, [], ◌∷◌, ◌++◌, replicate}
use Rattle.std.proofs.Common.{refl, sym, ◌∙◌, ap, subst, arith}
use Rattle.route_base.specs.Setting.{Road}
use Rattle.route_base.specs.Itinerary.{Step, drive, wait}
use Rattle.route_base.proofs.Lists.{same_head, same_tail}
use Rattle.drive_breaks.specs.Rested.{driven, minutes_of, IsSinceBreak}
use Rattle.drive_breaks.specs.Inside.WithinRule.{IsWithinRule, IsWithinRuleFrom}
use Rattle.drive_states.specs.declared.rule.BreakRule.{BreakRule}

pub no_drive : (a : ℕ) → drive a ≡ wait → ⊥
no_drive a is = cc

pub minutes_is : (o : Option Road) (road : Road) → o ≡ Some road → minutes_of o ≡ road.minutes
minutes_is o road is = ap minutes_of is

-- behind a drive the breaks are those before it
pub since_drive : (rest a : ℕ) (back late : List Step) → 1 ≤ rest → IsSinceBreak rest (drive a ∷ back) late
    → (more : List Step) × IsSinceBreak rest back more × (late ≡ drive a ∷ more)
since_drive zero a back late some since = absurd (omega (arith, some))
since_drive (suc k) a back [] some since = absurd (no_drive a (same_head since.1))
since_drive (suc k) a back (x ∷ late) some since = (
  late,
  (since.0, same_tail since.1),
  ap (λ (w : Step). w ∷ late) (sym (same_head since.1)),
)

-- behind a wait the breaks are those before it, or it ends one
pub since_wait : (rest : ℕ) (back late : List Step) → 1 ≤ rest → IsSinceBreak rest (wait ∷ back) late
    → ((more : List Step) × IsSinceBreak rest back more × (late ≡ wait ∷ more))
    ⊎ ((early : List Step) × (wait ∷ back ≡ replicate rest wait ++ early) × (late ≡ []))
since_wait zero back late some since = absurd (omega (arith, some))
since_wait (suc k) back [] some since = inr (since.0, since.1, refl)
since_wait (suc k) back (x ∷ late) some since = inl (
  late,
  (since.0, same_tail since.1),
  ap (λ (w : Step). w ∷ late) (sym (same_head since.1)),
)

-- nothing, or a drive first
pub data IsDriven : List Step → Type 0 where
  at_start : IsDriven []
  by_drive : (a : ℕ) (xs : List Step) → IsDriven (drive a ∷ xs)

no_more : (n k : ℕ) (front early : List Step) → IsDriven front → replicate k wait ++ front ≡ replicate n wait ++ early → n ≤ k
no_more zero k front early is same = omega arith
no_more (suc n) (suc k) front early is same =
    omega (arith, no_more n k front early is (same_tail same))
no_more (suc n) zero [] early is same = absurd (cc)
no_more (suc n) zero (drive a ∷ xs) early is same = absurd (no_drive a (same_head same))
no_more (suc n) zero (wait ∷ xs) early is same = absurd (elim is [ ])

-- exactly so many waits are the last steps
pub record EndsWaiting (back : List Step) (k : ℕ) : Type 0 where
  pub front : List Step
  pub is : back ≡ replicate k wait ++ front
  pub driven : IsDriven front

pub few_waits : (back early : List Step) (k n : ℕ) → EndsWaiting back k → back ≡ replicate n wait ++ early → n ≤ k
few_waits back early k n ends same = no_more n k ends.front early ends.driven (sym ends.is ∙ same)

pub waits_more : (back : List Step) (k : ℕ) → EndsWaiting back k → EndsWaiting (wait ∷ back) (k + 1)
waits_more back k ends =
    let next : suc k ≡ k + 1 = omega arith in
    record {
      front = ends.front;
      is = ap (λ (w : List Step). wait ∷ w) ends.is ∙ ap (λ (n : ℕ). replicate n wait ++ ends.front) next;
      driven = ends.driven;
    }

-- waits in front of waits
pub waits_over : (k : ℕ) (back : List Step) → replicate k wait ++ (wait ∷ back) ≡ wait ∷ (replicate k wait ++ back)
waits_over zero back = refl
waits_over (suc k) back = ap (λ (w : List Step). wait ∷ w) (waits_over k back)

module _ (roads : ℕ → Option Road) (rule : BreakRule) where
  pub rested_waits : (k : ℕ) (back ys : List Step) → IsWithinRuleFrom roads rule (replicate k wait ++ back) ys
      → IsWithinRuleFrom roads rule back (replicate k wait ++ ys)
  rested_waits zero back ys rested = rested
  rested_waits (suc k) back ys rested = rested_waits k (wait ∷ back) ys
      (subst (λ (w : List Step). IsWithinRuleFrom roads rule w ys) (sym (waits_over k back)) rested)

  -- the minutes driven since the start or some break
  pub HasSince : List Step → ℕ → Type 0
  HasSince back r = (driven roads back ≡ r) ⊎ ((late : List Step) × IsSinceBreak rule.rest back late × (driven roads late ≡ r))

  pub has_first : HasSince [] 0
  unfolding HasSince
  has_first = inl refl

  pub has_drive : (back : List Step) (r a : ℕ) → HasSince back r → HasSince (drive a ∷ back) (r + minutes_of (roads a))
  unfolding HasSince
  has_drive back r a has = ⊎_elim
      (λ (all : driven roads back ≡ r). inl (omega (arith, all)))
      (λ (some : (late : List Step) × IsSinceBreak rule.rest back late × (driven roads late ≡ r)).
      inr (drive a ∷ some.0, (some.1.0, ap (λ (w : List Step). drive a ∷ w) some.1.1), omega (arith, some.2)))
      has

  pub has_wait : (back : List Step) (r : ℕ) → HasSince back r → HasSince (wait ∷ back) r
  unfolding HasSince
  has_wait back r has = ⊎_elim
      (λ (all : driven roads back ≡ r). inl all)
      (λ (some : (late : List Step) × IsSinceBreak rule.rest back late × (driven roads late ≡ r)).
      inr (wait ∷ some.0, (some.1.0, ap (λ (w : List Step). wait ∷ w) some.1.1), some.2))
      has

  pub has_break : (back : List Step) → HasSince (replicate rule.rest wait ++ back) 0
  unfolding HasSince
  has_break back = inr ([], (back, refl), refl)

  pub within_since : (back : List Step) (r minutes : ℕ) → HasSince back r → r + minutes ≤ rule.drive → IsWithinRule roads rule back minutes
  unfolding HasSince
  within_since back r minutes has le = ⊎_elim
      (λ (all : driven roads back ≡ r). inl (omega (arith, all, le)))
      (λ (some : (late : List Step) × IsSinceBreak rule.rest back late × (driven roads late ≡ r)). inr (some.0, some.1, omega (arith, some.2, le)))
      has

  -- the minutes driven since the start or some break are within a rule that allows as many
  pub within_itself : (back : List Step) (r : ℕ) → HasSince back r → IsWithinRule roads (record { drive = r; rest = rule.rest }) back 0
  unfolding HasSince
  within_itself back r has = ⊎_elim
      (λ (all : driven roads back ≡ r). inl (omega (arith, all)))
      (λ (some : (late : List Step) × IsSinceBreak rule.rest back late × (driven roads late ≡ r)). inr (some.0, some.1, omega (arith, some.2)))
      has

  -- no more minutes than since the start and since each break
  pub record IsLeast (back : List Step) (r : ℕ) : Type 0 where
    pub all : r ≤ driven roads back
    pub each : (late : List Step) → IsSinceBreak rule.rest back late → r ≤ driven roads late

  pub least_drive : (back : List Step) (r a : ℕ) → 1 ≤ rule.rest → IsLeast back r → IsLeast (drive a ∷ back) (r + minutes_of (roads a))
  least_drive back r a some least = record {
    all = omega (arith, least.all);
    each = λ late since. (let more = since_drive rule.rest a back late some since in
        omega (arith, least.each more.0 more.1, ap (driven roads) more.2));
  }

  pub least_wait : (back : List Step) (r : ℕ) → 1 ≤ rule.rest → IsLeast back r → ((early : List Step) → wait ∷ back ≡ replicate rule.rest wait ++ early → r ≡ 0)
      → IsLeast (wait ∷ back) r
  least_wait back r some least none = record {
    all = least.all;
    each = λ late since. ⊎_elim
        (λ (old : (more : List Step) × IsSinceBreak rule.rest back more × (late ≡ wait ∷ more)). omega (arith, least.each old.0 old.1, ap (driven roads) old.2))
        (λ (new : (early : List Step) × (wait ∷ back ≡ replicate rule.rest wait ++ early) × (late ≡ [])). omega (arith, none new.0 new.1))
        (since_wait rule.rest back late some since);
  }

  pub least_within : (back : List Step) (r minutes : ℕ) → IsLeast back r → IsWithinRule roads rule back minutes → r + minutes ≤ rule.drive
  least_within back r minutes least within = ⊎_elim
      (λ (all : driven roads back + minutes ≤ rule.drive). omega (arith, least.all, all))
      (λ (some : (late : List Step) × IsSinceBreak rule.rest back late × (driven roads late + minutes ≤ rule.drive)).
      omega (arith, least.each some.0 some.1, some.2))
      within
