-- The ruler of one break rule simulates and fits, and has one stage.
use Rattle.std.proofs.Common.{◌≡◌, ◌⊎◌, inl, inr, ⊎_elim, ℕ, ◌+◌, ◌≤◌, ◌<◌, ◌||◌, leb, eqb, Bool, true, false, Some, None, refl, ap, arith}
use Rattle.std.specs.Prelude.{if◌then◌else◌}
use Rattle.std.proofs.lemmas.Bool.{leb-true, le-leb, eqb-true, eq-eqb}
use Rattle.std.proofs.lemmas.Option.{same_Some}
use Rattle.route_base.proofs.Logic.{behind_test}
use Rattle.state_dominance.specs.Inside.Product.{IsSimulating, IsFitting, IsStaged, HasBest}
use Rattle.state_dominance.specs.OneRule.{one_rule}
use Rattle.state_dominance.specs.Serving.{served_limit, IsFirstBest, HasSmallStates}

module _ (drive rest : ℕ) where
  allowed : (k minutes next : ℕ) → (one_rule drive rest).drive k minutes ≡ Some next → (k + minutes ≤ drive) × (k + minutes ≡ next)
  allowed k minutes next is =
      let h = behind_test (leb (k + minutes) drive) (Some (k + minutes)) next is in
      (leb-true (k + minutes) drive h.0, same_Some (k + minutes) next h.1)

  may_drive : (k minutes : ℕ) → k + minutes ≤ drive → (one_rule drive rest).drive k minutes ≡ Some (k + minutes)
  may_drive k minutes le = ap (λ b. if b then Some (k + minutes) else None) (le-leb (k + minutes) drive le)

  rest_mono : (b : Bool) (j k : ℕ) → j ≤ k → (if b then 0 else j) ≤ (if b then 0 else k)
  rest_mono true j k le = omega arith
  rest_mono false j k le = le

  pub simulates : IsSimulating (one_rule drive rest)
  simulates = record {
    same = λ k. le-leb k k (omega arith);
    on = λ i j k one two. le-leb i k (omega (arith, leb-true i j one, leb-true j k two));
    low = λ j k is. leb-true j k is;
    drive = λ j k minutes next better is.
        let a = allowed k minutes next is in
        let le = leb-true j k better in
        (j + minutes, may_drive j minutes (omega (arith, a.0, le)), le-leb (j + minutes) next (omega (arith, a.1, le)));
    rest = λ j k minutes better.
        le-leb (if leb rest minutes then 0 else j) (if leb rest minutes then 0 else k) (rest_mono (leb rest minutes) j k (leb-true j k better));
    serve = λ j k i next better is. (let bad : None ≡ Some next = is in cc);
    ends = λ j k better is. refl;
  }

  -- what fits is nothing, or within the limit
  fit_kinds : (k n : ℕ) → (one_rule drive rest).fits k n ≡ true → (n ≡ 0) ⊎ (k + n ≤ drive)
  fit_kinds k n = by (eqb n 0) refl
    where
      by : (b : Bool) → eqb n 0 ≡ b → (b || leb (k + n) drive) ≡ true → (n ≡ 0) ⊎ (k + n ≤ drive)
      by true zero_is is = inl (eqb-true n 0 zero_is)
      by false some is = inr (leb-true (k + n) drive is)

  fits_none : (k n : ℕ) → n ≡ 0 → (one_rule drive rest).fits k n ≡ true
  fits_none k n is = ap (λ b. b || leb (k + n) drive) (eq-eqb n 0 is)

  fits_within : (k n : ℕ) → k + n ≤ drive → (one_rule drive rest).fits k n ≡ true
  fits_within k n le = by (eqb n 0)
    where
      by : (b : Bool) → (b || leb (k + n) drive) ≡ true
      by true = refl
      by false = le-leb (k + n) drive le

  rest_fits : (b : Bool) (k n o : ℕ) → (n ≡ 0) ⊎ ((if b then 0 else k) + n ≤ drive) → o ≤ (if b then 0 else n) → (o ≡ 0) ⊎ (k + o ≤ drive)
  rest_fits true k n o had le = inl (omega (arith, le))
  rest_fits false k n o had le = ⊎_elim
      (λ (none : n ≡ 0). inl (omega (arith, none, le)))
      (λ (within : k + n ≤ drive). inr (omega (arith, within, le)))
      had

  pub fitting : IsFitting (one_rule drive rest)
  fitting = record {
    last = λ k n ends is. fits_none k n (let le = leb-true n 0 is in omega (arith, le));
    lowers = λ k n o better fits. let le = leb-true o n better in ⊎_elim
        (λ (none : n ≡ 0). fits_none k o (omega (arith, none, le)))
        (λ (within : k + n ≤ drive). fits_within k o (omega (arith, within, le)))
        (fit_kinds k n fits);
    serve = λ k i next n is fits. (let bad : None ≡ Some next = is in cc);
    falls = λ j k n better fits. let le = leb-true j k better in ⊎_elim
        (λ (none : n ≡ 0). fits_none j n none)
        (λ (within : k + n ≤ drive). fits_within j n (omega (arith, within, le)))
        (fit_kinds k n fits);
    drive = λ k next minutes n is fits.
        let a = allowed k minutes next is in
        let within : (n + minutes ≤ drive) × (k + (n + minutes) ≤ drive) = ⊎_elim
        (λ (none : n ≡ 0). (omega (arith, none, a.0), omega (arith, none, a.0)))
        (λ (le : next + n ≤ drive). (omega (arith, le, a.1), omega (arith, le, a.1)))
        (fit_kinds next n fits) in
        (n + minutes, may_drive n minutes within.0, λ o le. (let low = leb-true o (n + minutes) le in fits_within k o (omega (arith, within.1, low))));
    rest = λ k minutes n o fits le.
        let low = leb-true o (if leb rest minutes then 0 else n) le in
        ⊎_elim
        (λ (none : o ≡ 0). fits_none k o none)
        (λ (within : k + o ≤ drive). fits_within k o within)
        (rest_fits (leb rest minutes) k n o (fit_kinds (if leb rest minutes then 0 else k) n fits) low);
  }

  pub has_best : HasBest (one_rule drive rest)
  has_best = record { best = λ k. le-leb 0 k (omega arith) }

  pub first_best : IsFirstBest (one_rule drive rest)
  first_best = record { first = λ k. le-leb 0 k (omega arith) }

  pub staged : IsStaged (one_rule drive rest)
  staged = record {
    drive = λ k minutes next is. refl;
    rest = λ k minutes. refl;
    serve = λ k i next is. (let bad : None ≡ Some next = is in cc);
    ends = λ k ends. refl;
    falls = λ j k better. refl;
    fits = λ k n fits. refl;
  }

  rest_small : (b : Bool) (k : ℕ) → k < served_limit → (if b then 0 else k) < served_limit
  rest_small true k less = omega arith
  rest_small false k less = less

  -- its states are small where its limit is
  pub small_states : drive < served_limit → HasSmallStates (one_rule drive rest)
  small_states less = record {
    first = omega arith;
    last = omega arith;
    drives = λ k minutes next is. let a = allowed k minutes next is in omega (arith, a.0, a.1, less);
    rests = λ k minutes small. rest_small (leb rest minutes) k small;
  }
