-- The ruler of a trip that serves stops simulates and fits if that of its rules does, and its stage is the number of served stops.
use Rattle.std.proofs.Common.{◌≡◌, ℕ, suc, ◌/◌, ◌%◌, ◌≤◌, ◌<◌, ◌&&◌, ltb, eqb, Bool, true, false, Some, None, List, length, map, refl, sym, ◌∙◌, ap, subst, arith}
use Rattle.std.specs.Prelude.{if◌then◌else◌}
use Rattle.std.specs.Option.{option_map}
use Rattle.std.proofs.lemmas.Bool.{eqb-true, eq-eqb, ltb-true, lt-ltb, and_from}
use Rattle.std.proofs.lemmas.List.{length-map}
use Rattle.std.proofs.lemmas.Nat.{div-mul-add, mod-mul-add, div-add-mod'}
use Rattle.std.proofs.lemmas.Option.{same_Some}
use Rattle.std.proofs.Math.Nat.{mul-le-mul_right, mod-lt}
use Rattle.route_base.proofs.Logic.{behind_test, map_some}
use Rattle.state_dominance.specs.Inside.Product.{Ruler, Service, IsSimulating, IsFitting, IsStaged, HasBest}
use Rattle.state_dominance.specs.Serving.{served_limit, joint, serving, IsFirstBest}

two_parts : (a b : Bool) → (a && b) ≡ true → (a ≡ true) × (b ≡ true)
two_parts true b is = (refl, is)
two_parts false b is = absurd (cc)

-- the two parts of a number
pub joint_served : (k served : ℕ) → served < served_limit → joint k served % served_limit ≡ served
joint_served k served small = mod-mul-add k served_limit served small

pub joint_state : (k served : ℕ) → served < served_limit → joint k served / served_limit ≡ k
joint_state k served small = div-mul-add k served_limit served small

abbrev pub served : ℕ → ℕ
served n = n % served_limit

abbrev pub state : ℕ → ℕ
state n = n / served_limit

pub served_low : (n : ℕ) → served n < served_limit
served_low n = mod-lt n (omega arith)

module _ (services : List Service) (r : Ruler) where
  same_served : (m n : ℕ) → (serving services r).no_worse m n ≡ true → served m ≡ served n
  same_served m n is = eqb-true (served m) (served n) (two_parts (eqb (served m) (served n)) (r.no_worse (state m) (state n)) is).0

  better_state : (m n : ℕ) → (serving services r).no_worse m n ≡ true → r.no_worse (state m) (state n) ≡ true
  better_state m n is = (two_parts (eqb (served m) (served n)) (r.no_worse (state m) (state n)) is).1

  better_by : (m n : ℕ) → served m ≡ served n → r.no_worse (state m) (state n) ≡ true → (serving services r).no_worse m n ≡ true
  better_by m n same better = and_from (eqb (served m) (served n)) (r.no_worse (state m) (state n)) (eq-eqb (served m) (served n) same) better

  -- numbers with one number of served stops
  better_joint : (j k i h : ℕ) → i < served_limit → i ≡ h → r.no_worse j k ≡ true
      → (serving services r).no_worse (joint j i) (joint k h) ≡ true
  better_joint j k i h small same better = better_by (joint j i) (joint k h)
      (joint_served j i small ∙ same ∙ sym (joint_served k h (omega (arith, small, same))))
      (subst (λ n. r.no_worse n (state (joint k h)) ≡ true) (sym (joint_state j i small))
      (subst (λ n. r.no_worse j n ≡ true) (sym (joint_state k h (omega (arith, small, same)))) better))

  low : (m n : ℕ) → served m ≡ served n → state m ≤ state n → m ≤ n
  low m n same le = omega (arith, div-add-mod' m served_limit, div-add-mod' n served_limit, same, mul-le-mul_right served_limit le)

  -- a service that is allowed is the next one
  pub may_serve : (n i next : ℕ) → (serving services r).serve n i ≡ Some next
      → (i < length services) × (served n ≡ i) × (joint (state n) (suc i) ≡ next)
  may_serve n i next is =
      let t = behind_test (ltb i (length services) && eqb (served n) i) (Some (joint (state n) (suc i))) next is in
      let parts = two_parts (ltb i (length services)) (eqb (served n) i) t.0 in
      (ltb-true i (length services) parts.0, eqb-true (served n) i parts.1, same_Some (joint (state n) (suc i)) next t.1)

  pub serves : (n i : ℕ) → i < length services → served n ≡ i → (serving services r).serve n i ≡ Some (joint (state n) (suc i))
  serves n i less at = ap (λ b. if b then Some (joint (state n) (suc i)) else None)
      (and_from (ltb i (length services)) (eqb (served n) i) (lt-ltb i (length services) less) (eq-eqb (served n) i at))

  unserves : (n i : ℕ) → i < length services → served n ≡ suc i → (serving services r).unserve n i ≡ Some (joint (state n) i)
  unserves n i less at = ap (λ b. if b then Some (joint (state n) i) else None)
      (and_from (ltb i (length services)) (eqb (served n) (suc i)) (lt-ltb i (length services) less) (eq-eqb (served n) (suc i) at))

  pub serving_simulates : length services < served_limit → IsSimulating r → IsSimulating (serving services r)
  serving_simulates few sim = record {
    same = λ k. better_by k k refl (sim.same (state k));
    on = λ i j k one two. better_by i k (same_served i j one ∙ same_served j k two)
        (sim.on (state i) (state j) (state k) (better_state i j one) (better_state j k two));
    low = λ j k is. low j k (same_served j k is) (sim.low (state j) (state k) (better_state j k is));
    drive = λ j k minutes next better is.
        let m = map_some (r.drive (state k) minutes) (λ o. joint o (served k)) next is in
        let d = sim.drive (state j) (state k) minutes m.0 (better_state j k better) m.1 in (
          joint d.0 (served j),
          ap (λ o. option_map (λ w. joint w (served j)) o) d.1,
          subst (λ n. (serving services r).no_worse (joint d.0 (served j)) n ≡ true) m.2
              (better_joint d.0 m.0 (served j) (served k) (served_low j) (same_served j k better) d.2),
        );
    rest = λ j k minutes better. better_joint (r.rest (state j) minutes) (r.rest (state k) minutes) (served j) (served k) (served_low j)
        (same_served j k better) (sim.rest (state j) (state k) minutes (better_state j k better));
    serve = λ j k i next better is.
        let had = may_serve k i next is in (
          joint (state j) (suc i),
          serves j i had.0 (same_served j k better ∙ had.1),
          subst (λ n. (serving services r).no_worse (joint (state j) (suc i)) n ≡ true) had.2
              (better_joint (state j) (state k) (suc i) (suc i) (omega (arith, had.0, few)) refl (better_state j k better)),
        );
    ends = λ j k better is.
        let parts = two_parts (eqb (served k) (length services)) (r.ends (state k)) is in
        and_from (eqb (served j) (length services)) (r.ends (state j))
        (eq-eqb (served j) (length services) (same_served j k better ∙ eqb-true (served k) (length services) parts.0))
        (sim.ends (state j) (state k) (better_state j k better) parts.1);
  }

  -- what fits has as many served stops
  fit_served : (m n : ℕ) → (serving services r).fits m n ≡ true → served m ≡ served n
  fit_served m n is = eqb-true (served m) (served n) (two_parts (eqb (served m) (served n)) (r.fits (state m) (state n)) is).0

  fit_state : (m n : ℕ) → (serving services r).fits m n ≡ true → r.fits (state m) (state n) ≡ true
  fit_state m n is = (two_parts (eqb (served m) (served n)) (r.fits (state m) (state n)) is).1

  fit_by : (m n : ℕ) → served m ≡ served n → r.fits (state m) (state n) ≡ true → (serving services r).fits m n ≡ true
  fit_by m n same fits = and_from (eqb (served m) (served n)) (r.fits (state m) (state n)) (eq-eqb (served m) (served n) same) fits

  pub serving_fits : length services < served_limit → IsFitting r → IsFitting (serving services r)
  serving_fits few fit = record {
    last = λ k n ends le.
        let parts = two_parts (eqb (served k) (length services)) (r.ends (state k)) ends in
        fit_by k n
        (eqb-true (served k) (length services) parts.0
        ∙ sym (same_served n (joint r.last (length services)) le ∙ joint_served r.last (length services) few))
        (fit.last (state k) (state n) parts.1 (subst (λ w. r.no_worse (state n) w ≡ true) (joint_state r.last (length services) few)
        (better_state n (joint r.last (length services)) le)));
    falls = λ j k n better fits. fit_by j n (same_served j k better ∙ fit_served k n fits)
        (fit.falls (state j) (state k) (state n) (better_state j k better) (fit_state k n fits));
    lowers = λ k n o better fits. fit_by k o (fit_served k n fits ∙ sym (same_served o n better))
        (fit.lowers (state k) (state n) (state o) (better_state o n better) (fit_state k n fits));
    drive = λ k next minutes n is fits.
        let m = map_some (r.drive (state k) minutes) (λ o. joint o (served k)) next is in
        let at : served next ≡ served k = ap served (sym m.2) ∙ joint_served m.0 (served k) (served_low k) in
        let after : state next ≡ m.0 = ap state (sym m.2) ∙ joint_state m.0 (served k) (served_low k) in
        let d = fit.drive (state k) m.0 minutes (state n) m.1 (subst (λ w. r.fits w (state n) ≡ true) after (fit_state next n fits)) in (
          joint d.0 (served n),
          ap (λ o. option_map (λ w. joint w (served n)) o) d.1,
          λ o le. fit_by k o
              (sym at ∙ fit_served next n fits ∙ sym (same_served o (joint d.0 (served n)) le ∙ joint_served d.0 (served n) (served_low n)))
              (d.2 (state o) (subst (λ w. r.no_worse (state o) w ≡ true) (joint_state d.0 (served n) (served_low n))
              (better_state o (joint d.0 (served n)) le))),
        );
    rest = λ k minutes n o fits le.
        let rested : ℕ = joint (r.rest (state k) minutes) (served k) in
        let need : ℕ = joint (r.rest (state n) minutes) (served n) in
        fit_by k o
        (sym (joint_served (r.rest (state k) minutes) (served k) (served_low k)) ∙ fit_served rested n fits
        ∙ sym (same_served o need le ∙ joint_served (r.rest (state n) minutes) (served n) (served_low n)))
        (fit.rest (state k) minutes (state n) (state o)
        (subst (λ w. r.fits w (state n) ≡ true) (joint_state (r.rest (state k) minutes) (served k) (served_low k)) (fit_state rested n fits))
        (subst (λ w. r.no_worse (state o) w ≡ true) (joint_state (r.rest (state n) minutes) (served n) (served_low n)) (better_state o need le)));
    serve = λ k i next n is fits.
        let had = may_serve k i next is in
        let small : suc i < served_limit = omega (arith, had.0, few) in
        let at : served next ≡ suc i = ap served (sym had.2) ∙ joint_served (state k) (suc i) small in
        let after : state next ≡ state k = ap state (sym had.2) ∙ joint_state (state k) (suc i) small in
        let before : i < served_limit = omega (arith, had.0, few) in (
          joint (state n) i,
          unserves n i had.0 (sym (fit_served next n fits) ∙ at),
          λ o le. fit_by k o
              (had.1 ∙ sym (same_served o (joint (state n) i) le ∙ joint_served (state n) i before))
              (fit.lowers (state k) (state n) (state o)
              (subst (λ w. r.no_worse (state o) w ≡ true) (joint_state (state n) i before) (better_state o (joint (state n) i) le))
              (subst (λ w. r.fits w (state n) ≡ true) after (fit_state next n fits))),
        );
  }

  pub serving_staged : length services < served_limit → IsStaged (serving services r)
  serving_staged few = record {
    drive = λ k minutes next is.
        let m = map_some (r.drive (state k) minutes) (λ o. joint o (served k)) next is in
        ap served (sym m.2) ∙ joint_served m.0 (served k) (served_low k);
    rest = λ k minutes. joint_served (r.rest (state k) minutes) (served k) (served_low k);
    serve = λ k i next is.
        let had = may_serve k i next is in
        (had.1, ap served (sym had.2) ∙ joint_served (state k) (suc i) (omega (arith, had.0, few)));
    ends = λ k ends. eqb-true (served k) (length services) (two_parts (eqb (served k) (length services)) (r.ends (state k)) ends).0;
    falls = λ j k better. same_served j k better;
    fits = λ k n fits. sym (fit_served k n fits);
  }

  pub serving_best : IsFirstBest r → HasBest (serving services r)
  serving_best least = record {
    best = λ k. better_by (joint r.first (served k)) k (joint_served r.first (served k) (served_low k))
        (subst (λ n. r.no_worse n (state k) ≡ true) (sym (joint_state r.first (served k) (served_low k))) (least.first (state k)));
  }

-- the same for services that are made of a list
module _ {A : Type 0} (service : A → Service) (all : List A) (r : Ruler) (few : length all < served_limit) where
  few_services : length (map service all) < served_limit
  few_services = subst (λ n. n < served_limit) (sym (length-map all service)) few

  pub made_simulates : IsSimulating r → IsSimulating (serving (map service all) r)
  made_simulates sim = serving_simulates (map service all) r few_services sim

  pub made_fits : IsFitting r → IsFitting (serving (map service all) r)
  made_fits fit = serving_fits (map service all) r few_services fit

  pub made_best : IsFirstBest r → HasBest (serving (map service all) r)
  made_best least = serving_best (map service all) r least

  pub made_staged : IsStaged (serving (map service all) r)
  made_staged = serving_staged (map service all) r few_services
