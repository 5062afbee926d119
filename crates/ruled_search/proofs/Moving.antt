-- Costs that are driven over a road of any setting, and what drives and waits cost fits.
use Rattle.std.proofs.Common.{◌≡◌, inl, inr, ⊎_elim, ℕ, ◌+◌, ◌-◌, ◌*◌, ◌≤◌, ◌<◌, Bool, true}
use Rattle.std.proofs.Common.{false, Option, Some, None, List, ◌∷◌, [], ◌++◌, replicate, refl, sym, ◌∙◌}
use Rattle.std.proofs.Common.{ap, subst, arith}
use Rattle.std.specs.Prelude.{if◌then◌else◌, nat_le}
use Rattle.std.specs.Option.{option_map}
use Rattle.std.proofs.lemmas.Bool.{cases_lt, le-leb}
use Rattle.std.proofs.lemmas.Option.{same_Some}
use Rattle.function_merge.specs.Moves.{moved_at, CanMove}
use Rattle.function_merge.specs.Pruning.{IsPruned}
use Rattle.function_merge.proofs.KeptParts.{moved_early}
use Rattle.route_base.specs.Itinerary.{Position, Step, drive, wait, Drives, Walks}
use Rattle.route_base.specs.Open.{IsOpen, IsWaitOpen}
use Rattle.route_base.specs.Relaxing.{IsDominatedOrLate}
use Rattle.route_base.specs.Runs.{any_has}
use Rattle.route_base.specs.Setting.{Road}
use Rattle.route_base.specs.declared.limits.TheConstants.{HIGHEST_COST, LAST_INSTANT}
use Rattle.route_base.specs.declared.types.Bound.{Bound}
use Rattle.route_base.specs.declared.types.Pair.{Pair}
use Rattle.route_base.specs.declared.types.Run.{Run}
use Rattle.route_base.proofs.Walking.{walk-push, walk-append}
use Rattle.route_base.proofs.Waiting.{waits}
use Rattle.propagation.specs.Inside.Invariants.{IsWorseOrLate, point}
use Rattle.propagation.specs.Inside.Pairs.{AreBorders}
use Rattle.propagation.proofs.Pruning.{by_worse, worse_by_borders}
use Rattle.state_dominance.specs.Inside.Dominance.{Task, Reaches}
use Rattle.state_dominance.specs.Inside.Widening.{IsDriven, IsCleared}
use Rattle.ruled_search.specs.Inside.Ways.{AreStarts}

-- what a shift of kept costs has at a minute comes from a cost that is kept
shifted_some : (b : Bool) (o : Option ℕ) (c x : ℕ) → option_map (λ n. n + c) (if b then o else None) ≡ Some x → (b ≡ true) × (y : ℕ) × (o ≡ Some y)
    × (x ≡ y + c)
shifted_some false o c x is = cc
shifted_some true None c x is = cc
shifted_some true (Some y) c x is = (refl, y, refl, let e : y + c ≡ x = cc in sym e)

some_shifted : (b : Bool) (o : Option ℕ) (c y : ℕ) → b ≡ true → o ≡ Some y → option_map (λ n. n + c) (if b then o else None) ≡ Some (y + c)
some_shifted false o c y b is = cc
some_shifted true None c y b is = cc
some_shifted true (Some z) c y b is = let e : z ≡ y = cc in ap (λ n. Some (n + c)) e

moved_late : (minutes c : ℕ) (values : ℕ → Option ℕ) (t : ℕ) → moved_at minutes c values (t + minutes) ≡ option_map (λ n. n + c) (values t)
moved_late minutes c values t =
    let late : nat_le minutes (t + minutes) ≡ true = le-leb minutes (t + minutes) (omega arith) in
    let e : t + minutes - minutes ≡ t = omega arith in
    rw (late, e) refl

-- every walk costs at most the highest cost
abbrev pub WalksFit : Task → Type 0
WalksFit k = (steps : List Step) (p : Position) → Walks k.setting k.until steps k.start p → p.cost ≤ HIGHEST_COST

module _ (k : Task) (x v : ℕ) (road : Road) (is : k.setting.road x ≡ Some road) (begins : road.tail ≡ v) where
  drive_of : (t y : ℕ) → IsOpen k.setting x t road.minutes → t + road.minutes ≤ k.until → (u z : ℕ) → u ≡ t + road.minutes → z ≡ y + road.cost
      → Drives k.setting k.until x (point v t y) (point road.head u z)
  drive_of t y free in_time u z minute cost =
      record { road = road; is = is; tail = begins; is_open = free; in_time = in_time; node = refl; minute = minute; cost = cost }

  same_road : (other : Road) → k.setting.road x ≡ Some other → other ≡ road
  same_road other at = same_Some other road (sym at ∙ is)

  module _ (starts : List Run) (are : AreStarts k x road.minutes starts) where
    pub driven_is : (part g : ℕ → Option ℕ) → ((t : ℕ) → g t ≡ moved_at road.minutes road.cost (λ u. if any_has starts u then part u else None) t)
        → IsDriven k x v part road.head g
    driven_is part g values = record {
      from = λ t y there. ⊎_elim
          (λ (before : t < road.minutes).
          let bad : None ≡ Some y = sym (moved_early road.minutes road.cost (λ w. if any_has starts w then part w else None) t before)
          ∙ (sym (values t) ∙ there) in cc)
          (λ (after : road.minutes ≤ t).
          let u : ℕ = t - road.minutes in
          let e : t ≡ u + road.minutes = omega (arith, after) in
          let s = shifted_some (any_has starts u) (part u) road.cost y (sym (later u) ∙ (ap g (sym e) ∙ there)) in
          let free = (are u).0 s.0 in
          (u, s.1, s.2, drive_of u s.1 free.0 free.1 t y e s.3))
          (cases_lt t road.minutes);
      to = λ u y q there step.
          let same : step.road ≡ road = same_road step.road step.is in
          let minutes : step.road.minutes ≡ road.minutes = ap (λ (w : Road). w.minutes) same in
          let cost : step.road.cost ≡ road.cost = ap (λ (w : Road). w.cost) same in
          let goes : IsOpen k.setting x u road.minutes = λ t low high. step.is_open t low (omega (arith, high, minutes)) in
          let late : u + road.minutes ≤ k.until = omega (arith, step.in_time, minutes) in
          let at_end : q.minute ≡ u + road.minutes = omega (arith, step.minute, minutes) in
          let costs : y + road.cost ≡ q.cost = omega (arith, step.cost, cost) in (
            step.node ∙ ap (λ (w : Road). w.head) same,
            ap g at_end ∙ later u ∙ some_shifted (any_has starts u) (part u) road.cost y ((are u).1 (goes, late)) there ∙ ap (λ n. Some n) costs,
          );
    }
      where
        later : (u : ℕ) → g (u + road.minutes) ≡ option_map (λ n. n + road.cost) (if any_has starts u then part u else None)
        later u = values (u + road.minutes) ∙ moved_late road.minutes road.cost (λ w. if any_has starts w then part w else None) u

    -- a cost that is kept is there
    kept_there : (b : Bool) (o : Option ℕ) (y : ℕ) → (if b then o else None) ≡ Some y → (b ≡ true) × (o ≡ Some y)
    kept_there true o y there = (refl, there)
    kept_there false o y there = cc

    pub starts_fit : WalksFit k → k.until ≤ LAST_INSTANT → (part : ℕ → Option ℕ) → ((t y : ℕ) → part t ≡ Some y → Reaches k (point v t y))
        → CanMove road.minutes road.cost (λ u. if any_has starts u then part u else None)
    starts_fit fit last part reached = record {
      minutes_fit = λ t y there.
          let kept = kept_there (any_has starts t) (part t) y there in
          let e = (are t).0 kept.0 in
          omega (arith, e.1, last);
      values_fit = λ t y there.
          let kept = kept_there (any_has starts t) (part t) y there in
          let e = (are t).0 kept.0 in
          let r = reached t y kept.1 in
          let end = point road.head (t + road.minutes) (y + road.cost) in
          fit (r.0 ++ drive x ∷ []) end
          (walk-push k.setting k.until r.0 (drive x) k.start (point v t y) end r.1 (drive_of t y e.0 e.1 _ _ refl refl));
    }

-- what waiting costs fits
pub wait_fits : (k : Task) → WalksFit k → (h weight s y t : ℕ) → k.setting.weight h ≡ Some weight
    → IsWaitOpen k.setting h s (t - s) → Reaches k (point h s y) → s ≤ t → t ≤ k.until → y + weight * (t - s) ≤ HIGHEST_COST
wait_fits k fit h weight s y t rated opens reached le late =
    let small = fit (reached.0 ++ replicate (t - s) wait) (point h (s + (t - s)) (y + (t - s) * weight))
    (walk-append k.setting k.until reached.0 (replicate (t - s) wait) k.start (point h s y)
    (point h (s + (t - s)) (y + (t - s) * weight)) reached.1
    (waits k.setting k.until (t - s) h s y weight rated opens (omega (arith, le, late)))) in
    let e : weight * (t - s) ≡ (t - s) * weight = omega arith in
    omega (arith, small, e)

-- what is pruned by borders is cleared at a node with the bound
pub cleared_of : (k : Task) (pairs borders : List Pair) (h latest : ℕ) (b : Bound) (f g : ℕ → Option ℕ) → k.bounds h ≡ Some b
    → k.latest h ≡ latest → AreBorders pairs borders → IsPruned latest borders b f g → IsCleared k pairs h f g
cleared_of k pairs borders h latest b f g is last are pruned =
    let late : (p : Position) → IsWorseOrLate latest pairs (Some b) p → IsWorseOrLate (k.latest h) pairs (k.bounds h) p = λ p e.
    subst (λ n. IsWorseOrLate n pairs (k.bounds h) p) (sym last) (subst (λ o. IsWorseOrLate latest pairs o p) (sym is) e) in
    let early : (p : Position) → IsWorseOrLate (k.latest h) pairs (k.bounds h) p → IsWorseOrLate latest pairs (Some b) p = λ p e.
    subst (λ o. IsWorseOrLate latest pairs o p) is (subst (λ n. IsWorseOrLate n pairs (k.bounds h) p) last e) in
    record {
      kept = pruned.kept;
      clear = λ t x there e. pruned.clear (point h t x) there (by_worse latest pairs borders b (point h t x) are (early (point h t x) e));
      left = λ t x there. ⊎_elim
          (λ (stays : g t ≡ Some x). inl stays)
          (λ (e : IsDominatedOrLate latest borders (Some b) (point h t x)).
          inr (late (point h t x) (worse_by_borders latest pairs borders b (point h t x) are e)))
          (pruned.left (point h t x) there);
    }
