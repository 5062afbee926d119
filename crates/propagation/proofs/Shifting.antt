-- Shifted costs are those of drives, and what drives and waits cost fits.
use Rattle.std.proofs.Common.{◌≡◌, ⊎_elim, ℕ, ◌+◌, ◌-◌, ◌*◌, ◌≤◌, ◌<◌, Bool, true, false, Option, Some, None, List, ◌∷◌, [], ◌++◌, replicate, refl, sym, ◌∙◌}
use Rattle.std.proofs.Common.{ap, arith}
use Rattle.std.specs.Prelude.{if◌then◌else◌, nat_le}
use Rattle.function_merge.specs.Moves.{moved_at, CanMove}
use Rattle.function_merge.proofs.KeptParts.{moved_early}
use Rattle.route_base.specs.Runs.{any_has}
use Rattle.route_base.specs.declared.types.Run.{Run}
use Rattle.propagation.specs.Inside.EntrySets.{AreEntries}
use Rattle.std.specs.Option.{option_map}
use Rattle.std.proofs.lemmas.Bool.{cases_lt, le-leb}
use Rattle.route_base.specs.Setting.{Road}
use Rattle.route_base.specs.Itinerary.{drive, wait, Drives}
use Rattle.route_base.specs.Legs.{start_of, CostsFit}
use Rattle.route_base.specs.Net.{Net, road_of, setting_of, at_number, runs_at}
use Rattle.route_base.specs.Open.{IsOpen, IsWaitOpen}
use Rattle.route_base.specs.declared.types.Bound.{Bound}
use Rattle.route_base.specs.declared.types.TimedArc.{TimedArc}
use Rattle.route_base.specs.declared.types.Request.{Request}
use Rattle.route_base.proofs.Walking.{walk-push, walk-append}
use Rattle.route_base.proofs.Waiting.{waits}
use Rattle.propagation.specs.Inside.Invariants.{Reaches, point}
use Rattle.propagation.specs.Inside.Offers.{IsDriven}
use Rattle.route_base.specs.declared.limits.TheConstants.{HIGHEST_COST, LAST_INSTANT}
use Rattle.route_base.proofs.Arcs.{road_is}

-- what a shift of kept costs has at a minute comes from a cost that is kept
shifted_some : (b : Bool) (o : Option ℕ) (c x : ℕ) → option_map (λ n. n + c) (if b then o else None) ≡ Some x → (b ≡ true) × (y : ℕ) × (o ≡ Some y)
    × (x ≡ y + c)
shifted_some false o c x is = cc
shifted_some true None c x is = cc
shifted_some true (Some y) c x is = (refl, y, refl, let e : y + c ≡ x = cc in sym e)

some_shifted : (b : Bool) (o : Option ℕ) (c y : ℕ) → b ≡ true → o ≡ Some y → option_map (λ n. n + c) (if b then o else None) ≡ Some (y + c)
some_shifted false o c y b is = cc
some_shifted true None c y b is = cc
some_shifted true (Some z) c y b is = let e : z ≡ y = cc in ap (λ n. Some (n + c)) e

moved_late : (minutes c : ℕ) (values : ℕ → Option ℕ) (t : ℕ) → moved_at minutes c values (t + minutes) ≡ option_map (λ n. n + c) (values t)
moved_late minutes c values t =
    let late : nat_le minutes (t + minutes) ≡ true = le-leb minutes (t + minutes) (omega arith) in
    let e : t + minutes - minutes ≡ t = omega arith in
    rw (late, e) refl

module _ (net : Net) (r : Request) (bounds : ℕ → Option Bound) where
  module _ (a v : ℕ) (arc : TimedArc) (is : at_number net.arcs a ≡ Some arc) (begins : arc.tail.0 ≡ v) where
    drive_of : (t x : ℕ) → IsOpen (setting_of net) a t arc.minutes → t + arc.minutes ≤ r.until → (u y : ℕ) → u ≡ t + arc.minutes → y ≡ x + arc.cost
        → Drives (setting_of net) r.until a (point v t x) (point arc.head.0 u y)
    drive_of t x free in_time u y minute cost =
        let road = ap (option_map road_of) is in
        record { road = road_of arc; is = road; tail = begins; is_open = free; in_time = in_time; node = refl; minute = minute; cost = cost }

    pub driven_is : (part g : ℕ → Option ℕ) (free : ℕ → Bool) → ((t : ℕ) → free t ≡ true → IsOpen (setting_of net) a t arc.minutes)
        → ((t : ℕ) → free t ≡ true → t + arc.minutes ≤ r.until)
        → ((t : ℕ) → IsOpen (setting_of net) a t arc.minutes → t + arc.minutes ≤ r.until → free t ≡ true)
        → ((t : ℕ) → g t ≡ moved_at arc.minutes arc.cost (λ u. if free u then part u else None) t)
        → IsDriven (record { setting = setting_of net; request = r; bounds = bounds }) a v part arc.head.0 g
    driven_is part g free opens in_time all values = record {
      from = λ t x there. ⊎_elim
          (λ (before : t < arc.minutes). let bad : None ≡ Some x = sym (moved_early arc.minutes arc.cost (λ w. if free w then part w else None) t before)
          ∙ (sym (values t) ∙ there) in cc)
          (λ (after : arc.minutes ≤ t).
          let u : ℕ = t - arc.minutes in
          let e : t ≡ u + arc.minutes = omega (arith, after) in
          let s = shifted_some (free u) (part u) arc.cost x (sym (later u) ∙ (ap g (sym e) ∙ there)) in
          (u, s.1, s.2, drive_of u s.1 (opens u s.0) (in_time u s.0) t x e s.3))
          (cases_lt t arc.minutes);
      to = λ u y q there step.
          let same : step.road ≡ road_of arc = sym (road_is (at_number net.arcs a) arc step.road is step.is) in
          let minutes : step.road.minutes ≡ arc.minutes = ap (λ (w : Road). w.minutes) same in
          let cost : step.road.cost ≡ arc.cost = ap (λ (w : Road). w.cost) same in
          let goes : IsOpen (setting_of net) a u arc.minutes = λ t low high. step.is_open t low (omega (arith, high, minutes)) in
          let late : u + arc.minutes ≤ r.until = omega (arith, step.in_time, minutes) in
          let at_end : q.minute ≡ u + arc.minutes = omega (arith, step.minute, minutes) in
          let costs : y + arc.cost ≡ q.cost = omega (arith, step.cost, cost) in (
            step.node ∙ ap (λ (w : Road). w.head) same,
            ap g at_end ∙ later u ∙ some_shifted (free u) (part u) arc.cost y (all u goes late) there ∙ ap (λ n. Some n) costs,
          );
    }
      where
        later : (u : ℕ) → g (u + arc.minutes) ≡ option_map (λ n. n + arc.cost) (if free u then part u else None)
        later u = values (u + arc.minutes) ∙ moved_late arc.minutes arc.cost (λ w. if free w then part w else None) u

    -- what a drive costs fits
    pub drive_fits : CostsFit (setting_of net) r → (t x : ℕ) → Reaches (record { setting = setting_of net; request = r; bounds = bounds }) (point v t x)
        → IsOpen (setting_of net) a t arc.minutes → t + arc.minutes ≤ r.until → x + arc.cost ≤ HIGHEST_COST
    drive_fits fit t x reached free in_time = fit (reached.0 ++ drive a ∷ []) (point arc.head.0 (t + arc.minutes) (x + arc.cost))
        (walk-push (setting_of net) r.until reached.0 (drive a) (start_of r) (point v t x) (point arc.head.0 (t + arc.minutes) (x + arc.cost)) reached.1
        (drive_of t x free in_time _ _ refl refl))

  -- what waiting costs fits
  pub wait_fits : CostsFit (setting_of net) r → (h weight s y t : ℕ) → (setting_of net).weight h ≡ Some weight
      → IsWaitOpen (setting_of net) h s (t - s) → Reaches (record { setting = setting_of net; request = r; bounds = bounds }) (point h s y) → s ≤ t
      → t ≤ r.until → y + weight * (t - s) ≤ HIGHEST_COST
  wait_fits fit h weight s y t rated opens reached le late =
      let small = fit (reached.0 ++ replicate (t - s) wait) (point h (s + (t - s)) (y + (t - s) * weight))
      (walk-append (setting_of net) r.until reached.0 (replicate (t - s) wait) (start_of r) (point h s y)
      (point h (s + (t - s)) (y + (t - s) * weight)) reached.1
      (waits (setting_of net) r.until (t - s) h s y weight rated opens (omega (arith, le, late)))) in
      let e : weight * (t - s) ≡ (t - s) * weight = omega arith in
      omega (arith, small, e)

-- what is known of the entry set of an arc
module _ (net : Net) (r : Request) (bounds : ℕ → Option Bound) (a v : ℕ) (arc : TimedArc) (is : at_number net.arcs a ≡ Some arc) (begins : arc.tail.0 ≡ v)
    (set : List Run) (entries : AreEntries (runs_at net a) r.until arc.minutes set) where
  entered : (t : ℕ) → any_has set t ≡ true → IsOpen (setting_of net) a t arc.minutes × (t + arc.minutes ≤ r.until)
  entered t has = let e = (entries t).0 has in (e.free, e.ends)

  pub entries_drive : (part g : ℕ → Option ℕ) → ((t : ℕ) → g t ≡ moved_at arc.minutes arc.cost (λ u. if any_has set u then part u else None) t)
      → IsDriven (record { setting = setting_of net; request = r; bounds = bounds }) a v part arc.head.0 g
  entries_drive part g values = driven_is net r bounds a v arc is begins part g (any_has set) (λ t has. (entered t has).0) (λ t has. (entered t has).1)
      (λ t free in_time. (entries t).1 (record { begins = omega arith; ends = in_time; free = free })) values

  -- a cost that is kept is there
  kept_there : (b : Bool) (o : Option ℕ) (x : ℕ) → (if b then o else None) ≡ Some x → (b ≡ true) × (o ≡ Some x)
  kept_there true o x there = (refl, there)
  kept_there false o x there = cc

  pub entries_fit : CostsFit (setting_of net) r → r.until ≤ LAST_INSTANT → (part : ℕ → Option ℕ)
      → ((t x : ℕ) → part t ≡ Some x → Reaches (record { setting = setting_of net; request = r; bounds = bounds }) (point v t x))
      → CanMove arc.minutes arc.cost (λ u. if any_has set u then part u else None)
  entries_fit fit last part reached = record {
    minutes_fit = λ t x there. let kept = kept_there (any_has set t) (part t) x there in omega (arith, (entered t kept.0).1, last);
    values_fit = λ t x there.
        let kept = kept_there (any_has set t) (part t) x there in
        let e = entered t kept.0 in
        drive_fits net r bounds a v arc is begins fit t x (reached t x kept.1) e.0 e.1;
  }
