-- Labels that hold along arcs give bounds that do.
use Rattle.std.proofs.Common.{◌≡◌, ⊎_elim, ℕ, ◌+◌, ◌*◌, ◌≤◌, ◌++◌, true, Option, Some, List, All, ◌∙◌, ap, subst, arith}
use Rattle.std.specs.Prelude.{Contains, slice_get}
use Rattle.std.proofs.lemmas.List.Elements.{Contains-append_right, Contains-append_cases}
use Rattle.std.proofs.lemmas.Option.{slice_get_within, get_or_from_slice_get}
use Rattle.route_base.specs.Setting.{Setting, Road}
use Rattle.route_base.specs.declared.types.Bound.{Bound}
use Rattle.state_dominance.specs.Inside.Product.{Ruler, Service, IsFitting, AreRuledBounds}
use Rattle.ruled_states.specs.Inside.Labels.{least_fit, labels_at, labels_for, far_labels, both_parts, label_bound}
use Rattle.ruled_states.specs.Inside.Tiring.{DrivesTire}
use Rattle.ruled_states.specs.declared.labels.Label.{Label}
use Rattle.ruled_states.proofs.Fitting.{fit_least, least_is, both_is}
use Rattle.ruled_bounds.specs.Inside.GoodLabels.{Counting, HasAsGood, in_minutes, in_cost, ServesAt, ServesBy, AreGoodLabels}
use Rattle.ruled_bounds.proofs.Goods.{as_good_left}

-- where there is a label that is as good, the least value is no larger
as_good_least : (r : Ruler) (ls : List Label) (value need k : ℕ) → HasAsGood r ls value need → ((o : ℕ) → r.no_worse o need ≡ true → r.fits k o ≡ true)
    → (y : ℕ) × (least_fit r ls k ≡ Some y) × (y ≤ value)
as_good_least r ls value need k good fits =
    let least = fit_least r ls k good.label good.is_one (fits good.label.need good.better) in
    (least.0, least.1, omega (arith, least.2, good.within))

made_both : (m c : Option ℕ) (x y : ℕ) → m ≡ Some x → c ≡ Some y → both_parts m c ≡ Some (record { minutes = x; cost = y })
made_both m c x y one two = ap (λ o. both_parts o c) one ∙ ap (λ o. both_parts (Some x) o) two

of_contained : (P : Label → Type 0) (ls : List Label) (l : Label) → All P ls → Contains ls l → P l
of_contained P ls l all one = subst P one.2 (all one.0 l one.1)

place_of : (xs : List ℕ) (i x : ℕ) → slice_get xs i ≡ Some x → Contains xs x
place_of xs i x is = (i, slice_get_within xs i x is, get_or_from_slice_get xs i x x is)

nothing : (y : ℕ) → y ≤ 0 → y ≡ 0
nothing y le = omega (arith, le)

-- what is counted: the least value before a drive, rest or service is no more than that behind it with what it takes
module _ (s : Setting) (r : Ruler) (goal : ℕ) (c : Counting) (lists : List (List Label)) (fit : IsFitting r) (tires : DrivesTire r)
    (good : AreGoodLabels s r goal c lists) where
  abbrev least_at : ℕ → ℕ → Option ℕ
  least_at v k = least_fit r (labels_for lists v) k

  abbrev IsWithin : ℕ → ℕ → ℕ → Type 0
  IsWithin v k most = (x : ℕ) × (least_at v k ≡ Some x) × (x ≤ most)

  goal_least : (k : ℕ) → r.ends k ≡ true → least_at goal k ≡ Some 0
  goal_least k ends =
      let m = as_good_least r (labels_for lists goal) 0 r.last k good.at_goal (λ o le. fit.last k o ends le) in
      m.1 ∙ ap (λ (n : ℕ). Some n) (nothing m.0 m.2)

  falls_least : (v j k y : ℕ) → r.no_worse j k ≡ true → least_at v k ≡ Some y → IsWithin v j y
  falls_least v j k y better is =
      let l = least_is r (labels_for lists v) k y is in
      let x = fit_least r (labels_for lists v) j l.0 l.1 (fit.falls j k l.0.need better l.2) in
      (x.0, x.1, omega (arith, x.2, l.3))

  -- a label that counts for every node and fits
  far_least : (v k y more : ℕ) (l : Label) → Contains (far_labels lists) l → r.fits k l.need ≡ true → l.value ≡ y → IsWithin v k (y + more)
  far_least v k y more l one fits is =
      let x = fit_least r (labels_for lists v) k l (Contains-append_right (labels_at lists v) (far_labels lists) l one) fits in
      (x.0, x.1, omega (arith, x.2, is))

  drive_least : (a k next y : ℕ) (over : Road) → s.road a ≡ Some over → r.drive k over.minutes ≡ Some next → least_at over.head next ≡ Some y
      → IsWithin over.tail k (y + c.of_drive over)
  drive_least a k next y over is allowed there =
      let l = least_is r (labels_for lists over.head) next y there in
      ⊎_elim
      (λ (one : Contains (labels_at lists over.head) l.0).
      let d = fit.drive k next over.minutes l.0.need allowed l.2 in
      let m = as_good_least r (labels_for lists over.tail) (l.0.value + c.of_drive over) d.0 k
      (of_contained (λ x. (n : ℕ) → r.drive x.need over.minutes ≡ Some n → HasAsGood r (labels_for lists over.tail) (x.value + c.of_drive over) n)
      (labels_at lists over.head) l.0 (good.drives a over is) one d.0 d.1) d.2 in
      (m.0, m.1, omega (arith, m.2, l.3)))
      (λ (one : Contains (far_labels lists) l.0).
      far_least over.tail k y (c.of_drive over) l.0 one (tires k next over.minutes l.0.need allowed l.2) l.3)
      (Contains-append_cases (labels_at lists over.head) (far_labels lists) l.0 l.1)

  rest_least : (i v k rest weight y : ℕ) → slice_get r.rests i ≡ Some rest → s.weight v ≡ Some weight → least_at v (r.rest k rest) ≡ Some y
      → IsWithin v k (y + c.of_rest rest weight)
  rest_least i v k rest weight y is rated there =
      let own = labels_at lists v in
      let one = place_of r.rests i rest is in
      let l = least_is r (labels_for lists v) (r.rest k rest) y there in
      ⊎_elim
      (λ (near : Contains own l.0).
      let behind = of_contained (λ x. HasAsGood r own (x.value + c.of_rest rest weight) (r.rest x.need rest)) own l.0
      (subst (λ n. All (λ x. HasAsGood r own (x.value + c.of_rest n weight) (r.rest x.need n)) own) one.2 (good.rests v weight rated one.0 rest one.1))
      near in
      let m = as_good_least r (labels_for lists v) (l.0.value + c.of_rest rest weight) (r.rest l.0.need rest) k
      (as_good_left r own (far_labels lists) (l.0.value + c.of_rest rest weight) (r.rest l.0.need rest) behind)
      (λ o le. fit.rest k rest l.0.need o l.2 le) in
      (m.0, m.1, omega (arith, m.2, l.3)))
      (λ (far : Contains (far_labels lists) l.0).
      let rested = of_contained (λ x. All (λ n. r.no_worse x.need (r.rest x.need n) ≡ true) r.rests) (far_labels lists) l.0 good.far far in
      let better = subst (λ n. r.no_worse l.0.need (r.rest l.0.need n) ≡ true) one.2 (rested one.0 rest one.1) in
      far_least v k y (c.of_rest rest weight) l.0 far (fit.rest k rest l.0.need l.0.need l.2 better) l.3)
      (Contains-append_cases own (far_labels lists) l.0 l.1)

  serve_least : (i k next y : ℕ) (d : Service) → slice_get r.services i ≡ Some d → r.serve k i ≡ Some next → least_at d.node next ≡ Some y
      → IsWithin d.node k (y + c.of_service d)
  serve_least i k next y d is allowed there =
      let own = labels_at lists d.node in
      let far = far_labels lists in
      let l = least_is r (labels_for lists d.node) next y there in
      let a = fit.serve k i next l.0.need allowed l.2 in
      let holds : ServesAt r c own far i d = subst (λ o. ServesBy r c lists i o) is (good.serves i) in
      let behind : HasAsGood r (own ++ far) (l.0.value + c.of_service d) a.0 = ⊎_elim
      (λ (one : Contains own l.0).
      of_contained (λ x. (n : ℕ) → r.unserve x.need i ≡ Some n → HasAsGood r (own ++ far) (x.value + c.of_service d) n) own l.0 holds.by_own one a.0 a.1)
      (λ (one : Contains far l.0).
      of_contained (λ x. (n : ℕ) → r.unserve x.need i ≡ Some n → HasAsGood r (own ++ far) (x.value + c.of_service d) n) far l.0 holds.by_far one a.0 a.1)
      (Contains-append_cases own far l.0 l.1) in
      let m = as_good_least r (own ++ far) (l.0.value + c.of_service d) a.0 k behind a.2 in
      (m.0, m.1, omega (arith, m.2, l.3))

module _ (s : Setting) (r : Ruler) (goal : ℕ) (minutes costs : List (List Label)) (fit : IsFitting r) (tires : DrivesTire r)
    (in_time : AreGoodLabels s r goal in_minutes minutes) (at_cost : AreGoodLabels s r goal in_cost costs) where
  abbrev part : List (List Label) → ℕ → ℕ → Option ℕ
  part lists v k = least_fit r (labels_for lists v) k

  -- both parts at a node in a state, within these
  both_within : (v k most dear : ℕ) → (x : ℕ) × (part minutes v k ≡ Some x) × (x ≤ most) → (x : ℕ) × (part costs v k ≡ Some x) × (x ≤ dear)
      → (b : Bound) × (label_bound r minutes costs v k ≡ Some b) × (b.minutes ≤ most) × (b.cost ≤ dear)
  both_within v k most dear m c = (
    record { minutes = m.0; cost = c.0 },
    made_both (part minutes v k) (part costs v k) m.0 c.0 m.1 c.1,
    m.2,
    c.2,
  )

  both_more : (v k : ℕ) (most dear more dearer : ℕ) → most ≤ more → dear ≤ dearer
      → (b : Bound) × (label_bound r minutes costs v k ≡ Some b) × (b.minutes ≤ most) × (b.cost ≤ dear)
      → (b : Bound) × (label_bound r minutes costs v k ≡ Some b) × (b.minutes ≤ more) × (b.cost ≤ dearer)
  both_more v k most dear more dearer one two b = (b.0, b.1, omega (arith, one, b.2), omega (arith, two, b.3))

  pub label_bounds_hold : AreRuledBounds s r goal (label_bound r minutes costs)
  label_bounds_hold = record {
    at_goal = λ k ends. made_both (part minutes goal k) (part costs goal k) 0 0
        (goal_least s r goal in_minutes minutes fit tires in_time k ends) (goal_least s r goal in_cost costs fit tires at_cost k ends);
    falls = λ v j k b better is.
        let parts = both_is (part minutes v k) (part costs v k) b is in
        both_within v j b.minutes b.cost (falls_least s r goal in_minutes minutes fit tires in_time v j k b.minutes better parts.0)
        (falls_least s r goal in_cost costs fit tires at_cost v j k b.cost better parts.1);
    drives = λ a k next over h is allowed far.
        let parts = both_is (part minutes over.head next) (part costs over.head next) h far in
        both_more over.tail k (h.minutes + over.minutes) (h.cost + over.cost) (over.minutes + h.minutes) (over.cost + h.cost) (omega arith) (omega arith)
        (both_within over.tail k (h.minutes + over.minutes) (h.cost + over.cost)
        (drive_least s r goal in_minutes minutes fit tires in_time a k next h.minutes over is allowed parts.0)
        (drive_least s r goal in_cost costs fit tires at_cost a k next h.cost over is allowed parts.1));
    rests = λ i v k rest weight h is rated far.
        let parts = both_is (part minutes v (r.rest k rest)) (part costs v (r.rest k rest)) h far in
        both_more v k (h.minutes + rest) (h.cost + rest * weight) (rest + h.minutes) (rest * weight + h.cost) (omega arith) (omega arith)
        (both_within v k (h.minutes + rest) (h.cost + rest * weight)
        (rest_least s r goal in_minutes minutes fit tires in_time i v k rest weight h.minutes is rated parts.0)
        (rest_least s r goal in_cost costs fit tires at_cost i v k rest weight h.cost is rated parts.1));
    serves = λ i k next d h is allowed far.
        let parts = both_is (part minutes d.node next) (part costs d.node next) h far in
        both_more d.node k (h.minutes + d.minutes) (h.cost + 0) (d.minutes + h.minutes) h.cost (omega arith) (omega arith)
        (both_within d.node k (h.minutes + d.minutes) (h.cost + 0)
        (serve_least s r goal in_minutes minutes fit tires in_time i k next h.minutes d is allowed parts.0)
        (serve_least s r goal in_cost costs fit tires at_cost i k next h.cost d is allowed parts.1));
  }
