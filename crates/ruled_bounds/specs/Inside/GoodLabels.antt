-- How labels hold along arcs, and at rests and services (source: own; no law).
use Rattle.std.specs.Prelude.{◌≡◌, ℕ, ◌+◌, ◌*◌, ◌≤◌, ◌++◌, ⊤, true, Option, Some, None, List, All, Contains, slice_get}
use Rattle.route_base.specs.Setting.{Setting, Road}
use Rattle.state_dominance.specs.Inside.Product.{Ruler, Service}
use Rattle.ruled_states.specs.Inside.Labels.{labels_at, labels_for, far_labels}
use Rattle.ruled_states.specs.declared.labels.Label.{Label}
use Rattle.ruled_bounds.specs.declared.label_search.Counted.{Counted}
use Rattle.ruled_bounds.specs.declared.label_search.Counted.TheVariants.{Minutes, Cost}

-- some label is worth no more and needs no more
pub record HasAsGood (r : Ruler) (labels : List Label) (value need : ℕ) : Type 0 where
  pub label : Label
  pub is_one : Contains labels label
  pub within : label.value ≤ value
  pub better : r.no_worse label.need need ≡ true

-- what is counted of a drive and of a rest
pub record Counting : Type 0 where
  pub of_drive : Road → ℕ
  pub of_rest : ℕ → ℕ → ℕ
  pub of_service : Service → ℕ

abbrev pub in_minutes : Counting
in_minutes = record { of_drive = λ over. over.minutes; of_rest = λ minutes weight. minutes; of_service = λ d. d.minutes }

abbrev pub in_cost : Counting
in_cost = record { of_drive = λ over. over.cost; of_rest = λ minutes weight. minutes * weight; of_service = λ d. 0 }

-- behind a drive over this road some label that counts for the tail is as good as each of the head's own
abbrev pub HoldsAlong : Ruler → Counting → List (List Label) → Road → Type 0
HoldsAlong r c lists over = All (λ l. (m : ℕ) → r.drive l.need over.minutes ≡ Some m
    → HasAsGood r (labels_for lists over.tail) (l.value + c.of_drive over) m) (labels_at lists over.head)

-- behind a rest of these minutes the node has a label that is as good
abbrev pub HoldsAt : Ruler → Counting → List Label → ℕ → ℕ → Type 0
HoldsAt r c labels weight minutes = All (λ l. HasAsGood r labels (l.value + c.of_rest minutes weight) (r.rest l.need minutes)) labels

-- behind the service at a place some label among `known` is as good as each of these
abbrev pub HoldsServed : Ruler → Counting → List Label → List Label → ℕ → Service → Type 0
HoldsServed r c known labels i d = All (λ l. (m : ℕ) → r.unserve l.need i ≡ Some m → HasAsGood r known (l.value + c.of_service d) m) labels

-- behind the service at a place some label that counts for its node is as good as each that does
pub record ServesAt (r : Ruler) (c : Counting) (own far : List Label) (i : ℕ) (d : Service) : Type 0 where
  pub by_own : HoldsServed r c (own ++ far) own i d
  pub by_far : HoldsServed r c (own ++ far) far i d

-- behind the service at a place, if there is one
abbrev pub ServesBy : Ruler → Counting → List (List Label) → ℕ → Option Service → Type 0
ServesBy r c lists i None = ⊤
ServesBy r c lists i (Some d) = ServesAt r c (labels_at lists d.node) (far_labels lists) i d

-- no rest makes the need of the label a better one
abbrev pub NeedsNoRest : Ruler → Label → Type 0
NeedsNoRest r l = All (λ minutes. r.no_worse l.need (r.rest l.need minutes) ≡ true) r.rests

-- the labels hold along each road and at each rest and service, and the goal has one of nothing. Those that count for every node hold along
-- each road by themselves
pub record AreGoodLabels (s : Setting) (r : Ruler) (goal : ℕ) (c : Counting) (lists : List (List Label)) : Type 0 where
  pub at_goal : HasAsGood r (labels_for lists goal) 0 r.last
  pub drives : (a : ℕ) (over : Road) → s.road a ≡ Some over → HoldsAlong r c lists over
  pub rests : (v weight : ℕ) → s.weight v ≡ Some weight → All (HoldsAt r c (labels_at lists v) weight) r.rests
  pub serves : (i : ℕ) → ServesBy r c lists i (slice_get r.services i)
  pub far : All (NeedsNoRest r) (far_labels lists)

-- what is counted
abbrev pub counting_of : Counted → Counting
counting_of Minutes = in_minutes
counting_of Cost = in_cost

-- along a road, if there is one
abbrev pub HoldsBy : Ruler → Counting → List (List Label) → Option Road → Type 0
HoldsBy r c lists None = ⊤
HoldsBy r c lists (Some over) = HoldsAlong r c lists over

-- at a node with this weight, if it is rated
abbrev pub RestsHold : Ruler → Counting → List Label → Option ℕ → Type 0
RestsHold r c labels None = ⊤
RestsHold r c labels (Some weight) = All (HoldsAt r c labels weight) r.rests
