-- Labels of nodes, and the bounds of states by them (source: own; no law).
use Rattle.std.specs.Prelude.{◌≡◌, ℕ, if◌then◌else◌, true, Contains, Option, Some, None, List, [], ◌∷◌, ◌++◌, map, slice_get, unwrap_or, Vec}
use Rattle.std.specs.declared.alloc.Global.{Global}
use Rattle.route_base.specs.declared.types.Bound.{Bound}
use Rattle.function_merge.specs.Least.{least_of}
use Rattle.state_dominance.specs.Inside.Product.{Ruler}
use Rattle.ruled_states.specs.declared.labels.Label.{Label}

-- the value of a label, if it fits after the state
abbrev pub fit_value : Ruler → ℕ → Label → Option ℕ
fit_value r k l = if r.fits k l.need then Some l.value else None

-- the least value of a label that fits after the state
abbrev pub least_fit : Ruler → List Label → ℕ → Option ℕ
least_fit r [] k = None
least_fit r (l ∷ ls) k = least_of (fit_value r k l) (least_fit r ls k)

abbrev pub lists_of : List (Vec Label Global) → List (List Label)
lists_of lists = map (λ v. v.items) lists

abbrev pub labels_at : List (List Label) → ℕ → List Label
labels_at lists v = unwrap_or (slice_get lists v) []

-- the labels at place 0, where no node is, which count for every node
abbrev pub far_labels : List (List Label) → List Label
far_labels lists = labels_at lists 0

-- the labels that count for a node: its own, and those that count for every node
abbrev pub labels_for : List (List Label) → ℕ → List Label
labels_for lists v = labels_at lists v ++ far_labels lists

-- the bound of two parts, if both are there
abbrev pub both_parts : Option ℕ → Option ℕ → Option Bound
both_parts None cost = None
both_parts (Some m) None = None
both_parts (Some m) (Some c) = Some (record { minutes = m; cost = c })

-- the bound of a state at a node by the labels
abbrev pub label_bound : Ruler → List (List Label) → List (List Label) → ℕ → ℕ → Option Bound
label_bound r minutes costs v k = both_parts (least_fit r (labels_for minutes v) k) (least_fit r (labels_for costs v) k)

-- the value is that of a label which fits after each state of the stage
pub record IsSure (r : Ruler) (labels : List Label) (stage value : ℕ) : Type 0 where
  pub label : Label
  pub is_one : Contains labels label
  pub value_is : label.value ≡ value
  pub fits : (k : ℕ) → r.stage k ≡ stage → r.fits k label.need ≡ true
