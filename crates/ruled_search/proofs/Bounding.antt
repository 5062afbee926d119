-- The bounds by labels, or of nothing where there are none, hold along each road, and so does the last minute.
use Rattle.std.proofs.Common.{inl, ℕ, Option, Some, None, [], refl, arith}
use Rattle.std.specs.Prelude.{IfSome}
use Rattle.route_base.specs.Setting.{Setting}
use Rattle.route_base.specs.declared.types.Bound.{Bound}
use Rattle.state_dominance.specs.Inside.Product.{Ruler, AreLatest, AreRuledBounds}
use Rattle.ruled_states.specs.Inside.Labels.{label_bound, lists_of}
use Rattle.ruled_states.specs.Inside.Latest.{latest_by}
use Rattle.ruled_states.specs.declared.labels.Labels.{Labels}
use Rattle.ruled_search.specs.Inside.Tasks.{state_bound}

nothing : Bound
nothing = record { minutes = 0; cost = 0 }

pub bounds_hold : (s : Setting) (r : Ruler) (end : ℕ) (found : Option Labels)
    → IfSome found (λ labels. AreRuledBounds s r end (label_bound r (lists_of labels.minutes.items) (lists_of labels.costs.items)))
    → AreRuledBounds s r end (state_bound r found)
unfolding nothing
bounds_hold s r end None hold = record {
  at_goal = λ k is. refl;
  falls = λ v j k b is has. (nothing, refl, omega arith, omega arith);
  drives = λ a k next over h is goes has. (nothing, refl, omega arith, omega arith);
  rests = λ i v k minutes weight h is rated has. (nothing, refl, omega arith, omega arith);
  serves = λ i k next c h is goes has. (nothing, refl, omega arith, omega arith);
}
bounds_hold s r end (Some labels) hold = hold

-- where there are no labels the latest minute of each state is the last one
pub last_minutes : (r : Ruler) (until : ℕ) (bound : ℕ → ℕ → Option Bound) → AreLatest r until bound (latest_by r [] until)
last_minutes r until bound = record {
  low = λ k. omega arith;
  ends = λ k is. refl;
  falls = λ j k is. omega arith;
  drives = λ k minutes next goes. omega arith;
  rests = λ k minutes. omega arith;
  serves = λ i k next c h is goes has. inl (omega arith);
}
