use Rattle.std.proofs.Common.{◌≡◌, ◌≤◌, ◌<◌, ◌-◌, ◌^◌, ℕ, length, get_or}
use Rattle.route_base.specs.Runs.{any_has, AreRuns}
use Rattle.route_base.specs.declared.types.Run.{Run}
use Rattle.minute_sets.specs.Combination.{keeps, IsSwept}
use Rattle.minute_sets.proofs.sweep.combined.Given as goal

abbrev pub invariant-stretches : goal.invariant-stretches
invariant-stretches l = record {
  swept : IsSwept (λ t. keeps l.how (any_has l.first t) (any_has l.second t)) l.set l.from;
  set : AreRuns l.set;
  a : AreRuns l.a;
  b : AreRuns l.b;
  a_reach : (d : Run) → 0 < length l.a → l.from < (get_or l.a 0 d).hi;
  b_reach : (d : Run) → 0 < length l.b → l.from < (get_or l.b 0 d).hi;
  a_same : (t : ℕ) → l.from ≤ t → any_has l.a t ≡ any_has l.first t;
  b_same : (t : ℕ) → l.from ≤ t → any_has l.b t ≡ any_has l.second t;
}

abbrev pub decreases-stretches : goal.decreases-stretches
decreases-stretches l = 2 ^ 64 - l.from
