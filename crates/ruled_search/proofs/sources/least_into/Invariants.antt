use Rattle.std.proofs.Common.{◌≡◌, ◌-◌, Some}
use Rattle.ruled_search.specs.Inside.Sources.{led_to}
use Rattle.ruled_search.specs.Inside.Tasks.{progress_of}
use Rattle.ruled_search.proofs.Tried.{IsLeastOf}
use Rattle.ruled_search.proofs.sources.least_into.Given as goal

abbrev pub invariant-loop-place : goal.invariant-loop-place
invariant-loop-place g l = IsLeastOf l.progress.table.infos (progress_of l.progress).cost l.fn.node.0 (l.spot.minute - l.minutes) (l.spot.cost - l.paid)
    (λ k. led_to (g.R.Ruler.ruling l.ruler) l.kind l.minutes k ≡ Some l.spot.info.state) l.place-items l.place-index l.least
