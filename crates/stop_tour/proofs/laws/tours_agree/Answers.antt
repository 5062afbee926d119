use Rattle.std.proofs.Common.{ℕ, ◌+◌, ◌*◌, length, ap, ◌∙◌}
use Rattle.route_base.proofs.AgreeingWalks.{flipped}
use Rattle.stop_tour.proofs.AgreeingTours.{right_too}
use Rattle.stop_tour.proofs.laws.tours_agree.Goals as goal

pub returns-clause-right : goal.returns-clause-right
returns-clause-right c = λ s z w r stops same within routes. (
  right_too s z w r stops same within routes,
  right_too z s w r stops (flipped s z w same) within routes,
)

pub returns-clause-size : goal.returns-clause-size
returns-clause-size c = λ s z w stops same.
    ap (λ (n : ℕ). (length stops + 1) * (n + s.arcs)) same.nodes ∙ ap (λ (n : ℕ). (length stops + 1) * (z.nodes + n)) same.arcs
