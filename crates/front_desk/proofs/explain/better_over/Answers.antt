use Rattle.route_base.specs.Front.{pairs_of}
use Rattle.front_desk.proofs.explain.better_over.Goals as goal

pub returns : goal.returns
returns c = record { front = pairs_of c.in_ok-routes.routes; is_front = c.in_ok-routes.ensures.front; is_first = c.dominator.ensures }
