use Rattle.route_base.specs.Net.{setting_of}
use Rattle.ruled_search.proofs.Bounding.{bounds_hold}
use Rattle.rested_tours.proofs.planning.bounds_of.Goals as goal

pub returns : goal.returns
returns g c = bounds_hold (setting_of c.args.ground.now.net.now) (g.R.Ruler.ruling c.args.ground.now.ruler.now) c.args.ground.now.goal.0 c.in_ok-bounds.bounds c.in_ok-bounds.ensures
