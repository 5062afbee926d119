use Rattle.std.proofs.lemmas.Result.{IfOk-weaker}
use Rattle.route_base.specs.Net.{setting_of}
use Rattle.drive_breaks.proofs.BreakFronts.{right_stay}
use Rattle.drive_breaks.proofs.rested_trips.routes_of.Goals as goal

pub returns-then-request : goal.returns-then-request
returns-then-request g c =
    IfOk-weaker c.stay.result _ _ (λ routes is.
    right_stay (setting_of c.args.net.now) c.args.request c.args.rule routes.items c.requires.in_time c.if-request.true is) c.stay.ensures
