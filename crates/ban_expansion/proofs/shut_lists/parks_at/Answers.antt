use Rattle.std.proofs.Common.{◌+◌, List, Option, ap, sym, ◌∙◌, subst}
use Rattle.std.specs.Prelude.{IfSome}
use Rattle.std.specs.Option.{option_map}
use Rattle.route_base.specs.declared.types.Park.{Park}
use Rattle.network_tables.specs.Parks.{HasTimetable}
use Rattle.network_tables.specs.declared.parks.RatedNode.{RatedNode}
use Rattle.ban_expansion.specs.Inside.ShutLists.{AreParks, park_over}
use Rattle.ban_expansion.proofs.ShutParks.{park_next}
use Rattle.ban_expansion.proofs.shut_lists.parks_at.Goals as goal

pub loop-v-preserved : goal.loop-v-preserved
loop-v-preserved c =
    let parks = c.args.parks.now in
    let first = c.args.first in
    let v = c.loop-v.v in
    subst (λ (held : List (Option Park)). AreParks parks first (v + 1) held) (sym c.in_ok-push.ensures.items)
    (park_next parks first v c.loop-v.held.items c.park_at.result c.loop-v.invariant (record {
      is = c.park_at.ensures ∙ ap (option_map (park_over first)) c.rated.ensures.value;
      there = subst (λ (o : Option RatedNode). IfSome o (HasTimetable parks.timetables)) c.rated.ensures.value c.rated.ensures.there;
    }))
