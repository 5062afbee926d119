use Rattle.std.proofs.Common.{◌+◌, ◌∷◌, [], ◌++◌, ◌≡◌, List, take, get_or, subst, sym, arith}
use Rattle.std.proofs.lemmas.List.{take_more}
use Rattle.route_base.specs.Net.{setting_of}
use Rattle.route_base.specs.Replay.{position_of, LeadTo}
use Rattle.route_base.specs.declared.types.Leg.{Leg}
use Rattle.route_base.specs.declared.types.Leg.TheVariants.{Drive}
use Rattle.route_base.proofs.LegLists.{leads_on}
use Rattle.route_base.proofs.itinerary.replay.Goals as goal

pub loop-i-preserved : goal.loop-i-preserved
loop-i-preserved c =
    let leg : Leg = get_or c.args.legs.now c.loop-i.i (Drive (record { 0 = 0 })) in
    let more : take (c.loop-i.i + 1) c.args.legs.now ≡ take c.loop-i.i c.args.legs.now ++ leg ∷ [] = take_more c.args.legs.now c.loop-i.i
    (Drive (record { 0 = 0 })) (omega arith) in
    record {
      led = subst (λ (xs : List Leg). LeadTo (setting_of c.args.net.now) c.args.request xs (position_of c.in-Some.next)) (sym more)
          (leads_on (setting_of c.args.net.now) c.args.request (take c.loop-i.i c.args.legs.now) leg
          (position_of c.loop-i.at) (position_of c.in-Some.next) c.loop-i.invariant.led c.in-Some.ensures.filled c.in-Some.ensures.some);
      spot = c.in-Some.ensures.spot;
    }
