use Rattle.std.proofs.Common.{◌+◌, ◌∷◌, [], ◌++◌, ◌≡◌, List, inl, take, get_or, refl, subst, sym, arith}
use Rattle.std.proofs.lemmas.List.{take_more}
use Rattle.std.proofs.lemmas.Option.{slice_get-get_or}
use Rattle.route_base.specs.Replay.{LeadTo}
use Rattle.route_base.specs.declared.types.Leg.{Leg}
use Rattle.route_base.specs.declared.types.Leg.TheVariants.{Drive}
use Rattle.route_base.proofs.LegLists.{leads_on}
use Rattle.network_tables.specs.RoadSetting.{road_setting}
use Rattle.trip_explain.specs.Inside.{position_of}
use Rattle.trip_explain.proofs.StuckSteps.{none_empty}
use Rattle.trip_explain.proofs.trips.explain.Goals as goal

pub after_leg-requires-clause-some : goal.after_leg-requires-clause-some
after_leg-requires-clause-some c =
    let leg : Leg = get_or c.args.legs.now c.loop-i.i (Drive (record { 0 = 0 })) in
    none_empty c.args.legs.now c.loop-i.i leg c.requires.legs
    (slice_get-get_or c.args.legs.now c.loop-i.i (Drive (record { 0 = 0 })) (omega arith))

pub returns-in-Err : goal.returns-in-Err
returns-in-Err c =
    let leg : Leg = get_or c.args.legs.now c.loop-i.i (Drive (record { 0 = 0 })) in
    record {
      i = c.loop-i.i;
      number_is = refl;
      at = position_of c.loop-i.at;
      led = c.loop-i.invariant.led;
      here = inl (leg, slice_get-get_or c.args.legs.now c.loop-i.i (Drive (record { 0 = 0 })) (omega arith), c.in-Err.ensures.err);
    }

pub loop-i-preserved : goal.loop-i-preserved
loop-i-preserved c =
    let s = road_setting c.args.network.now c.args.vehicle.now in
    let legs = c.args.legs.now in
    let leg : Leg = get_or legs c.loop-i.i (Drive (record { 0 = 0 })) in
    let more : take (c.loop-i.i + 1) legs ≡ take c.loop-i.i legs ++ leg ∷ [] = take_more legs c.loop-i.i
    (Drive (record { 0 = 0 })) (omega arith) in
    let some = none_empty legs c.loop-i.i leg c.requires.legs
    (slice_get-get_or legs c.loop-i.i (Drive (record { 0 = 0 })) (omega arith)) in
    record {
      led = subst (λ (xs : List Leg). LeadTo s c.args.request xs (position_of c.in-Ok.next)) (sym more)
          (leads_on s c.args.request (take c.loop-i.i legs) leg
          (position_of c.loop-i.at) (position_of c.in-Ok.next) c.loop-i.invariant.led some c.in-Ok.ensures.ok);
      spot = c.in-Ok.ensures.spot;
    }
