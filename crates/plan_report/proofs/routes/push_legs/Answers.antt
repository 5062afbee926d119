use Rattle.std.proofs.Common.{◌++◌, get_or, ap, arith}
use Rattle.route_base.specs.Itinerary.{Position}
use Rattle.route_base.specs.Legs.{end_of}
use Rattle.route_base.specs.Net.{setting_of}
use Rattle.route_base.specs.declared.types.Leg.{Leg}
use Rattle.route_base.specs.declared.types.Leg.TheVariants.{Drive}
use Rattle.plan_report.specs.Inside.{position_at}
use Rattle.plan_report.specs.Routes.{legs_text}
use Rattle.plan_report.proofs.Going.{passable_next, minute_after, text_more, lead_more}
use Rattle.plan_report.proofs.routes.push_legs.Goals as goal

pub next_place-to-requires : goal.next_place-to-requires
next_place-to-requires g c =
    passable_next (setting_of c.args.net.now) c.args.request c.args.legs.now c.args.pair c.loop-i.i (Drive (record { 0 = 0 }))
    (position_at c.loop-i.from) c.requires.lawful c.requires.timed (omega arith) c.loop-i.invariant.lead c.loop-i.invariant.early
    (omega (arith, c.ranges))

pub push_leg-requires-clause-passable : goal.push_leg-requires-clause-passable
push_leg-requires-clause-passable g c =
    passable_next (setting_of c.args.net.now) c.args.request c.args.legs.now c.args.pair c.loop-i.i (Drive (record { 0 = 0 }))
    (position_at c.loop-i.from) c.requires.lawful c.requires.timed (omega arith) c.loop-i.invariant.lead c.loop-i.invariant.early
    (omega (arith, c.ranges))

pub loop-i-preserved : goal.loop-i-preserved
loop-i-preserved g c =
    let s = setting_of c.args.net.now in
    let d : Leg = Drive (record { 0 = 0 }) in
    let to = c.next_place-to.ensures in
    record {
      text = text_more ((g.F.RouteForm.texts c.args.form.now).leg s c.args.number) s c.args.legs.now c.loop-i.i d (position_at c.loop-i.from)
          (position_at c.next_place-to.result) c.loop-i.out.items c.push_leg.new.out.items
          (c.args.out.now.items ++ legs_text (g.F.RouteForm.texts c.args.form.now) s c.args.request c.args.number c.args.legs.now) (omega arith) to
          c.in_ok-push_leg.ensures c.loop-i.invariant.text;
      lead = lead_more s c.args.request.until c.args.legs.now c.loop-i.i d (position_at c.loop-i.from)
          (position_at c.next_place-to.result) (end_of c.args.request c.args.pair) (omega arith) to c.loop-i.invariant.lead;
      early = omega (
        arith,
        ap (λ (p : Position). p.minute) to,
        minute_after s c.args.request.until (get_or c.args.legs.now c.loop-i.i d) (position_at c.loop-i.from) c.loop-i.invariant.early,
      );
    }
