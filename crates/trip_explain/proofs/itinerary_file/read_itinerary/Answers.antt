use Rattle.std.proofs.Common.{◌+◌, Some, sym, ◌∙◌, ap, subst}
use Rattle.trip_explain.proofs.ItineraryLines.{HasReadLegs, read_none, read_more, line_refused, end_faultless, end_legs, end_waits}
use Rattle.trip_explain.proofs.itinerary_file.read_itinerary.Goals as goal

pub lines-init : goal.lines-init
lines-init c = subst (λ legs. HasReadLegs c.args.bytes.now c.args.bytes.now legs) (sym c.new-legs.ensures) (read_none c.args.bytes.now)

pub lines-preserved : goal.lines-preserved
lines-preserved c =
    subst (λ legs. HasReadLegs c.args.bytes.now c.in-Some.more.now legs) (sym c.in_ok-push.ensures.ok)
    (read_more c.args.bytes.now c.lines.rest.now c.in-Some.line.now c.in-Some.more.now c.lines.legs c.in-Some-read_leg.leg
    c.lines.invariant c.in-Some.ensures.cut c.in-Some.ensures.less (sym c.in-Some-read_leg.ensures))

pub returns-in_default-read_leg-clause-refused : goal.returns-in_default-read_leg-clause-refused
returns-in_default-read_leg-clause-refused c =
    line_refused c.args.bytes.now c.lines.rest.now c.in-Some.line.now c.in-Some.more.now c.lines.legs c.lines.invariant
    c.in-Some.ensures.cut (sym c.in_default-read_leg.ensures)
    ∙ ap (λ n. Some (n + 1)) (sym c.len.ensures)

pub returns-clause-faultless : goal.returns-clause-faultless
returns-clause-faultless c = end_faultless c.args.bytes.now c.lines.rest.now c.lines.legs c.lines.invariant c.in_default.ensures.none

pub returns-clause-legs : goal.returns-clause-legs
returns-clause-legs c = end_legs c.args.bytes.now c.lines.rest.now c.lines.legs c.lines.invariant c.in_default.ensures.none

pub returns-clause-waits : goal.returns-clause-waits
returns-clause-waits c = end_waits c.args.bytes.now c.lines.rest.now c.lines.legs c.lines.invariant
