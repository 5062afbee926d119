use Rattle.std.proofs.Common.{◌≡◌, Some, sym}
use Rattle.route_base.specs.Net.{at_number}
use Rattle.certificate.specs.ByNode.{item_at}
use Rattle.certificate_check.proofs.Arcs.{bounded, bounding}
use Rattle.certificate_check.proofs.bounds.is_bounded.Goals as goal

pub returns-in-Some : goal.returns-in-Some
returns-in-Some c =
    let o = at_number c.args.net.now.arcs c.args.a.0 in
    let here : o ≡ Some c.in-Some.arc = sym c.in-Some.ensures.value in
    let head = c.bound_of.ensures.value in
    let tail = c.bound_of-in-Some.ensures.value in (
      (λ h. bounded o c.in-Some.arc here (item_at c.args.bounds.now) c.bound_of.result c.bound_of-in-Some.result head tail (c.is_through.ensures.0 h)),
      (λ all. c.is_through.ensures.1 (bounding o c.in-Some.arc here (item_at c.args.bounds.now) c.bound_of.result c.bound_of-in-Some.result head tail all)),
    )
