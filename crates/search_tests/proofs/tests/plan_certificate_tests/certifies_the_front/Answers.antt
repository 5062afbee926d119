use Rattle.std.proofs.Common.{◌≡◌, arith, subst, sym}
use Rattle.route_base.specs.Legs.{CostsFit}
use Rattle.route_base.specs.Net.{Net, setting_of}
use Rattle.route_base.specs.declared.types.Request.{Request}
use Rattle.plan_certificate.specs.CheapRoads.{HasCheapRoads}
use Rattle.search_tests.proofs.WorkedNet.{worked_cheap, worked_fits}
use Rattle.search_tests.specs.WorkedNet.{worked}
use Rattle.search_tests.proofs.tests.plan_certificate_tests.certifies_the_front.Goals as goal

cheap : (net : Net) → net ≡ worked → HasCheapRoads (setting_of net)
cheap net same = subst (λ (n : Net). HasCheapRoads (setting_of n)) (sym same) worked_cheap

pub certify-requires-clause-fit : goal.certify-requires-clause-fit
certify-requires-clause-fit g c =
    let request : Request = record { origin = record { 0 = 1 }; goal = record { 0 = 3 }; depart = 26563680; until = 26564080 } in
    subst (λ (n : Net). CostsFit (setting_of n) request) (sym c.in_ok-net.ensures) (worked_fits request (omega arith) (omega arith))

pub write-requires : goal.write-requires
write-requires g c = c.in_ok-certificate.ensures.writable (cheap c.in_ok-net.net c.in_ok-net.ensures)

pub check-requires-clause-bounds : goal.check-requires-clause-bounds
check-requires-clause-bounds g c =
    let writable = c.in_ok-certificate.ensures.writable (cheap c.in_ok-net.net c.in_ok-net.ensures) in
    record { minutes = writable.bound_minutes; costs = writable.bound_costs }
