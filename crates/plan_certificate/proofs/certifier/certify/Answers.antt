use Rattle.plan_certificate.proofs.GoodParts.{is_good, is_tight}
use Rattle.plan_certificate.proofs.WritableParts.{is_writable}
use Rattle.plan_certificate.proofs.certifier.certify.Goals as goal

pub returns-clause-right : goal.returns-clause-right
returns-clause-right c = c.in_ok-routes.ensures.right

pub returns-clause-good : goal.returns-clause-good
returns-clause-good c = is_good c.args.net.now c.args.request c.in_ok-found.found c.in_ok-found.ensures.found c.in_ok-found.ensures.least _
    c.in_ok-routes.ensures.right c.in_ok-routes.ensures.pairs
    (rw c.bounds.ensures at c.in_ok-bounds.ensures) (rw c.into_functions.ensures at c.in_ok-functions.ensures)

pub returns-clause-tight : goal.returns-clause-tight
returns-clause-tight c = is_tight c.args.net.now c.args.request c.in_ok-found.found c.in_ok-found.ensures.found c.in_ok-found.ensures.least _
    c.in_ok-routes.ensures.right c.in_ok-routes.ensures.pairs
    (rw c.bounds.ensures at c.in_ok-bounds.ensures) (rw c.into_functions.ensures at c.in_ok-functions.ensures)

pub returns-clause-writable : goal.returns-clause-writable
returns-clause-writable c = is_writable c.args.net.now c.args.request c.in_ok-found.found c.in_ok-found.ensures.found c.in_ok-found.ensures.least _
    (rw c.bounds.ensures at c.in_ok-bounds.ensures) (rw c.into_functions.ensures at c.in_ok-functions.ensures)
    c.requires.nodes c.requires.arcs c.requires.good c.requires.in_time c.requires.fit c.in_ok-routes.ensures.right
