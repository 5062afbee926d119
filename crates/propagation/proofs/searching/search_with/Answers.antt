use Rattle.std.proofs.Common.{sym, subst}
use Rattle.propagation.specs.Found.{Finding, IsFoundFor}
use Rattle.route_base.specs.Net.{setting_of}
use Rattle.potentials.specs.Sums.{bound_at}
use Rattle.propagation.specs.Inside.Invariants.{Task}
use Rattle.propagation.specs.Inside.States.{progress_of}
use Rattle.propagation.proofs.AtEnd.{optimal_at_end, justified_at_end}
use Rattle.propagation.proofs.searching.search_with.Goals as goal

pub returns-clause-found : goal.returns-clause-found
returns-clause-found c =
    let k : Task = record { setting = setting_of c.args.net.now; request = c.args.request; bounds = bound_at c.args.bounds } in
    let now = progress_of c.in_ok-progress.progress in
    let facts = c.in_ok-progress.ensures.facts in
    let done = c.in_ok-progress.ensures.done in
    subst (λ (found : Finding). IsFoundFor c.args.net.now c.args.request found) (sym c.into_found.ensures) (record {
      good = c.node_count-nodes.ensures.good;
      nodes = c.in_ok-progress.ensures.nodes;
      bounded = c.requires.bounded;
      reduced = c.in_ok-progress.ensures.built;
      optimal = optimal_at_end k now facts done c.requires.in_time c.requires.bounds;
      justified = justified_at_end k now facts done;
    })
