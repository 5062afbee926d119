use Rattle.std.proofs.Common.{◌<◌, ap, sym, ◌∙◌, subst, length, arith}
use Rattle.std.proofs.lemmas.List.{length-map, get_or-map}
use Rattle.route_base.specs.Net.{Net, shut_by}
use Rattle.route_base.specs.Runs.{AreRuns}
use Rattle.route_base.proofs.net.TimedNet.shut_runs.Goals as goal

pub returns-in-Some-clause-rising : goal.returns-in-Some-clause-rising
returns-in-Some-clause-rising c =
    let size = length-map c.self.inside.closed.items (λ v. v.items) in
    let same = ap (λ (net : Net). length net.closed) c.self.view_is in
    let named = c.in-Some.ensures.good in
    let within : c.in-Some.park.shut < length c.self.inside.closed.items = omega (arith, named.shut, size, same) in
    let runs = c.self.invariant.each_runs c.in-Some.park.shut c.index.result.now.items (omega (arith, within, size)) in
    subst AreRuns (get_or-map (λ v. v.items) c.self.inside.closed.items c.in-Some.park.shut c.index.result.now c.index.result.now.items within ∙ ap
    (λ v. v.items) (sym c.index.ensures) ∙ sym c.as_slice.ensures.value) runs

pub returns-in-None-clause-value : goal.returns-in-None-clause-value
returns-in-None-clause-value c = ap (shut_by c.args.self.now) (sym c.in-None.is ∙ c.park.ensures.value)
