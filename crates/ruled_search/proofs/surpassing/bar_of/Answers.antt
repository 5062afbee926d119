use Rattle.std.proofs.Common.{◌≡◌, ◌≤◌, ◌+◌, ℕ, suc, Some, List, sym, ◌∙◌, ap, subst, arith}
use Rattle.std.specs.Option.{option_map}
use Rattle.std.specs.Prelude.{slice_get}
use Rattle.route_base.specs.Net.{setting_of}
use Rattle.route_base.specs.declared.types.Bound.{Bound}
use Rattle.cost_functions.specs.Pieces.{value_at}
use Rattle.cost_functions.specs.declared.pieces.Piece.{Piece}
use Rattle.propagation.proofs.Lowering.{value_is}
use Rattle.state_dominance.proofs.NextStops.{surpassed}
use Rattle.ruled_states.specs.Inside.Codes.{base}
use Rattle.ruled_states.specs.Inside.Reduced.{reduced_in, sums_of}
use Rattle.ruled_states.specs.Inside.Services.{service_at}
use Rattle.ruled_states.specs.Inside.Tables.{IsStateOf}
use Rattle.ruled_search.specs.Inside.Charges.{IsChargedWithin}
use Rattle.ruled_search.specs.Inside.Tasks.{progress_of, latest_in, state_bound}
use Rattle.ruled_search.proofs.Outdone.{outdone, some_on}
use Rattle.ruled_search.proofs.Placed.{small_nodes}
use Rattle.ruled_search.proofs.Reshaped.{has_place}
use Rattle.ruled_search.proofs.surpassing.bar_of.Goals as goal

pub index-requires : goal.index-requires
index-requires g c =
    let bound = state_bound (g.R.Ruler.ruling c.args.task.ruler.now) c.args.task.bounds.now in
    let state = c.in_ok-number.ensures.found in
    let place = has_place c.args.task.net.now.nodes bound c.requires.shape.0 c.args.progress.now c.requires.shape.1 c.in_ok-number.number state.info state.at in
    omega (arith, place.0, place.1)

pub returns : goal.returns
returns g c =
    let task = c.args.task in
    let now = c.args.progress.now in
    let info = c.args.info in
    let asked = c.requires.asked in
    let r = g.R.Ruler.ruling task.ruler.now in
    let bound = state_bound r task.bounds.now in
    let latest = latest_in _ g.R.Ruler.ruling task in
    let shape = c.requires.shape.1 in
    let stop = service_at c.in_ok-service.service in
    let stage : c.stage-stage.result ≡ r.stage info.state = c.stage-stage.ensures in
    let next : c.stage-stage.result + 1 ≡ suc (r.stage info.state) = omega (arith, stage) in
    let is : slice_get r.services (r.stage info.state) ≡ Some stop =
    ap (λ n. slice_get r.services n) (sym stage) ∙ (sym c.service.ensures ∙ ap (λ o. option_map service_at o) c.in_ok-service.was) in
    let best : c.best-after.result ≡ r.best (suc (r.stage info.state)) = c.best-after.ensures ∙ ap r.best next in
    let number = c.in_ok-number.number in
    let found = c.in_ok-number.ensures.found in
    let state : IsStateOf now.table.infos stop.node (r.best (suc (r.stage info.state))) number =
    subst (λ k. IsStateOf now.table.infos stop.node k number) best found in
    let place = has_place task.net.now.nodes bound c.requires.shape.0 now shape number found.info found.at in
    let there : bound stop.node (r.best (suc (r.stage info.state))) ≡ Some c.in_ok-bound.bound =
    ap (λ k. bound stop.node k) (sym best) ∙ (sym c.bound_at.ensures ∙ c.in_ok-bound.was) in
    let pieces = c.pieces.result.now in
    let own = c.index.result.now in
    some_on c.raised.result (λ bar sum t x from upto above.
    surpassed (setting_of task.net.now) r base task.request.origin.0 task.request.goal.0 task.request.depart task.request.until bound latest
    (progress_of now) c.args.reduced.now.price (reduced_in (sums_of c.args.reduced.now.sums.items)) asked.rules asked.best asked.stages asked.numbers
    asked.bound asked.latest c.requires.sums stop info.node.0 info.state t x is (omega (arith, c.requires.high, asked.good.nodes)) upto
    (outdone now.table.infos now.functions.items now.pending.items now.pairs.items
    (small_nodes task.net.now.nodes bound now.table.infos asked.good.nodes shape.infos) shape.distinct r task.request.until bound latest
    c.args.reduced.now.price (reduced_in (sums_of c.args.reduced.now.sums.items)) stop info.node.0 info.state c.args.first info.bound c.in_ok-bound.bound
    c.requires.bound there (asked.numbers.services (r.stage info.state) stop is).1 number state own
    (λ u. value_is now.functions.items number own place.0 place.1 c.index.ensures u)
    c.max-2.result c.min-2.result c.in_ok-known.known c.in_ok-most.most
    (λ u low high. subst (λ (ps : List Piece). IsChargedWithin c.args.reduced.now.price task.request.until (value_at ps) c.in_ok-known.known u)
    c.pieces.ensures.items (c.in_ok-known.ensures u low high))
    (λ n w at has. c.in_ok-most.ensures n w (at ∙ sym next) has)
    (λ u begun since way. omega (
      arith,
      begun,
      since,
      way,
      c.max.ensures,
      c.max-2.ensures,
      c.saturating_add-begun.ensures,
      c.saturating_add-since.ensures,
      c.saturating_add.ensures,
      c.saturating_sub-way.ensures,
    ))
    (λ u closed over late. omega (
      arith,
      closed,
      over,
      late,
      c.min.ensures,
      c.min-2.ensures,
      c.latest_at.ensures,
      ap latest best,
      c.saturating_sub-timely.ensures,
    ))
    t x from (omega (arith, sum, above))))
    c.raised.ensures
