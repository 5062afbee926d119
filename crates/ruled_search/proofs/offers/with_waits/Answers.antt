use Rattle.std.proofs.Common.{◌≡◌, ◌-◌, sym, ◌∙◌, arith}
use Rattle.cost_functions.specs.Pieces.{value_at}
use Rattle.ruled_search.specs.Inside.Tasks.{latest_in}
use Rattle.ruled_search.proofs.Closing.{closed_unrated, closed_rated}
use Rattle.ruled_search.proofs.offers.with_waits.Goals as goal

pub returns-in_default-clause-closed : goal.returns-in_default-clause-closed
returns-in_default-clause-closed g c = closed_unrated g.R.Ruler.ruling c.args.task c.args.node.0 c.args.state
    (omega (arith, c.requires.high, c.requires.asked.good.nodes)) c.args.progress.now.pairs.items (value_at c.args.clear)
    (sym c.park.ensures.value ∙ c.in_default.is)

pub returns-clause-closed : goal.returns-clause-closed
returns-clause-closed g c =
    let last : c.saturating_sub-last.result ≡ latest_in _ g.R.Ruler.ruling c.args.task c.args.state - c.args.bound.minutes =
    omega (arith, c.saturating_sub-last.ensures, c.latest_at.ensures) in
    closed_rated g.R.Ruler.ruling c.args.task c.args.node.0 c.args.state (omega (arith, c.requires.high, c.requires.asked.good.nodes))
    c.args.progress.now.pairs.items c.in-Some.park c.args.bound c.saturating_sub-last.result (value_at c.args.clear)
    (value_at c.in_ok-with_waits.with_waits) (value_at c.cleared.result) (sym c.park.ensures.value ∙ c.in-Some.is) c.requires.bound last
    c.in_ok-with_waits.ensures.waited c.cleared.ensures.cleared

pub waited-requires-clause-last : goal.waited-requires-clause-last
waited-requires-clause-last g c =
    omega (arith, c.saturating_sub-last.ensures, c.latest_at.ensures, c.requires.asked.latest.low c.args.state)
