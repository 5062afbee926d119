use Rattle.std.proofs.Common.{List, sym, ◌∙◌, ap, arith}
use Rattle.route_base.specs.Net.{setting_of}
use Rattle.cost_functions.specs.Pieces.{value_at}
use Rattle.cost_functions.specs.declared.pieces.Piece.{Piece}
use Rattle.propagation.specs.Found.{cost_at}
use Rattle.propagation.proofs.Lowering.{value_is}
use Rattle.state_dominance.specs.Inside.Product.{code}
use Rattle.ruled_states.specs.Inside.Codes.{base}
use Rattle.ruled_search.specs.Inside.Tasks.{latest_in, progress_of, state_bound, task_of}
use Rattle.ruled_search.specs.Inside.Ways.{head_of, road_in, tail_of}
use Rattle.route_base.proofs.Numbered.{number_within}
use Rattle.ruled_search.proofs.Covered.{shown_covered, worse_by_code}
use Rattle.ruled_search.proofs.Made.{made_road}
use Rattle.ruled_search.proofs.Placed.{small_nodes}
use Rattle.ruled_search.proofs.TakenOffers.{code_number}
use Rattle.ruled_search.proofs.relaxing.is_shown_by.Goals as goal

pub returns : goal.returns
returns g c = λ yes.
    let task = c.args.task in
    let way = c.args.way in
    let place = c.args.place in
    let now = c.args.progress.now in
    let infos = now.table.infos in
    let ruler = g.R.Ruler.ruling task.ruler.now in
    let bound = state_bound ruler task.bounds.now in
    let shape = c.requires.shape in
    let own = c.index-own.result.now in
    let here = number_within infos place.number c.requires.place.info c.requires.place.at in
    let number = code_number infos way.head.0 place.state place.number c.requires.place
    (small_nodes task.net.now.nodes bound infos c.requires.asked.good.nodes shape.infos) shape.distinct in
    shown_covered (task_of _ g.R.Ruler.ruling task) (progress_of now) (tail_of way) (road_in way)
    (made_road (tail_of way) (head_of way) way.minutes way.cost) c.args.part.now (code base way.head.0 place.state) own c.requires.way.is
    (worse_by_code (setting_of task.net.now) ruler base task.request.origin.0 task.request.goal.0 task.request.depart task.request.until bound
    (latest_in _ g.R.Ruler.ruling task) way.head.0 place.state way.after (omega (arith, c.requires.way.head.1, c.requires.asked.good.nodes))
    (sym c.is_no_worse.ensures ∙ c.if-not-is_no_worse.false))
    (λ t. ap (λ n. cost_at now.functions.items n t) number
    ∙ value_is now.functions.items place.number own here.0 (omega (arith, here.1, shape.functions)) c.index-own.ensures t)
    (λ t y there. c.is_shown_no_better.ensures yes t y (ap (λ (ps : List Piece). value_at ps t) c.pieces.ensures.items ∙ there))

pub index-own-requires : goal.index-own-requires
index-own-requires g c =
    let here = number_within c.args.progress.now.table.infos c.args.place.number c.requires.place.info c.requires.place.at in
    omega (arith, here.0, here.1, c.requires.shape.functions)
