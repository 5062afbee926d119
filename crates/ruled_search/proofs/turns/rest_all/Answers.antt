use Rattle.std.proofs.Common.{◌≡◌, ◌<◌, ℕ, Option, None, sym, ◌∙◌, ap, arith}
use Rattle.std.specs.Option.{option_map}
use Rattle.std.specs.Prelude.{slice_get}
use Rattle.route_base.specs.Net.{setting_of}
use Rattle.route_base.specs.declared.types.Park.{Park}
use Rattle.cost_functions.specs.Pieces.{value_at}
use Rattle.state_dominance.specs.Inside.Product.{code, road_code}
use Rattle.ruled_states.specs.Inside.Codes.{base}
use Rattle.ruled_search.specs.Inside.Tasks.{task_of, progress_of}
use Rattle.ruled_search.proofs.Improving.{improves_same}
use Rattle.ruled_search.proofs.Relaxed.{no_road, part_kept, part_less, road_less}
use Rattle.ruled_search.proofs.Turning.{no_rest}
use Rattle.ruled_search.proofs.Leaving.{no_road_by}
use Rattle.ruled_search.proofs.turns.rest_all.Goals as goal

pub returns-in_default-clause-better : goal.returns-in_default-clause-better
returns-in_default-clause-better g c = improves_same (progress_of c.args.progress.now)

pub returns-in_default-clause-relaxed : goal.returns-in_default-clause-relaxed
returns-in_default-clause-relaxed g c = λ i small.
    let task = c.args.task in
    let info = c.args.info in
    let r = g.R.Ruler.ruling task.ruler.now in
    let node : info.node.0 < base = omega (arith, c.requires.high, c.requires.asked.good.nodes) in
    let unrated : ◌≡◌ {A = Option ℕ} ((setting_of task.net.now).weight info.node.0) None =
    ap (option_map (λ (park : Park). park.weight)) (sym c.park.ensures.value ∙ c.in_default.is) in
    no_road (task_of _ g.R.Ruler.ruling task) (code base info.node.0 info.state) (value_at c.args.part) (progress_of c.args.progress.now)
    (road_code base 1 i info.node.0 info.state)
    (no_road_by g.R.Ruler.ruling task info.node.0 info.state node 1 i (omega arith) small
    (no_rest r info.node.0 info.state (slice_get r.rests i) ((setting_of task.net.now).weight info.node.0) unrated))

pub narrowed-requires-clause-node : goal.narrowed-requires-clause-node
narrowed-requires-clause-node g c = omega (arith, c.requires.high, c.requires.asked.good.nodes)

pub narrowed-requires-clause-shape : goal.narrowed-requires-clause-shape
narrowed-requires-clause-shape g c = (0, c.in_ok-rest_each.ensures.shape)

pub returns-clause-facts : goal.returns-clause-facts
returns-clause-facts g c =
    c.parts_are_kept.ensures.narrows (task_of _ g.R.Ruler.ruling c.args.task) (progress_of c.rest_each.new.progress)
    (code base c.args.info.node.0 c.args.info.state) (value_at c.args.part) (value_at c.in_ok-left.left) c.in_ok-rest_each.ensures.facts
    c.in_ok-left.ensures.narrowed.left

pub returns-clause-part : goal.returns-clause-part
returns-clause-part g c =
    let k = task_of _ g.R.Ruler.ruling c.args.task in
    let here = code base c.args.info.node.0 c.args.info.state in
    part_less k here (value_at c.args.part) (progress_of c.rest_each.new.progress) (value_at c.in_ok-left.left) c.in_ok-left.ensures.narrowed.kept
    (part_kept k here (value_at c.args.part) (progress_of c.args.progress.now) (progress_of c.rest_each.new.progress) c.in_ok-rest_each.ensures.better
    c.requires.part)

pub returns-clause-relaxed : goal.returns-clause-relaxed
returns-clause-relaxed g c = λ i small.
    road_less (task_of _ g.R.Ruler.ruling c.args.task) (code base c.args.info.node.0 c.args.info.state) (value_at c.args.part)
    (progress_of c.rest_each.new.progress) (value_at c.in_ok-left.left) _ c.in_ok-left.ensures.narrowed.kept (c.in_ok-rest_each.ensures.relaxed i small)
