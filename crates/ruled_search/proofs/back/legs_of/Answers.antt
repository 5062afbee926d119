use Rattle.std.proofs.Common.{List, refl, sym, subst, rules}
use Rattle.ruled_search.specs.Inside.Tasks.{progress_of, task_of}
use Rattle.ruled_search.specs.declared.routes.RuledLeg.{RuledLeg}
use Rattle.ruled_search.specs.declared.routes.RuledRoute.{RuledRoute}
use Rattle.ruled_search.proofs.Ends.{IsOnWay, begins_way, spot_in_time, way_goes_on, way_has_source, way_is_first}
use Rattle.ruled_search.proofs.Numbering.{solved_numbered}
use Rattle.ruled_search.proofs.back.legs_of.Goals as goal

pub back-init : goal.back-init
back-init g c =
    let k = task_of _ g.R.Ruler.ruling c.args.task in
    let cost = (progress_of c.args.progress.now).cost in
    subst (λ (w : List RuledLeg). IsOnWay k c.args.progress.now.table.infos cost w c.args.pair c.end_of-spot.result) (sym c.new-legs.ensures.items)
    (begins_way c.requires.solved c.args.pair c.requires.one c.end_of-spot.result c.end_of-spot.ensures)

pub is_start-requires-clause-node : goal.is_start-requires-clause-node
is_start-requires-clause-node g c = (solved_numbered c.requires.solved).small c.back.spot.number c.back.spot.info c.back.invariant.is_one.info

pub source_of-source-requires-clause-upto : goal.source_of-source-requires-clause-upto
source_of-source-requires-clause-upto g c = spot_in_time c.requires.solved c.back.spot c.back.invariant.is_one

pub source_of-source-requires-clause-comes : goal.source_of-source-requires-clause-comes
source_of-source-requires-clause-comes g c = way_has_source c.requires.solved c.back.legs.items c.args.pair c.requires.one c.back.spot c.back.invariant
    (λ start. absurd (search (rules, c.is_start.ensures, start)))

pub back-preserved : goal.back-preserved
back-preserved g c =
    let k = task_of _ g.R.Ruler.ruling c.args.task in
    let infos = c.args.progress.now.table.infos in
    let cost = (progress_of c.args.progress.now).cost in
    let source = c.source_of-source.result in
    subst (λ (w : List RuledLeg). IsOnWay k infos cost w c.args.pair source.from) (sym c.in_ok-push.ensures.items)
    (way_goes_on c.requires.solved c.back.legs.items c.args.pair c.requires.one c.back.spot c.back.invariant source c.source_of-source.ensures)

pub returns : goal.returns
returns g c =
    let route : RuledRoute = record { pair = c.args.pair; legs = c.reverse.new.self } in
    way_is_first c.requires.solved c.back.legs.items c.args.pair c.requires.one c.back.spot c.back.invariant route refl c.reverse.ensures.items
    (search (rules, c.is_start.ensures))
