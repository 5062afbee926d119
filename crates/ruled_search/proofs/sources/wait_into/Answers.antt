use Rattle.std.proofs.Common.{arith}
use Rattle.route_base.proofs.Numbered.{number_within}
use Rattle.ruled_search.proofs.Numbering.{solved_numbered}
use Rattle.ruled_search.proofs.sources.wait_into.Goals as goal

pub index-requires : goal.index-requires
index-requires g c =
    let within = number_within c.args.progress.now.table.infos c.args.spot.number c.args.spot.info c.requires.spot in
    let all = (solved_numbered c.requires.solved).functions in
    omega (arith, within.0, within.1, all)
