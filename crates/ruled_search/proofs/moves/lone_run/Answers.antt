use Rattle.ruled_search.specs.Inside.Tasks.{task_of}
use Rattle.ruled_search.specs.Inside.Ways.{road_in}
use Rattle.ruled_search.proofs.Starting.{lone_at}
use Rattle.ruled_search.proofs.moves.lone_run.Goals as goal

pub returns-in-Drive-clause-run : goal.returns-in-Drive-clause-run
returns-in-Drive-clause-run g c = lone_at (task_of _ g.R.Ruler.ruling c.args.task) (road_in c.args.way) c.args.way.minutes c.args.way.kind _ _
    c.in-Drive.is c.open_starts.ensures.entries

pub returns-in-Rest-clause-run : goal.returns-in-Rest-clause-run
returns-in-Rest-clause-run g c = lone_at (task_of _ g.R.Ruler.ruling c.args.task) (road_in c.args.way) c.args.way.minutes c.args.way.kind _ _
    c.in-Rest.is c.open_starts-in-Rest.ensures.entries

pub returns-in-Serve-clause-run : goal.returns-in-Serve-clause-run
returns-in-Serve-clause-run g c = lone_at (task_of _ g.R.Ruler.ruling c.args.task) (road_in c.args.way) c.args.way.minutes c.args.way.kind _ _
    c.in-Serve.is c.served_run.ensures.run
