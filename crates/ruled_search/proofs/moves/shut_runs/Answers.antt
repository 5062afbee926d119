use Rattle.std.proofs.Common.{◌∙◌}
use Rattle.ruled_search.proofs.Starting.{drive_runs, rest_runs, serve_runs}
use Rattle.ruled_search.proofs.moves.shut_runs.Goals as goal

pub returns-in-Drive : goal.returns-in-Drive
returns-in-Drive g c = c.closed_runs.ensures.value
    ∙ drive_runs c.args.task.net.now c.args.way.tail.0 c.args.way.kind c.in-Drive.a c.args.way.list c.in-Drive.is c.requires.way.list

pub returns-in-Rest : goal.returns-in-Rest
returns-in-Rest g c = c.shut_runs.ensures.value
    ∙ rest_runs c.args.task.net.now c.args.way.tail.0 c.args.way.kind _ c.args.way.list c.in-Rest.is c.requires.way.list

pub returns-in-Serve : goal.returns-in-Serve
returns-in-Serve g c = serve_runs c.args.task.net.now c.args.way.kind _ c.args.way.list c.in-Serve.is
