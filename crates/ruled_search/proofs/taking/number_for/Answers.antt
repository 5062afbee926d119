use Rattle.std.proofs.Common.{refl}
use Rattle.ruled_search.specs.Inside.Tasks.{progress_of}
use Rattle.ruled_search.proofs.Growing.{alike_same}
use Rattle.ruled_search.proofs.taking.number_for.Goals as goal

pub returns-in-Some-clause-alike : goal.returns-in-Some-clause-alike
returns-in-Some-clause-alike g c = alike_same (progress_of c.args.progress.now)

pub add_state-requires-clause-new : goal.add_state-requires-clause-new
add_state-requires-clause-new g c = c.in-None.ensures.none refl
