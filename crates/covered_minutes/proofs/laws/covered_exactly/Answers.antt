use Rattle.covered_minutes.proofs.CoverTest.{cover_test}
use Rattle.covered_minutes.proofs.laws.covered_exactly.Goals as goal

pub returns : goal.returns
returns c = cover_test
