use Rattle.std.proofs.Common.{rules}
use Rattle.search_tests.specs.SmallNets.{IsRequestOver}
use Rattle.search_tests.proofs.CheapNets.{costs_fit}
use Rattle.search_tests.proofs.tests.engines.fronts.fronts_in.Goals as goal

pub fronts_over-requires-clause-fit : goal.fronts_over-requires-clause-fit
fronts_over-requires-clause-fit c =
    let over : IsRequestOver c.args.net.now c.args.request = search rules in
    costs_fit c.args.net.now c.args.request c.is_over.ensures.good c.requires over
