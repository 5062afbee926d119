use Rattle.std.proofs.Common.{arith}
use Rattle.stop_tour.proofs.MadeTour.{tour_fits}
use Rattle.stop_tour.proofs.TourFronts.{some_tours}
use Rattle.stop_tour.proofs.laws.some_tour_answer.Goals as goal

pub returns : goal.returns
returns c = λ net r stops good asked in_order short each_stop cheap size.
    some_tours net good stops each_stop r asked
    (tour_fits net good stops each_stop r (omega (arith, asked.origin.0, asked.origin.1)) size cheap in_order short) in_order
