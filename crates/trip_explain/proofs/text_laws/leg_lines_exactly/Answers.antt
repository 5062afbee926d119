use Rattle.trip_explain.proofs.ItineraryLines.{leg_found, leg_again}
use Rattle.trip_explain.proofs.text_laws.leg_lines_exactly.Goals as goal

pub returns : goal.returns
returns c = λ line leg. (leg_found line leg, leg_again line leg)
