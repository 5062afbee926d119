use Rattle.trip_explain.proofs.ItineraryLines.{each_line}
use Rattle.trip_explain.proofs.text_laws.each_line_has_its_leg.Goals as goal

pub returns : goal.returns
returns c = each_line
