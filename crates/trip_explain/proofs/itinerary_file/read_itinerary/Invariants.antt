use Rattle.std.proofs.Common.{length}
use Rattle.trip_explain.proofs.ItineraryLines.{HasReadLegs}
use Rattle.trip_explain.proofs.itinerary_file.read_itinerary.Given as goal

abbrev pub invariant-lines : goal.invariant-lines
invariant-lines l = HasReadLegs l.bytes l.rest l.legs

abbrev pub decreases-lines : goal.decreases-lines
decreases-lines l = length l.rest
