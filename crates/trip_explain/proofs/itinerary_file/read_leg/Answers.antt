use Rattle.std.proofs.Common.{sym, ◌∙◌}
use Rattle.trip_explain.proofs.ItineraryLines.{drive_read, wait_read, none_read}
use Rattle.trip_explain.proofs.itinerary_file.read_leg.Goals as goal

pub returns-in-Some : goal.returns-in-Some
returns-in-Some c = drive_read c.args.line.now c.in-Some.arc (sym c.in-Some.ensures.value)

pub returns-in_err-minutes : goal.returns-in_err-minutes
returns-in_err-minutes c = c.from_residual.ensures ∙ none_read c.args.line.now (sym c.in_default.ensures.value) (sym c.in_err-minutes.ensures.value)

pub returns : goal.returns
returns c = wait_read c.args.line.now c.in_ok-minutes.minutes (sym c.in_default.ensures.value) (sym c.in_ok-minutes.ensures.value)
