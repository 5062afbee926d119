use Rattle.opening_hours.proofs.ComputedHours.{hours_of_is_hours}
use Rattle.opening_hours.proofs.laws.computed_reading.Goals as goal

pub returns : goal.returns
returns c = hours_of_is_hours
