use Rattle.stop_tour.proofs.StopOfRow.{stop_of_row}
use Rattle.stop_tour.proofs.laws.each_row_has_its_stop.Goals as goal

pub returns : goal.returns
returns c = stop_of_row
