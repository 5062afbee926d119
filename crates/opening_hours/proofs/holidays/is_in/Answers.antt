use Rattle.std.proofs.Common.{◌∙◌}
use Rattle.opening_hours.proofs.Rising.{ok_is_listed}
use Rattle.opening_hours.proofs.holidays.is_in.Goals as goal

pub returns : goal.returns
returns c = c.is_ok.ensures.value ∙ ok_is_listed c.args.days.now c.args.day c.binary_search.result c.binary_search.ensures.position c.requires
