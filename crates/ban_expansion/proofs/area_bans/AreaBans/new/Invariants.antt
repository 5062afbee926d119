use Rattle.std.proofs.Common.{◌≡◌}
use Rattle.ban_expansion.proofs.AreaSets.{none_yet}
use Rattle.ban_expansion.proofs.area_bans.AreaBans.new.Given as goal

abbrev pub invariant-loop-area : goal.invariant-loop-area
invariant-loop-area l = l.sets.items ≡ none_yet l.area
