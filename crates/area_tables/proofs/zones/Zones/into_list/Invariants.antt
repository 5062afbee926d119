use Rattle.std.proofs.Common.{◌≡◌, ◌++◌}
use Rattle.std.specs.Vec.Iter.{into_iter_items}
use Rattle.area_tables.proofs.zones.Zones.into_list.Given as goal

abbrev pub invariant-loop-rows : goal.invariant-loop-rows
invariant-loop-rows l = l.list.items ++ into_iter_items l.rows-iterator ≡ into_iter_items l.initial.rows-iterator
