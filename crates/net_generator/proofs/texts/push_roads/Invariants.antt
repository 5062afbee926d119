use Rattle.std.proofs.Common.{◌≡◌, ◌++◌, flat_map, take}
use Rattle.net_generator.specs.Generated.{road_text}
use Rattle.net_generator.proofs.texts.push_roads.Given as goal

abbrev pub invariant-loop-road : goal.invariant-loop-road
invariant-loop-road l = l.out.items ≡ l.initial.out.items ++ flat_map road_text (take l.road-index l.roads)
