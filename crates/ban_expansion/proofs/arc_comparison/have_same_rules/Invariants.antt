use Rattle.std.proofs.Common.{All, take}
use Rattle.vehicle_classes.specs.Keys.{every_key}
use Rattle.ban_expansion.specs.Inside.Grouping.{HaveSameRules}
use Rattle.ban_expansion.proofs.arc_comparison.have_same_rules.Given as goal

abbrev pub invariant-loop-key : goal.invariant-loop-key
invariant-loop-key l = All (HaveSameRules l.network l.a.0 l.b.0) (take l.key-index every_key)
