use Rattle.std.proofs.Common.{◌≡◌, ◌+◌, ◌-◌, ℕ, length}
use Rattle.network_tables.specs.OwnKeys.{keys_at}
use Rattle.network_tables.proofs.rules.own_keys.lengthen.Given as goal

abbrev pub invariant-arcs : goal.invariant-arcs
invariant-arcs l = (b : ℕ) → keys_at l.own.items b ≡ keys_at l.initial.own.items b

abbrev pub decreases-arcs : goal.decreases-arcs
decreases-arcs l = l.a + 1 - length l.own.items
