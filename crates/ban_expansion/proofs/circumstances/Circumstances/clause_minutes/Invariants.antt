use Rattle.std.proofs.Common.{◌≡◌, ◌&&◌, ℕ, length}
use Rattle.std.specs.List.{list_all}
use Rattle.route_base.specs.Runs.{any_has, has_minute}
use Rattle.ban_expansion.specs.Circumstances.{part_holds_at}
use Rattle.ban_expansion.proofs.circumstances.Circumstances.clause_minutes.Given as goal

abbrev pub invariant-parts : goal.invariant-parts
invariant-parts l = (t : ℕ) → (any_has l.common t && list_all (λ part. part_holds_at l.self part t) l.left)
    ≡ (has_minute t l.self.window && list_all (λ part. part_holds_at l.self part t) l.clause.parts)

abbrev pub decreases-parts : goal.decreases-parts
decreases-parts l = length l.left
