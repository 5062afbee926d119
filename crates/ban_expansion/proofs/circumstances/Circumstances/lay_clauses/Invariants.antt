use Rattle.std.proofs.Common.{◌≡◌, ℕ, length}
use Rattle.route_base.specs.Runs.{any_has}
use Rattle.conditional_rules.specs.Decisions.{last_given}
use Rattle.ban_expansion.specs.Bans.{barred_by, given_within}
use Rattle.ban_expansion.specs.Circumstances.{clause_gives}
use Rattle.ban_expansion.proofs.circumstances.Circumstances.lay_clauses.Given as goal

abbrev pub invariant-clauses : goal.invariant-clauses
invariant-clauses l = (t : ℕ) → barred_by l.self.vehicle.now.purpose
    (given_within l.self.window t (last_given (clause_gives l.self t) l.left)) (any_has l.closed t)
    ≡ barred_by l.self.vehicle.now.purpose
    (given_within l.self.window t (last_given (clause_gives l.self t) l.conditional)) (any_has l.initial.closed t)

abbrev pub decreases-clauses : goal.decreases-clauses
decreases-clauses l = length l.left
