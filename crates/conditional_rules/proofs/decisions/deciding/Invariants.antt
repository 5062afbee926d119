use Rattle.std.proofs.Common.{◌≡◌, length}
use Rattle.conditional_rules.specs.Decisions.{deciding_place}
use Rattle.conditional_rules.proofs.decisions.deciding.Given as goal

abbrev pub invariant-loop-clause : goal.invariant-loop-clause
invariant-loop-clause l = deciding_place l.vehicle l.holidays l.day l.minute l.rest ≡ deciding_place l.vehicle l.holidays l.day l.minute l.conditional

abbrev pub decreases-loop-clause : goal.decreases-loop-clause
decreases-loop-clause l = length l.rest
