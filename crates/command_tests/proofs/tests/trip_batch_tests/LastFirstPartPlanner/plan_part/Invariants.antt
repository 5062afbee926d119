use Rattle.std.proofs.Common.{◌≡◌, ◌+◌, length}
use Rattle.trip_batch.specs.Right.{AreRight}
use Rattle.command_tests.proofs.tests.trip_batch_tests.LastFirstPartPlanner.plan_part.Given as goal

abbrev pub invariant-loop-place : goal.invariant-loop-place
invariant-loop-place g l = AreRight (λ place text. place + length text ≡ 2) l.from l.place l.texts.items
