use Rattle.std.proofs.Common.{◌<◌, ℕ, zero, suc, [], ◌∷◌, refl, arith}
use Rattle.std.specs.Prelude.{Contains}
use Rattle.command_tests.proofs.tests.trip_batch_tests.plan_last_first.Goals as goal

all_three : (job : ℕ) → job < 3 → Contains (2 ∷ 1 ∷ 0 ∷ []) job
all_three zero below = (2, omega arith, refl)
all_three (suc zero) below = (1, omega arith, refl)
all_three (suc (suc zero)) below = (0, omega arith, refl)
all_three (suc (suc (suc k))) below = absurd (omega (arith, below))

pub run_in_order-requires-clause-all : goal.run_in_order-requires-clause-all
run_in_order-requires-clause-all g c t lives = all_three
