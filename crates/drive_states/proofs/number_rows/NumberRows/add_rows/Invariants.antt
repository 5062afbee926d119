use Rattle.std.proofs.Common.{◌≡◌, ◌+◌, ◌-◌, ℕ, length, map}
use Rattle.drive_states.specs.Inside.Numbering.{number_at}
use Rattle.drive_states.proofs.number_rows.NumberRows.add_rows.Given as goal

abbrev pub invariant-rows : goal.invariant-rows
invariant-rows l = (v k : ℕ) → number_at (map (λ w. w.items) l.self-inside.rows.items) v k
    ≡ number_at (map (λ w. w.items) l.initial.self-inside.rows.items) v k

abbrev pub decreases-rows : goal.decreases-rows
decreases-rows l = l.row + 1 - length l.self-inside.rows.items
