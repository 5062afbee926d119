use Rattle.std.proofs.Common.{◌≡◌, ◌+◌, ◌-◌, ℕ, length, map}
use Rattle.drive_states.specs.Inside.BitRows.{row_of}
use Rattle.drive_states.proofs.bit_rows.BitRows.add_rows.Given as goal

abbrev pub invariant-rows : goal.invariant-rows
invariant-rows l = (u : ℕ) → row_of (map (λ w. w.items) l.self-inside.rows.items) u ≡ row_of (map (λ w. w.items) l.initial.self-inside.rows.items) u

abbrev pub decreases-rows : goal.decreases-rows
decreases-rows l = l.place + 1 - length l.self-inside.rows.items
