-- Parking areas as they are drawn are lawful, at rising nodes.
use Rattle.std.proofs.Common.{ℕ, zero, suc, ◌%◌, ◌≤◌, List, [], ◌∷◌, ◌++◌, length, arith}
use Rattle.std.specs.Prelude.{◌==◌}
use Rattle.net_generator.specs.Draws.{next_state}
use Rattle.net_generator.specs.Layout.{drawn_parking, parking_at, parking_drawn}
use Rattle.net_generator.specs.declared.layout.Parking.{Parking}
use Rattle.drawn_network.proofs.AllDrawn.{drawn_few}
use Rattle.drawn_network.proofs.DrawnOrNot.{drawn_or_not, one_or_none}
use Rattle.drawn_network.proofs.LawfulRows.{AreRisingRows}

-- from a lower number on
rising-from : (low first last : ℕ) (areas : List Parking) → low ≤ first → AreRisingRows first last areas → AreRisingRows low last areas
rising-from low first last [] less h = tt
rising-from low first last (area ∷ more) less h =
    (record { low = omega (arith, less, h.0.low); high = h.0.high; rating_low = h.0.rating_low; rating_high = h.0.rating_high }, h.1)

-- further areas behind those up to a node
rising-append : (first middle last : ℕ) (areas more : List Parking) → first ≤ suc middle → middle ≤ last → AreRisingRows first middle areas
    → AreRisingRows (suc middle) last more → AreRisingRows first last (areas ++ more)
rising-append first middle last [] more low high h rest = rising-from first (suc middle) last more low rest
rising-append first middle last (area ∷ areas) more low high h rest = (
  record { low = h.0.low; high = omega (arith, h.0.high, high); rating_low = h.0.rating_low; rating_high = h.0.rating_high },
  rising-append (suc area.node) middle last areas more (omega (arith, h.0.high)) high h.1 rest,
)

node-rising : (v s : ℕ) → AreRisingRows v v (parking_at v s).values
node-rising v s =
    drawn_or_not (AreRisingRows v v) (next_state s % 8 == 0) (drawn_parking v (next_state s)) (next_state s)
    (record { low = omega arith; high = omega arith; rating_low = omega arith; rating_high = omega arith }, tt) tt

pub parking_drawn-rising : (nodes s : ℕ) → AreRisingRows 1 nodes (parking_drawn nodes s).values
parking_drawn-rising zero s = tt
parking_drawn-rising (suc n) s =
    rising-append 1 n (suc n) (parking_drawn n s).values (parking_at (suc n) (parking_drawn n s).state).values (omega arith) (omega arith)
    (parking_drawn-rising n s) (node-rising (suc n) (parking_drawn n s).state)

at_most_one : (v s : ℕ) → length (parking_at v s).values ≤ 1
at_most_one v s = one_or_none (next_state s % 8 == 0) (drawn_parking v (next_state s)) (next_state s) (omega arith)

-- at most one for each node
pub parking_drawn-length : (nodes s : ℕ) → length (parking_drawn nodes s).values ≤ nodes
parking_drawn-length nodes s = omega (arith, drawn_few 1 parking_at nodes s at_most_one)
