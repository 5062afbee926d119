-- The numbers from which a network can be drawn (source: own).
use Rattle.std.specs.Prelude.{ℕ, ◌*◌, ◌≤◌}
use Rattle.net_generator.specs.declared.limits.TheConstants.{LAST_NUMBER, MOST_LINES, MOST_GENERATED_NODES}

-- a number, and how many rows and columns of nodes there are
pub record IsDrawable (number rows columns : ℕ) : Type 0 where
  pub number_low : 1 ≤ number
  pub number_high : number ≤ LAST_NUMBER
  pub rows_low : 1 ≤ rows
  pub rows_high : rows ≤ MOST_LINES
  pub columns_low : 1 ≤ columns
  pub columns_high : columns ≤ MOST_LINES
  pub nodes : rows * columns ≤ MOST_GENERATED_NODES
