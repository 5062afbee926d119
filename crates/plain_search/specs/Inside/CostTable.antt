-- Cost tables as functions of node and minute (source: own; no law).
use Rattle.std.specs.Prelude.{◌≡◌, ℕ, ◌+◌, ◌-◌, ◌*◌, ◌^◌, ◌≤◌, ◌<◌, ◌&&◌, if◌then◌else◌, nat_lt, nat_le, List, slice_index_or}
use Rattle.plain_search.specs.Inside.Costs.{none}
use Rattle.plain_search.specs.declared.cost_table.CostTable.{CostTable}

-- the place of the cell of node v and minute t
abbrev pub cell_of : ℕ → ℕ → ℕ → ℕ → ℕ
cell_of width depart v t = (t - depart) * width + (v - 1)

-- the cost at node v and minute t, in cells of rows from minute depart on and columns from node 1 on
abbrev pub cost_in : ℕ → ℕ → List ℕ → ℕ → ℕ → ℕ
cost_in width depart cells v t =
    if nat_lt 0 v && nat_le v width && nat_le depart t then slice_index_or cells (cell_of width depart v t) none else none

-- the cost at each node and minute
abbrev pub cost_of : CostTable → ℕ → ℕ → ℕ
cost_of table = cost_in table.width table.depart table.cells.items

-- the table has these columns and rows
pub record HasShape (width depart until : ℕ) (table : CostTable) : Type 0 where
  pub columns : table.width ≡ width
  pub first : table.depart ≡ depart
  pub last : table.until ≡ until

-- the node and the minute have a cell in the table
pub record IsCell (table : CostTable) (v t : ℕ) : Type 0 where
  pub low : 1 ≤ v
  pub high : v ≤ table.width
  pub from : table.depart ≤ t
  pub upto : t ≤ table.until

-- minutes in order, and so few nodes and minutes that the number of cells fits in 64 bits
pub record IsTableSize (nodes depart until : ℕ) : Type 0 where
  pub ordered : depart ≤ until
  pub long : until < 2 ^ 28
  pub wide : nodes < 2 ^ 28
