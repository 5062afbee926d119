-- One step from many minutes, with the bounds and the values that it meets looked up already (source: own; no law).
use Rattle.std.specs.Prelude.{◌⊎◌, ℕ, ◌+◌, ◌≤◌, ⊤, Option, Some, None, List}
use Rattle.route_base.specs.Itinerary.{Position}
use Rattle.route_base.specs.Relaxing.{HasWithin, IsDominatedOrLate, IsRelaxed}
use Rattle.route_base.specs.Runs.{IsFree, AreRuns}
use Rattle.route_base.specs.declared.limits.TheConstants.{HIGHEST_COST, LONGEST_DRIVE}
use Rattle.route_base.specs.declared.types.Bound.{Bound}
use Rattle.route_base.specs.declared.types.Pair.{Pair}
use Rattle.route_base.specs.declared.types.Run.{Run}
use Rattle.cost_functions.specs.Pieces.{value_at, ArePieces}
use Rattle.cost_functions.specs.declared.TheConstants.{HIGHEST_PIECE_COST}
use Rattle.cost_functions.specs.declared.pieces.Piece.{Piece}
use Rattle.certificate.specs.declared.limits.TheConstants.{LONGEST_BOUND}
use Rattle.certificate_check.specs.declared.sweep.Passage.{Passage}

-- a position whose node does not matter, since its bounds and its values are at hand
abbrev pub goal_point : ℕ → ℕ → Position
goal_point t x = record { node = 0; minute = t; cost = x }

-- the pieces have a value of at most x at t
abbrev pub HasValueWithin : List Piece → ℕ → ℕ → Type 0
HasValueWithin pieces t x = HasWithin (λ _. value_at pieces) (goal_point t x)

-- a drive, or a wait of one minute: its minutes, its cost, when it can't be made, the bounds where it begins and ends, and the values where it ends
pub record Link : Type 0 where
  pub minutes : ℕ
  pub cost : ℕ
  pub closed : List Run
  pub from : Option Bound
  pub to : Option Bound
  pub values : List Piece

-- a passage of the code, with its slices as lists
abbrev pub link_of : Passage → Link
link_of p = record { minutes = p.minutes; cost = p.cost; closed = p.closed.now; from = p.from; to = p.to; values = p.values.now }

-- at this minute and cost the position before the step is dominated or late, or the step can't be made, or the position behind it is relaxed
abbrev pub Passes : ℕ → List Pair → Link → ℕ → ℕ → Type 0
Passes until pairs link t x =
    IsDominatedOrLate until pairs link.from (goal_point t x)
    ⊎ (t + link.minutes ≤ until → IsFree link.closed t link.minutes
    → IsRelaxed until pairs (λ _. link.to) (λ _. value_at link.values) (goal_point (t + link.minutes) (x + link.cost)))

-- the bound, if there is one, is within the limits of the format
abbrev pub IsBoundInRange : Option Bound → Type 0
IsBoundInRange None = ⊤
IsBoundInRange (Some b) = (b.minutes ≤ LONGEST_BOUND) × (b.cost ≤ HIGHEST_PIECE_COST)

-- the numbers of a step are in range, and its runs and pieces are as they are kept
pub record IsPassage (passage : Passage) : Type 0 where
  pub some : 1 ≤ passage.minutes
  pub short : passage.minutes ≤ LONGEST_DRIVE
  pub cost : passage.cost ≤ HIGHEST_COST
  pub runs : AreRuns passage.closed.now
  pub pieces : ArePieces passage.values.now
  pub from : IsBoundInRange passage.from
  pub to : IsBoundInRange passage.to
