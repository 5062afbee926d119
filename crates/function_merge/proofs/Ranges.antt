-- Values that stay in range where the ends of the pieces do.
use Rattle.std.proofs.Common.{ℕ, ◌+◌, ◌*◌, ◌-◌, ◌≤◌, Bool, List, get_or, All, refl, arith}
use Rattle.std.proofs.Math.Nat.{mul-le-mul_left}
use Rattle.route_base.specs.Runs.{any_has}
use Rattle.route_base.specs.declared.types.Run.{Run}
use Rattle.route_base.specs.declared.limits.TheConstants.{LAST_INSTANT, HIGHEST_COST}
use Rattle.route_base.proofs.Logic.{behind_test}
use Rattle.cost_functions.specs.Lines.{line_at}
use Rattle.cost_functions.specs.Pieces.{value_at, ArePieces}
use Rattle.cost_functions.specs.declared.pieces.Piece.{Piece}
use Rattle.cost_functions.proofs.Places.{value_at_place}
use Rattle.cost_functions.proofs.PieceValues.{values_of_pieces}
use Rattle.cost_functions.proofs.Smallness.{line_rises}
use Rattle.function_merge.specs.Moves.{kept_at, CanMove}
use Rattle.function_merge.specs.Waits.{CanWait, CanWaitAnywhere}
use Rattle.function_merge.specs.Inside.EndRanges.{EndsInRange, WaitsInRange}

module _ (minutes cost : ℕ) (ps : List Piece) where
  pub can_move : All (EndsInRange minutes cost) ps → CanMove minutes cost (value_at ps)
  can_move all = record {
    minutes_fit = λ t v is. values_of_pieces (λ u x. u + minutes ≤ LAST_INSTANT) ps (λ k d within u from upto.
        (let last = (all k d within).last in omega (arith, last, upto))) t v is;
    values_fit = λ t v is. values_of_pieces (λ u x. x + cost ≤ HIGHEST_COST) ps (λ k d within u from upto.
        (let most = (all k d within).most in let rise = line_rises (get_or ps k d) u (get_or ps k d).hi upto in omega (arith, most, rise))) t v is;
  }

  pub all_fit : ArePieces ps → CanMove minutes cost (value_at ps) → All (EndsInRange minutes cost) ps
  all_fit are can k d within =
      let p = get_or ps k d in
      let last = value_at_place ps k d p.hi are within ((are.each k d within).filled) (omega arith) in
      record { last = can.minutes_fit p.hi (line_at p p.hi) last; most = can.values_fit p.hi (line_at p p.hi) last }

  pub kept_can : (runs : List Run) → CanMove minutes cost (value_at ps) → CanMove minutes cost (kept_at ps runs)
  kept_can runs can = record {
    minutes_fit = λ t v is. can.minutes_fit t v (behind_test (any_has runs t) (value_at ps t) v is).1;
    values_fit = λ t v is. can.values_fit t v (behind_test (any_has runs t) (value_at ps t) v is).1;
  }

pub can_wait : (weight until : ℕ) (ps : List Piece) → All (WaitsInRange weight until) ps → (allowed : ℕ → Bool)
    → CanWait (value_at ps) allowed weight until
can_wait weight until ps all allowed t x upto is =
    let from = is.reached x refl in
    let s = from.0 in
    let v = from.1 in
    let fits = values_of_pieces (λ u y. u ≤ until → y + weight * (until - u) ≤ HIGHEST_COST) ps
    (λ k d within u begun ended in_time.
    (let end = all k d within in
    let rise = line_rises (get_or ps k d) u (get_or ps k d).hi ended in
    let less : weight * (until - u) ≤ weight * (until - (get_or ps k d).lo) = mul-le-mul_left weight (omega (arith, begun)) in
    omega (arith, end, rise, less)))
    s v (from.4) (omega (arith, from.2, upto)) in
    let less : weight * (t - s) ≤ weight * (until - s) = mul-le-mul_left weight (omega (arith, upto)) in
    omega (arith, fits, less, from.5)

pub all_wait : (weight until : ℕ) (ps : List Piece) → ArePieces ps → CanWaitAnywhere (value_at ps) weight until → All (WaitsInRange weight until) ps
all_wait weight until ps are can k d within =
    let p = get_or ps k d in
    let begun = (are.each k d within).filled in
    let first = value_at_place ps k d p.lo are within (omega arith) begun in
    let last = value_at_place ps k d p.hi are within begun (omega arith) in
    can p.lo p.hi (line_at p p.lo) (line_at p p.hi) begun first last
