-- Values at some minutes, moved to later ones: a step of the sweep.
use Rattle.std.proofs.Common.{◌≡◌, ⊎_elim, ℕ, ◌+◌, ◌-◌, ◌≤◌, ◌<◌, max, min, Bool, true, false, cond, Option, Some, None, List, ◌∷◌, length, get_or, take}
use Rattle.std.proofs.Common.{◌*◌, leb, drop, refl, ◌∙◌, ap, sym, subst, arith}
use Rattle.std.specs.Option.{option_map}
use Rattle.std.proofs.lemmas.Bool.{cases_lt, le-leb, lt-leb}
use Rattle.route_base.specs.Runs.{any_has, AreRuns}
use Rattle.route_base.specs.declared.types.Run.{Run}
use Rattle.cost_functions.specs.Lines.{line_at}
use Rattle.cost_functions.specs.Pieces.{value_at, ArePieces, AreSmallPieces}
use Rattle.cost_functions.specs.declared.pieces.Piece.{Piece}
use Rattle.cost_functions.proofs.Values.{value_here, value_before, none_behind}
use Rattle.function_merge.specs.Moves.{kept_at, moved_at, CanMove}
use Rattle.cost_functions.proofs.Slopes.{further}
use Rattle.cost_functions.proofs.Smallness.{value_within}
use Rattle.route_base.proofs.Lists.{first_and_rest}
use Rattle.route_base.proofs.Logic.{behind_test, map_some}
use Rattle.route_base.specs.declared.limits.TheConstants.{LAST_INSTANT}
use Rattle.function_merge.proofs.FirstPieces.{first_of}
use Rattle.route_base.proofs.FirstRuns.{in_first, before_first}

-- from a minute on there is nothing before the piece and the run, and the piece's values as long as both last
pub record IsNextPart (kept : ℕ → Option ℕ) (from : ℕ) (p : Piece) (r : Run) : Type 0 where
  pub gap : (t : ℕ) → from ≤ t → t < max (max from p.lo) r.lo → kept t ≡ None
  pub part : (t : ℕ) → max (max from p.lo) r.lo ≤ t → t < min r.hi (p.hi + 1) → kept t ≡ Some (line_at p t)

module _ (minutes cost : ℕ) (f : ℕ → Option ℕ) where
  pub moved_early : (u : ℕ) → u < minutes → moved_at minutes cost f u ≡ None
  moved_early u early = ap (λ b. cond b (option_map (λ v. v + cost) (f (u - minutes))) None) (lt-leb minutes u early)

  pub moved_late : (u t : ℕ) → u ≡ t + minutes → moved_at minutes cost f u ≡ option_map (λ v. v + cost) (f t)
  moved_late u t is =
      ap (λ b. cond b (option_map (λ v. v + cost) (f (u - minutes))) None) (le-leb minutes u (omega (arith, is)))
      ∙ ap (λ n. option_map (λ v. v + cost) (f n)) (let same : u - minutes ≡ t = omega (arith, is) in same)

abbrev pub nothing : Option ℕ
nothing = None

pub nothing_either : (b : Bool) → cond b nothing nothing ≡ nothing
nothing_either true = refl
nothing_either false = refl

module _ (ps : List Piece) (rs : List Run) where
  pub kept_nowhere : (t : ℕ) → any_has rs t ≡ false → kept_at ps rs t ≡ None
  kept_nowhere t out = ap (λ b. cond b (value_at ps t) None) out

  pub kept_nothing : (t : ℕ) → value_at ps t ≡ None → kept_at ps rs t ≡ None
  kept_nothing t none = ap (λ v. cond (any_has rs t) v None) none ∙ nothing_either (any_has rs t)

  pub kept_value : (t : ℕ) → any_has rs t ≡ true → kept_at ps rs t ≡ value_at ps t
  kept_value t held = ap (λ b. cond b (value_at ps t) None) held

  -- the first piece and the first run of what is left
  module _ (from : ℕ) (p : Piece) (later : List Piece) (r : Run) (after : List Run) (are : ArePieces (p ∷ later)) (runs : AreRuns (r ∷ after))
      (values : (t : ℕ) → from ≤ t → value_at (p ∷ later) t ≡ value_at ps t) (held : (t : ℕ) → from ≤ t → any_has (r ∷ after) t ≡ any_has rs t) where
    kept_next : IsNextPart (kept_at ps rs) from p r
    kept_next = record {
      gap = λ t late before.
          ⊎_elim
          (λ (early : t < p.lo). kept_nothing t (sym (values t late) ∙ value_before p later t early
          ∙ none_behind p later t are (let filled = are.each 0 p (omega arith) in let fills = filled.filled in omega (arith, early, fills))))
          (λ (begun : p.lo ≤ t). kept_nowhere t (sym (held t late) ∙ before_first r after t runs (omega (arith, begun, before, late))))
          (cases_lt t p.lo);
      part = λ t begun before.
          (let late : from ≤ t = omega (arith, begun) in
          kept_value t (sym (held t late) ∙ in_first r after t (omega (arith, begun)) (omega (arith, before)))
          ∙ sym (values t late)
          ∙ value_here p later t (omega (arith, begun)) (omega (arith, before)));
    }

  -- the same for lists that have a first item
  pub first_part : (from : ℕ) (left : List Piece) (open' : List Run) → 1 ≤ length left → 1 ≤ length open' → ArePieces left → AreRuns open'
      → ((t : ℕ) → from ≤ t → value_at left t ≡ value_at ps t) → ((t : ℕ) → from ≤ t → any_has open' t ≡ any_has rs t)
      → IsNextPart (kept_at ps rs) from (first_of left) (get_or open' 0 (record { lo = 0; hi = 0 }))
  first_part from left open' some one are runs values held =
      let pieces = first_and_rest left (record { lo = 0; hi = 0; cost = 0; slope = 0 }) some in
      let stretches = first_and_rest open' (record { lo = 0; hi = 0 }) one in
      kept_next from (first_of left) (take (length left - 1) (drop 1 left)) (get_or open' 0 (record { lo = 0; hi = 0 }))
      (take (length open' - 1) (drop 1 open')) (subst ArePieces pieces are) (subst AreRuns stretches runs)
      (λ t late. ap (λ xs. value_at xs t) (sym pieces) ∙ values t late)
      (λ t late. ap (λ xs. any_has xs t) (sym stretches) ∙ held t late)

-- moved values stay in range
pub moved_fits : (minutes cost : ℕ) (values : ℕ → Option ℕ) → CanMove minutes cost values → (t v : ℕ) → moved_at minutes cost values t ≡ Some v
    → t ≤ LAST_INSTANT
moved_fits minutes cost values can t v is =
    let here = behind_test (leb minutes t) (option_map (λ x. x + cost) (values (t - minutes))) v is in
    let from = map_some (values (t - minutes)) (λ x. x + cost) v here.1 in
    let fits = can.minutes_fit (t - minutes) from.0 from.1 in
    omega (arith, fits)

-- what is kept of small values can stay where it is
pub can_stay : (ps : List Piece) (rs : List Run) → ArePieces ps → AreSmallPieces ps → CanMove 0 0 (kept_at ps rs)
can_stay ps rs are small = record {
  minutes_fit = λ t v is. (let fits = (value_within ps t v are.each small (behind_test (any_has rs t) (value_at ps t) v is).1).1 in omega (arith, fits));
  values_fit = λ t v is. (let fits = (value_within ps t v are.each small (behind_test (any_has rs t) (value_at ps t) v is).1).0 in omega (arith, fits));
}

-- the moved part has the piece's line, later and at a cost
pub part_line : (p : Piece) (lo minutes cost t : ℕ) → p.lo ≤ lo → lo ≤ t → line_at p t + cost ≡ line_at p lo + cost + p.slope * (t + minutes - (lo + minutes))
part_line p lo minutes cost t from upto =
    let line = further p.cost p.slope p.lo lo t from upto in
    let same : p.slope * (t + minutes - (lo + minutes)) ≡ p.slope * (t - lo) = ap (λ n. p.slope * n)
    (let e : t + minutes - (lo + minutes) ≡ t - lo = omega arith in e) in
    omega (arith, line, same)
