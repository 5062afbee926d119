-- The roads that are drawn join nodes of the grid, and take from 20 to 60 minutes; there are four for each node at most.
use Rattle.std.proofs.Common.{◌≡◌, ℕ, ◌+◌, ◌*◌, ◌%◌, ◌≤◌, Bool, true, false, length, length-append, arith}
use Rattle.std.proofs.Common.{refl, sym, ap, ◌∙◌, inl, inr}
use Rattle.std.specs.Prelude.{All, not}
use Rattle.std.proofs.lemmas.Bool.{cases_lt, leb-true, eq-eqb}
use Rattle.std.proofs.lemmas.List.Elements.{All-nil, All-append, All-from_recursion}
use Rattle.std.proofs.lemmas.Nat.{mod-mul-add, mod_below}
use Rattle.net_generator.specs.Draws.{next_state}
use Rattle.net_generator.specs.Layout.{both_ways, road_to, has_right, has_below, roads_at, roads_drawn}
use Rattle.net_generator.specs.declared.layout.Road.{Road}
use Rattle.drawn_network.proofs.AllDrawn.{drawn_all, drawn_few}

-- the road joins two of these nodes and takes 20 to 60 minutes
pub record IsGoodRoad (nodes : ℕ) (road : Road) : Type 0 where
  pub tail : (1 ≤ road.tail) × (road.tail ≤ nodes)
  pub head : (1 ≤ road.head) × (road.head ≤ nodes)
  pub minutes : (20 ≤ road.minutes) × (road.minutes ≤ 60)

both_good : (nodes u v s : ℕ) → (1 ≤ u) × (u ≤ nodes) → (1 ≤ v) × (v ≤ nodes) → All (IsGoodRoad nodes) (both_ways u v s).values
both_good nodes u v s hu hv =
    let drawn = mod_below (next_state s) 41 (omega arith) in
    let minutes : (20 ≤ 20 + next_state s % 41) × (20 + next_state s % 41 ≤ 60) = (omega arith, omega (arith, drawn)) in
    All-from_recursion (IsGoodRoad nodes) (both_ways u v s).values
    (record { tail = hu; head = hv; minutes = minutes }, (record { tail = hv; head = hu; minutes = minutes }, tt))

road_good : (nodes : ℕ) (exists : Bool) (u v s : ℕ) → (1 ≤ u) × (u ≤ nodes) → (exists ≡ true → (1 ≤ v) × (v ≤ nodes))
    → All (IsGoodRoad nodes) (road_to exists u v s).values
road_good nodes true u v s hu hv = both_good nodes u v s hu (hv refl)
road_good nodes false u v s hu hv = All-nil (IsGoodRoad nodes)

road_few : (exists : Bool) (u v s : ℕ) → length (road_to exists u v s).values ≤ 2
road_few true u v s = omega arith
road_few false u v s = omega arith

-- the last node is the last of its row
not_last : (rows columns v : ℕ) → 1 ≤ columns → v ≤ rows * columns → has_right columns v ≡ true → v + 1 ≤ rows * columns
not_last rows columns v some within right = elim (cases_lt v (rows * columns)) [
  | inl h ↦ omega (arith, h)
  | inr h ↦
      let last : v ≡ rows * columns + 0 = omega (arith, within, h) in
      let rest : v % columns ≡ 0 = ap (λ n. n % columns) last ∙ mod-mul-add rows columns 0 (omega (arith, some)) in
      absurd (let bad = sym right ∙ ap not (eq-eqb (v % columns) 0 rest) in cc)
]

right_within : (rows columns v : ℕ) → 1 ≤ columns → 1 ≤ v → v ≤ rows * columns → has_right columns v ≡ true
    → (1 ≤ v + 1) × (v + 1 ≤ rows * columns)
right_within rows columns v some low within right = (omega arith, not_last rows columns v some within right)

below_within : (rows columns v : ℕ) → 1 ≤ v → has_below rows columns v ≡ true → (1 ≤ v + columns) × (v + columns ≤ rows * columns)
below_within rows columns v low below = (omega (arith, low), leb-true (v + columns) (rows * columns) below)

at_good : (rows columns v s : ℕ) → 1 ≤ columns → 1 ≤ v → v ≤ rows * columns → All (IsGoodRoad (rows * columns)) (roads_at rows columns v s).values
at_good rows columns v s some low within =
    let right = road_to (has_right columns v) v (v + 1) s in
    All-append (IsGoodRoad (rows * columns)) right.values (road_to (has_below rows columns v) v (v + columns) right.state).values
    (road_good (rows * columns) (has_right columns v) v (v + 1) s (low, within) (right_within rows columns v some low within))
    (road_good (rows * columns) (has_below rows columns v) v (v + columns) right.state (low, within) (below_within rows columns v low))

at_few : (rows columns v s : ℕ) → length (roads_at rows columns v s).values ≤ 4
at_few rows columns v s =
    let right = road_to (has_right columns v) v (v + 1) s in
    let below = road_to (has_below rows columns v) v (v + columns) right.state in
    omega (
      arith,
      length-append right.values below.values,
      road_few (has_right columns v) v (v + 1) s,
      road_few (has_below rows columns v) v (v + columns) right.state,
    )

pub roads_good : (number rows columns : ℕ) → 1 ≤ columns → All (IsGoodRoad (rows * columns)) (roads_drawn number rows columns).values
roads_good number rows columns some =
    drawn_all (IsGoodRoad (rows * columns)) (roads_at rows columns) (rows * columns) number
    (λ v from low high. at_good rows columns v from some low high)

pub roads_few : (number rows columns : ℕ) → length (roads_drawn number rows columns).values ≤ 4 * (rows * columns)
roads_few number rows columns = drawn_few 4 (roads_at rows columns) (rows * columns) number (at_few rows columns)
