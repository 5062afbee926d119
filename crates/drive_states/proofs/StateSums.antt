-- The drives and breaks that leave marked states are counted.
use Rattle.std.proofs.Common.{◌≡◌, ℕ, suc, ◌+◌, ◌-◌, ◌*◌, ◌≤◌, ◌<◌, Option, Some, None, List, length, get_or, true, refl, sym, ◌∙◌, ap, arith}
use Rattle.std.specs.Option.{is_some, option_map}
use Rattle.route_base.specs.Setting.{Setting, Road}
use Rattle.route_base.specs.Net.{Net, at_number, road_of, setting_of}
use Rattle.route_base.specs.declared.types.TimedArc.{TimedArc}
use Rattle.route_base.specs.declared.limits.TheConstants.{DAY_MINUTES}
use Rattle.route_base.proofs.Numbered.{at_number-next}
use Rattle.drive_states.specs.Inside.BitRows.{bit_of, row_of, sum_below}
use Rattle.drive_states.specs.Inside.StateMarks.{drives_by, rests_by}
use Rattle.drive_states.proofs.BitWords.{bits_few, bit-lt}
use Rattle.drive_states.proofs.Sums.{sum_small, sum_first}

drives_few : (rows : List (List ℕ)) (limit : ℕ) (road : Option Road) → limit ≤ DAY_MINUTES → drives_by rows limit road ≤ 1441
drives_few rows limit None day = omega arith
drives_few rows limit (Some road) day = omega (arith, day, bits_few (row_of rows road.tail) (limit + 1 - road.minutes))

rests_few : (rows : List (List ℕ)) (limit v : ℕ) (o : Option ℕ) → limit ≤ DAY_MINUTES → rests_by rows limit v o ≤ 1441
rests_few rows limit v None day = omega arith
rests_few rows limit v (Some weight) day = omega (
  arith,
  day,
  sum_small (λ r. bit_of (row_of rows v) (suc r)) 1 limit
      (λ r low. omega (arith, bit-lt (row_of rows v) (suc r))),
)

pub all_drives_few : (s : Setting) (rows : List (List ℕ)) (limit n total : ℕ) → limit ≤ DAY_MINUTES
    → total ≡ sum_below (λ a. drives_by rows limit (s.road a)) n → total ≤ 1441 * n
all_drives_few s rows limit n total day is =
    omega (arith, is, sum_small (λ a. drives_by rows limit (s.road a)) 1441 n (λ a low. drives_few rows limit (s.road a) day))

pub all_rests_few : (s : Setting) (rows : List (List ℕ)) (limit n total : ℕ) → limit ≤ DAY_MINUTES
    → total ≡ sum_below (λ v. rests_by rows limit v (s.weight v)) n → total ≤ 1441 * n
all_rests_few s rows limit n total day is =
    omega (arith, is, sum_small (λ v. rests_by rows limit v (s.weight v)) 1441 n (λ v low. rests_few rows limit v (s.weight v) day))

-- the next arc by its number
pub drives_next : (net : Net) (rows : List (List ℕ)) (limit : ℕ) (items : List TimedArc) (k : ℕ) (d : TimedArc) → items ≡ net.arcs → k < length items
    → drives_by rows limit (Some (road_of (get_or items k d))) ≡ drives_by rows limit ((setting_of net).road (k + 1))
drives_next net rows limit items k d same within =
    sym (ap (λ (o : Option TimedArc). drives_by rows limit (option_map road_of o))
    (ap (λ (w : List TimedArc). at_number w (k + 1)) (sym same) ∙ at_number-next items k d within))

pub sum_next : (f : ℕ → ℕ) (k total more : ℕ) → total ≡ sum_below f k → more ≡ f k → total + more ≡ sum_below f (k + 1)
sum_next f k total more is next = let step : k + 1 ≡ suc k = omega arith in omega (arith, ap (sum_below f) step, is, next)

-- the first minute is among those up to the limit
pub first_less : (row : List ℕ) (limit whole one : ℕ) → whole ≡ sum_below (bit_of row) (limit + 1) → one ≡ sum_below (bit_of row) 1 → one ≤ whole
first_less row limit whole one is is_one = let step : limit + 1 ≡ suc limit = omega arith in
    omega (arith, is, is_one, sum_first (bit_of row) limit, ap (sum_below (bit_of row)) step)

rests_some : (rows : List (List ℕ)) (limit v : ℕ) (o : Option ℕ) → is_some o ≡ true
    → rests_by rows limit v o ≡ sum_below (λ r. bit_of (row_of rows v) (suc r)) limit
rests_some rows limit v None is = absurd (cc)
rests_some rows limit v (Some weight) is = refl

pub rests_counted : (rows : List (List ℕ)) (row : List ℕ) (limit v whole one : ℕ) (o weight : Option ℕ) → row ≡ row_of rows v
    → whole ≡ sum_below (bit_of row) (limit + 1) → one ≡ sum_below (bit_of row) 1 → is_some o ≡ true → o ≡ weight → whole - one ≡ rests_by rows limit v weight
rests_counted rows row limit v whole one o weight here is is_one some same =
    let step : limit + 1 ≡ suc limit = omega arith in
    let rest : whole - one ≡ sum_below (λ r. bit_of row (suc r)) limit =
    omega (arith, is, is_one, sum_first (bit_of row) limit, ap (sum_below (bit_of row)) step) in
    rest ∙ ap (λ (w : List ℕ). sum_below (λ r. bit_of w (suc r)) limit) here ∙ sym (rests_some rows limit v o some)
    ∙ ap (λ (w : Option ℕ). rests_by rows limit v w) same
