-- Pairs that dominate a piece, from the first minute on at which one does.
use Rattle.std.proofs.Common.{◌≡◌, ⊎_elim, ℕ, ◌+◌, ◌-◌, ◌≤◌, ◌<◌, min, true, false, List, length, get_or, ◌*◌, ◌∙◌, ap, arith}
use Rattle.std.specs.List.{AllWithin}
use Rattle.std.specs.List.Sorted.{IsPartitionedBy}
use Rattle.std.proofs.lemmas.Bool.{cases_lt, cases_eq, cases_Bool, both_ways, lt-ltb, ltb-true, ltb-false}
use Rattle.std.proofs.lemmas.List.{get_or_default}
use Rattle.route_base.specs.Front.{RiseAndFall}
use Rattle.route_base.specs.Relaxing.{HasPair}
use Rattle.route_base.specs.declared.types.Bound.{Bound}
use Rattle.route_base.specs.declared.types.Pair.{Pair}
use Rattle.cost_functions.specs.Lines.{line_at}
use Rattle.cost_functions.specs.declared.pieces.Piece.{Piece}
use Rattle.cost_functions.proofs.Smallness.{line_rises}
use Rattle.function_merge.specs.Inside.Prefixes.{stays_cheaper, HaveArrived, IsUndominatedUntil}

module _ (pairs : List Pair) (trade : RiseAndFall pairs) where
  -- later pairs arrive no earlier and are no dearer
  later : (i j : ℕ) (d : Pair) → i ≤ j → j < length pairs
      → ((get_or pairs i d).arrival ≤ (get_or pairs j d).arrival) × ((get_or pairs j d).cost ≤ (get_or pairs i d).cost)
  later i j d le within =
      ⊎_elim
      (λ (same : i ≡ j).
      (omega (arith, ap (λ n. (get_or pairs n d).arrival) same), omega (arith, ap (λ n. (get_or pairs n d).cost) same)))
      (λ (other : i ≡ j → ⊥).
      (let far = trade i j d (omega (arith, le, other)) within in (omega (arith, far.0), omega (arith, far.1))))
      (cases_eq i j)

  module _ (piece : Piece) (bound : Bound) where
    pub cheaper_first : IsPartitionedBy (stays_cheaper piece bound) pairs
    cheaper_first i j d le within cheaper =
        let earlier = (later i j d le within).0 in
        let dearer = (later i j d le within).1 in
        let rise = line_rises piece (min ((get_or pairs i d).arrival - bound.minutes) piece.hi) (min ((get_or pairs j d).arrival - bound.minutes) piece.hi)
        (omega (arith, earlier)) in
        let below = ltb-true _ _ cheaper in
        lt-ltb _ _ (omega (arith, below, rise, dearer))

    first_cost : line_at piece piece.lo ≡ piece.cost
    first_cost = let none : piece.lo - piece.lo ≡ 0 = omega arith in omega (arith, ap (λ n. piece.slope * n) none)

    -- the pairs before this place have arrived when the piece begins
    module _ (count : ℕ) (inside : count ≤ length pairs) (early : HaveArrived bound piece.lo pairs count) where
      -- the last of them is no dearer than the piece
      pub all_dominated : (d : Pair) → 1 ≤ count → (get_or pairs (count - 1) d).cost - bound.cost ≤ piece.cost → IsUndominatedUntil pairs bound piece piece.lo
      all_dominated d some dear = record {
        before = λ t from lt upto. absurd (omega (arith, from, lt));
        after = λ t from late upto.
            (let arrival = early (count - 1) d (omega arith) (omega (arith, some)) in
            let rise = line_rises piece piece.lo t from in
            record {
              pair = get_or pairs (count - 1) d;
              is_one = (count - 1, omega (arith, some, inside), get_or_default pairs (count - 1) (get_or pairs (count - 1) d) d (omega (arith, some, inside)));
              arrival = omega (arith, arrival, from);
              cost = omega (arith, dear, rise, first_cost);
            });
      }

      -- it is dearer
      pub arrived_cheaper : (d : Pair) → (1 ≤ count → piece.cost < (get_or pairs (count - 1) d).cost - bound.cost)
          → AllWithin (λ p. stays_cheaper piece bound p ≡ true) pairs 0 count
      arrived_cheaper d cheap k e from lt =
          let arrival = early k e from lt in
          let less = (later k (count - 1) e (omega (arith, lt)) (omega (arith, lt, inside))).1 in
          let same = ap (λ (p : Pair). p.cost) (get_or_default pairs (count - 1) e d (omega (arith, lt, inside))) in
          let rise = line_rises piece (min ((get_or pairs k e).arrival - bound.minutes) piece.hi) piece.lo (omega (arith, arrival)) in
          lt-ltb _ _ (omega (arith, cheap (omega (arith, lt)), less, same, rise, first_cost))

    -- the piece stays cheaper than the cheapest pair
    pub none_dominated : (d : Pair) → (1 ≤ length pairs → line_at piece piece.hi < (get_or pairs (length pairs - 1) d).cost - bound.cost)
        → IsUndominatedUntil pairs bound piece (piece.hi + 1)
    none_dominated d cheap = record {
      before = λ t from lt upto h.
          (let k : ℕ = h.is_one.0 in
          let within = h.is_one.1 in
          let cost = ap (λ (p : Pair). p.cost) h.is_one.2 in
          let no_dearer = h.cost in
          let less = (later k (length pairs - 1) h.pair (omega (arith, within)) (omega (arith, within))).1 in
          let same = ap (λ (p : Pair). p.cost) (get_or_default pairs (length pairs - 1) h.pair d (omega (arith, within))) in
          let rise = line_rises piece t piece.hi upto in
          omega (arith, cheap (omega (arith, within)), less, same, cost, no_dearer, rise));
      after = λ t from late upto. absurd (omega (arith, late, upto));
    }

    -- it doesn't stay cheaper than the pairs from the first on for which it doesn't
    pub others_dearer : (i : ℕ) (d : Pair) → stays_cheaper piece bound (get_or pairs i d) ≡ false → i < length pairs
        → AllWithin (λ p. stays_cheaper piece bound p ≡ false) pairs i (length pairs)
    others_dearer i d not short k e from lt =
        ⊎_elim
        (λ (yes : stays_cheaper piece bound (get_or pairs k e) ≡ true).
        let first = cheaper_first i k e from lt yes in
        let same = ap (λ p. stays_cheaper piece bound p) (get_or_default pairs i d e short) in
        absurd (both_ways (stays_cheaper piece bound (get_or pairs i d)) not (same ∙ first)))
        (λ (none : stays_cheaper piece bound (get_or pairs k e) ≡ false). none)
        (cases_Bool (stays_cheaper piece bound (get_or pairs k e)))

    module _ (i arrived cheap : ℕ)
        (first : AllWithin (λ p. stays_cheaper piece bound p ≡ true) pairs 0 i)
        (others : AllWithin (λ p. stays_cheaper piece bound p ≡ false) pairs i (length pairs))
        (some : (d : Pair) → i < length pairs → arrived ≡ (get_or pairs i d).arrival - bound.minutes)
        (none : length pairs ≤ i → arrived ≡ piece.hi + 1)
        (inside : i ≤ length pairs)
        (no_first : i ≡ 0 → cheap ≡ piece.hi + 1)
        (before : (d : Pair) → 1 ≤ i → (t : ℕ) → piece.lo ≤ t → t < cheap → t ≤ piece.hi → line_at piece t < (get_or pairs (i - 1) d).cost - bound.cost)
        (after : (d : Pair) → 1 ≤ i → (t : ℕ) → piece.lo ≤ t → cheap ≤ t → t ≤ piece.hi → (get_or pairs (i - 1) d).cost - bound.cost ≤ line_at piece t) where
      none_yet : (t : ℕ) → piece.lo ≤ t → t < arrived → t < cheap → t ≤ piece.hi → HasPair pairs (t + bound.minutes) (line_at piece t + bound.cost) → ⊥
      none_yet t from early cheaper upto h =
          let k : ℕ = h.is_one.0 in
          let pair = h.pair in
          let same = h.is_one.2 in
          let arrival = ap (λ (p : Pair). p.arrival) same in
          let cost = ap (λ (p : Pair). p.cost) same in
          let in_time = h.arrival in
          let no_dearer = h.cost in
          ⊎_elim
          (λ (low : k < i). (let less = (later k (i - 1) pair (omega (arith, low)) (omega (arith, low, inside))).1 in
          let below = before pair (omega (arith, low)) t from cheaper upto in
          omega (arith, less, below, cost, no_dearer)))
          (λ (high : i ≤ k). (let more = (later i k pair high h.is_one.1).0 in
          let is = some pair (omega (arith, high, h.is_one.1)) in
          omega (arith, more, is, arrival, in_time, early)))
          (cases_lt k i)

      -- the pair at the place has arrived
      by_arrival : (t : ℕ) → piece.lo ≤ t → arrived ≤ t → t ≤ piece.hi → HasPair pairs (t + bound.minutes) (line_at piece t + bound.cost)
      by_arrival t from late upto =
          let d : Pair = record { arrival = 0; cost = 0 } in
          let within : i < length pairs = ⊎_elim (λ (in' : i < length pairs). in') (λ (out : length pairs ≤ i). absurd (omega (arith, none out, late, upto)))
          (cases_lt i (length pairs)) in
          let is = some d within in
          let rise = line_rises piece (min ((get_or pairs i d).arrival - bound.minutes) piece.hi) t (omega (arith, is, late)) in
          let dear = ltb-false _ _ (others i d (omega arith) within) in
          record {
            pair = get_or pairs i d;
            is_one = (i, within, get_or_default pairs i (get_or pairs i d) d within);
            arrival = omega (arith, is, late);
            cost = omega (arith, rise, dear);
          }

      -- the piece is as dear as the pair before the place
      by_cost : (t : ℕ) → piece.lo ≤ t → cheap ≤ t → t ≤ piece.hi → HasPair pairs (t + bound.minutes) (line_at piece t + bound.cost)
      by_cost t from late upto =
          let d : Pair = record { arrival = 0; cost = 0 } in
          let one : 1 ≤ i = ⊎_elim (λ (zero' : i ≡ 0). absurd (omega (arith, no_first zero', late, upto))) (λ (more : i ≡ 0 → ⊥). omega (arith, more))
          (cases_eq i 0) in
          let dear = after d one t from late upto in
          let pair = get_or pairs (i - 1) d in
          let cheaper = ltb-true _ _ (first (i - 1) d (omega arith) (omega (arith, one))) in
          record {
            pair = pair;
            is_one = (i - 1, omega (arith, one, inside), get_or_default pairs (i - 1) pair d (omega (arith, one, inside)));
            arrival =
                ⊎_elim
                (λ (begun : min (pair.arrival - bound.minutes) piece.hi < t). omega (arith, begun, upto))
                (λ (not_yet : t ≤ min (pair.arrival - bound.minutes) piece.hi). (let rise = line_rises piece t
                (min (pair.arrival - bound.minutes) piece.hi) not_yet in absurd (omega (arith, rise, cheaper, dear))))
                (cases_lt (min (pair.arrival - bound.minutes) piece.hi) t);
            cost = omega (arith, dear);
          }

      pub are_undominated : IsUndominatedUntil pairs bound piece (min arrived cheap)
      are_undominated = record {
        before = λ t from early upto. none_yet t from (omega (arith, early)) (omega (arith, early)) upto;
        after = λ t from late upto.
            ⊎_elim
            (λ (lt : t < arrived). by_cost t from (omega (arith, lt, late)) upto)
            (λ (ge : arrived ≤ t). by_arrival t from ge upto)
            (cases_lt t arrived);
      }
