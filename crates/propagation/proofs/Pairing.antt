-- A pair that is put in where none is as good, with the worse ones out.
use Rattle.std.proofs.Common.{◌≡◌, ◌⊎◌, inl, inr, ⊎_elim, ℕ, zero, suc, ◌+◌, ◌-◌, ◌≤◌, ◌<◌, Bool, true, false, ◌&&◌, not, cond, List, [], ◌∷◌, ◌++◌, take}
use Rattle.std.proofs.Common.{drop, length, get_or, refl, sym, ◌∙◌, ap, subst, arith}
use Rattle.std.specs.Prelude.{Contains, nat_le}
use Rattle.std.specs.List.{filter, insert}
use Rattle.std.proofs.lemmas.Bool.{cases_lt, le-leb, lt-leb, cond_both, and_from}
use Rattle.std.proofs.lemmas.List.{get_or_default, take-append-drop}
use Rattle.std.proofs.lemmas.List.Edits.{length-insert, get_or-insert_below, get_or-insert_at, get_or-insert_above}
use Rattle.std.proofs.lemmas.List.Elements.{filter_passes, All-filter, All-contains_itself, All-contains, Contains-append_left, Contains-append_right}
use Rattle.std.proofs.lemmas.List.Elements.{Contains-append_cases}
use Rattle.std.proofs.lemmas.List.Kept.{AllPairs-filter}
use Rattle.route_base.specs.Front.{RiseAndFall, Trades}
use Rattle.route_base.specs.Relaxing.{HasPair}
use Rattle.route_base.specs.declared.types.Pair.{Pair}
use Rattle.propagation.specs.Inside.Pairs.{IsPutIn, TakesPair, is_as_bad}

-- what a filter keeps
contains_filter : (p : Pair → Bool) (xs : List Pair) (x : Pair) → p x ≡ true → Contains xs x → Contains (filter p xs) x
contains_filter p [] x is one = absurd (omega (arith, one.1))
contains_filter p (y ∷ ys) x is (zero, below, here) =
    let e : p y ≡ true = ap p here ∙ is in
    subst (λ b. Contains (cond b (y ∷ filter p ys) (filter p ys)) x) (sym e) (0, omega arith, here)
contains_filter p (y ∷ ys) x is (suc k, below, here) =
    let rest = contains_filter p ys x is (k, omega (arith, below), here) in
    cond_both (p y) (y ∷ filter p ys) (filter p ys) (λ w. Contains w x) (λ e. (suc rest.0, omega (arith, rest.1), rest.2)) (λ e. rest)

from_filter : (p : Pair → Bool) (xs : List Pair) (x : Pair) → Contains (filter p xs) x → Contains xs x
from_filter p xs x one = All-contains (Contains xs) (filter p xs) x (All-filter p (Contains xs) xs (All-contains_itself xs)) one

passes : (p : Pair → Bool) (xs : List Pair) (x : Pair) → Contains (filter p xs) x → p x ≡ true
passes p xs x one = All-contains (λ y. p y ≡ true) (filter p xs) x (filter_passes p xs) one

-- a pair that stays is better in a part
stays_better : (pair q : Pair) → not (is_as_bad pair q) ≡ true → (q.arrival < pair.arrival) ⊎ (q.cost < pair.cost)
stays_better pair q stays = ⊎_elim
    (λ (early : q.arrival < pair.arrival). inl early)
    (λ (late : pair.arrival ≤ q.arrival). ⊎_elim
    (λ (cheap : q.cost < pair.cost). inr cheap)
    (λ (dear : pair.cost ≤ q.cost). let bad : false ≡ true =
    sym (ap not (and_from (nat_le pair.arrival q.arrival) (nat_le pair.cost q.cost) (le-leb pair.arrival q.arrival late) (le-leb pair.cost q.cost dear)))
    ∙ stays in cc)
    (cases_lt q.cost pair.cost))
    (cases_lt q.arrival pair.arrival)

-- a pair that goes out is as bad
goes_bad : (pair q : Pair) → not (is_as_bad pair q) ≡ false → (pair.arrival ≤ q.arrival) × (pair.cost ≤ q.cost)
goes_bad pair q goes = (
  ⊎_elim
      (λ (early : q.arrival < pair.arrival). let bad : true ≡ false =
      sym (left (nat_le pair.arrival q.arrival) (nat_le pair.cost q.cost) (lt-leb pair.arrival q.arrival early)) ∙ goes in cc)
      (λ (late : pair.arrival ≤ q.arrival). late)
      (cases_lt q.arrival pair.arrival),
  ⊎_elim
      (λ (cheap : q.cost < pair.cost). let bad : true ≡ false =
      sym (right (nat_le pair.arrival q.arrival) (nat_le pair.cost q.cost) (lt-leb pair.cost q.cost cheap)) ∙ goes in cc)
      (λ (dear : pair.cost ≤ q.cost). dear)
      (cases_lt q.cost pair.cost),
)
  where
    left : (a b : Bool) → a ≡ false → not (a && b) ≡ true
    left true b h = cc
    left false b h = refl

    right : (a b : Bool) → b ≡ false → not (a && b) ≡ true
    right true true h = cc
    right true false h = refl
    right false b h = refl

first_or_rest : (y x : Pair) (ys : List Pair) → Contains (y ∷ ys) x → (y ≡ x) ⊎ Contains ys x
first_or_rest y x ys (zero, below, is) = inl is
first_or_rest y x ys (suc k, below, is) = inr (k, omega (arith, below), is)

module _ (pair : Pair) (old kept new : List Pair) where
  pub taken_pair : RiseAndFall old → (HasPair old pair.arrival pair.cost → ⊥) → kept ≡ filter (λ q. not (is_as_bad pair q)) old → IsPutIn pair kept new
      → TakesPair pair old new
  taken_pair trade none filters puts = record {
    trade = trades;
    kept = λ t x had. cond_stay (not (is_as_bad pair had.pair)) t x had refl;
    each = λ p one. ⊎_elim
        (λ (was : Contains kept p). inl (from_filter (λ q. not (is_as_bad pair q)) old p (subst (λ w. Contains w p) filters was)))
        (λ (same : p ≡ pair). inr same)
        (contained p one);
    here = record { pair = pair; is_one = here; arrival = omega arith; cost = omega arith };
  }
    where
      kept_trade : RiseAndFall kept
      kept_trade = subst RiseAndFall (sym filters) (AllPairs-filter Trades (λ q. not (is_as_bad pair q)) old trade)

      -- each kept pair trades with the new one, in the order of their arrivals
      beside : (k : ℕ) (d : Pair) → k < length kept → ((get_or kept k d).arrival < pair.arrival → Trades (get_or kept k d) pair)
          × (pair.arrival ≤ (get_or kept k d).arrival → Trades pair (get_or kept k d))
      beside k d below =
          let q : Pair = get_or kept k d in
          let one : Contains kept q = (k, below, get_or_default kept k q d below) in
          let one' : Contains (filter (λ w. not (is_as_bad pair w)) old) q = subst (λ w. Contains w q) filters one in
          let better = stays_better pair q (passes (λ w. not (is_as_bad pair w)) old q one') in
          let apart : (q.arrival ≤ pair.arrival) → (q.cost ≤ pair.cost)
          → ⊥ = λ early cheap. none (record { pair = q; is_one = from_filter (λ w. not (is_as_bad pair w)) old q one'; arrival = early; cost = cheap }) in (
            (λ early. (
              early,
              ⊎_elim (λ (dear : pair.cost < q.cost). dear) (λ (cheap : q.cost ≤ pair.cost). absurd (apart (omega (arith, early)) cheap))
                  (cases_lt pair.cost q.cost),
            )),
            (λ late. ⊎_elim
                (λ (early : q.arrival < pair.arrival). absurd (omega (arith, early, late)))
                (λ (cheap : q.cost < pair.cost). (
                  ⊎_elim (λ (after : pair.arrival < q.arrival). after)
                      (λ (no_later : q.arrival ≤ pair.arrival). absurd (apart no_later (omega (arith, cheap)))) (cases_lt pair.arrival q.arrival),
                  cheap,
                ))
                better),
          )

      long : length (insert kept puts.place pair) ≡ length kept + 1
      long = length-insert kept puts.place pair puts.within

      both : (a b c d : Pair) → a ≡ b → c ≡ d → Trades b d → Trades a c
      both a b c d e f h = subst (λ w. Trades w c) (sym e) (subst (λ w. Trades b w) (sym f) h)

      below : (k : ℕ) (d : Pair) → k < puts.place → get_or (insert kept puts.place pair) k d ≡ get_or kept k d
      below k d lt = get_or-insert_below kept puts.place pair d k lt puts.within

      at : (k : ℕ) (d : Pair) → k ≡ puts.place → get_or (insert kept puts.place pair) k d ≡ pair
      at k d e = ap (λ n. get_or (insert kept puts.place pair) n d) e ∙ get_or-insert_at kept puts.place pair d puts.within

      above : (k : ℕ) (d : Pair) → puts.place < k → get_or (insert kept puts.place pair) k d ≡ get_or kept (k - 1) d
      above k d gt = let e : k ≡ k - 1 + 1 = omega (arith, gt) in ap (λ n. get_or (insert kept puts.place pair) n d) e
          ∙ get_or-insert_above kept puts.place pair d (k - 1) (omega (arith, gt)) puts.within

      trades : RiseAndFall new
      trades = subst RiseAndFall (sym puts.put) (λ i j d before within.
          let end : j < length kept + 1 = omega (arith, within, long) in
          ⊎_elim
          (λ (low : j < puts.place). both _ _ _ _ (below i d (omega (arith, low, before))) (below j d low)
          (kept_trade i j d before (omega (arith, low, puts.within))))
          (λ (high : puts.place ≤ j). ⊎_elim
          (λ (past : puts.place < j). ⊎_elim
          (λ (left : i < puts.place). both _ _ _ _ (below i d left) (above j d past)
          (kept_trade i (j - 1) d (omega (arith, left, past)) (omega (arith, end, past))))
          (λ (right : puts.place ≤ i). ⊎_elim
          (λ (more : puts.place < i). both _ _ _ _ (above i d more) (above j d past)
          (kept_trade (i - 1) (j - 1) d (omega (arith, more, before)) (omega (arith, end, past))))
          (λ (here : i ≤ puts.place). both _ _ _ _ (at i d (omega (arith, here, right))) (above j d past)
          ((beside (j - 1) d (omega (arith, end, past))).1 (puts.after (j - 1) d (omega (arith, past)) (omega (arith, end, past)))))
          (cases_lt puts.place i))
          (cases_lt i puts.place))
          (λ (here : j ≤ puts.place). both _ _ _ _ (below i d (omega (arith, here, high, before))) (at j d (omega (arith, here, high)))
          ((beside i d (omega (arith, here, high, before, puts.within))).0 (puts.before i d (omega (arith, here, before)))))
          (cases_lt puts.place j))
          (cases_lt j puts.place))

      halves : take puts.place kept ++ drop puts.place kept ≡ kept
      halves = take-append-drop puts.place kept

      contained : (p : Pair) → Contains new p → Contains kept p ⊎ (p ≡ pair)
      contained p one = ⊎_elim
          (λ (left : Contains (take puts.place kept) p).
          inl (subst (λ w. Contains w p) halves (Contains-append_left (take puts.place kept) (drop puts.place kept) p left)))
          (λ (right : Contains (pair ∷ drop puts.place kept) p). ⊎_elim
          (λ (same : pair ≡ p). inr (sym same))
          (λ (rest : Contains (drop puts.place kept) p).
          inl (subst (λ w. Contains w p) halves (Contains-append_right (take puts.place kept) (drop puts.place kept) p rest)))
          (first_or_rest pair p (drop puts.place kept) right))
          (Contains-append_cases (take puts.place kept) (pair ∷ drop puts.place kept) p (subst (λ w. Contains w p) puts.put one))

      here : Contains new pair
      here = subst (λ w. Contains w pair) (sym puts.put)
          (Contains-append_right (take puts.place kept) (pair ∷ drop puts.place kept) pair (0, omega arith, refl))

      stays : (p : Pair) → Contains kept p → Contains new p
      stays p one = subst (λ w. Contains w p) (sym puts.put) (⊎_elim
          (λ (left : Contains (take puts.place kept) p). Contains-append_left (take puts.place kept) (pair ∷ drop puts.place kept) p left)
          (λ (right : Contains (drop puts.place kept) p).
          Contains-append_right (take puts.place kept) (pair ∷ drop puts.place kept) p (suc right.0, omega (arith, right.1), right.2))
          (Contains-append_cases (take puts.place kept) (drop puts.place kept) p (subst (λ w. Contains w p) (sym halves) one)))

      cond_stay : (b : Bool) (t x : ℕ) (had : HasPair old t x) → not (is_as_bad pair had.pair) ≡ b → HasPair new t x
      cond_stay true t x had e = record {
        pair = had.pair;
        is_one =
            stays had.pair (subst (λ w. Contains w had.pair) (sym filters) (contains_filter (λ q. not (is_as_bad pair q)) old had.pair e had.is_one));
        arrival =
            had.arrival;
        cost = had.cost;
      }
      cond_stay false t x had e = let bad = goes_bad pair had.pair e
          in record { pair = pair; is_one = here; arrival = omega (arith, bad.0, had.arrival); cost = omega (arith, bad.1, had.cost) }
