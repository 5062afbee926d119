use Rattle.std.proofs.Common.{ℕ, ◌≤◌, ◌<◌, List, length, get_or, sym, subst, arith}
use Rattle.route_base.specs.Front.{RiseAndFall}
use Rattle.route_base.specs.declared.types.Pair.{Pair}
use Rattle.propagation.proofs.pairs.put_in.Goals as goal

pub first_from-place-requires : goal.first_from-place-requires
first_from-place-requires c = record { trade = subst RiseAndFall (sym c.deref.ensures.value) c.requires.trade }

pub insert-requires : goal.insert-requires
insert-requires c = omega (arith, c.first_from-place.ensures.within, c.deref.ensures.len)

pub returns : goal.returns
returns c =
    let place = c.first_from-place.result in
    let arrival = c.args.pair.arrival in
    let same = c.deref.ensures.value in
    let found = c.first_from-place.ensures in
    record {
      place = place;
      within = subst (λ (w : List Pair). place ≤ length w) same found.within;
      before = subst (λ (w : List Pair). (k : ℕ) (d : Pair) → k < place → (get_or w k d).arrival < arrival) same found.before;
      after = subst (λ (w : List Pair). (k : ℕ) (d : Pair) → place ≤ k → k < length w → arrival ≤ (get_or w k d).arrival) same found.after;
      put = c.in_ok-insert.ensures.items;
    }
