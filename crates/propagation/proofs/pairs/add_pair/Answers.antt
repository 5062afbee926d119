use Rattle.std.proofs.Common.{◌≡◌, inl, true, false, List, sym, ◌∙◌, not, subst}
use Rattle.std.proofs.lemmas.List.Kept.{AllPairs-filter}
use Rattle.route_base.specs.Front.{RiseAndFall, Trades}
use Rattle.route_base.specs.Relaxing.{HasPair}
use Rattle.route_base.specs.declared.types.Pair.{Pair}
use Rattle.propagation.specs.Inside.Pairs.{is_as_bad}
use Rattle.propagation.proofs.Pairing.{taken_pair}
use Rattle.propagation.proofs.pairs.add_pair.Goals as goal

pub has_as_good-requires : goal.has_as_good-requires
has_as_good-requires c = record { trade = subst RiseAndFall (sym c.deref.ensures.value) c.requires.trade }

pub returns-then-has_as_good : goal.returns-then-has_as_good
returns-then-has_as_good c = record {
  trade = c.requires.trade;
  kept = λ t x had. had;
  each = λ p one. inl one;
  here = subst (λ (w : List Pair). HasPair w c.args.pair.arrival c.args.pair.cost) c.deref.ensures.value (c.has_as_good.ensures.0 c.if-has_as_good.true);
}

pub put_in-requires : goal.put_in-requires
put_in-requires c = record {
  trade = subst RiseAndFall (sym c.drop_worse.ensures)
      (AllPairs-filter Trades (λ q. not (is_as_bad c.args.pair q)) c.args.pairs.now.items c.requires.trade);
}

pub returns : goal.returns
returns c = taken_pair c.args.pair c.args.pairs.now.items c.drop_worse.new.pairs.items c.put_in.new.pairs.items c.requires.trade
    (λ had. let good : c.has_as_good.result ≡ true =
    c.has_as_good.ensures.1 (subst (λ w. HasPair w c.args.pair.arrival c.args.pair.cost) (sym c.deref.ensures.value) had)
    in let bad : true ≡ false = sym good ∙ c.if-has_as_good.false in cc)
    c.drop_worse.ensures c.in_ok-put_in.ensures
