use Rattle.std.proofs.Common.{◌≡◌, ◌+◌, ◌<◌, ◌++◌, ◌∷◌, [], suc, List, map, take, length, get_or, sym, ◌∙◌, ap, subst, arith}
use Rattle.std.specs.Prelude.{All}
use Rattle.std.proofs.Math.Seq.{take-suc}
use Rattle.std.proofs.lemmas.List.{map-append, take_all}
use Rattle.std.proofs.lemmas.List.Elements.{All-push}
use Rattle.route_base.specs.Front.{IsFront}
use Rattle.route_base.specs.Legs.{Achieves, HasNoNeighbouringWaits}
use Rattle.route_base.specs.Net.{setting_of}
use Rattle.route_base.specs.declared.types.Pair.{Pair}
use Rattle.route_base.specs.declared.types.Route.{Route}
use Rattle.route_base.specs.FirstItinerary.{IsFirst, AreFirst}
use Rattle.itinerary_unpack.proofs.routes.routes_of.Goals as goal

pub loop-k-preserved : goal.loop-k-preserved
loop-k-preserved c =
    let s = setting_of c.args.net.now in
    let r = c.args.request in
    let none : Pair = record { arrival = 0; cost = 0 } in
    let pairs = c.args.found.now.pairs in
    let k = c.loop-k.k in
    let pair : Pair = get_or pairs k none in
    let within : k < length pairs = omega (arith, c.loop-k-test.true, ap (λ (w : List Pair). length w) c.pairs-pairs.ensures) in
    let route : Route = record { pair = pair; legs = c.in_ok-legs.legs } in
    let items : c.push.new.self.items ≡ c.loop-k.routes.items ++ route ∷ [] = c.in_ok-push.ensures.items
    ∙ ap (λ (w : List Pair). c.loop-k.routes.items ++ record { pair = get_or w k none; legs = c.in_ok-legs.legs } ∷ []) c.pairs-pairs.ensures in
    let next : take (k + 1) pairs ≡ take k pairs ++ pair ∷ [] = (let e : k + 1 ≡ suc k = omega arith in ap (λ n. take n pairs) e)
    ∙ take-suc pairs k none within in
    record {
      pairs = ap (map (λ (x : Route). x.pair)) items
          ∙ (map-append (λ (x : Route). x.pair) c.loop-k.routes.items (route ∷ [])
          ∙ (ap (λ (w : List Pair). w ++ pair ∷ []) c.loop-k.invariant.pairs ∙ sym next));
      legs = subst (All (λ (x : Route). Achieves s r x.legs x.pair × HasNoNeighbouringWaits x.legs)) (sym items)
          (All-push (λ (x : Route). Achieves s r x.legs x.pair × HasNoNeighbouringWaits x.legs) c.loop-k.routes.items route c.loop-k.invariant.legs
          (c.in_ok-legs.ensures.achieves none, c.in_ok-legs.ensures.tidy));
      first = subst (AreFirst s r) (sym items)
          (All-push (λ (x : Route). IsFirst s r x.legs x.pair) c.loop-k.routes.items route c.loop-k.invariant.first (c.in_ok-legs.ensures.first none));
    }

pub returns : goal.returns
returns c =
    let s = setting_of c.args.net.now in
    let pairs = c.args.found.now.pairs in
    let all : take c.loop-k.k pairs ≡ pairs =
    take_all c.loop-k.k pairs (omega (arith, c.loop-k-test.false, ap (λ (w : List Pair). length w) c.pairs-pairs.ensures)) in
    let items : c.from_vec.result ≡ c.loop-k.routes.items = c.from_vec.ensures in
    let same : map (λ (x : Route). x.pair) c.from_vec.result ≡ pairs = ap (map (λ (x : Route). x.pair)) items ∙ c.loop-k.invariant.pairs ∙ all in
    record {
      right = record {
        front = subst (IsFront s c.args.request) (sym same) c.requires.found.found.optimal.front;
        legs = subst (All (λ (x : Route). Achieves s c.args.request x.legs x.pair × HasNoNeighbouringWaits x.legs)) (sym items) c.loop-k.invariant.legs;
        first = subst (AreFirst s c.args.request) (sym items) c.loop-k.invariant.first;
      };
      pairs = same;
    }
