use Rattle.std.proofs.Common.{◌≡◌, ◌+◌, ◌++◌, ◌∷◌, [], suc, List, map, take, get_or, sym, ◌∙◌, ap, subst, arith}
use Rattle.std.specs.Prelude.{All, Contains}
use Rattle.std.proofs.Math.Seq.{take-suc}
use Rattle.std.proofs.lemmas.List.{map-append, take_all, get_or_default}
use Rattle.std.proofs.lemmas.List.Elements.{All-push}
use Rattle.route_base.specs.declared.types.Pair.{Pair}
use Rattle.ruled_states.specs.Inside.Codes.{base}
use Rattle.ruled_search.specs.Inside.Tasks.{task_of}
use Rattle.ruled_search.specs.Routes.{IsFirstRuled}
use Rattle.ruled_search.specs.declared.routes.RuledRoute.{RuledRoute}
use Rattle.ruled_search.proofs.back.routes_of.Goals as goal

abbrev no_pair : Pair
no_pair = record { arrival = 0; cost = 0 }

pub legs_of-requires-clause-one : goal.legs_of-requires-clause-one
legs_of-requires-clause-one g c =
    let pairs = c.as_slice-pair-items.result.now in
    let k = c.loop-pair.pair-index in
    subst (λ (w : List Pair). Contains w (get_or pairs k no_pair)) c.as_slice-pair-items.ensures.value
    (k, c.loop-pair-test.true, get_or_default pairs k (get_or pairs k no_pair) no_pair c.loop-pair-test.true)

pub loop-pair-preserved : goal.loop-pair-preserved
loop-pair-preserved g c =
    let first = IsFirstRuled (task_of _ g.R.Ruler.ruling c.args.task) base in
    let pairs = c.as_slice-pair-items.result.now in
    let k = c.loop-pair.pair-index in
    let pair : Pair = get_or pairs k no_pair in
    let route : RuledRoute = record { pair = pair; legs = c.in_ok-legs.legs } in
    let items : c.push.new.self.items ≡ c.loop-pair.routes.items ++ route ∷ [] = c.in_ok-push.ensures.items in
    let next : take (k + 1) pairs ≡ take k pairs ++ pair ∷ [] = (let e : k + 1 ≡ suc k = omega arith in ap (λ n. take n pairs) e)
    ∙ take-suc pairs k no_pair c.loop-pair-test.true in
    record {
      same = ap (map (λ (x : RuledRoute). x.pair)) items
          ∙ (map-append (λ (x : RuledRoute). x.pair) c.loop-pair.routes.items (route ∷ [])
          ∙ (ap (λ (w : List Pair). w ++ pair ∷ []) c.loop-pair.invariant.same ∙ sym next));
      legs = subst (All first) (sym items) (All-push first c.loop-pair.routes.items route c.loop-pair.invariant.legs c.in_ok-legs.ensures);
    }

pub returns : goal.returns
returns g c =
    let pairs = c.as_slice-pair-items.result.now in
    let k = c.loop-pair.pair-index in
    record {
      same = c.loop-pair.invariant.same ∙ (take_all k pairs (omega (arith, c.loop-pair-test.false)) ∙ c.as_slice-pair-items.ensures.value);
      legs = c.loop-pair.invariant.legs;
    }
