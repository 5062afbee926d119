use Rattle.std.proofs.Common.{◌≡◌, All, map, take}
use Rattle.ruled_states.specs.Inside.Codes.{base}
use Rattle.ruled_search.specs.Inside.Tasks.{task_of}
use Rattle.ruled_search.specs.Routes.{IsFirstRuled}
use Rattle.ruled_search.specs.declared.routes.RuledRoute.{RuledRoute}
use Rattle.ruled_search.proofs.back.routes_of.Given as goal

abbrev pub invariant-loop-pair : goal.invariant-loop-pair
invariant-loop-pair g l = record {
  same : map (λ (x : RuledRoute). x.pair) l.routes.items ≡ take l.pair-index l.pair-items;
  legs : All (IsFirstRuled (task_of _ g.R.Ruler.ruling l.task) base) l.routes.items;
}
