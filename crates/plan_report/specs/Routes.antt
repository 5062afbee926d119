-- The text of routes in a form that has a text for each leg (source: own).
use Rattle.std.specs.Prelude.{ℕ, List, ◌++◌, length, flat_map}
use Rattle.route_base.specs.Setting.{Setting}
use Rattle.route_base.specs.declared.types.Leg.{Leg}
use Rattle.route_base.specs.declared.types.Request.{Request}
use Rattle.route_base.specs.declared.types.Route.{Route}
use Rattle.plan_report.specs.Stages.{Stage, stages_of, numbered_text}

-- the texts of a form: the one before n routes, the one before the legs of route n, that of each leg, and the one behind the legs
pub record RouteTexts : Type 0 where
  pub start : ℕ → List ℕ
  pub head : ℕ → Route → List ℕ
  pub leg : Setting → ℕ → Stage → List ℕ
  pub end : ℕ → Route → List ℕ

-- the legs of route n
abbrev pub legs_text : RouteTexts → Setting → Request → ℕ → List Leg → List ℕ
legs_text texts s r n legs = flat_map (texts.leg s n) (stages_of s r legs)

-- route n
abbrev pub route_text : RouteTexts → Setting → Request → ℕ → Route → List ℕ
route_text texts s r n route = texts.head n route ++ legs_text texts s r n route.legs ++ texts.end n route

-- the routes, numbered from 1
abbrev pub routes_text : RouteTexts → Setting → Request → List Route → List ℕ
routes_text texts s r routes = texts.start (length routes) ++ numbered_text (route_text texts s r) 1 routes
