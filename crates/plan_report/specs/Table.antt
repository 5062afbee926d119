-- The table of routes (source: own).
use Rattle.std.specs.Prelude.{ℕ, List, [], ◌++◌, codes, decimal}
use Rattle.calendar_days.specs.Texts.{instant_text_of}
use Rattle.route_base.specs.Setting.{Setting}
use Rattle.route_base.specs.Itinerary.{Position}
use Rattle.route_base.specs.declared.types.Leg.{Leg}
use Rattle.route_base.specs.declared.types.Leg.TheVariants.{Drive, Wait}
use Rattle.route_base.specs.declared.types.Request.{Request}
use Rattle.route_base.specs.declared.types.Route.{Route}
use Rattle.line_texts.specs.Words.{thousandths_of}
use Rattle.plan_report.specs.Routes.{RouteTexts, routes_text}
use Rattle.plan_report.specs.Stages.{Stage, road_at, minutes_of_leg}

-- the word of a leg with the arc and its ends, or with the node of a wait
abbrev pub table_move_text : Setting → Position → Leg → List ℕ
table_move_text s p (Drive a) =
    codes " drive " ++ decimal a.0 ++ codes " " ++ decimal (road_at s a.0).tail ++ codes " " ++ decimal (road_at s a.0).head
table_move_text s p (Wait k) = codes " wait " ++ decimal p.node

-- a leg's line: its start, its move and its minutes
abbrev pub table_leg_text : Setting → Stage → List ℕ
table_leg_text s x =
    instant_text_of x.from.minute ++ table_move_text s x.from x.leg ++ codes " " ++ decimal (minutes_of_leg s x.leg) ++ codes "\n"

-- the line of route n
abbrev pub table_head_text : ℕ → Route → List ℕ
table_head_text n route =
    codes "route " ++ decimal n ++ codes " arrive " ++ instant_text_of route.pair.arrival ++ codes " cost "
    ++ thousandths_of route.pair.cost ++ codes "\n"

-- the number of routes, and for each route its line, and those of its legs
abbrev pub table_texts : RouteTexts
table_texts = record {
  start = λ n. codes "routes " ++ decimal n ++ codes "\n";
  head = table_head_text;
  leg = λ s n x. table_leg_text s x;
  end = λ n route. [];
}

-- the number of routes, and then the routes
abbrev pub table_text_of : Setting → Request → List Route → List ℕ
table_text_of s r routes = routes_text table_texts s r routes
