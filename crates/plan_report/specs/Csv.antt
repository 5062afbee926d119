-- The CSV text of routes (source: RFC 4180, with line feeds; the columns are own).
use Rattle.std.specs.Prelude.{ℕ, ◌+◌, List, [], ◌++◌, length, codes, decimal}
use Rattle.calendar_days.specs.Texts.{instant_text_of}
use Rattle.route_base.specs.Setting.{Setting}
use Rattle.route_base.specs.Itinerary.{Position}
use Rattle.route_base.specs.Legs.{end_of}
use Rattle.route_base.specs.declared.types.Leg.{Leg}
use Rattle.route_base.specs.declared.types.Leg.TheVariants.{Drive, Wait}
use Rattle.route_base.specs.declared.types.Request.{Request}
use Rattle.route_base.specs.declared.types.Route.{Route}
use Rattle.line_texts.specs.Words.{thousandths_of}
use Rattle.plan_report.specs.Routes.{RouteTexts, routes_text}
use Rattle.plan_report.specs.Stages.{Stage, minutes_of_leg}

-- the columns node, start, minutes, and the cost up to there
abbrev pub csv_place_text : Position → ℕ → List ℕ
csv_place_text p minutes =
    decimal p.node ++ codes "," ++ instant_text_of p.minute ++ codes "," ++ decimal minutes ++ codes "," ++ thousandths_of p.cost ++ codes "\n"

-- a row: the numbers of route and leg, the kind with the arc, and the place
abbrev pub csv_row : ℕ → ℕ → List ℕ → Position → ℕ → List ℕ
csv_row n number kind p minutes = decimal n ++ codes "," ++ decimal number ++ kind ++ csv_place_text p minutes

-- the kind of a leg, and its arc where it is a drive
abbrev pub csv_kind : Leg → List ℕ
csv_kind (Drive a) = codes ",drive," ++ decimal a.0 ++ codes ","
csv_kind (Wait k) = codes ",wait,,"

-- the row of a leg of route n
abbrev pub csv_leg_row : Setting → ℕ → Stage → List ℕ
csv_leg_row s n x = csv_row n x.number (csv_kind x.leg) x.from (minutes_of_leg s x.leg)

-- the row of the arrival of route n: its number follows that of the last leg
abbrev pub csv_arrive_row : Request → ℕ → Route → List ℕ
csv_arrive_row r n route = csv_row n (length route.legs + 1) (codes ",arrive,,") (end_of r route.pair) 0

-- the header, a row for each leg of a route, and behind them the row of its arrival
abbrev pub csv_texts : Request → RouteTexts
csv_texts r = record {
  start = λ n. codes "pair,leg,kind,arc,node,start,minutes,cost\n";
  head = λ n route. [];
  leg = csv_leg_row;
  end = csv_arrive_row r;
}

-- the header, and then the routes
abbrev pub csv_text_of : Setting → Request → List Route → List ℕ
csv_text_of s r routes = routes_text (csv_texts r) s r routes
