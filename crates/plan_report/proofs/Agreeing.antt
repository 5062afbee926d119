-- The texts of routes over settings of which one stands for the other.
use Rattle.std.proofs.Common.{◌≡◌, ℕ, suc, List, [], ◌∷◌, ◌++◌, flat_map, refl, ◌∙◌, ap}
use Rattle.std.specs.Prelude.{◌+◌, ◌*◌, Option, unwrap_or, codes, decimal, length}
use Rattle.calendar_days.specs.Texts.{instant_text_of}
use Rattle.route_base.specs.Setting.{Setting, Road}
use Rattle.route_base.specs.Itinerary.{Position}
use Rattle.route_base.specs.Matching.{StandsFor}
use Rattle.route_base.specs.declared.types.Form.{Form}
use Rattle.route_base.specs.declared.types.Form.TheVariants.{Plain, Table, Csv, Json}
use Rattle.route_base.specs.declared.types.Leg.{Leg}
use Rattle.route_base.specs.declared.types.Leg.TheVariants.{Drive, Wait}
use Rattle.route_base.specs.declared.types.Request.{Request}
use Rattle.route_base.specs.declared.types.Route.{Route}
use Rattle.route_base.specs.declared.types.Run.{Run}
use Rattle.plan_report.specs.Csv.{csv_kind, csv_row, csv_leg_row, csv_texts}
use Rattle.plan_report.specs.Reports.{report_text}
use Rattle.plan_report.specs.Routes.{RouteTexts, route_text, routes_text}
use Rattle.plan_report.specs.Stages.{Stage, no_road, road_at, price_at, minutes_of_leg, position_after, stages_from, stages_of, numbered_text}
use Rattle.plan_report.specs.Table.{table_move_text, table_leg_text, table_texts}

same_road : (s z : Setting) (window : Run) (a : ℕ) → StandsFor s z window → road_at s a ≡ road_at z a
same_road s z window a same = ap (λ (o : Option Road). unwrap_or o no_road) (same.road a)

same_weight : (s z : Setting) (window : Run) (v : ℕ) → StandsFor s z window → price_at s v ≡ price_at z v
same_weight s z window v same = ap (λ (o : Option ℕ). unwrap_or o 0) (same.weight v)

same_minutes : (s z : Setting) (window : Run) (leg : Leg) → StandsFor s z window → minutes_of_leg s leg ≡ minutes_of_leg z leg
same_minutes s z window (Drive a) same = ap (λ (r : Road). r.minutes) (same_road s z window a.0 same)
same_minutes s z window (Wait k) same = refl

same_after : (s z : Setting) (window : Run) (p : Position) (leg : Leg) → StandsFor s z window → position_after s p leg ≡ position_after z p leg
same_after s z window p (Drive a) same =
    ap (λ (r : Road). record { node = r.head; minute = p.minute + r.minutes; cost = p.cost + r.cost }) (same_road s z window a.0 same)
same_after s z window p (Wait k) same =
    ap (λ (w : ℕ). record { node = p.node; minute = p.minute + k; cost = p.cost + k * w }) (same_weight s z window p.node same)

same_stages : (s z : Setting) (window : Run) (n : ℕ) (p : Position) (legs : List Leg) → StandsFor s z window
    → stages_from s n p legs ≡ stages_from z n p legs
same_stages s z window n p [] same = refl
same_stages s z window n p (leg ∷ legs) same =
    ap (λ (xs : List Stage). record { number = n; from = p; leg = leg } ∷ xs)
    (ap (λ (q : Position). stages_from s (suc n) q legs) (same_after s z window p leg same)
    ∙ same_stages s z window (suc n) (position_after z p leg) legs same)

same_each : (f g : Stage → List ℕ) (xs : List Stage) → ((x : Stage) → f x ≡ g x) → flat_map f xs ≡ flat_map g xs
same_each f g [] same = refl
same_each f g (x ∷ xs) same = ap (λ (t : List ℕ). t ++ flat_map f xs) (same x) ∙ ap (λ (t : List ℕ). g x ++ t) (same_each f g xs same)

same_numbered : (f g : ℕ → Route → List ℕ) (n : ℕ) (xs : List Route) → ((m : ℕ) (x : Route) → f m x ≡ g m x)
    → numbered_text f n xs ≡ numbered_text g n xs
same_numbered f g n [] same = refl
same_numbered f g n (x ∷ xs) same =
    ap (λ (t : List ℕ). t ++ numbered_text f (suc n) xs) (same n x) ∙ ap (λ (t : List ℕ). g n x ++ t) (same_numbered f g (suc n) xs same)

same_move : (s z : Setting) (window : Run) (p : Position) (leg : Leg) → StandsFor s z window → table_move_text s p leg ≡ table_move_text z p leg
same_move s z window p (Drive a) same =
    ap (λ (r : Road). codes " drive " ++ decimal a.0 ++ codes " " ++ decimal r.tail ++ codes " " ++ decimal r.head) (same_road s z window a.0 same)
same_move s z window p (Wait k) same = refl

same_line : (s z : Setting) (window : Run) (x : Stage) → StandsFor s z window → table_leg_text s x ≡ table_leg_text z x
same_line s z window x same =
    ap (λ (t : List ℕ). instant_text_of x.from.minute ++ t ++ codes " " ++ decimal (minutes_of_leg s x.leg) ++ codes "\n")
    (same_move s z window x.from x.leg same)
    ∙ ap (λ (m : ℕ). instant_text_of x.from.minute ++ table_move_text z x.from x.leg ++ codes " " ++ decimal m ++ codes "\n")
    (same_minutes s z window x.leg same)

same_row : (s z : Setting) (window : Run) (n : ℕ) (x : Stage) → StandsFor s z window → csv_leg_row s n x ≡ csv_leg_row z n x
same_row s z window n x same = ap (λ (m : ℕ). csv_row n x.number (csv_kind x.leg) x.from m) (same_minutes s z window x.leg same)

same_legs : (f g : Stage → List ℕ) (s z : Setting) (window : Run) (r : Request) (legs : List Leg) → ((x : Stage) → f x ≡ g x)
    → StandsFor s z window → flat_map f (stages_of s r legs) ≡ flat_map g (stages_of z r legs)
same_legs f g s z window r legs each same =
    same_each f g (stages_of s r legs) each ∙ ap (flat_map g) (same_stages s z window 1 _ legs same)

same_routes : (t : RouteTexts) (s z : Setting) (window : Run) (r : Request) (routes : List Route) → ((n : ℕ) (x : Stage) → t.leg s n x ≡ t.leg z n x)
    → StandsFor s z window → routes_text t s r routes ≡ routes_text t z r routes
same_routes t s z window r routes each same =
    ap (λ (x : List ℕ). t.start (length routes) ++ x)
    (same_numbered (route_text t s r) (route_text t z r) 1 routes
    (λ n route. ap (λ (x : List ℕ). t.head n route ++ x ++ t.end n route)
    (same_legs (t.leg s n) (t.leg z n) s z window r route.legs (each n) same)))

pub same_report : (s z : Setting) (window : Run) (form : Form) (r : Request) (routes : List Route) → StandsFor s z window
    → report_text form s r routes ≡ report_text form z r routes
same_report s z window Plain r routes same = refl
same_report s z window Table r routes same = same_routes table_texts s z window r routes (λ n x. same_line s z window x same) same
same_report s z window Csv r routes same = same_routes (csv_texts r) s z window r routes (λ n x. same_row s z window n x same) same
same_report s z window Json r routes same = refl
