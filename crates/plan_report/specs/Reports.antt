-- The report of routes in each form (source: own).
use Rattle.std.specs.Prelude.{ℕ, List}
use Rattle.route_base.specs.Setting.{Setting}
use Rattle.route_base.specs.declared.types.Form.{Form}
use Rattle.route_base.specs.declared.types.Form.TheVariants.{Plain, Table, Csv, Json}
use Rattle.route_base.specs.declared.types.Request.{Request}
use Rattle.route_base.specs.declared.types.Route.{Route}
use Rattle.plan_report.specs.Csv.{csv_text_of}
use Rattle.plan_report.specs.Json.{json_text_of}
use Rattle.plan_report.specs.Plain.{plain_text_of}
use Rattle.plan_report.specs.Table.{table_text_of}

-- the text of routes of a request over a setting
abbrev pub report_text : Form → Setting → Request → List Route → List ℕ
report_text Plain s r routes = plain_text_of routes
report_text Table s r routes = table_text_of s r routes
report_text Csv s r routes = csv_text_of s r routes
report_text Json s r routes = json_text_of routes
