-- The words of the crate's clauses, from its own specs and from the crates below (source: own).
pub use Rattle.route_base.specs.Legs.{start_of}
pub use Rattle.route_base.specs.Matching.{StandsFor}
pub use Rattle.route_base.specs.Net.{road_of, setting_of}
pub use Rattle.route_base.specs.Setting.{Setting}
pub use Rattle.route_base.specs.declared.types.Form.{Form}
pub use Rattle.route_base.specs.declared.types.Request.{Request}
pub use Rattle.route_base.specs.declared.types.Route.{Route}
pub use Rattle.route_base.specs.declared.types.Run.{Run}
pub use Rattle.plan_report.specs.Reports.{report_text}
