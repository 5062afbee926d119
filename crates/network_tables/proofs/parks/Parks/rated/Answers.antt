use Rattle.std.proofs.Common.{◌≡◌, List, Option, map, subst, sym, ap, ◌∙◌}
use Rattle.std.specs.Prelude.{IfSome, nat_eq}
use Rattle.std.specs.Map.{lookup}
use Rattle.std.proofs.lemmas.Map.Entries.{All-lookup}
use Rattle.network_tables.specs.Parks.{HasTimetable, ParkLists, Timetable, timetable_with}
use Rattle.network_tables.specs.declared.parks.RatedNode.{RatedNode}
use Rattle.network_tables.proofs.parks.Parks.rated.Goals as goal

pub returns-clause-there : goal.returns-clause-there
returns-clause-there c =
    let timetables : List Timetable = map (timetable_with c.self.inside.hours.items) c.self.inside.timetables.items in
    let found : lookup (nat_eq c.args.v.0) c.self.inside.rated.entries ≡ c.copied.result = sym (c.copied.ensures ∙ c.get.ensures.value) in
    subst (λ (p : ParkLists). IfSome c.copied.result (HasTimetable p.timetables)) c.self.view_is
    (subst (λ (o : Option RatedNode). IfSome o (HasTimetable timetables)) found
    (All-lookup (HasTimetable timetables) (nat_eq c.args.v.0) c.self.inside.rated.entries c.self.invariant))
