use Rattle.std.proofs.Common.{◌≡◌, Some, List, [], ◌∷◌, ◌++◌, ap, sym, ◌∙◌, rules}
use Rattle.csv.specs.Records.{fields_of}
use Rattle.table_reader.proofs.Lists.{filter_map-push}
use Rattle.stop_tour.specs.declared.stops.Stop.{Stop}
use Rattle.stop_tour.specs.StopTable.{stop_of}
use Rattle.stop_tour.proofs.stop_table.StopTableTable.add.Goals as goal

pub returns-clause-added : goal.returns-clause-added
returns-clause-added c = λ start before is.
    let says : stop_of (fields_of c.args.row.now) ≡ Some c.in-Some.stop = search rules in (
      c.in_ok-push.ensures.nodes ∙ is.0,
      c.in_ok-push.ensures.stops ∙ ap (λ (stops : List Stop). stops ++ c.in-Some.stop ∷ []) is.1
          ∙ sym (filter_map-push stop_of before (fields_of c.args.row.now) c.in-Some.stop says),
    )
