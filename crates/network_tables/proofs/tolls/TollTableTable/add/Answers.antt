use Rattle.std.proofs.Common.{List, ◌++◌, ◌∷◌, [], ap, sym, ◌∙◌}
use Rattle.std.proofs.lemmas.Result.{on_ok_weaker}
use Rattle.csv.specs.Records.{fields_of}
use Rattle.table_reader.proofs.Lists.{filter_map-push}
use Rattle.network_tables.specs.Tolls.{Toll, TollsSoFar, toll_of}
use Rattle.network_tables.proofs.tolls.TollTableTable.add.Goals as goal

pub returns-clause-added : goal.returns-clause-added
returns-clause-added c =
    on_ok_weaker c.add.result (λ added start before is. (
      ap (λ (t : TollsSoFar). t.arcs) c.self.view_is ∙ is.0,
      added
          ∙ ap (λ (tolls : List Toll). tolls ++ (c.in-Some.arc, c.in-Some.toll) ∷ []) (ap (λ (t : TollsSoFar). t.tolls) c.self.view_is ∙ is.1)
          ∙ sym (filter_map-push toll_of before (fields_of c.args.row.now) (c.in-Some.arc, c.in-Some.toll) (sym c.read_toll.ensures ∙ c.in-Some.is)),
    ))
    c.add.ensures.added
