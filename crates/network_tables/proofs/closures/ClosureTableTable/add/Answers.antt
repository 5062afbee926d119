use Rattle.std.proofs.Common.{List, ◌++◌, ◌∷◌, [], ap, sym, ◌∙◌}
use Rattle.csv.specs.Records.{fields_of}
use Rattle.table_reader.proofs.Lists.{filter_map-push}
use Rattle.network_tables.specs.Closures.{ClosuresSoFar, closure_of}
use Rattle.network_tables.specs.declared.closures.Closure.{Closure}
use Rattle.network_tables.proofs.closures.ClosureTableTable.add.Goals as goal

pub returns-clause-added : goal.returns-clause-added
returns-clause-added c = λ start before is. (
  ap (λ (t : ClosuresSoFar). t.arcs) c.self.view_is ∙ is.0,
  c.in_ok-push.ensures.items
      ∙ ap (λ (closures : List Closure). closures ++ c.in-Some.closure ∷ []) (ap (λ (t : ClosuresSoFar). t.closures) c.self.view_is ∙ is.1)
      ∙ sym (filter_map-push closure_of before (fields_of c.args.row.now) c.in-Some.closure (sym c.in-Some.ensures)),
)
