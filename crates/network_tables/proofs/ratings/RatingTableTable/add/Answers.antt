use Rattle.std.proofs.Common.{[], ◌∷◌, ◌++◌, List, ap, sym, ◌∙◌}
use Rattle.std.proofs.lemmas.Result.{on_ok_weaker}
use Rattle.network_tables.specs.Ratings.{Rating, rating_of}
use Rattle.table_reader.proofs.Lists.{filter_map-push}
use Rattle.network_tables.proofs.ratings.RatingTableTable.add.Goals as goal

pub returns-clause-added : goal.returns-clause-added
returns-clause-added c =
    on_ok_weaker c.add.result (λ added start before is.
    added
    ∙ ap (λ (ratings : List Rating). ratings ++ (c.in-Some.name.now, c.in-Some.weight) ∷ []) (c.self.view_is ∙ is)
    ∙ sym (filter_map-push rating_of before _ (c.in-Some.name.now, c.in-Some.weight) (sym c.in-Some.ensures))) c.add.ensures.added
