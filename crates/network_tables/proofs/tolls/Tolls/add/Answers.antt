use Rattle.std.proofs.Common.{◌≡◌, List, ◌++◌, ◌∷◌, [], None, ap, sym, ◌∙◌}
use Rattle.std.specs.Option.{is_some}
use Rattle.indexmap.proofs.CallerLemmas.{insert_entry-new}
use Rattle.route_base.proofs.Logic.{none_from_test}
use Rattle.network_tables.specs.Tolls.{Toll, toll_for}
use Rattle.network_tables.proofs.tolls.Tolls.add.Goals as goal

pub returns-clause-added : goal.returns-clause-added
returns-clause-added c =
    let none : toll_for c.self.inside.by_arc.entries c.args.arc ≡ None =
    ap (λ (tolls : List Toll). toll_for tolls c.args.arc) c.self.view_is ∙ sym c.toll.ensures
    ∙ none_from_test _ (sym c.is_some.ensures ∙ c.if-is_some.false) in
    c.in_ok-insert.ensures.entries ∙ insert_entry-new _ c.self.inside.by_arc c.args.arc c.args.toll none
    ∙ ap (λ (tolls : List Toll). tolls ++ (c.args.arc, c.args.toll) ∷ []) c.self.view_is
