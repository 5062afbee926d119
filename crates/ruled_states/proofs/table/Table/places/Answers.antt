use Rattle.std.proofs.Common.{sym, ◌∙◌, ap, subst}
use Rattle.ruled_states.specs.Inside.Tables.{ArePlacesOf, TableView, rows_of, row_at}
use Rattle.ruled_states.proofs.Rows.{places_are}
use Rattle.ruled_states.proofs.table.Table.places.Goals as goal

pub returns : goal.returns
returns c = subst (λ infos. ArePlacesOf infos c.args.node.0 c.row_of.result.now) (ap (λ (v : TableView). v.infos) c.self.view_is)
    (places_are c.self.inside.infos.items (rows_of c.self.inside.rows.items) c.args.node.0 c.row_of.result.now c.self.invariant
    (sym (c.row_of.ensures ∙ ap (λ rows. row_at (rows_of rows) c.args.node.0) c.deref.ensures.value)))
