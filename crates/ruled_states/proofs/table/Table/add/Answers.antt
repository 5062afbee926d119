use Rattle.std.proofs.Common.{◌+◌, ◌++◌, ◌∷◌, [], sym, ◌∙◌, ap, subst}
use Rattle.ruled_states.specs.Inside.Tables.{IsStateOf, IsTable, TableView, row_at, rows_of}
use Rattle.ruled_states.proofs.Adding.{added}
use Rattle.ruled_states.proofs.Rows.{kept_table}
use Rattle.ruled_states.proofs.table.Table.add.Goals as goal

pub invariant_of-self-in_err-push_place : goal.invariant_of-self-in_err-push_place
invariant_of-self-in_err-push_place c = subst (λ xs. IsTable xs (rows_of c.push_place.new.rows.items)) (sym c.reserve.ensures.items)
    (kept_table c.self.inside.infos.items (rows_of c.self.inside.rows.items) (rows_of c.push_place.new.rows.items) c.self.invariant
    c.in_err-push_place.ensures.kept)

pub invariant_of-self-2 : goal.invariant_of-self-2
invariant_of-self-2 c =
    let infos = c.self.inside.infos.items in
    let rows = rows_of c.self.inside.rows.items in
    let info = c.args.info in
    subst (λ xs. IsTable xs (rows_of c.push_place.new.rows.items)) (sym (c.push_reserved.ensures.items ∙ ap (λ xs. xs ++ info ∷ []) c.reserve.ensures.items))
    (added infos rows (rows_of c.push_place.new.rows.items) info c.self.invariant
    (λ n is. c.requires.new n (subst (λ xs. IsStateOf xs info.node.0 info.state n) (ap (λ (v : TableView). v.infos) c.self.view_is) is))
    (c.in_ok-push_place.ensures.here ∙ ap (λ n. row_at rows info.node.0 ++ record { state = info.state; number = n + 1 } ∷ []) (c.len.ensures ∙ c.self.inside.infos.ok.0))
    c.in_ok-push_place.ensures.others)
