use Rattle.std.proofs.Common.{List, ℕ, sym, ◌∙◌, ap}
use Rattle.std.proofs.lemmas.Result.{IfOk-weaker}
use Rattle.drive_states.specs.Inside.Numbering.{number_at}
use Rattle.drive_states.proofs.RowPlaces.{rows_same, has_place, among_rows}
use Rattle.drive_states.proofs.number_rows.NumberRows.make_room.Goals as goal

pub returns-clause-same : goal.returns-clause-same
returns-clause-same c = λ v k.
    (let within = among_rows (λ w. w.items) c.self.inside.rows.items c.args.row _ c.self.view_is c.in_ok-add_rows.ensures.within in
    rows_same (λ w. w.items) c.self.inside.rows.items c.args.row c.widen.new.row c.index_mut.result.now within (sym c.index_mut.ensures.value)
    c.widen.ensures.same v k ∙ ap (λ (w : List (List ℕ)). number_at w v k) c.self.view_is ∙ c.add_rows.ensures.same v k)

pub returns-clause-room : goal.returns-clause-room
returns-clause-room c =
    let within = among_rows (λ w. w.items) c.self.inside.rows.items c.args.row _ c.self.view_is c.in_ok-add_rows.ensures.within in
    IfOk-weaker c.widen.result _ _ (λ _ inside.
    has_place (λ w. w.items) c.self.inside.rows.items c.args.row c.args.place c.widen.new.row within inside) c.widen.ensures.within
