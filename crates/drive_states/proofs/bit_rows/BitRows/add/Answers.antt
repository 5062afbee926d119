use Rattle.std.proofs.Common.{List, ℕ, ap, sym, ◌∙◌}
use Rattle.std.proofs.lemmas.Result.{IfOk-weaker}
use Rattle.drive_states.specs.Inside.BitRows.{TakesLater, row_of}
use Rattle.drive_states.proofs.RowPlaces.{row_here, row_there, among_rows}
use Rattle.drive_states.proofs.bit_rows.BitRows.add.Goals as goal

pub returns-clause-took : goal.returns-clause-took
returns-clause-took c =
    let within = among_rows (λ w. w.items) c.self.inside.rows.items c.args.v.0 _ c.self.view_is c.in_ok-add_rows.ensures.within in
    IfOk-weaker c.add_later.result _ _ (λ fresh takes.
    row_here (λ w. w.items) c.self.inside.rows.items c.args.v.0 c.add_later.new.row c.index_mut.result.now within (sym c.index_mut.ensures.value)
    (λ old new. TakesLater old new c.args.from.now c.args.by c.args.most fresh) (row_of c.args.self.now c.args.v.0)
    (ap (λ (w : List (List ℕ)). row_of w c.args.v.0) c.self.view_is ∙ c.add_rows.ensures.same c.args.v.0) takes) c.add_later.ensures

pub returns-clause-others : goal.returns-clause-others
returns-clause-others c = IfOk-weaker c.add_later.result _ _ (λ fresh takes. λ u other.
    row_there (λ w. w.items) c.self.inside.rows.items c.args.v.0 u c.add_later.new.row other
    ∙ ap (λ (w : List (List ℕ)). row_of w u) c.self.view_is ∙ c.add_rows.ensures.same u) c.add_later.ensures
