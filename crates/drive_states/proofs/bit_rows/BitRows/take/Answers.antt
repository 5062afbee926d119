use Rattle.std.proofs.Common.{List, ℕ, ap, sym, ◌∙◌}
use Rattle.std.proofs.lemmas.Result.{IfOk-weaker}
use Rattle.drive_states.specs.Inside.BitRows.{TakesFresh, row_of}
use Rattle.drive_states.proofs.RowPlaces.{row_here, row_there, among_rows}
use Rattle.drive_states.proofs.bit_rows.BitRows.take.Goals as goal

pub returns-clause-took : goal.returns-clause-took
returns-clause-took c =
    let within = among_rows (λ w. w.items) c.self.inside.rows.items c.args.v.0 _ c.self.view_is c.in_ok-add_rows.ensures.within in
    IfOk-weaker c.take_fresh.result _ _ (λ _ takes.
    row_here (λ w. w.items) c.self.inside.rows.items c.args.v.0 c.take_fresh.new.done c.index_mut.result.now within (sym c.index_mut.ensures.value)
    (λ old new. TakesFresh old new c.args.row.now c.take_fresh.new.fresh.items) (row_of c.args.self.now c.args.v.0)
    (ap (λ (w : List (List ℕ)). row_of w c.args.v.0) c.self.view_is ∙ c.add_rows.ensures.same c.args.v.0) takes) c.take_fresh.ensures

pub returns-clause-others : goal.returns-clause-others
returns-clause-others c = IfOk-weaker c.take_fresh.result _ _ (λ _ takes. λ u other.
    row_there (λ w. w.items) c.self.inside.rows.items c.args.v.0 u c.take_fresh.new.done other
    ∙ ap (λ (w : List (List ℕ)). row_of w u) c.self.view_is ∙ c.add_rows.ensures.same u) c.take_fresh.ensures
