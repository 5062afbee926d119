use Rattle.std.proofs.Common.{◌≡◌, ◌++◌, ◌∷◌, [], rules, ◌∙◌}
use Rattle.drive_states.proofs.RowPlaces.{rows_more}
use Rattle.drive_states.proofs.number_rows.NumberRows.add_rows.Goals as goal

pub rows-preserved : goal.rows-preserved
rows-preserved c = λ v k.
    (let items : c.push.new.self.items ≡ c.rows.self-inside.rows.items ++ c.new.result ∷ [] = search rules in
    rows_more (λ w. w.items) c.rows.self-inside.rows.items c.push.new.self.items c.new.result items c.new.ensures.items v k ∙ c.rows.invariant v k)
