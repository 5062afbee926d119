use Rattle.std.proofs.Common.{List, ℕ, map, set, sym, subst}
use Rattle.drive_states.specs.Inside.Numbering.{HasPlace, IsNumberSet}
use Rattle.drive_states.proofs.RowPlaces.{rows_set}
use Rattle.drive_states.proofs.number_rows.NumberRows.set.Goals as goal

pub returns : goal.returns
returns c =
    subst (λ (w : List (List ℕ)). IsNumberSet w (map (λ v. v.items) (set c.self.inside.rows.items c.args.row c.set_in.new.row))
    c.args.row c.args.place c.args.number) c.self.view_is
    (rows_set (λ v. v.items) c.self.inside.rows.items c.args.row c.args.place c.args.number c.set_in.new.row c.index_mut.result.now
    (subst (λ (w : List (List ℕ)). HasPlace w c.args.row c.args.place) (sym c.self.view_is) c.requires)
    (sym c.index_mut.ensures.value) c.set_in.ensures)
