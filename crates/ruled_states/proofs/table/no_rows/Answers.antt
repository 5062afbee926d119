use Rattle.std.proofs.Common.{◌≡◌, ◌∷◌, [], length, sym, ◌∙◌, ap, subst, arith, length-append}
use Rattle.ruled_states.specs.Inside.Tables.{row_at, rows_of}
use Rattle.ruled_states.proofs.Rows.{row_empty}
use Rattle.ruled_states.proofs.table.no_rows.Goals as goal

pub loop-row-preserved : goal.loop-row-preserved
loop-row-preserved c =
    let inv = c.loop-row.invariant in
    let items = c.in_ok-push.ensures.items in
    let long = length-append c.loop-row.rows.items (c.new.result ∷ []) in (
      ap (λ xs. length xs) items ∙ omega (arith, inv.0, long),
      λ v. subst (λ xs. row_at (rows_of xs) v ≡ []) (sym items) (row_empty c.loop-row.rows.items c.new.result v c.new.ensures.items (inv.1 v)),
    )
