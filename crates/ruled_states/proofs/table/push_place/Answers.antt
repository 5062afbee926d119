use Rattle.std.proofs.Common.{◌≡◌, ◌++◌, ◌∷◌, [], ℕ, ⊎_elim, set, sym, ◌∙◌, ap}
use Rattle.std.proofs.lemmas.Bool.{cases_eq}
use Rattle.ruled_states.specs.Inside.Tables.{row_at, rows_of}
use Rattle.ruled_states.proofs.Rows.{row_here, row_other, row_is, on_err}
use Rattle.ruled_states.proofs.table.push_place.Goals as goal

pub returns-in_err-push-clause-kept : goal.returns-in_err-push-clause-kept
returns-in_err-push-clause-kept c = on_err c.from_residual.result
    ((v : ℕ) → row_at (rows_of (set c.args.rows.now.items c.args.node.0 c.push.new.self)) v ≡ row_at (rows_of c.args.rows.now.items) v)
    (λ v. ⊎_elim
    (λ (same : v ≡ c.args.node.0). ap (λ n. row_at (rows_of (set c.args.rows.now.items c.args.node.0 c.push.new.self)) n) same
    ∙ row_here c.args.rows.now.items c.args.node.0 c.push.new.self c.requires ∙ c.in_err-push.ensures.items
    ∙ sym (row_is c.args.rows.now.items c.args.node.0 c.index_mut.result.now c.requires c.index_mut.ensures.value)
    ∙ ap (λ n. row_at (rows_of c.args.rows.now.items) n) (sym same))
    (λ (other : v ≡ c.args.node.0 → ⊥). row_other c.args.rows.now.items c.args.node.0 v c.push.new.self other)
    (cases_eq v c.args.node.0))

pub returns-clause-here : goal.returns-clause-here
returns-clause-here c =
    row_here c.args.rows.now.items c.args.node.0 c.push.new.self c.requires ∙ c.in_ok-push.ensures.items
    ∙ ap (λ xs. xs ++ c.args.place ∷ []) (sym (row_is c.args.rows.now.items c.args.node.0 c.index_mut.result.now c.requires c.index_mut.ensures.value))

pub returns-clause-others : goal.returns-clause-others
returns-clause-others c = λ v other. row_other c.args.rows.now.items c.args.node.0 v c.push.new.self other
