use Rattle.std.proofs.Common.{◌≡◌, ℕ, ap, subst}
use Rattle.ruled_states.specs.Inside.Tables.{IsStateOf, TableView}
use Rattle.ruled_states.proofs.table.Table.are_distinct.Goals as goal

pub returns : goal.returns
returns c = subst (λ infos. (v k n m : ℕ) → IsStateOf infos v k n → IsStateOf infos v k m → n ≡ m) (ap (λ (v : TableView). v.infos) c.self.view_is)
    c.self.invariant.distinct
