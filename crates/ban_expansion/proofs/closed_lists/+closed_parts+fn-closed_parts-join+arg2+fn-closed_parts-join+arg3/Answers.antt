use Rattle.ban_expansion.specs.Inside.GroupedNets.{HasClosed}
use Rattle.ban_expansion.proofs.ItemLists.{zip_append}
use Rattle.ban_expansion.proofs.closed_lists.+closed_parts+fn-closed_parts-join+arg2+fn-closed_parts-join+arg3.Goals as goal

pub returns : goal.returns
returns g t c =
    let left = rw c.in_ok-lists.was at c.join-left.ensures.first in
    let right = rw c.in_ok-right.was at c.join-left.ensures.second in
    rw c.in_ok-append.ensures.items (rw c.split_at.ensures.by_index.0 (zip_append
    (HasClosed c.args.network.now c.args.vehicle.now c.args.window) (λ v. v.items) c.split_at.result.0.now c.split_at.result.1.now
    c.in_ok-lists.lists.items c.in_ok-right.field-0.items left right))
