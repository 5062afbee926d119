use Rattle.std.proofs.Common.{◌≡◌, ◌≤◌, ◌<◌, List, length, get_or, sym, ◌∙◌, ap, subst, arith, rules}
use Rattle.std.specs.Prelude.{All}
use Rattle.std.proofs.lemmas.List.Edits.{length-insert, get_or-insert_at}
use Rattle.propagation.specs.Inside.EntrySets.{IsEntrySet}
use Rattle.propagation.specs.declared.entry_sets.EntrySet.{EntrySet}
use Rattle.propagation.proofs.EntryLists.{all_inserted}
use Rattle.propagation.proofs.entry_sets.place_of.Goals as goal

pub returns-then-is_for-clause-minutes : goal.returns-then-is_for-clause-minutes
returns-then-is_for-clause-minutes c d =
    let place = c.partition_point-place.result in
    subst (λ (w : List EntrySet). (get_or w place d).minutes ≡ c.args.minutes) c.deref-2.ensures.value (c.if-is_for.ensures.minutes (search rules) d)

pub insert-requires : goal.insert-requires
insert-requires c =
    let place = c.partition_point-place.result in
    let below : place ≤ length c.room_for_first.new.list.items =
    subst (λ (w : List EntrySet). place ≤ length w) (c.deref.ensures.value ∙ sym c.in_ok-room_for_first.ensures) c.partition_point-place.ensures.bound in
    omega (arith, below, c.room_for_first.new.list.ok.0)

pub returns-clause-made : goal.returns-clause-made
returns-clause-made c =
    let own = IsEntrySet c.args.closed.now c.args.until in
    subst (All own) (sym c.in_ok-insert.ensures.items)
    (all_inserted own c.room_for_first.new.list.items c.partition_point-place.result (record { minutes = c.args.minutes; set = c.in_ok-set.set })
    (subst (All own) (sym c.in_ok-room_for_first.ensures) c.requires.made) c.in_ok-set.ensures)

pub returns-clause-within : goal.returns-clause-within
returns-clause-within c =
    let place = c.partition_point-place.result in
    let sets = c.room_for_first.new.list.items in
    let below : place ≤ length sets =
    subst (λ (w : List EntrySet). place ≤ length w) (c.deref.ensures.value ∙ sym c.in_ok-room_for_first.ensures) c.partition_point-place.ensures.bound in
    subst (λ (w : List EntrySet). place < length w) (sym c.in_ok-insert.ensures.items)
    (omega (arith, below, length-insert sets place (record { minutes = c.args.minutes; set = c.in_ok-set.set }) below))

pub returns-clause-minutes : goal.returns-clause-minutes
returns-clause-minutes c d =
    let place = c.partition_point-place.result in
    let sets = c.room_for_first.new.list.items in
    let below : place ≤ length sets =
    subst (λ (w : List EntrySet). place ≤ length w) (c.deref.ensures.value ∙ sym c.in_ok-room_for_first.ensures) c.partition_point-place.ensures.bound in
    ap (λ (e : EntrySet). e.minutes) (ap (λ (w : List EntrySet). get_or w place d) c.in_ok-insert.ensures.items
    ∙ get_or-insert_at sets place (record { minutes = c.args.minutes; set = c.in_ok-set.set }) d below)
