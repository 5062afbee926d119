use Rattle.std.proofs.Common.{◌<◌, List, length, refl, sym, ◌∙◌, ap, subst, arith}
use Rattle.std.specs.Prelude.{IsSome, Vec}
use Rattle.std.specs.declared.alloc.Global.{Global}
use Rattle.std.specs.Option.{option_map}
use Rattle.route_base.specs.Net.{shut_by, setting_of, shut_runs_at}
use Rattle.route_base.specs.Runs.{any_has}
use Rattle.route_base.specs.declared.types.Park.{Park}
use Rattle.route_base.specs.declared.types.Run.{Run}
use Rattle.cost_functions.specs.Pieces.{value_at}
use Rattle.potentials.specs.Sums.{bound_at}
use Rattle.propagation.specs.Inside.EntrySets.{AreEntries}
use Rattle.propagation.specs.declared.entry_sets.EntrySet.{EntrySet}
use Rattle.propagation.proofs.EntryLists.{set_read}
use Rattle.propagation.proofs.Shifting.{wait_fits}
use Rattle.propagation.proofs.Waited.{open_only, open_every, waited_is}
use Rattle.propagation.proofs.drives.waited.Goals as goal

pub shut_runs-shut-requires : goal.shut_runs-shut-requires
shut_runs-shut-requires c = subst IsSome (sym (ap (option_map (λ (park : Park). park.weight)) c.requires.is)) refl

pub ready_set-requires-clause-own : goal.ready_set-requires-clause-own
ready_set-requires-clause-own c = sym (c.shut_runs-shut.ensures.value ∙ ap (shut_by c.args.task.net.now) c.requires.is)

pub index-requires-2 : goal.index-requires-2
index-requires-2 c =
    let within = subst (λ (w : Vec EntrySet Global). c.in_ok-place.place < length w.items) (sym c.index.ensures)
    (c.in_ok-place.ensures.set.within c.index.result.now) in
    omega (arith, within, c.index.result.now.ok.0)

pub wait_with_spare-requires-clause-fit : goal.wait_with_spare-requires-clause-fit
wait_with_spare-requires-clause-fit c t x early there =
    let net = c.args.task.net.now in
    let until = c.args.task.request.until in
    let set = c.index-2.result.now.set in
    let entries = subst (λ (w : List Run). AreEntries w until 1 set) c.shut_runs-shut.ensures.value
    (set_read c.shut_runs-shut.result.now until 1 c.ready_set.new.sets c.args.park.shut c.in_ok-place.place c.index.result.now c.index-2.result.now
    c.in_ok-place.ensures.set c.index.ensures c.index-2.ensures) in
    let from = there.reached x refl in
    let small = wait_fits net c.args.task.request (bound_at c.args.task.bounds.now) c.requires.asked.fit c.args.h.0 c.args.park.weight
    from.0 from.1 t (ap (option_map (λ (park : Park). park.weight)) c.requires.is)
    (λ u after before. open_only (shut_runs_at net c.args.h.0) until set entries u (from.3 u after (omega (arith, before, from.2))))
    (c.requires.reached from.0 from.1 from.4) from.2 (omega (arith, early, c.requires.last)) in
    omega (arith, small, from.5)

pub returns-clause-waited : goal.returns-clause-waited
returns-clause-waited c =
    let set = c.index-2.result.now.set in
    let shut = shut_runs_at c.args.task.net.now c.args.h.0 in
    let until = c.args.task.request.until in
    let entries : AreEntries shut until 1 set = subst (λ (w : List Run). AreEntries w until 1 set) c.shut_runs-shut.ensures.value
    (set_read c.shut_runs-shut.result.now until 1 c.ready_set.new.sets c.args.park.shut c.in_ok-place.place c.index.result.now c.index-2.result.now
    c.in_ok-place.ensures.set c.index.ensures c.index-2.ensures) in
    waited_is (value_at c.args.costs.now) (value_at c.in_ok-with_waits.with_waits) (any_has set) ((setting_of c.args.task.net.now).wait_shut c.args.h.0)
    c.args.park.weight c.args.last (open_only shut until set entries)
    (λ u early free. open_every shut until set entries u (omega (arith, early, c.requires.last)) free)
    c.in_ok-with_waits.ensures.values c.in_ok-with_waits.ensures.ended
