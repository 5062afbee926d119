use Rattle.std.proofs.Common.{ℕ, Bool, List, refl, sym, ◌∙◌, ap, subst, arith}
use Rattle.std.specs.Prelude.{IsSome}
use Rattle.std.specs.Option.{option_map}
use Rattle.route_base.specs.Net.{shut_by, setting_of, shut_runs_at}
use Rattle.route_base.specs.Runs.{any_has}
use Rattle.route_base.specs.declared.types.Park.{Park}
use Rattle.route_base.specs.declared.types.Run.{Run}
use Rattle.cost_functions.specs.Pieces.{value_at}
use Rattle.propagation.specs.Inside.EntrySets.{AreEntries}
use Rattle.propagation.specs.Inside.Offers.{IsWaited}
use Rattle.propagation.proofs.EntryLists.{set_read}
use Rattle.propagation.proofs.Waited.{open_only, open_every, waited_is}
use Rattle.state_dominance.specs.Inside.Product.{code}
use Rattle.ruled_states.specs.Inside.Codes.{base}
use Rattle.ruled_search.specs.Inside.Tasks.{task_of}
use Rattle.ruled_search.proofs.Closing.{weight_by_code, shut_by_code}
use Rattle.ruled_search.proofs.Moving.{wait_fits}
use Rattle.ruled_search.proofs.offers.waited.Goals as goal

pub shut_runs-shut-requires : goal.shut_runs-shut-requires
shut_runs-shut-requires g c = subst IsSome (sym (ap (option_map (λ (park : Park). park.weight)) c.requires.park)) refl

pub ready_set-requires-clause-own : goal.ready_set-requires-clause-own
ready_set-requires-clause-own g c = sym (c.shut_runs-shut.ensures.value ∙ ap (shut_by c.args.task.net.now) c.requires.park)

pub wait_with_spare-requires-clause-fit : goal.wait_with_spare-requires-clause-fit
wait_with_spare-requires-clause-fit g c t x early there =
    let net = c.args.task.net.now in
    let until = c.args.task.request.until in
    let set = c.index-2.result.now.set in
    let entries = subst (λ (w : List Run). AreEntries w until 1 set) c.shut_runs-shut.ensures.value
    (set_read c.shut_runs-shut.result.now until 1 c.ready_set.new.sets c.args.park.shut c.in_ok-place.place c.index.result.now c.index-2.result.now
    c.in_ok-place.ensures.set c.index.ensures c.index-2.ensures) in
    let from = there.reached x refl in
    let shut = shut_by_code g.R.Ruler.ruling c.args.task c.args.node.0 c.args.state c.requires.node in
    let small = wait_fits (task_of _ g.R.Ruler.ruling c.args.task) c.requires.asked.fit (code base c.args.node.0 c.args.state) c.args.park.weight
    from.0 from.1 t
    (weight_by_code g.R.Ruler.ruling c.args.task c.args.node.0 c.args.state c.requires.node
    ∙ ap (option_map (λ (park : Park). park.weight)) c.requires.park)
    (λ u after before. ap (λ (w : ℕ → Bool). w u) shut
    ∙ open_only (shut_runs_at net c.args.node.0) until set entries u (from.3 u after (omega (arith, before, from.2))))
    (c.requires.reached from.0 from.1 from.4) from.2 (omega (arith, early, c.requires.last)) in
    omega (arith, small, from.5)

pub returns-clause-waited : goal.returns-clause-waited
returns-clause-waited g c =
    let set = c.index-2.result.now.set in
    let shut = shut_runs_at c.args.task.net.now c.args.node.0 in
    let until = c.args.task.request.until in
    let entries : AreEntries shut until 1 set = subst (λ (w : List Run). AreEntries w until 1 set) c.shut_runs-shut.ensures.value
    (set_read c.shut_runs-shut.result.now until 1 c.ready_set.new.sets c.args.park.shut c.in_ok-place.place c.index.result.now c.index-2.result.now
    c.in_ok-place.ensures.set c.index.ensures c.index-2.ensures) in
    subst (λ (w : ℕ → Bool). IsWaited (value_at c.args.costs.now) (value_at c.in_ok-with_waits.with_waits) w c.args.park.weight c.args.last)
    (sym (shut_by_code g.R.Ruler.ruling c.args.task c.args.node.0 c.args.state c.requires.node))
    (waited_is (value_at c.args.costs.now) (value_at c.in_ok-with_waits.with_waits) (any_has set) ((setting_of c.args.task.net.now).wait_shut c.args.node.0)
    c.args.park.weight c.args.last (open_only shut until set entries)
    (λ u early free. open_every shut until set entries u (omega (arith, early, c.requires.last)) free)
    c.in_ok-with_waits.ensures.values c.in_ok-with_waits.ensures.ended)
