use Rattle.std.proofs.Common.{◌≡◌, ◌-◌, ℕ, Option, Some, None, ◌∙◌, ap, subst, arith}
use Rattle.std.specs.Option.{option_map}
use Rattle.std.specs.Prelude.{IfSome}
use Rattle.route_base.specs.Net.{IsGoodPark, setting_of}
use Rattle.route_base.specs.declared.types.Park.{Park}
use Rattle.cost_functions.specs.Pieces.{value_at}
use Rattle.propagation.specs.Inside.Offers.{IsWaited}
use Rattle.propagation.specs.Inside.States.{progress_of, task_of}
use Rattle.propagation.proofs.Offering.{offer_unrated, covers_unrated, offer_waited, covers_waited}
use Rattle.propagation.proofs.drives.with_waits.Goals as goal

pub returns-in_default-clause-offer : goal.returns-in_default-clause-offer
returns-in_default-clause-offer c =
    let unrated : ◌≡◌ {A = Option ℕ} ((setting_of c.args.task.net.now).weight c.args.h.0) None =
    ap (option_map (λ (park : Park). park.weight)) (c.requires.park ∙ c.in_default.is) in
    let first = c.requires.clear.cleared in
    offer_unrated (task_of c.args.task) (progress_of c.args.progress.now) c.args.h.0 c.requires.clear.costs
    (value_at c.args.clear) unrated c.requires.clear.source first

pub returns-in_default-clause-covers : goal.returns-in_default-clause-covers
returns-in_default-clause-covers c = λ costs cleared.
    covers_unrated (task_of c.args.task) (progress_of c.args.progress.now) c.args.h.0 costs (value_at c.args.clear) cleared

pub waited-requires-clause-is : goal.waited-requires-clause-is
waited-requires-clause-is c = c.requires.park ∙ c.in-Some.is

pub waited-requires-clause-good : goal.waited-requires-clause-good
waited-requires-clause-good c = subst (λ o. IfSome o (IsGoodPark c.args.task.net.now)) c.in-Some.is c.requires.good

pub waited-requires-clause-last : goal.waited-requires-clause-last
waited-requires-clause-last c = omega (arith, c.saturating_sub-last.ensures)

pub cleared-offer-requires-clause-small : goal.cleared-offer-requires-clause-small
cleared-offer-requires-clause-small c = c.in_ok-with_waits.ensures.built.small

pub waited-requires-clause-reached : goal.waited-requires-clause-reached
waited-requires-clause-reached c t x there =
    let first = c.requires.clear.cleared in
    c.requires.clear.source.reached t x (first.kept t x there)

pub returns-clause-offer : goal.returns-clause-offer
returns-clause-offer c =
    let rated : ◌≡◌ {A = Option ℕ} ((setting_of c.args.task.net.now).weight c.args.h.0) (Some c.in-Some.park.weight) =
    ap (option_map (λ (park : Park). park.weight)) (c.requires.park ∙ c.in-Some.is) in
    let last : c.saturating_sub-last.result ≡ c.args.task.request.until - c.args.bound.minutes = omega (arith, c.saturating_sub-last.ensures) in
    let first = c.requires.clear.cleared in
    let waited = subst (λ n. IsWaited (value_at c.args.clear) (value_at c.in_ok-with_waits.with_waits)
    ((setting_of c.args.task.net.now).wait_shut c.args.h.0) c.in-Some.park.weight n) last c.in_ok-with_waits.ensures.waited in
    let second = c.cleared-offer.ensures.cleared in
    offer_waited (task_of c.args.task) (progress_of c.args.progress.now) c.args.h.0 c.requires.clear.costs
    (value_at c.args.clear) (value_at c.in_ok-with_waits.with_waits) (value_at c.cleared-offer.result) c.in-Some.park.weight c.args.bound
    c.requires.asked.bound rated c.requires.bound c.requires.clear.source first waited second

pub returns-clause-covers : goal.returns-clause-covers
returns-clause-covers c = λ costs first.
    let last : c.saturating_sub-last.result ≡ c.args.task.request.until - c.args.bound.minutes = omega (arith, c.saturating_sub-last.ensures) in
    let waited = subst (λ n. IsWaited (value_at c.args.clear) (value_at c.in_ok-with_waits.with_waits)
    ((setting_of c.args.task.net.now).wait_shut c.args.h.0) c.in-Some.park.weight n) last c.in_ok-with_waits.ensures.waited in
    let second = c.cleared-offer.ensures.cleared in
    covers_waited (task_of c.args.task) (progress_of c.args.progress.now) c.args.h.0 costs
    (value_at c.args.clear) (value_at c.in_ok-with_waits.with_waits) (value_at c.cleared-offer.result) c.in-Some.park.weight c.args.bound
    c.requires.bound first waited second
