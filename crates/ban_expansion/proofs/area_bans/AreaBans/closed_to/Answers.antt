use Rattle.std.proofs.Common.{◌∙◌, ℕ, Option, Some, option_map, sym, ap, unwrap_or}
use Rattle.ban_expansion.specs.Inside.AreaBans.{IsPlainIn}
use Rattle.ban_expansion.proofs.area_bans.AreaBans.closed_to.Goals as goal

pub returns-in_ok-set-in-Some-clause-minutes : goal.returns-in_ok-set-in-Some-clause-minutes
returns-in_ok-set-in-Some-clause-minutes c =
    let network = c.args.network.now in
    let area = c.area_of-area.result in
    let plain : IsPlainIn network area c.args.a.0 = record {
      place = ap (λ (o : Option ℕ). unwrap_or o 0) c.area_of-area.ensures.value;
      rules = sym c.has_own_rules.ensures ∙ c.if-has_own_rules.false;
    } in
    let there = c.known.ensures ∙ ap (λ o. Some (option_map (λ s. s.now) o)) c.in-Some.is in
    c.in_ok-set-in-Some.ensures.minutes c.args.vehicle.now (c.in_ok-learn.ensures.each area c.in-Some.barred.now c.args.a.0 there plain)
