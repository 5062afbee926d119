use Rattle.std.proofs.Common.{ℕ, Option, unwrap_or, ap}
use Rattle.ban_expansion.specs.Inside.AreaBans.{IsPlainIn}
use Rattle.ban_expansion.proofs.AreaSets.{learned}
use Rattle.ban_expansion.proofs.area_bans.AreaBans.learn.Goals as goal

pub returns : goal.returns
returns c =
    let network = c.args.network.now in
    let area = c.area_of-area.result in
    let plain : IsPlainIn network area c.args.a.0 = record {
      place = ap (λ (o : Option ℕ). unwrap_or o 0) c.area_of-area.ensures.value;
      rules = c.requires.rules;
    } in
    learned network c.args.vehicle.now c.args.window c.args.self.now.sets.items area c.args.a.0 c.in_ok-set.set c.requires.known plain c.in_ok-set.ensures
