use Rattle.std.proofs.Common.{◌≡◌, ◌-◌, ◌*◌, ◌+◌, [], Some, not, replicate, refl, sym, ◌∙◌, ap, arith}
use Rattle.route_base.specs.Itinerary.{wait}
use Rattle.route_base.proofs.Waiting.{waits}
use Rattle.network_tables.specs.NetworkModel.{weight_at}
use Rattle.network_tables.specs.RoadSetting.{road_setting}
use Rattle.trip_explain.specs.Inside.{position_of}
use Rattle.trip_explain.specs.Reasons.{unrated, late_wait, shut_wait}
use Rattle.trip_explain.proofs.StuckSteps.{small_wait, small_weight, wait_open, wait_split, waits_to}
use Rattle.trip_explain.proofs.legs.after_wait.Goals as goal

pub returns-in_default-clause-err : goal.returns-in_default-clause-err
returns-in_default-clause-err c =
    let split = wait_split c.args.minutes 0 (omega arith) in
    record {
      made = [];
      step = wait;
      left = split.0;
      at = position_of c.args.at;
      steps = split.1;
      walk = refl;
      stuck = unrated (sym c.weight.ensures.value ∙ c.in_default.is);
    }

pub returns-in-Some-first_shut-clause-err : goal.returns-in-Some-first_shut-clause-err
returns-in-Some-first_shut-clause-err c =
    let network = c.args.network.now in
    let minute = c.in-Some-first_shut.minute in
    let shut = c.in-Some-first_shut.ensures.some in
    let split = wait_split c.args.minutes (minute - c.args.at.minute) (omega arith) in
    let rated : weight_at network c.args.at.node.0 ≡ Some c.in-Some.weight = sym c.weight.ensures.value ∙ c.in-Some.is in
    record {
      made = replicate (minute - c.args.at.minute) wait;
      step = wait;
      left = split.0;
      at = record {
        node = c.args.at.node.0;
        minute = minute;
        cost = c.args.at.cost + (minute - c.args.at.minute) * c.in-Some.weight;
      };
      steps = split.1;
      walk = waits_to (road_setting network c.args.vehicle.now) c.args.until c.args.at.node.0 c.args.at.minute minute c.args.at.cost
          c.in-Some.weight rated shut.from_on (omega (arith, shut.within))
          (λ m at under. wait_open network c.args.vehicle.now c.args.at.node.0 m (shut.before m at under));
      stuck = shut_wait c.in-Some.weight rated (omega (arith, shut.within)) (ap not shut.here);
    }

pub returns-then-within-minutes-clause-err : goal.returns-then-within-minutes-clause-err
returns-then-within-minutes-clause-err c =
    let network = c.args.network.now in
    let split = wait_split c.args.minutes (c.args.until - c.args.at.minute) (omega arith) in
    let rated : weight_at network c.args.at.node.0 ≡ Some c.in-Some.weight = sym c.weight.ensures.value ∙ c.in-Some.is in
    record {
      made = replicate (c.args.until - c.args.at.minute) wait;
      step = wait;
      left = split.0;
      at = record {
        node = c.args.at.node.0;
        minute = c.args.until;
        cost = c.args.at.cost + (c.args.until - c.args.at.minute) * c.in-Some.weight;
      };
      steps = split.1;
      walk = waits_to (road_setting network c.args.vehicle.now) c.args.until c.args.at.node.0 c.args.at.minute c.args.until c.args.at.cost
          c.in-Some.weight rated c.requires.spot.to (omega arith)
          (λ m at under. wait_open network c.args.vehicle.now c.args.at.node.0 m
          (c.first_shut.ensures.none c.in_default-first_shut.is m at (omega (arith, under))));
      stuck = late_wait c.in-Some.weight rated (omega arith);
    }

pub overflow_mul-result : goal.overflow_mul-result
overflow_mul-result c =
    let small = small_weight c.args.network.now c.args.at.node.0 c.in-Some.weight c.weight.ensures.good (sym c.weight.ensures.value ∙ c.in-Some.is) in
    let cost = small_wait c.args.minutes c.in-Some.weight small in
    omega (arith, cost, c.requires.until)

pub overflow_add-result-2 : goal.overflow_add-result-2
overflow_add-result-2 c =
    let small = small_weight c.args.network.now c.args.at.node.0 c.in-Some.weight c.weight.ensures.good (sym c.weight.ensures.value ∙ c.in-Some.is) in
    let cost = small_wait c.args.minutes c.in-Some.weight small in
    omega (arith, cost, c.requires.until, c.requires.spot.cheap, c.requires.spot.to)

pub returns-clause-ok : goal.returns-clause-ok
returns-clause-ok c =
    let rated : weight_at c.args.network.now c.args.at.node.0 ≡ Some c.in-Some.weight = sym c.weight.ensures.value ∙ c.in-Some.is in
    waits (road_setting c.args.network.now c.args.vehicle.now) c.args.until c.args.minutes c.args.at.node.0 c.args.at.minute c.args.at.cost
    c.in-Some.weight rated
    (λ m at under. wait_open c.args.network.now c.args.vehicle.now c.args.at.node.0 m
    (c.first_shut.ensures.none c.in_default-first_shut.is m at (omega (arith, under))))
    (omega (arith, c.requires.spot.to))

pub returns-clause-spot : goal.returns-clause-spot
returns-clause-spot c =
    let small = small_weight c.args.network.now c.args.at.node.0 c.in-Some.weight c.weight.ensures.good (sym c.weight.ensures.value ∙ c.in-Some.is) in
    let cost = small_wait c.args.minutes c.in-Some.weight small in
    record {
      low = c.requires.spot.low;
      high = c.requires.spot.high;
      from = omega (arith, c.requires.spot.from);
      to = omega (arith, c.requires.spot.to);
      cheap = omega (arith, cost, c.requires.spot.cheap);
    }
