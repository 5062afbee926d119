-- Trips that keep a rule are the same over settings that agree.
use Rattle.std.proofs.Common.{◌≡◌, ◌⊎◌, ℕ, Option, List, [], get_or, sym, subst}
use Rattle.std.specs.Prelude.{All, reverse}
use Rattle.route_base.specs.Setting.{Setting, Road}
use Rattle.route_base.specs.Itinerary.{Position, Step, Walks}
use Rattle.route_base.specs.Legs.{start_of, steps_of}
use Rattle.route_base.specs.Front.{IsNoWorse}
use Rattle.route_base.specs.declared.types.Pair.{Pair}
use Rattle.route_base.specs.declared.types.Request.{Request}
use Rattle.route_base.specs.declared.types.Route.{Route}
use Rattle.front_transport.specs.ParetoFronts.{ArrivesBefore}
use Rattle.front_transport.proofs.SameFronts.{same_front}
use Rattle.drive_breaks.specs.Rested.{AchievesRested, AreRightRested, IsRestedAchieved, IsRestedFrom}
use Rattle.drive_breaks.specs.RestedOrder.{ComesRestedBefore, IsFirstRested}
use Rattle.drive_states.specs.declared.rule.BreakRule.{BreakRule}

-- of settings with the same roads, of which one has the other's walks from a request's start
module _ (s z : Setting) (r : Request) (rule : BreakRule) (road : (a : ℕ) → s.road a ≡ z.road a)
    (walks : (steps : List Step) (p : Position) → Walks s r.until steps (start_of r) p → Walks z r.until steps (start_of r) p) where
  rested_too : (steps back : List Step) → IsRestedFrom s.road rule back steps → IsRestedFrom z.road rule back steps
  rested_too steps back rested =
      let roads : s.road ≡ z.road = λ i a. road a i in
      subst (λ (w : ℕ → Option Road). IsRestedFrom w rule back steps) roads rested

  pub achieved_too : (pair : Pair) → IsRestedAchieved s r rule pair → IsRestedAchieved z r rule pair
  achieved_too pair can = record {
    in_time = can.in_time;
    steps = can.steps;
    walk = walks can.steps _ can.walk;
    rested = rested_too can.steps [] can.rested;
  }

  pub legs_too : (routes : List Route) → All (AchievesRested s r rule) routes → All (AchievesRested z r rule) routes
  legs_too routes all k d inside = let legs = all k d inside in record {
    achieves = record {
      in_time = legs.achieves.in_time;
      no_empty_wait = legs.achieves.no_empty_wait;
      walk = walks _ _ legs.achieves.walk;
    };
    rested = rested_too (steps_of (get_or routes k d).legs) [] legs.rested;
    apart = legs.apart;
  }

  -- the first legs there, among more walks, are the first here
  pub first_too : (routes : List Route) → All (IsFirstRested z r rule) routes → All (IsFirstRested s r rule) routes
  first_too routes all k d inside steps walk rested =
      let roads : z.road ≡ s.road = λ i a. sym (road a) i in
      let legs = get_or routes k d in
      subst (λ (w : ℕ → Option Road). (steps ≡ steps_of legs.legs) ⊎ ComesRestedBefore w rule.rest (reverse (steps_of legs.legs)) (reverse steps)) roads
      (all k d inside steps (walks steps _ walk) (rested_too steps [] rested))

-- where both have the other's walks
module _ (s z : Setting) (r : Request) (rule : BreakRule) (road : (a : ℕ) → s.road a ≡ z.road a)
    (there : (steps : List Step) (p : Position) → Walks s r.until steps (start_of r) p → Walks z r.until steps (start_of r) p)
    (back : (steps : List Step) (p : Position) → Walks z r.until steps (start_of r) p → Walks s r.until steps (start_of r) p) where
  pub right_too : (routes : List Route) → AreRightRested s r rule routes → AreRightRested z r rule routes
  right_too routes right = record {
    front = same_front IsNoWorse ArrivesBefore (IsRestedAchieved s r rule) (IsRestedAchieved z r rule) (achieved_too s z r rule road there)
        (achieved_too z s r rule (λ a. sym (road a)) back) _ right.front;
    legs = legs_too s z r rule road there routes right.legs;
  }
