-- The ways that are made, and those that aren't.
use Rattle.std.proofs.Common.{◌≡◌, ℕ, ◌*◌, ◌/◌, ◌%◌, ◌≤◌, ◌<◌, Option, Some, None, refl, sym, ◌∙◌, ap, subst, arith}
use Rattle.std.specs.Prelude.{slice_get}
use Rattle.std.specs.Option.{option_map}
use Rattle.std.proofs.lemmas.Option.{same_Some}
use Rattle.node_arcs.specs.Stars.{EndsAt, node_at}
use Rattle.node_arcs.specs.declared.links.End.TheVariants.{Tail}
use Rattle.route_base.proofs.Numbered.{number_within}
use Rattle.route_base.specs.Net.{Net, IsGoodArc, IsGoodNet, at_number, park_at, road_of, setting_of}
use Rattle.route_base.specs.Setting.{Road}
use Rattle.route_base.specs.declared.limits.TheConstants.{HIGHEST_COST}
use Rattle.route_base.specs.declared.types.ArcId.{ArcId}
use Rattle.route_base.specs.declared.types.Bound.{Bound}
use Rattle.route_base.specs.declared.types.NodeId.{NodeId}
use Rattle.route_base.specs.declared.types.Park.{Park}
use Rattle.route_base.specs.declared.types.TimedArc.{TimedArc}
use Rattle.state_dominance.specs.Inside.Product.{Ruler, Service, code, road_code}
use Rattle.state_dominance.proofs.Roads.{shut_is}
use Rattle.ruled_states.specs.Inside.Codes.{base}
use Rattle.ruled_search.specs.Inside.Tasks.{task_of, state_bound, IsBarred, IsGoodTask}
use Rattle.ruled_search.specs.Inside.Ways.{IsWay}
use Rattle.ruled_search.specs.declared.task.Task.{Task as TaskHeld}
use Rattle.ruled_search.specs.declared.ways.Kind.{Kind}
use Rattle.ruled_search.specs.declared.ways.Kind.TheVariants.{Drive, Rest, Serve}
use Rattle.ruled_search.specs.declared.ways.Way.{Way}
use Rattle.ruled_search.proofs.Made.{made_road, drive_road, no_drive, rest_road, service_road, no_service, not_served, served_tail, node_of, state_of}
use Rattle.ruled_search.proofs.Made.{bar_none, bar_elsewhere, bar_unbound, bar_long, bar_dear}

-- an arc that leaves the node is there, and the numbers of both are small
pub no_arc_leaves : (net : Net) (v a : ℕ) → EndsAt net Tail v a → at_number net.arcs a ≡ None → ⊥
no_arc_leaves net v a begins none = let bad : None ≡ Some v = sym (ap (option_map (node_at Tail)) none) ∙ begins in cc

pub small_arc : (net : Net) (a : ℕ) (arc : TimedArc) → IsGoodNet net → at_number net.arcs a ≡ Some arc → a < base
small_arc net a arc good is = let n = number_within net.arcs a arc is in omega (arith, n.1, good.arcs)

pub small_tail : (net : Net) (v a : ℕ) (arc : TimedArc) → IsGoodNet net → at_number net.arcs a ≡ Some arc → IsGoodArc net arc → EndsAt net Tail v a → v < base
small_tail net v a arc good is fine begins =
    let same : arc.tail.0 ≡ v = same_Some arc.tail.0 v (sym (ap (option_map (node_at Tail)) is) ∙ begins) in
    omega (arith, fine.tail.1, good.nodes, same)

abbrev pub made_way : Kind → NodeId → ℕ → NodeId → ℕ → ℕ → ℕ → Bound → ℕ → Way
made_way kind tail before head after minutes cost bound list = record {
  kind = kind;
  tail = tail;
  before = before;
  head = head;
  after = after;
  minutes = minutes;
  cost = cost;
  bound = bound;
  list = list;
}

abbrev pub rested_road : Ruler → ℕ → ℕ → ℕ → ℕ → Road
rested_road r v k rest weight = made_road (code base v k) (code base v (r.rest k rest)) rest (rest * weight)

module _ {R : Type 0} (ruling : R → Ruler) (task : TaskHeld R) (node : NodeId) (state : ℕ) (here : node.0 < base) where
  -- a state without a bound has none by its code
  unbound : (v k : ℕ) → v < base → state_bound (ruling task.ruler.now) task.bounds.now v k ≡ None
      → (task_of R ruling task).bounds (code base v k) ≡ None
  unbound v k small none = ap (λ n. state_bound (ruling task.ruler.now) task.bounds.now n (code base v k / base)) (node_of base v k small)
      ∙ ap (state_bound (ruling task.ruler.now) task.bounds.now v) (state_of base v k small) ∙ none

  module _ (a : ArcId) (small : a.0 < base) where
    module _ (arc : TimedArc) (is : at_number task.net.now.arcs a.0 ≡ Some arc) where
      road : (setting_of task.net.now).road a.0 ≡ Some (road_of arc)
      road = ap (option_map road_of) is

      pub barred_drive : (ruling task.ruler.now).drive state arc.minutes ≡ None
          → IsBarred (task_of R ruling task) (code base node.0 state) (road_code base 0 a.0 node.0 state)
      barred_drive none = bar_none (task_of R ruling task) (code base node.0 state) (road_code base 0 a.0 node.0 state)
          (no_drive (setting_of task.net.now) (ruling task.ruler.now) base node.0 state here a.0 small (road_of arc) road none)

      module _ (begins : EndsAt task.net.now Tail node.0 a.0) (after : ℕ) (allowed : (ruling task.ruler.now).drive state arc.minutes ≡ Some after) where
        tail_is : arc.tail.0 ≡ node.0
        tail_is = same_Some arc.tail.0 node.0 (sym (ap (option_map (node_at Tail)) is) ∙ begins)

        made : (task_of R ruling task).setting.road (road_code base 0 a.0 node.0 state)
            ≡ Some (made_road (code base node.0 state) (code base arc.head.0 after) arc.minutes arc.cost)
        made = drive_road (setting_of task.net.now) (ruling task.ruler.now) base node.0 state here a.0 small (road_of arc) after road tail_is allowed

        pub barred_end : arc.head.0 < base → state_bound (ruling task.ruler.now) task.bounds.now arc.head.0 after ≡ None
            → IsBarred (task_of R ruling task) (code base node.0 state) (road_code base 0 a.0 node.0 state)
        barred_end far none = bar_unbound (task_of R ruling task) (code base node.0 state) (road_code base 0 a.0 node.0 state)
            (made_road (code base node.0 state) (code base arc.head.0 after) arc.minutes arc.cost) made
            (unbound arc.head.0 after far none)

        pub drive_made : IsGoodArc task.net.now arc → (bound : Bound) → state_bound (ruling task.ruler.now) task.bounds.now arc.head.0 after ≡ Some bound
            → IsWay R ruling task (made_way (Drive a) node state arc.head after arc.minutes arc.cost bound arc.closed)
        drive_made good bound is_bound = record {
          is = made;
          head = good.head;
          tail = subst (λ n. (1 ≤ n) × (n ≤ task.net.now.nodes)) tail_is good.tail;
          bound = is_bound;
          some = good.minutes.0;
          short = omega (arith, good.minutes.1);
          cheap = good.cost;
          list = (arc, is, refl);
          shut = shut_is (setting_of task.net.now) (ruling task.ruler.now) base 0 a.0 node.0 state (omega arith) small here;
        }

  module _ (place : ℕ) (small : place < base) where
    module _ (rest : ℕ) (is : slice_get (ruling task.ruler.now).rests place ≡ Some rest) (park : Park) (rated : park_at task.net.now node.0 ≡ Some park) where
      rest_made : (task_of R ruling task).setting.road (road_code base 1 place node.0 state)
          ≡ Some (rested_road (ruling task.ruler.now) node.0 state rest park.weight)
      rest_made = rest_road (setting_of task.net.now) (ruling task.ruler.now) base node.0 state here place small rest park.weight is
          (ap (option_map (λ (w : Park). w.weight)) rated)

      pub barred_long_rest : task.request.until < rest
          → IsBarred (task_of R ruling task) (code base node.0 state) (road_code base 1 place node.0 state)
      barred_long_rest long = bar_long (task_of R ruling task) (code base node.0 state) (road_code base 1 place node.0 state)
          (rested_road (ruling task.ruler.now) node.0 state rest park.weight) rest_made long

      pub barred_dear_rest : IsGoodTask R ruling task → HIGHEST_COST < rest * park.weight
          → IsBarred (task_of R ruling task) (code base node.0 state) (road_code base 1 place node.0 state)
      barred_dear_rest asked dear = bar_dear (task_of R ruling task) (code base node.0 state) (road_code base 1 place node.0 state)
          (rested_road (ruling task.ruler.now) node.0 state rest park.weight) rest_made asked.fit dear

      pub barred_rest_end : state_bound (ruling task.ruler.now) task.bounds.now node.0 ((ruling task.ruler.now).rest state rest) ≡ None
          → IsBarred (task_of R ruling task) (code base node.0 state) (road_code base 1 place node.0 state)
      barred_rest_end none = bar_unbound (task_of R ruling task) (code base node.0 state) (road_code base 1 place node.0 state)
          (rested_road (ruling task.ruler.now) node.0 state rest park.weight) rest_made
          (unbound node.0 ((ruling task.ruler.now).rest state rest) here none)

      pub rest_way_made : IsGoodTask R ruling task → 1 ≤ node.0 → node.0 ≤ task.net.now.nodes → rest ≤ task.request.until → rest * park.weight ≤ HIGHEST_COST
          → (after : ℕ) → after ≡ (ruling task.ruler.now).rest state rest → (bound : Bound)
          → state_bound (ruling task.ruler.now) task.bounds.now node.0 after ≡ Some bound
          → IsWay R ruling task (made_way (Rest place) node state node after rest (rest * park.weight) bound park.shut)
      rest_way_made asked low high short cheap after leads bound is_bound = record {
        is = rest_made ∙ ap (λ n. Some (made_road (code base node.0 state) (code base node.0 n) rest (rest * park.weight))) (sym leads);
        head = (low, high);
        tail = (low, high);
        bound = is_bound;
        some = asked.numbers.rest_times place rest is;
        short = omega (arith, short, asked.ends.until);
        cheap = cheap;
        list = (park, rated, refl);
        shut = shut_is (setting_of task.net.now) (ruling task.ruler.now) base 1 place node.0 state (omega arith) small here;
      }

    pub barred_no_service : slice_get (ruling task.ruler.now).services place ≡ None
        → IsBarred (task_of R ruling task) (code base node.0 state) (road_code base 2 place node.0 state)
    barred_no_service none = bar_none (task_of R ruling task) (code base node.0 state) (road_code base 2 place node.0 state)
        (no_service (setting_of task.net.now) (ruling task.ruler.now) base node.0 state here place small none)

    module _ (service : Service) (is : slice_get (ruling task.ruler.now).services place ≡ Some service) where
      pub barred_elsewhere : service.node < base → (service.node ≡ node.0 → ⊥)
          → IsBarred (task_of R ruling task) (code base node.0 state) (road_code base 2 place node.0 state)
      barred_elsewhere there other = bar_elsewhere (task_of R ruling task) (code base node.0 state) (road_code base 2 place node.0 state)
          (λ over at begins. other (sym (node_of base service.node state there)
          ∙ ap (λ c. c % base)
          (sym (served_tail (setting_of task.net.now) (ruling task.ruler.now) base node.0 state here place small service is over at) ∙ begins)
          ∙ node_of base node.0 state here))

      pub barred_service : (ruling task.ruler.now).serve state place ≡ None
          → IsBarred (task_of R ruling task) (code base node.0 state) (road_code base 2 place node.0 state)
      barred_service none = bar_none (task_of R ruling task) (code base node.0 state) (road_code base 2 place node.0 state)
          (not_served (setting_of task.net.now) (ruling task.ruler.now) base node.0 state here place small service is none)

      -- too long a service, whether or not it is allowed
      pub barred_long_service : service.node ≡ node.0 → task.request.until < service.minutes
          → IsBarred (task_of R ruling task) (code base node.0 state) (road_code base 2 place node.0 state)
      barred_long_service at long = by ((ruling task.ruler.now).serve state place) refl
        where
          by : (o : Option ℕ) → (ruling task.ruler.now).serve state place ≡ o
              → IsBarred (task_of R ruling task) (code base node.0 state) (road_code base 2 place node.0 state)
          by None none = bar_none (task_of R ruling task) (code base node.0 state) (road_code base 2 place node.0 state)
              (not_served (setting_of task.net.now) (ruling task.ruler.now) base node.0 state here place small service is none)
          by (Some next) allowed = bar_long (task_of R ruling task) (code base node.0 state) (road_code base 2 place node.0 state)
              (made_road (code base node.0 state) (code base node.0 next) service.minutes 0)
              (service_road (setting_of task.net.now) (ruling task.ruler.now) base node.0 state here place small service next is at allowed) long

      module _ (at : service.node ≡ node.0) (after : ℕ) (allowed : (ruling task.ruler.now).serve state place ≡ Some after) where
        pub barred_service_end : state_bound (ruling task.ruler.now) task.bounds.now node.0 after ≡ None
            → IsBarred (task_of R ruling task) (code base node.0 state) (road_code base 2 place node.0 state)
        barred_service_end none = bar_unbound (task_of R ruling task) (code base node.0 state) (road_code base 2 place node.0 state)
            (made_road (code base node.0 state) (code base node.0 after) service.minutes 0)
            (service_road (setting_of task.net.now) (ruling task.ruler.now) base node.0 state here place small service after is at allowed)
            (unbound node.0 after here none)

        pub service_made : IsGoodTask R ruling task → 1 ≤ node.0 → node.0 ≤ task.net.now.nodes → service.minutes ≤ task.request.until → (bound : Bound)
            → state_bound (ruling task.ruler.now) task.bounds.now node.0 after ≡ Some bound
            → IsWay R ruling task (made_way (Serve place) node state node after service.minutes 0 bound 0)
        service_made asked low high short bound is_bound = record {
          is = service_road (setting_of task.net.now) (ruling task.ruler.now) base node.0 state here place small service after is at allowed;
          head = (low, high);
          tail = (low, high);
          bound = is_bound;
          some = asked.numbers.service_times place service is;
          short = omega (arith, short, asked.ends.until);
          cheap = omega arith;
          list = tt;
          shut = shut_is (setting_of task.net.now) (ruling task.ruler.now) base 2 place node.0 state (omega arith) small here;
        }
