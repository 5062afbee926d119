-- The roads from a state are those of the three kinds, and drives over them are relaxed where those of each kind are.
use Rattle.std.proofs.Common.{◌≡◌, ◌<◌, ◌/◌, ◌%◌, ℕ, zero, suc, Option, Some, None, refl, sym, ◌∙◌, ap, subst, arith}
use Rattle.std.proofs.lemmas.Nat.{mod_below}
use Rattle.std.specs.Option.{option_map}
use Rattle.node_arcs.specs.Stars.{EndsAt, node_at}
use Rattle.node_arcs.specs.declared.links.End.TheVariants.{Tail}
use Rattle.route_base.proofs.Logic.{map_some}
use Rattle.route_base.specs.Net.{at_number, road_of, setting_of}
use Rattle.route_base.specs.Setting.{Road}
use Rattle.route_base.specs.Itinerary.{Position, Drives}
use Rattle.propagation.specs.Inside.Invariants.{Progress, point}
use Rattle.state_dominance.specs.Inside.Dominance.{DrivesRelaxed, IsRelaxedIn}
use Rattle.state_dominance.specs.Inside.Product.{Ruler, code, driven_by, driven_to, road_by, road_code}
use Rattle.state_dominance.proofs.Alike.{drives_alike, same_code}
use Rattle.state_dominance.proofs.Roads.{road_is}
use Rattle.ruled_states.specs.Inside.Codes.{base}
use Rattle.ruled_search.specs.Inside.Tasks.{task_of, IsGoodTask, IsKindRelaxed}
use Rattle.ruled_search.specs.declared.task.Task.{Task as TaskHeld}

module _ {R : Type 0} (ruling : R → Ruler) (task : TaskHeld R) (v k : ℕ) (node : v < base) where
  -- what is read as no road is none
  pub no_road_by : (kind a : ℕ) → kind < 3 → a < base → road_by (setting_of task.net.now) (ruling task.ruler.now) base kind a v k ≡ None
      → (task_of R ruling task).setting.road (road_code base kind a v k) ≡ None
  no_road_by kind a small place none =
      subst (λ o. (task_of R ruling task).setting.road (road_code base kind a v k) ≡ o) none
      (road_is (setting_of task.net.now) (ruling task.ruler.now) base kind a v k small place node)

  -- a drive over an arc in the state leaves its node
  pub drive_leaves : IsGoodTask R ruling task → (a : ℕ) (p q : Position) → a < base → p.node ≡ code base v k
      → Drives (task_of R ruling task).setting task.request.until (road_code base 0 a v k) p q → EndsAt task.net.now Tail v a
  drive_leaves asked a p q small at move = by ((setting_of task.net.now).road a) refl
      (sym (road_is (setting_of task.net.now) (ruling task.ruler.now) base 0 a v k (omega arith) small node) ∙ move.is)
    where
      by : (o : Option Road) → (setting_of task.net.now).road a ≡ o → driven_by (ruling task.ruler.now) base k o ≡ Some move.road → EndsAt task.net.now Tail v a
      by None is goes = let bad : None ≡ Some move.road = goes in cc
      by (Some over) is goes = to ((ruling task.ruler.now).drive k over.minutes) goes
        where
          to : (o : Option ℕ) → driven_to (ruling task.ruler.now) base k over o ≡ Some move.road → EndsAt task.net.now Tail v a
          to None goes = let bad : None ≡ Some move.road = goes in cc
          to (Some next) goes =
              let made : Road = record { tail = code base over.tail k; head = code base over.head next; minutes = over.minutes; cost = over.cost } in
              let same : move.road ≡ made = cc in
              let begins = same_code base over.tail k v k (asked.numbers.arcs a over is).1 node (sym (ap (λ (w : Road). w.tail) same) ∙ (move.tail ∙ at)) in
              let arc = map_some (at_number task.net.now.arcs a) road_of over is in
              ap (option_map (node_at Tail)) arc.1 ∙ ap (λ n. Some n) (ap (λ (w : Road). w.tail) arc.2 ∙ begins.0)

  module _ (asked : IsGoodTask R ruling task) (now : Progress) (part : ℕ → Option ℕ) (drives : IsKindRelaxed (task_of R ruling task) now part 0 v k)
      (rests : IsKindRelaxed (task_of R ruling task) now part 1 v k) (services : IsKindRelaxed (task_of R ruling task) now part 2 v k) where
    pub all_relaxed : (t y : ℕ) → part t ≡ Some y → DrivesRelaxed (task_of R ruling task) now (point (code base v k) t y)
    all_relaxed t y is x q move = by (x % 3) refl (mod_below x 3 (omega arith))
      where
        place : x / 3 % base < base
        place = mod_below (x / 3) base (omega (arith, node))

        alike : Drives (task_of R ruling task).setting task.request.until (road_code base (x % 3) (x / 3 % base) v k) (point (code base v k) t y) q
        alike = drives_alike (setting_of task.net.now) (ruling task.ruler.now) base task.request.until asked.numbers v k node x (point (code base v k) t y) q
            refl move

        by : (kind : ℕ) → x % 3 ≡ kind → kind < 3 → IsRelaxedIn (task_of R ruling task) now q
        by kind same small = of_kind kind small (subst (λ n. Drives (task_of R ruling task).setting task.request.until (road_code base n (x / 3 % base) v k)
            (point (code base v k) t y) q) same alike)
          where
            of_kind : (n : ℕ) → n < 3 → Drives (task_of R ruling task).setting task.request.until (road_code base n (x / 3 % base) v k)
                (point (code base v k) t y) q → IsRelaxedIn (task_of R ruling task) now q
            of_kind zero small one = drives (x / 3 % base) place t y q is one
            of_kind (suc zero) small one = rests (x / 3 % base) place t y q is one
            of_kind (suc (suc zero)) small one = services (x / 3 % base) place t y q is one
            of_kind (suc (suc (suc n))) small one = absurd (omega (arith, small))
