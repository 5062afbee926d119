-- Where the cost of a spot comes from: what is read, as steps over states.
use Rattle.std.proofs.Common.{◌≡◌, ⊎_elim, ℕ, zero, suc, ◌+◌, ◌-◌, ◌*◌, ◌/◌, ◌%◌, ◌<◌, ◌≤◌, false, ◌⊎◌, inl, inr, Option, Some, List, [], ◌∷◌, length, replicate, refl, sym, ◌∙◌, ap, subst, arith, mod-lt}
use Rattle.std.specs.Prelude.{slice_get}
use Rattle.std.specs.Option.{option_map}
use Rattle.std.proofs.lemmas.Nat.{div-mul-add}
use Rattle.std.proofs.lemmas.Option.{same_Some, slice_get_within}
use Rattle.route_base.specs.Setting.{Road}
use Rattle.route_base.specs.Itinerary.{Position, Step, drive, wait, Walks}
use Rattle.route_base.specs.Net.{at_number, road_of, setting_of}
use Rattle.route_base.specs.Open.{IsOpen, IsWaitOpen}
use Rattle.route_base.specs.declared.types.ArcId.{ArcId}
use Rattle.route_base.specs.declared.types.TimedArc.{TimedArc}
use Rattle.route_base.proofs.Logic.{map_some}
use Rattle.route_base.proofs.Waiting.{same_position}
use Rattle.node_arcs.specs.Stars.{Star, EndsAt, node_at}
use Rattle.node_arcs.specs.declared.links.End.TheVariants.{Head}
use Rattle.propagation.specs.Inside.Invariants.{point}
use Rattle.state_dominance.specs.Inside.Dominance.{Task}
use Rattle.state_dominance.specs.Inside.Product.{Ruler, Service, code, road_code}
use Rattle.ruled_states.specs.Inside.Codes.{base}
use Rattle.ruled_states.specs.Inside.Tables.{code_of}
use Rattle.ruled_states.specs.declared.table.Info.{Info}
use Rattle.ruled_search.specs.Inside.Sources.{ComesFrom, ComesOver, HasNoRoad, HasNoRoadBefore, HasNoWait, HasSource, IsKnownSpot, IsLeastAt, IsLeastLeg, IsLeastOver, IsSolved, led_to, place_of}
use Rattle.ruled_search.specs.Inside.Tasks.{latest_in, progress_of, state_bound, task_of}
use Rattle.ruled_search.specs.Routes.{TellsLeg}
use Rattle.ruled_search.specs.declared.progress.Progress.{Progress as ProgressHeld}
use Rattle.ruled_search.specs.declared.routes.RuledLeg.{RuledLeg}
use Rattle.ruled_search.specs.declared.routes.RuledLeg.TheVariants.{Drive, Rest, Wait, Serve}
use Rattle.ruled_search.specs.declared.sources.Spot.{Spot}
use Rattle.ruled_search.specs.declared.task.Task.{Task as TaskHeld}
use Rattle.ruled_search.specs.declared.ways.Kind.TheVariants.{Drive as DriveKind, Rest as RestKind, Serve as ServeKind}
use Rattle.ruled_search.proofs.Arriving.{drive_comes, rest_comes, service_comes, wait_comes, drive_leads, rest_leads, service_leads, wait_leads}
use Rattle.ruled_search.proofs.Numbering.{solved_numbered}
use Rattle.ruled_search.proofs.Tried.{if_some}

pub three_kinds : (x : ℕ) → (x % 3 ≡ 0) ⊎ ((x % 3 ≡ 1) ⊎ (x % 3 ≡ 2))
three_kinds x = let below : x % 3 < 3 = mod-lt x (omega arith) in by (x % 3) below
  where
    by : (n : ℕ) → n < 3 → (n ≡ 0) ⊎ ((n ≡ 1) ⊎ (n ≡ 2))
    by zero below = inl refl
    by (suc zero) below = inr (inl refl)
    by (suc (suc zero)) below = inr (inr refl)
    by (suc (suc (suc n))) below = absurd (omega (arith, below))

-- a road over states from a known spot is a leg
leg_over : (k : Task) (infos : List Info) (cost : ℕ → ℕ → Option ℕ) (spot from : Spot) (leg : RuledLeg) (y v m x : ℕ)
    → TellsLeg base leg (drive y ∷ []) → IsKnownSpot infos cost from.number m x from → from.info.node.0 ≡ v → m < spot.minute
    → ComesOver k cost (drive y) (point (code base v from.info.state) m x) (place_of spot) → IsLeastLeg k cost spot leg from
    → ComesFrom k infos cost spot (record { leg = leg; from = from })
leg_over k infos cost spot from leg y v m x tells known node earlier comes least =
    let at : point (code base v from.info.state) m x ≡ place_of from =
    same_position _ _ (ap (λ w. code base w from.info.state) (sym node)) (sym known.at) (sym known.paid) in
    let exact : ComesOver k cost (drive y) (place_of from) (place_of spot) =
    subst (λ (p : Position). ComesOver k cost (drive y) p (place_of spot)) at comes in
    record {
      is_one = record {
        same = refl;
        at = refl;
        paid = refl;
        info = known.info;
        known = ap (λ (t : ℕ). cost (code_of from.info) t) known.at ∙ (known.known ∙ ap (λ (n : ℕ). Some n) (sym known.paid));
      };
      earlier = omega (arith, earlier, known.at);
      steps = drive y ∷ [];
      tells = tells;
      walk = (place_of spot, exact.move, refl);
      least = least;
    }

module _ {R : Type 0} {ruling : R → Ruler} {task : TaskHeld R} {incoming : Star} {progress : ProgressHeld}
    (solved : IsSolved R ruling task incoming progress) (spot : Spot) (there : at_number progress.table.infos spot.number ≡ Some spot.info)
    (upto : spot.minute ≤ task.request.until) where
  spot_node : spot.info.node.0 < base
  spot_node = (solved_numbered solved).small spot.number spot.info there

  -- a source over a road of this kind is a drive over the arc, as it is read
  drive_from : (a y : ℕ) (source : Position) → y % 3 ≡ 0 → y / 3 % base ≡ a
      → ComesOver (task_of R ruling task) (progress_of progress).cost (drive y) source (place_of spot)
      → (arc : TimedArc) × (at_number task.net.now.arcs a ≡ Some arc) × (arc.minutes ≤ spot.minute) × (arc.cost ≤ spot.cost)
      × IsOpen (setting_of task.net.now) a (spot.minute - arc.minutes) arc.minutes
      × (k : ℕ) × ((ruling task.ruler.now).drive k arc.minutes ≡ Some spot.info.state)
      × ((progress_of progress).cost (code base arc.tail.0 k) (spot.minute - arc.minutes) ≡ Some (spot.cost - arc.cost)) × (source.node / base ≡ k)
  drive_from a y source kind number comes =
      let d = drive_comes (setting_of task.net.now) (ruling task.ruler.now) solved.asked.numbers task.request.origin.0 task.request.goal.0
      task.request.depart task.request.until (state_bound (ruling task.ruler.now) task.bounds.now) (latest_in R ruling task)
      (progress_of progress).cost spot.info.node.0 spot.info.state spot.minute spot.cost spot_node y a source
      number comes kind in
      let arc = map_some (at_number task.net.now.arcs a) road_of d.0 d.1 in
      let minutes : arc.0.minutes ≡ d.0.minutes = ap (λ (w : Road). w.minutes) arc.2 in
      let paid : arc.0.cost ≡ d.0.cost = ap (λ (w : Road). w.cost) arc.2 in
      let begun : source.minute ≡ spot.minute - arc.0.minutes = omega (arith, d.2.minute, minutes) in
      let before : source.cost ≡ spot.cost - arc.0.cost = omega (arith, d.2.paid, paid) in (
        arc.0,
        arc.1,
        omega (arith, d.2.minute, minutes),
        omega (arith, d.2.paid, paid),
        λ u early late. d.2.is_open u (omega (arith, early, begun)) (omega (arith, late, begun, minutes)),
        d.2.state,
        ap ((ruling task.ruler.now).drive d.2.state) minutes ∙ d.2.allowed,
        ap (λ w. (progress_of progress).cost (code base w d.2.state) (spot.minute - arc.0.minutes)) (ap (λ (w : Road). w.tail) arc.2)
            ∙ (ap (λ c. (progress_of progress).cost c (spot.minute - arc.0.minutes)) (sym d.2.at)
            ∙ (ap (λ (n : ℕ). (progress_of progress).cost source.node n) (sym begun) ∙ (comes.known ∙ ap (λ (n : ℕ). Some n) before))),
        ap (λ n. n / base) d.2.at ∙ div-mul-add d.2.state base d.0.tail (solved.asked.numbers.arcs a d.0 d.1).1,
      )

  drive_least : (a : ℕ) (arc : TimedArc) → at_number task.net.now.arcs a ≡ Some arc → (from : Spot)
      → ((k : ℕ) → (ruling task.ruler.now).drive k arc.minutes ≡ Some spot.info.state
      → (progress_of progress).cost (code base arc.tail.0 k) (spot.minute - arc.minutes) ≡ Some (spot.cost - arc.cost) → from.info.state ≤ k)
      → IsLeastOver (task_of R ruling task) (progress_of progress).cost spot 0 a from
  drive_least a arc is from least y source kind number comes =
      let d = drive_from a y source kind number comes in
      let same : d.0 ≡ arc = same_Some d.0 arc (sym d.1 ∙ is) in
      let le = least d.5 (subst (λ (w : TimedArc). (ruling task.ruler.now).drive d.5 w.minutes ≡ Some spot.info.state) same d.6)
      (subst (λ (w : TimedArc). (progress_of progress).cost (code base w.tail.0 d.5) (spot.minute - w.minutes) ≡ Some (spot.cost - w.cost)) same d.7) in
      omega (arith, le, d.8)

  pub drive_found : (a : ArcId) (arc : TimedArc) → at_number task.net.now.arcs a.0 ≡ Some arc → EndsAt task.net.now Head spot.info.node.0 a.0
      → arc.minutes ≤ spot.minute → arc.cost ≤ spot.cost → IsOpen (setting_of task.net.now) a.0 (spot.minute - arc.minutes) arc.minutes
      → (found : Option Spot) (from : Spot) → found ≡ Some from
      → IsLeastAt progress.table.infos (progress_of progress).cost arc.tail.0 (spot.minute - arc.minutes) (spot.cost - arc.cost)
      (λ k. led_to (ruling task.ruler.now) (DriveKind a) arc.minutes k ≡ Some spot.info.state) found
      → ComesFrom (task_of R ruling task) progress.table.infos (progress_of progress).cost spot (record { leg = Drive a; from = from })
  drive_found a arc is ends early cheap opens found from some least =
      let right = if_some (λ (w : Spot). IsKnownSpot progress.table.infos (progress_of progress).cost w.number (spot.minute - arc.minutes)
      (spot.cost - arc.cost) w × (w.info.node.0 ≡ arc.tail.0)
      × (led_to (ruling task.ruler.now) (DriveKind a) arc.minutes w.info.state ≡ Some spot.info.state)) found from some least.some in
      let road : (setting_of task.net.now).road a.0 ≡ Some (road_of arc) = ap (option_map road_of) is in
      let head : arc.head.0 ≡ spot.info.node.0 = same_Some arc.head.0 spot.info.node.0 (sym (ap (option_map (node_at Head)) is) ∙ ends) in
      let long = solved.asked.numbers.arc_times a.0 (road_of arc) road in
      let known : (progress_of progress).cost (code base arc.tail.0 from.info.state) (spot.minute - arc.minutes) ≡ Some (spot.cost - arc.cost) =
      ap (λ v. (progress_of progress).cost (code base v from.info.state) (spot.minute - arc.minutes)) (sym right.1) ∙ right.0.known in
      leg_over (task_of R ruling task) progress.table.infos (progress_of progress).cost spot from (Drive a)
      (road_code base 0 a.0 arc.tail.0 from.info.state) arc.tail.0 (spot.minute - arc.minutes) (spot.cost - arc.cost)
      (record { node = arc.tail.0; state = from.info.state; is = refl }) right.0 right.1 (omega (arith, long, early))
      (drive_leads (setting_of task.net.now) (ruling task.ruler.now) solved.asked.numbers task.request.origin.0 task.request.goal.0 task.request.depart
      task.request.until (state_bound (ruling task.ruler.now) task.bounds.now) (latest_in R ruling task)
      (progress_of progress).cost spot.info.node.0 spot.info.state spot.minute spot.cost spot_node from.info.state
      (spot.minute - arc.minutes) (spot.cost - arc.cost) upto a.0 (road_of arc) road head right.2 opens (omega (arith, early)) (omega (arith, cheap)) known) (
        (solved.asked.numbers.arcs a.0 (road_of arc) road).0,
        drive_least a.0 arc is from
            (if_some (λ (w : Spot). (k : ℕ) → (ruling task.ruler.now).drive k arc.minutes ≡ Some spot.info.state
            → (progress_of progress).cost (code base arc.tail.0 k) (spot.minute - arc.minutes) ≡ Some (spot.cost - arc.cost) → w.info.state ≤ k)
            found from some least.least),
      )

  pub drive_missed : (a : ℕ) → ((arc : TimedArc) → at_number task.net.now.arcs a ≡ Some arc → arc.minutes ≤ spot.minute → arc.cost ≤ spot.cost
      → IsOpen (setting_of task.net.now) a (spot.minute - arc.minutes) arc.minutes → (k : ℕ)
      → (ruling task.ruler.now).drive k arc.minutes ≡ Some spot.info.state
      → (progress_of progress).cost (code base arc.tail.0 k) (spot.minute - arc.minutes) ≡ Some (spot.cost - arc.cost) → ⊥)
      → HasNoRoad (task_of R ruling task) (progress_of progress).cost spot 0 a
  drive_missed a out y source kind number comes =
      let d = drive_from a y source kind number comes in
      out d.0 d.1 d.2 d.3 d.4 d.5 d.6 d.7

  rest_from : (place y : ℕ) (source : Position) → y % 3 ≡ 1 → y / 3 % base ≡ place
      → ComesOver (task_of R ruling task) (progress_of progress).cost (drive y) source (place_of spot)
      → (rest : ℕ) × (weight : ℕ) × (slice_get (ruling task.ruler.now).rests place ≡ Some rest)
      × ((setting_of task.net.now).weight spot.info.node.0 ≡ Some weight) × (rest ≤ spot.minute) × (rest * weight ≤ spot.cost)
      × IsWaitOpen (setting_of task.net.now) spot.info.node.0 (spot.minute - rest) rest
      × (k : ℕ) × ((ruling task.ruler.now).rest k rest ≡ spot.info.state)
      × ((progress_of progress).cost (code base spot.info.node.0 k) (spot.minute - rest) ≡ Some (spot.cost - rest * weight)) × (source.node / base ≡ k)
  rest_from place y source kind number comes =
      let d = rest_comes (setting_of task.net.now) (ruling task.ruler.now) solved.asked.numbers task.request.origin.0 task.request.goal.0
      task.request.depart task.request.until (state_bound (ruling task.ruler.now) task.bounds.now) (latest_in R ruling task)
      (progress_of progress).cost spot.info.node.0 spot.info.state spot.minute spot.cost spot_node y place source
      number comes kind in
      let begun : source.minute ≡ spot.minute - d.0 = omega (arith, d.2.minute) in
      let before : source.cost ≡ spot.cost - d.0 * d.2.weight = omega (arith, d.2.paid) in (
        d.0,
        d.2.weight,
        d.1,
        d.2.rated,
        omega (arith, d.2.minute),
        omega (arith, d.2.paid),
        λ u early late. d.2.is_open u (omega (arith, early, begun)) (omega (arith, late, begun)),
        d.2.state,
        d.2.after,
        ap (λ c. (progress_of progress).cost c (spot.minute - d.0)) (sym d.2.at)
            ∙ (ap (λ (n : ℕ). (progress_of progress).cost source.node n) (sym begun) ∙ (comes.known ∙ ap (λ (n : ℕ). Some n) before)),
        ap (λ n. n / base) d.2.at ∙ div-mul-add d.2.state base spot.info.node.0 spot_node,
      )

  rest_least : (place rest weight : ℕ) → slice_get (ruling task.ruler.now).rests place ≡ Some rest
      → (setting_of task.net.now).weight spot.info.node.0 ≡ Some weight → (from : Spot)
      → ((k : ℕ) → Some ((ruling task.ruler.now).rest k rest) ≡ Some spot.info.state
      → (progress_of progress).cost (code base spot.info.node.0 k) (spot.minute - rest) ≡ Some (spot.cost - rest * weight) → from.info.state ≤ k)
      → IsLeastOver (task_of R ruling task) (progress_of progress).cost spot 1 place from
  rest_least place rest weight is rated from least y source kind number comes =
      let d = rest_from place y source kind number comes in
      let one : d.0 ≡ rest = same_Some d.0 rest (sym d.2 ∙ is) in
      let two : d.1 ≡ weight = same_Some d.1 weight (sym d.3 ∙ rated) in
      let le = least d.7 (ap (λ (n : ℕ). Some n) (subst (λ (w : ℕ). (ruling task.ruler.now).rest d.7 w ≡ spot.info.state) one d.8))
      (subst (λ (w : ℕ). (progress_of progress).cost (code base spot.info.node.0 d.7) (spot.minute - w) ≡ Some (spot.cost - w * weight)) one
      (subst (λ (w : ℕ). (progress_of progress).cost (code base spot.info.node.0 d.7) (spot.minute - d.0) ≡ Some (spot.cost - d.0 * w)) two d.9)) in
      omega (arith, le, d.10)

  pub rest_found : (place rest weight : ℕ) → slice_get (ruling task.ruler.now).rests place ≡ Some rest
      → (setting_of task.net.now).weight spot.info.node.0 ≡ Some weight → rest ≤ spot.minute → rest * weight ≤ spot.cost
      → IsWaitOpen (setting_of task.net.now) spot.info.node.0 (spot.minute - rest) rest
      → (found : Option Spot) (from : Spot) → found ≡ Some from
      → IsLeastAt progress.table.infos (progress_of progress).cost spot.info.node.0 (spot.minute - rest) (spot.cost - rest * weight)
      (λ k. led_to (ruling task.ruler.now) (RestKind place) rest k ≡ Some spot.info.state) found
      → ComesFrom (task_of R ruling task) progress.table.infos (progress_of progress).cost spot (record { leg = Rest place; from = from })
  rest_found place rest weight is rated early cheap opens found from some least =
      let right = if_some (λ (w : Spot). IsKnownSpot progress.table.infos (progress_of progress).cost w.number (spot.minute - rest)
      (spot.cost - rest * weight) w × (w.info.node.0 ≡ spot.info.node.0)
      × (led_to (ruling task.ruler.now) (RestKind place) rest w.info.state ≡ Some spot.info.state)) found from some least.some in
      let long = solved.asked.numbers.rest_times place rest is in
      let known : (progress_of progress).cost (code base spot.info.node.0 from.info.state) (spot.minute - rest) ≡ Some (spot.cost - rest * weight) =
      ap (λ v. (progress_of progress).cost (code base v from.info.state) (spot.minute - rest)) (sym right.1) ∙ right.0.known in
      leg_over (task_of R ruling task) progress.table.infos (progress_of progress).cost spot from (Rest place)
      (road_code base 1 place spot.info.node.0 from.info.state) spot.info.node.0 (spot.minute - rest) (spot.cost - rest * weight)
      (record { node = spot.info.node.0; state = from.info.state; is = refl }) right.0 right.1 (omega (arith, long, early))
      (rest_leads (setting_of task.net.now) (ruling task.ruler.now) solved.asked.numbers task.request.origin.0 task.request.goal.0 task.request.depart
      task.request.until (state_bound (ruling task.ruler.now) task.bounds.now) (latest_in R ruling task)
      (progress_of progress).cost spot.info.node.0 spot.info.state spot.minute spot.cost spot_node from.info.state
      (spot.minute - rest) (spot.cost - rest * weight) upto place rest weight is rated
      (same_Some ((ruling task.ruler.now).rest from.info.state rest) spot.info.state right.2) opens (omega (arith, early)) (omega (arith, cheap)) known) (
        solved.asked.numbers.rests place rest is,
        rest_least place rest weight is rated from
            (if_some (λ (w : Spot). (k : ℕ) → Some ((ruling task.ruler.now).rest k rest) ≡ Some spot.info.state
            → (progress_of progress).cost (code base spot.info.node.0 k) (spot.minute - rest) ≡ Some (spot.cost - rest * weight) → w.info.state ≤ k)
            found from some least.least),
      )

  pub rest_missed : (place : ℕ) → ((rest weight : ℕ) → slice_get (ruling task.ruler.now).rests place ≡ Some rest
      → (setting_of task.net.now).weight spot.info.node.0 ≡ Some weight → rest ≤ spot.minute → rest * weight ≤ spot.cost
      → IsWaitOpen (setting_of task.net.now) spot.info.node.0 (spot.minute - rest) rest → (k : ℕ)
      → (ruling task.ruler.now).rest k rest ≡ spot.info.state
      → (progress_of progress).cost (code base spot.info.node.0 k) (spot.minute - rest) ≡ Some (spot.cost - rest * weight) → ⊥)
      → HasNoRoad (task_of R ruling task) (progress_of progress).cost spot 1 place
  rest_missed place out y source kind number comes =
      let d = rest_from place y source kind number comes in
      out d.0 d.1 d.2 d.3 d.4 d.5 d.6 d.7 d.8 d.9

  service_from : (place y : ℕ) (source : Position) → y % 3 ≡ 2 → y / 3 % base ≡ place
      → ComesOver (task_of R ruling task) (progress_of progress).cost (drive y) source (place_of spot)
      → (served : Service) × (slice_get (ruling task.ruler.now).services place ≡ Some served) × (served.node ≡ spot.info.node.0)
      × (served.minutes ≤ spot.minute) × (served.from + served.minutes ≤ spot.minute) × (spot.minute ≤ served.to)
      × (k : ℕ) × ((ruling task.ruler.now).serve k place ≡ Some spot.info.state)
      × ((progress_of progress).cost (code base spot.info.node.0 k) (spot.minute - served.minutes) ≡ Some (spot.cost - 0)) × (source.node / base ≡ k)
  service_from place y source kind number comes =
      let d = service_comes (setting_of task.net.now) (ruling task.ruler.now) solved.asked.numbers task.request.origin.0 task.request.goal.0
      task.request.depart task.request.until (state_bound (ruling task.ruler.now) task.bounds.now) (latest_in R ruling task)
      (progress_of progress).cost spot.info.node.0 spot.info.state spot.minute spot.cost spot_node y place source
      number comes kind in
      let begun : source.minute ≡ spot.minute - d.0.minutes = omega (arith, d.2.minute) in
      let before : source.cost ≡ spot.cost - 0 = omega (arith, d.2.paid) in (
        d.0,
        d.1,
        d.2.node,
        omega (arith, d.2.minute),
        omega (arith, d.2.minute, d.2.begins),
        d.2.ends,
        d.2.state,
        d.2.allowed,
        ap (λ c. (progress_of progress).cost c (spot.minute - d.0.minutes)) (sym d.2.at)
            ∙ (ap (λ (n : ℕ). (progress_of progress).cost source.node n) (sym begun) ∙ (comes.known ∙ ap (λ (n : ℕ). Some n) before)),
        ap (λ n. n / base) d.2.at ∙ div-mul-add d.2.state base spot.info.node.0 spot_node,
      )

  service_least : (place : ℕ) (served : Service) → slice_get (ruling task.ruler.now).services place ≡ Some served → (from : Spot)
      → ((k : ℕ) → (ruling task.ruler.now).serve k place ≡ Some spot.info.state
      → (progress_of progress).cost (code base spot.info.node.0 k) (spot.minute - served.minutes) ≡ Some (spot.cost - 0) → from.info.state ≤ k)
      → IsLeastOver (task_of R ruling task) (progress_of progress).cost spot 2 place from
  service_least place served is from least y source kind number comes =
      let d = service_from place y source kind number comes in
      let same : d.0 ≡ served = same_Some d.0 served (sym d.1 ∙ is) in
      let le = least d.6 d.7
      (subst (λ (w : Service). (progress_of progress).cost (code base spot.info.node.0 d.6) (spot.minute - w.minutes) ≡ Some (spot.cost - 0)) same d.8) in
      omega (arith, le, d.9)

  pub service_found : (place : ℕ) (served : Service) → slice_get (ruling task.ruler.now).services place ≡ Some served → served.node ≡ spot.info.node.0
      → served.minutes ≤ spot.minute → served.from + served.minutes ≤ spot.minute → spot.minute ≤ served.to
      → (found : Option Spot) (from : Spot) → found ≡ Some from
      → IsLeastAt progress.table.infos (progress_of progress).cost spot.info.node.0 (spot.minute - served.minutes) (spot.cost - 0)
      (λ k. led_to (ruling task.ruler.now) (ServeKind place) served.minutes k ≡ Some spot.info.state) found
      → ComesFrom (task_of R ruling task) progress.table.infos (progress_of progress).cost spot (record { leg = Serve place; from = from })
  service_found place served is at early begins ends found from some least =
      let right = if_some (λ (w : Spot). IsKnownSpot progress.table.infos (progress_of progress).cost w.number (spot.minute - served.minutes)
      (spot.cost - 0) w × (w.info.node.0 ≡ spot.info.node.0)
      × (led_to (ruling task.ruler.now) (ServeKind place) served.minutes w.info.state ≡ Some spot.info.state)) found from some least.some in
      let long = solved.asked.numbers.service_times place served is in
      let known : (progress_of progress).cost (code base spot.info.node.0 from.info.state) (spot.minute - served.minutes) ≡ Some (spot.cost - 0) =
      ap (λ v. (progress_of progress).cost (code base v from.info.state) (spot.minute - served.minutes)) (sym right.1) ∙ right.0.known in
      leg_over (task_of R ruling task) progress.table.infos (progress_of progress).cost spot from (Serve place)
      (road_code base 2 place spot.info.node.0 from.info.state) spot.info.node.0 (spot.minute - served.minutes) (spot.cost - 0)
      (record { node = spot.info.node.0; state = from.info.state; is = refl }) right.0 right.1 (omega (arith, long, early))
      (service_leads (setting_of task.net.now) (ruling task.ruler.now) solved.asked.numbers task.request.origin.0 task.request.goal.0 task.request.depart
      task.request.until (state_bound (ruling task.ruler.now) task.bounds.now) (latest_in R ruling task)
      (progress_of progress).cost spot.info.node.0 spot.info.state spot.minute spot.cost spot_node from.info.state
      (spot.minute - served.minutes) (spot.cost - 0) upto place served is at right.2 (omega (arith, begins, early)) ends (omega (arith, early))
      (omega arith) known) (
        (solved.asked.numbers.services place served is).0,
        service_least place served is from
            (if_some (λ (w : Spot). (k : ℕ) → (ruling task.ruler.now).serve k place ≡ Some spot.info.state
            → (progress_of progress).cost (code base spot.info.node.0 k) (spot.minute - served.minutes) ≡ Some (spot.cost - 0) → w.info.state ≤ k)
            found from some least.least),
      )

  pub service_missed : (place : ℕ) → ((served : Service) → slice_get (ruling task.ruler.now).services place ≡ Some served → served.node ≡ spot.info.node.0
      → served.minutes ≤ spot.minute → served.from + served.minutes ≤ spot.minute → spot.minute ≤ served.to → (k : ℕ)
      → (ruling task.ruler.now).serve k place ≡ Some spot.info.state
      → (progress_of progress).cost (code base spot.info.node.0 k) (spot.minute - served.minutes) ≡ Some (spot.cost - 0) → ⊥)
      → HasNoRoad (task_of R ruling task) (progress_of progress).cost spot 2 place
  service_missed place out y source kind number comes =
      let d = service_from place y source kind number comes in
      out d.0 d.1 d.2 d.3 d.4 d.5 d.6 d.7 d.8

  pub wait_found : (since weight paid : ℕ) → since < spot.minute → (setting_of task.net.now).weight spot.info.node.0 ≡ Some weight
      → IsWaitOpen (setting_of task.net.now) spot.info.node.0 since (spot.minute - since) → paid ≡ weight * (spot.minute - since) → paid ≤ spot.cost
      → (from : Spot) → IsKnownSpot progress.table.infos (progress_of progress).cost spot.number since (spot.cost - paid) from
      → ComesFrom (task_of R ruling task) progress.table.infos (progress_of progress).cost spot
      (record { leg = Wait (spot.minute - since); from = from })
  wait_found since weight paid earlier rated opens is cheap from known =
      let info : from.info ≡ spot.info = same_Some from.info spot.info (sym known.info ∙ there) in
      let at : point (code_of spot.info) since (spot.cost - paid) ≡ place_of from =
      same_position _ _ (ap code_of (sym info)) (sym known.at) (sym known.paid) in
      record {
        is_one = record {
          same = refl;
          at = refl;
          paid = refl;
          info = ap (at_number progress.table.infos) known.same ∙ known.info;
          known = ap (λ (t : ℕ). (progress_of progress).cost (code_of from.info) t) known.at ∙ (known.known ∙ ap (λ (n : ℕ). Some n) (sym known.paid));
        };
        earlier = omega (arith, earlier, known.at);
        steps = replicate (spot.minute - since) wait;
        tells = refl;
        walk = subst (λ (p : Position). Walks (task_of R ruling task).setting task.request.until (replicate (spot.minute - since) wait) p (place_of spot)) at
            (wait_leads (setting_of task.net.now) (ruling task.ruler.now) solved.asked.numbers task.request.origin.0 task.request.goal.0 task.request.depart
            task.request.until (state_bound (ruling task.ruler.now) task.bounds.now) (latest_in R ruling task)
            (progress_of progress).cost spot.info.node.0 spot.info.state spot.minute spot.cost spot_node since
            (spot.cost - paid) weight earlier upto rated opens (omega (arith, is, cheap)));
        least = tt;
      }

  pub wait_missed : ((since weight : ℕ) → since + 1 ≡ spot.minute → (setting_of task.net.now).weight spot.info.node.0 ≡ Some weight
      → weight ≤ spot.cost → (setting_of task.net.now).wait_shut spot.info.node.0 since ≡ false
      → (progress_of progress).cost (code_of spot.info) since ≡ Some (spot.cost - weight) → ⊥)
      → HasNoWait (task_of R ruling task) (progress_of progress).cost spot
  wait_missed out source comes =
      let d = wait_comes (setting_of task.net.now) (ruling task.ruler.now) solved.asked.numbers task.request.origin.0 task.request.goal.0
      task.request.depart task.request.until (state_bound (ruling task.ruler.now) task.bounds.now) (latest_in R ruling task)
      (progress_of progress).cost spot.info.node.0 spot.info.state spot.minute spot.cost spot_node source comes in
      let before : source.cost ≡ spot.cost - d.weight = omega (arith, d.paid) in
      out source.minute d.weight (sym d.minute) d.rated (omega (arith, d.paid)) d.is_open
      (ap (λ c. (progress_of progress).cost c source.minute) (sym d.at) ∙ (comes.known ∙ ap (λ (n : ℕ). Some n) before))

  -- the arc of a source over a road of this kind ends at the spot's node
  drive_ends : (x : ℕ) (source : Position) → x % 3 ≡ 0 → ComesOver (task_of R ruling task) (progress_of progress).cost (drive x) source (place_of spot)
      → EndsAt task.net.now Head spot.info.node.0 (x / 3 % base)
  drive_ends x source kind comes =
      let d = drive_comes (setting_of task.net.now) (ruling task.ruler.now) solved.asked.numbers task.request.origin.0 task.request.goal.0
      task.request.depart task.request.until (state_bound (ruling task.ruler.now) task.bounds.now) (latest_in R ruling task)
      (progress_of progress).cost spot.info.node.0
      spot.info.state spot.minute spot.cost spot_node x (x / 3 % base) source refl comes kind in
      let arc = map_some (at_number task.net.now.arcs (x / 3 % base)) road_of d.0 d.1 in
      ap (option_map (node_at Head)) arc.1 ∙ ap (λ (n : ℕ). Some n) (ap (λ (w : Road). w.head) arc.2 ∙ d.2.head)

  -- so it is enough to look at arcs that end there
  pub no_drives : ((a : ℕ) → EndsAt task.net.now Head spot.info.node.0 a → HasNoRoad (task_of R ruling task) (progress_of progress).cost spot 0 a)
      → (a : ℕ) → HasNoRoad (task_of R ruling task) (progress_of progress).cost spot 0 a
  no_drives out a x source kind number comes =
      out a (subst (λ n. EndsAt task.net.now Head spot.info.node.0 n) number (drive_ends x source kind comes)) x source kind number comes

  pub no_drives_before : (a : ℕ) → ((b : ℕ) → b < a → EndsAt task.net.now Head spot.info.node.0 b
      → HasNoRoad (task_of R ruling task) (progress_of progress).cost spot 0 b) → HasNoRoadBefore (task_of R ruling task) (progress_of progress).cost spot 0 a
  no_drives_before a out b below x source kind number comes =
      out b below (subst (λ n. EndsAt task.net.now Head spot.info.node.0 n) number (drive_ends x source kind comes)) x source kind number comes

  -- what comes by no wait and by no road of any kind has no source
  pub has_none : HasNoWait (task_of R ruling task) (progress_of progress).cost spot
      → ((a : ℕ) → EndsAt task.net.now Head spot.info.node.0 a → HasNoRoad (task_of R ruling task) (progress_of progress).cost spot 0 a)
      → ((place : ℕ) → HasNoRoad (task_of R ruling task) (progress_of progress).cost spot 1 place)
      → ((place : ℕ) → place < length (ruling task.ruler.now).services → HasNoRoad (task_of R ruling task) (progress_of progress).cost spot 2 place)
      → HasSource (task_of R ruling task) (progress_of progress).cost spot → ⊥
  has_none waits drives rests services s = by s.step s.comes
    where
      road : (x : ℕ) → ComesOver (task_of R ruling task) (progress_of progress).cost (drive x) s.source (place_of spot) → ⊥
      road x comes = ⊎_elim
          (λ (kind : x % 3 ≡ 0). drives (x / 3 % base) (drive_ends x s.source kind comes) x s.source kind refl comes)
          (λ (other : (x % 3 ≡ 1) ⊎ (x % 3 ≡ 2)). ⊎_elim
          (λ (kind : x % 3 ≡ 1). rests (x / 3 % base) x s.source kind refl comes)
          (λ (kind : x % 3 ≡ 2).
          let d = service_comes (setting_of task.net.now) (ruling task.ruler.now) solved.asked.numbers task.request.origin.0 task.request.goal.0
          task.request.depart task.request.until (state_bound (ruling task.ruler.now) task.bounds.now) (latest_in R ruling task)
          (progress_of progress).cost spot.info.node.0
          spot.info.state spot.minute spot.cost spot_node x (x / 3 % base) s.source refl comes kind in
          services (x / 3 % base) (slice_get_within (ruling task.ruler.now).services (x / 3 % base) d.0 d.1) x s.source kind refl comes)
          other)
          (three_kinds x)

      by : (step : Step) → ComesOver (task_of R ruling task) (progress_of progress).cost step s.source (place_of spot) → ⊥
      by wait comes = waits s.source comes
      by (drive x) comes = road x comes

  -- the same where what is read is known
  pub drive_missed_at : (a : ℕ) (arc : TimedArc) → at_number task.net.now.arcs a ≡ Some arc → (arc.minutes ≤ spot.minute → arc.cost ≤ spot.cost
      → IsOpen (setting_of task.net.now) a (spot.minute - arc.minutes) arc.minutes → (k : ℕ)
      → (ruling task.ruler.now).drive k arc.minutes ≡ Some spot.info.state
      → (progress_of progress).cost (code base arc.tail.0 k) (spot.minute - arc.minutes) ≡ Some (spot.cost - arc.cost) → ⊥)
      → HasNoRoad (task_of R ruling task) (progress_of progress).cost spot 0 a
  drive_missed_at a arc is out = drive_missed a (λ w at. subst (λ (w : TimedArc). w.minutes ≤ spot.minute → w.cost ≤ spot.cost
      → IsOpen (setting_of task.net.now) a (spot.minute - w.minutes) w.minutes → (k : ℕ)
      → (ruling task.ruler.now).drive k w.minutes ≡ Some spot.info.state
      → (progress_of progress).cost (code base w.tail.0 k) (spot.minute - w.minutes) ≡ Some (spot.cost - w.cost) → ⊥)
      (same_Some arc w (sym is ∙ at)) out)

  pub rest_missed_at : (place rest weight : ℕ) → slice_get (ruling task.ruler.now).rests place ≡ Some rest
      → (setting_of task.net.now).weight spot.info.node.0 ≡ Some weight → (rest ≤ spot.minute → rest * weight ≤ spot.cost
      → IsWaitOpen (setting_of task.net.now) spot.info.node.0 (spot.minute - rest) rest → (k : ℕ)
      → Some ((ruling task.ruler.now).rest k rest) ≡ Some spot.info.state
      → (progress_of progress).cost (code base spot.info.node.0 k) (spot.minute - rest) ≡ Some (spot.cost - rest * weight) → ⊥)
      → HasNoRoad (task_of R ruling task) (progress_of progress).cost spot 1 place
  rest_missed_at place rest weight is rated out = rest_missed place (λ other load at paid.
      let one : rest ≡ other = same_Some rest other (sym is ∙ at) in
      let two : weight ≡ load = same_Some weight load (sym rated ∙ paid) in
      λ early cheap opens k after known. subst (λ (r : ℕ). r ≤ spot.minute → r * load ≤ spot.cost
      → IsWaitOpen (setting_of task.net.now) spot.info.node.0 (spot.minute - r) r → (k : ℕ)
      → Some ((ruling task.ruler.now).rest k r) ≡ Some spot.info.state
      → (progress_of progress).cost (code base spot.info.node.0 k) (spot.minute - r) ≡ Some (spot.cost - r * load) → ⊥) one
      (subst (λ (w : ℕ). rest ≤ spot.minute → rest * w ≤ spot.cost
      → IsWaitOpen (setting_of task.net.now) spot.info.node.0 (spot.minute - rest) rest → (k : ℕ)
      → Some ((ruling task.ruler.now).rest k rest) ≡ Some spot.info.state
      → (progress_of progress).cost (code base spot.info.node.0 k) (spot.minute - rest) ≡ Some (spot.cost - rest * w) → ⊥) two out)
      early cheap opens k (ap (λ (n : ℕ). Some n) after) known)

  pub service_missed_at : (place : ℕ) (served : Service) → slice_get (ruling task.ruler.now).services place ≡ Some served
      → (served.node ≡ spot.info.node.0 → served.minutes ≤ spot.minute → served.from + served.minutes ≤ spot.minute → spot.minute ≤ served.to → (k : ℕ)
      → (ruling task.ruler.now).serve k place ≡ Some spot.info.state
      → (progress_of progress).cost (code base spot.info.node.0 k) (spot.minute - served.minutes) ≡ Some (spot.cost - 0) → ⊥)
      → HasNoRoad (task_of R ruling task) (progress_of progress).cost spot 2 place
  service_missed_at place served is out = service_missed place (λ w at. subst (λ (w : Service). w.node ≡ spot.info.node.0 → w.minutes ≤ spot.minute
      → w.from + w.minutes ≤ spot.minute → spot.minute ≤ w.to → (k : ℕ)
      → (ruling task.ruler.now).serve k place ≡ Some spot.info.state
      → (progress_of progress).cost (code base spot.info.node.0 k) (spot.minute - w.minutes) ≡ Some (spot.cost - 0) → ⊥)
      (same_Some served w (sym is ∙ at)) out)

  pub wait_missed_at : (since weight : ℕ) → since + 1 ≡ spot.minute → (setting_of task.net.now).weight spot.info.node.0 ≡ Some weight
      → ((progress_of progress).cost (code_of spot.info) since ≡ Some (spot.cost - weight * (spot.minute - since)) → ⊥)
      → HasNoWait (task_of R ruling task) (progress_of progress).cost spot
  wait_missed_at since weight next rated out = wait_missed (λ other load after paid cheap opens known.
      let one : since ≡ other = omega (arith, next, after) in
      let two : weight ≡ load = same_Some weight load (sym rated ∙ paid) in
      let minute : spot.minute - since ≡ 1 = omega (arith, next) in
      let all : weight * (spot.minute - since) ≡ load = ap (λ n. weight * n) minute ∙ omega (arith, two) in
      out (ap (λ n. (progress_of progress).cost (code_of spot.info) n) one ∙ (known ∙ ap (λ n. Some (spot.cost - n)) (sym all))))
