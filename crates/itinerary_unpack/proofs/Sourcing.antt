-- Where a cost comes from: by a wait, or by a drive.
use Rattle.std.proofs.Common.{◌≡◌, ⊎_elim, ℕ, ◌+◌, ◌-◌, ◌*◌, ◌≤◌, ◌<◌, Option, Some, List, length, get_or, replicate, refl, sym, ap, subst, arith}
use Rattle.std.specs.Prelude.{AllPairs, slice_get}
use Rattle.std.proofs.lemmas.Bool.{cases_lt, cases_eq}
use Rattle.std.proofs.lemmas.Option.{get_or_from_slice_get}
use Rattle.std.specs.Option.{option_map}
use Rattle.std.proofs.lemmas.List.{length-replicate}
use Rattle.route_base.specs.Setting.{Setting}
use Rattle.route_base.specs.Itinerary.{Position, wait, Drives, Walks}
use Rattle.route_base.specs.Net.{Net, road_of, setting_of, at_number}
use Rattle.route_base.specs.Open.{IsOpen, IsWaitOpen}
use Rattle.route_base.specs.declared.types.ArcId.{ArcId}
use Rattle.route_base.specs.declared.types.Leg.{Leg}
use Rattle.route_base.specs.declared.types.Leg.TheVariants.{Drive, Wait}
use Rattle.route_base.specs.declared.types.NodeId.{NodeId}
use Rattle.route_base.specs.declared.types.TimedArc.{TimedArc}
use Rattle.route_base.proofs.Waiting.{same_position, waits}
use Rattle.route_base.proofs.LegLists.{some_wait}
use Rattle.node_arcs.specs.Stars.{Star, arcs_of, AreIncoming, EndsAt}
use Rattle.node_arcs.specs.declared.links.End.TheVariants.{Head}
use Rattle.node_arcs.proofs.StarPlaces.{ends_place}
use Rattle.propagation.specs.Inside.Invariants.{point}
use Rattle.itinerary_unpack.specs.Inside.Sources.{ComesFrom, ComesFirst}

-- an arc of a smaller number than the one at a place is at an earlier place
pub smaller_earlier : (net : Net) (star : Star) → AreIncoming net star → (v : ℕ) (arcs : List ArcId) → arcs ≡ arcs_of star v → (k : ℕ) (d : ArcId)
    → k < length arcs → (b : ℕ) → b < (get_or arcs k d).0 → EndsAt net Head v b → (i : ℕ) × (i < k) × (slice_get arcs i ≡ Some (record { 0 = b }))
smaller_earlier net star all v arcs own k d within b less ends =
    let place = ends_place net Head star all v arcs own b ends in
    let is : get_or arcs place.0 d ≡ record { 0 = b } = get_or_from_slice_get arcs place.0 (record { 0 = b }) d place.2 in
    let rising : AllPairs (λ x y. x.0 < y.0) arcs = subst (λ (w : List ArcId). AllPairs (λ x y. x.0 < y.0) w) (sym own) (all v).rising in
    ⊎_elim
    (λ (before : place.0 < k). (place.0, before, place.2))
    (λ (after : k ≤ place.0). ⊎_elim
    (λ (same : k ≡ place.0). absurd (omega (arith, less, ap (λ (n : ℕ). (get_or arcs n d).0) same, ap (λ (w : ArcId). w.0) is)))
    (λ (other : k ≡ place.0 → ⊥).
    absurd (omega (arith, less, rising k place.0 d (omega (arith, after, other)) place.1, ap (λ (w : ArcId). w.0) is)))
    (cases_eq k place.0))
    (cases_lt place.0 k)

module _ (net : Net) (until a v t : ℕ) (arc : TimedArc) (is : at_number net.arcs a ≡ Some arc) where
  -- the drive from the tail, that many minutes earlier
  drives_in : arc.head.0 ≡ v → arc.minutes ≤ t → t ≤ until → (before : ℕ) → IsOpen (setting_of net) a (t - arc.minutes) arc.minutes
      → Drives (setting_of net) until a (point arc.tail.0 (t - arc.minutes) before) (point v t (before + arc.cost))
  drives_in head early late before free = record {
    road = road_of arc;
    is = ap (option_map road_of) is;
    tail = refl;
    is_open = free;
    in_time = omega (arith, early, late);
    node = sym head;
    minute = omega (arith, early);
    cost = refl;
  }

  pub comes_by_drive : (number : Leg) → number ≡ Drive (record { 0 = a }) → arc.head.0 ≡ v → 1 ≤ arc.minutes → arc.minutes ≤ t → t ≤ until
      → (cost : ℕ → ℕ → Option ℕ) (x before : ℕ)
      → cost arc.tail.0 (t - arc.minutes) ≡ Some before → before + arc.cost ≡ x → IsOpen (setting_of net) a (t - arc.minutes) arc.minutes
      → ComesFrom (setting_of net) until cost v t x (record { leg = number; node = arc.tail; minute = t - arc.minutes })
  comes_by_drive number leg head some early late cost x before known exact free =
      subst (λ w. ComesFrom (setting_of net) until cost v t x (record { leg = w; node = arc.tail; minute = t - arc.minutes })) (sym leg) (record {
        before = before;
        known = known;
        earlier = omega (arith, some, early);
        some = λ same. cc;
        short = omega (arith, some, early);
        walk = (point v t (before + arc.cost), drives_in head early late before free, ap (λ n. point v t n) exact);
      })

module _ (s : Setting) (until : ℕ) (cost : ℕ → ℕ → Option ℕ) (v : NodeId) (t x : ℕ) where
  -- a wait since an earlier minute
  pub comes_by_wait : (since before weight : ℕ) → since < t → t ≤ until → s.weight v.0 ≡ Some weight → IsWaitOpen s v.0 since (t - since)
      → cost v.0 since ≡ Some before → before + weight * (t - since) ≡ x
      → ComesFirst s until cost v.0 t x (record { leg = Wait (t - since); node = v; minute = since })
  comes_by_wait since before weight earlier late rated opens known exact = record {
    comes = record {
      before = before;
      known = known;
      earlier = earlier;
      some = some_wait (t - since) (omega (arith, earlier));
      short = omega (arith, length-replicate (t - since) wait, earlier);
      walk = subst (λ (p : Position). Walks s until (replicate (t - since) wait) (point v.0 since before) p)
          (same_position _ _ refl (omega (arith, earlier)) (omega (arith, exact)))
          (waits s until (t - since) v.0 since before weight rated opens (omega (arith, earlier, late)));
    };
    first = tt;
  }
