-- Walks of the mirrored net from the goal: the legs behind the last time that the goal is reached at no cost.
use Rattle.std.proofs.Common.{◌≡◌, ◌⊎◌, inl, inr, ⊎_elim, ℕ, zero, suc, ◌≤◌, Bool, true, false, Option, Some, None, List, [], ◌∷◌, ◌++◌, length}
use Rattle.std.proofs.Common.{replicate, refl, sym, ◌∙◌, ap, subst, arith, length-append}
use Rattle.std.specs.Prelude.{◌==◌, if◌then◌else◌}
use Rattle.std.specs.Option.{option_and_then, option_or}
use Rattle.std.proofs.lemmas.Bool.{eqb-true, eq-eqb}
use Rattle.std.proofs.lemmas.Option.{same_Some}
use Rattle.route_base.specs.Setting.{Setting, Road}
use Rattle.route_base.specs.Itinerary.{Position, Step, drive, wait, Moves, Walks}
use Rattle.route_base.specs.Legs.{HasNoEmptyWait, HasNoNeighbouringWaits, steps_of, steps_of_leg}
use Rattle.route_base.specs.Net.{IsGoodNet, Net, at_number, park_at, road_of, setting_of}
use Rattle.route_base.specs.declared.types.ArcId.{ArcId}
use Rattle.route_base.specs.declared.types.Leg.{Leg}
use Rattle.route_base.specs.declared.types.Leg.TheVariants.{Drive, Wait}
use Rattle.route_base.specs.declared.types.NodeId.{NodeId}
use Rattle.route_base.specs.declared.types.Park.{Park}
use Rattle.route_base.specs.declared.types.TimedArc.{TimedArc}
use Rattle.route_base.proofs.LegLists.{steps_of-append}
use Rattle.route_base.proofs.Lists.{same_tail}
use Rattle.route_base.proofs.Logic.{map_some}
use Rattle.route_base.proofs.Walking.{walk-append, walk_grows, walk_parts}
use Rattle.latest_departure.specs.Inside.Mirror.{behind_last, free_to_in}
use Rattle.latest_departure.proofs.MirroredNet.{z, back, head_inner}
use Rattle.latest_departure.proofs.OwnLegs.{at_goal}
use Rattle.tidy_legs.proofs.TurnedLegs.{apart_tail}
use Rattle.latest_departure.proofs.TurnedWalks.{turned_road}

if_zero : {A : Type 0} (n : ℕ) (a b : A) → (if n == 0 then Some a else None) ≡ Some b → (n ≡ 0) × (a ≡ b)
if_zero {A} n a b is = by (n == 0) refl is
  where
    by : (c : Bool) → (n == 0) ≡ c → (if c then Some a else None) ≡ Some b → (n ≡ 0) × (a ≡ b)
    by true zero_is same = (eqb-true n 0 zero_is, same_Some a b same)
    by false not same = absurd (cc)

-- two ways to cut a list
split : (ls bs us vs : List Step) → ls ++ bs ≡ us ++ vs
    → ((ws : List Step) × (us ≡ ls ++ ws) × (bs ≡ ws ++ vs)) ⊎ ((ws : List Step) × (ls ≡ us ++ ws) × (vs ≡ ws ++ bs))
split [] bs us vs same = inl (us, refl, same)
split (a ∷ ls) bs [] vs same = inr (a ∷ ls, refl, sym same)
split (a ∷ ls) bs (u ∷ us) vs same =
    let head : a ≡ u = cc in
    ⊎_elim
    (λ (one : (ws : List Step) × (us ≡ ls ++ ws) × (bs ≡ ws ++ vs)). inl (one.0, (λ i. sym head i ∷ one.1 i), one.2))
    (λ (two : (ws : List Step) × (ls ≡ us ++ ws) × (vs ≡ ws ++ bs)). inr (two.0, (λ i. head i ∷ two.1 i), two.2))
    (split ls bs us vs (same_tail same))

module _ (net : Net) (good : IsGoodNet net) (goal : NodeId) (low : 1 ≤ goal.0) (high : goal.0 ≤ net.nodes) (sum until : ℕ) where
  abbrev pub zz : Setting
  zz = setting_of (z net good goal.0 sum)

  -- the arc of a drive from an inner node
  arc_of : (a : ArcId) (p q : Position) → p.node ≤ net.nodes → (move : Moves zz until (drive a.0) p q)
      → (arc : TimedArc) × (at_number net.arcs a.0 ≡ Some arc) × (road_of arc ≡ turned_road move.road)
  arc_of a p q inner move =
      map_some (at_number net.arcs a.0) road_of (turned_road move.road)
      ((back net good goal.0 sum).road a.0 move.road move.is (subst (λ (v : ℕ). v ≤ net.nodes) (sym move.tail) inner))

  free_drive : (a : ArcId) (v : NodeId) (p q : Position) → p.node ≤ net.nodes → Moves zz until (drive a.0) p q → q.cost ≡ p.cost
      → (w : NodeId) × (free_to_in net v (Drive a) ≡ Some w) × (q.node ≡ w.0)
  free_drive a v p q inner move same =
      let arc = arc_of a p q inner move in
      let none : arc.0.cost ≡ 0 = omega (arith, ap (λ (w : Road). w.cost) arc.2, move.cost, same) in (
        arc.0.tail,
        ap (option_and_then (λ (b : TimedArc). if b.cost == 0 then Some b.tail else None)) arc.1 ∙ rw (eq-eqb arc.0.cost 0 none) refl,
        move.node ∙ sym (ap (λ (w : Road). w.tail) arc.2),
      )

  drive_free : (a : ArcId) (v w : NodeId) (p q : Position) → free_to_in net v (Drive a) ≡ Some w → p.node ≤ net.nodes → Moves zz until (drive a.0) p q
      → (q.cost ≡ p.cost) × (q.node ≡ w.0)
  drive_free a v w p q free inner move =
      let arc = arc_of a p q inner move in
      let is = if_zero arc.0.cost arc.0.tail w
      (sym (ap (option_and_then (λ (b : TimedArc). if b.cost == 0 then Some b.tail else None)) arc.1) ∙ free) in (
        omega (arith, move.cost, ap (λ (u : Road). u.cost) arc.2, is.0),
        move.node ∙ sym (ap (λ (u : Road). u.tail) arc.2) ∙ ap (λ (u : NodeId). u.0) is.1,
      )

  -- the park of a wait at an inner node
  park_of : (p q : Position) → p.node ≤ net.nodes → (move : Moves zz until wait p q)
      → (park : Park) × (park_at net p.node ≡ Some park) × (park.weight ≡ move.weight)
  park_of p q inner move =
      map_some (park_at net p.node) (λ (park : Park). park.weight) move.weight ((back net good goal.0 sum).weight p.node move.weight move.rated inner)

  free_wait : (k : ℕ) (v : NodeId) (p q : Position) → p.node ≡ v.0 → p.node ≤ net.nodes → Moves zz until wait p q → q.cost ≡ p.cost
      → free_to_in net v (Wait k) ≡ Some v
  free_wait k v p q at inner move same =
      let park = park_of p q inner move in
      let none : park.0.weight ≡ 0 = omega (arith, park.2, move.cost, same) in
      ap (option_and_then (λ (b : Park). if b.weight == 0 then Some v else None)) (ap (park_at net) (sym at) ∙ park.1) ∙ rw (eq-eqb park.0.weight 0 none) refl

  wait_free : (k : ℕ) (v w : NodeId) (p q : Position) → free_to_in net v (Wait k) ≡ Some w → p.node ≡ v.0 → p.node ≤ net.nodes → Moves zz until wait p q
      → (q.cost ≡ p.cost) × (v ≡ w)
  wait_free k v w p q free at inner move =
      let park = park_of p q inner move in
      let is = if_zero park.0.weight v w
      (sym (ap (option_and_then (λ (b : Park). if b.weight == 0 then Some v else None)) (ap (park_at net) (sym at) ∙ park.1)) ∙ free) in
      (omega (arith, move.cost, park.2, is.0), is.1)

  -- waits at no cost
  waits_free : (k j : ℕ) (v w : NodeId) (p q : Position) → free_to_in net v (Wait k) ≡ Some w → p.node ≡ v.0 → p.node ≤ net.nodes
      → Walks zz until (replicate j wait) p q → (q.cost ≡ p.cost) × (q.node ≡ p.node)
  waits_free k zero v w p q free at inner walk = (sym (ap (λ (u : Position). u.cost) walk), sym (ap (λ (u : Position). u.node) walk))
  waits_free k (suc j) v w p q free at inner walk =
      let one = wait_free k v w p walk.0 free at inner walk.1 in
      let more = waits_free k j v w walk.0 q free (walk.1.node ∙ at) (omega (arith, walk.1.node, inner)) walk.2 in
      (more.0 ∙ one.0, more.1 ∙ walk.1.node)

  same_node : (k : ℕ) (v w : NodeId) → free_to_in net v (Wait k) ≡ Some w → v ≡ w
  same_node k v w free = by (park_at net v.0) refl
    where
      by : (o : Option Park) → park_at net v.0 ≡ o → v ≡ w
      by None none =
          let no = sym (ap (option_and_then (λ (b : Park). if b.weight == 0 then Some v else None)) none) ∙ free in absurd (cc)
      by (Some park) is =
          (if_zero park.weight v w (sym (ap (option_and_then (λ (b : Park). if b.weight == 0 then Some v else None)) is) ∙ free)).1

  leg_free : (leg : Leg) (v w : NodeId) (p q : Position) → free_to_in net v leg ≡ Some w → p.node ≡ v.0 → p.node ≤ net.nodes
      → Walks zz until (steps_of_leg leg) p q → (q.cost ≡ p.cost) × (q.node ≡ w.0) × (q.node ≤ net.nodes)
  leg_free (Drive a) v w p q free at inner walk =
      let move = subst (λ (u : Position). Moves zz until (drive a.0) p u) walk.2 walk.1 in
      let one = drive_free a v w p q free inner move in
      (one.0, one.1, omega (arith, move.node, head_inner net good goal.0 sum low high a.0 move.road move.is))
  leg_free (Wait k) v w p q free at inner walk =
      let all = waits_free k k v w p q free at inner walk in
      (all.0, all.1 ∙ at ∙ ap (λ (u : NodeId). u.0) (same_node k v w free), omega (arith, all.1, inner))

  -- legs in two parts, of which the first leads to the goal at no cost
  pub record IsCut (legs rest : List Leg) (p q : Position) : Type 0 where
    pub taken : List Leg
    pub parts : legs ≡ taken ++ rest
    pub at : Position
    pub walk : Walks zz until (steps_of taken) p at
    pub on : Walks zz until (steps_of rest) at q
    pub node : at.node ≡ goal.0
    pub cost : at.cost ≡ p.cost

  not_cut : (v : NodeId) (legs rest : List Leg) (p q : Position) → (if v.0 == goal.0 then Some legs else None) ≡ Some rest → p.node ≡ v.0
      → Walks zz until (steps_of legs) p q → IsCut legs rest p q
  not_cut v legs rest p q is at walk = by (v.0 == goal.0) refl is
    where
      by : (b : Bool) → (v.0 == goal.0) ≡ b → (if b then Some legs else None) ≡ Some rest → IsCut legs rest p q
      by false not same = absurd (cc)
      by true here same =
          let legs_are : legs ≡ rest = same_Some legs rest same in
          record {
            taken = [];
            parts = legs_are;
            at = p;
            walk = refl;
            on = subst (λ (w : List Leg). Walks zz until (steps_of w) p q) legs_are walk;
            node = at ∙ eqb-true v.0 goal.0 here;
            cost = refl;
          }

  -- a cut behind the first leg
  abbrev CutsOn : List Leg → List Leg → Position → Type 0
  CutsOn legs rest q = (w : NodeId) (u : Position) → behind_last net goal.0 w legs ≡ Some rest → u.node ≡ w.0 → u.node ≤ net.nodes
      → Walks zz until (steps_of legs) u q → IsCut legs rest u q

  cut_later : (v w : NodeId) (leg : Leg) (legs rest : List Leg) (p q : Position) → p.node ≡ v.0 → p.node ≤ net.nodes
      → Walks zz until (steps_of (leg ∷ legs)) p q → CutsOn legs rest q → free_to_in net v leg ≡ Some w → behind_last net goal.0 w legs ≡ Some rest
      → IsCut (leg ∷ legs) rest p q
  cut_later v w leg legs rest p q at inner walk again free is =
      let parts = walk_parts zz until (steps_of_leg leg) (steps_of legs) p q walk in
      let one = leg_free leg v w p parts.0 free at inner parts.1 in
      let more = again w parts.0 is one.1 one.2 parts.2 in
      record {
        taken = leg ∷ more.taken;
        parts = ap (λ (l : List Leg). leg ∷ l) more.parts;
        at = more.at;
        walk = walk-append zz until (steps_of_leg leg) (steps_of more.taken) p parts.0 more.at parts.1 more.walk;
        on = more.on;
        node = more.node;
        cost = more.cost ∙ one.0;
      }

  cut_by : (v : NodeId) (leg : Leg) (legs rest : List Leg) (p q : Position) → p.node ≡ v.0 → p.node ≤ net.nodes
      → Walks zz until (steps_of (leg ∷ legs)) p q → CutsOn legs rest q → (f : Option NodeId) → free_to_in net v leg ≡ f
      → option_or (option_and_then (λ w. behind_last net goal.0 w legs) f) (if v.0 == goal.0 then Some (leg ∷ legs) else None) ≡ Some rest
      → IsCut (leg ∷ legs) rest p q
  cut_by v leg legs rest p q at inner walk again None none same = not_cut v (leg ∷ legs) rest p q same at walk
  cut_by v leg legs rest p q at inner walk again (Some w) free same = either (behind_last net goal.0 w legs) refl same
    where
      either : (o : Option (List Leg)) → behind_last net goal.0 w legs ≡ o
          → option_or o (if v.0 == goal.0 then Some (leg ∷ legs) else None) ≡ Some rest → IsCut (leg ∷ legs) rest p q
      either None none same = not_cut v (leg ∷ legs) rest p q same at walk
      either (Some r) some same = cut_later v w leg legs rest p q at inner walk again free (some ∙ same)

  -- the legs behind are those of a cut
  pub cut : (v : NodeId) (legs rest : List Leg) (p q : Position) → behind_last net goal.0 v legs ≡ Some rest → p.node ≡ v.0 → p.node ≤ net.nodes
      → Walks zz until (steps_of legs) p q → IsCut legs rest p q
  cut v [] rest p q is at inner walk = not_cut v [] rest p q is at walk
  cut v (leg ∷ legs) rest p q is at inner walk = cut_by v leg legs rest p q at inner walk
      (λ w u same there inside on. cut w legs rest u q same there inside on) (free_to_in net v leg) refl is

  prefer : (v w : NodeId) (leg : Leg) (legs rest : List Leg) → free_to_in net v leg ≡ Some w → behind_last net goal.0 w legs ≡ Some rest
      → behind_last net goal.0 v (leg ∷ legs) ≡ Some rest
  prefer v w leg legs rest free is =
      ap (λ (f : Option NodeId). option_or (option_and_then (λ u. behind_last net goal.0 u legs) f) (if v.0 == goal.0 then Some (leg ∷ legs) else None)) free
      ∙ ap (λ (o : Option (List Leg)). option_or o (if v.0 == goal.0 then Some (leg ∷ legs) else None)) is

  whole : (leg : Leg) (legs rest : List Leg) (b : Bool) → (if b then Some (leg ∷ legs) else None) ≡ Some rest
      → (taken : List Leg) × (leg ∷ legs ≡ taken ++ rest)
  whole leg legs rest true same = ([], same_Some (leg ∷ legs) rest same)
  whole leg legs rest false same = absurd (cc)

  part_by : (v : NodeId) (leg : Leg) (legs rest : List Leg)
      → ((w : NodeId) → behind_last net goal.0 w legs ≡ Some rest → (taken : List Leg) × (legs ≡ taken ++ rest)) → (f : Option NodeId)
      → option_or (option_and_then (λ w. behind_last net goal.0 w legs) f) (if v.0 == goal.0 then Some (leg ∷ legs) else None) ≡ Some rest
      → (taken : List Leg) × (leg ∷ legs ≡ taken ++ rest)
  part_by v leg legs rest again None same = whole leg legs rest (v.0 == goal.0) same
  part_by v leg legs rest again (Some w) same = either (behind_last net goal.0 w legs) refl same
    where
      either : (o : Option (List Leg)) → behind_last net goal.0 w legs ≡ o
          → option_or o (if v.0 == goal.0 then Some (leg ∷ legs) else None) ≡ Some rest → (taken : List Leg) × (leg ∷ legs ≡ taken ++ rest)
      either None none same = whole leg legs rest (v.0 == goal.0) same
      either (Some r) some same = let more = again w (some ∙ same) in (leg ∷ more.0, ap (λ (l : List Leg). leg ∷ l) more.1)

  -- what is behind is a part at the end
  pub part : (v : NodeId) (legs rest : List Leg) → behind_last net goal.0 v legs ≡ Some rest → (taken : List Leg) × (legs ≡ taken ++ rest)
  part v [] rest is = by (v.0 == goal.0) is
    where
      by : (b : Bool) → (if b then Some [] else None) ≡ Some rest → (taken : List Leg) × ([] ≡ taken ++ rest)
      by true same = ([], same_Some [] rest same)
      by false same = absurd (cc)
  part v (leg ∷ legs) rest is = part_by v leg legs rest (λ w same. part w legs rest same) (free_to_in net v leg) is

  no_longer : (v : NodeId) (legs rest : List Leg) → behind_last net goal.0 v legs ≡ Some rest → length (steps_of rest) ≤ length (steps_of legs)
  no_longer v legs rest is =
      let one = part v legs rest is in
      omega (
        arith,
        ap (λ (l : List Leg). length (steps_of l)) one.1,
        ap (λ (l : List Step). length l) (steps_of-append one.0 rest),
        length-append (steps_of one.0) (steps_of rest),
      )

  only_waits : (k : ℕ) (us ws : List Step) (p q : Position) → replicate k wait ≡ us ++ ws → Walks zz until us p q → q.node ≡ p.node
  only_waits k [] ws p q same walk = sym (ap (λ (u : Position). u.node) walk)
  only_waits zero (u ∷ us) ws p q same walk = absurd (cc)
  only_waits (suc k) (wait ∷ us) ws p q same walk = only_waits k us ws walk.0 q (same_tail same) walk.2 ∙ walk.1.node
  only_waits (suc k) (drive a ∷ us) ws p q same walk = absurd (cc)

  -- no more than what is behind follows a time at the goal at no cost
  abbrev IsNoLess : NodeId → List Leg → List Step → Type 0
  IsNoLess v legs vs = (rest : List Leg) × (behind_last net goal.0 v legs ≡ Some rest) × (length (steps_of rest) ≤ length vs)

  stays : (v : NodeId) (legs : List Leg) (vs : List Step) (p q : Position) → p.node ≡ v.0 → steps_of legs ≡ vs → p ≡ q → q.node ≡ goal.0
      → IsNoLess v legs vs
  stays v legs vs p q at same still there =
      let one = at_goal net goal.0 v legs (sym at ∙ ap (λ (u : Position). u.node) still ∙ there) in
      (one.0, one.1, omega (arith, no_longer v legs one.0 one.1, ap (λ (l : List Step). length l) same))

  pub longest : (v : NodeId) (legs : List Leg) (us vs : List Step) (p q : Position) → HasNoEmptyWait legs → p.node ≡ v.0 → p.node ≤ net.nodes
      → steps_of legs ≡ us ++ vs → Walks zz until us p q → q.node ≡ goal.0 → q.cost ≡ p.cost → IsNoLess v legs vs
  longest v legs [] vs p q some at inner same walk there cost = stays v legs vs p q at same walk there
  longest v [] (u ∷ us) vs p q some at inner same walk there cost = absurd (cc)
  longest v (Drive a ∷ legs) (drive b ∷ us) vs p q some at inner same walk there cost =
      let number : b ≡ a.0 = cc in
      let move : Moves zz until (drive a.0) p walk.0 = subst (λ (n : ℕ). Moves zz until (drive n) p walk.0) number walk.1 in
      let grows = walk_grows zz until us walk.0 q walk.2 in
      let same_cost : walk.0.cost ≡ p.cost = omega (arith, grows.1, cost, move.cost) in
      let free = free_drive a v p walk.0 inner move same_cost in
      let more = longest free.0 legs us vs walk.0 q some.1 free.2
      (omega (arith, move.node, head_inner net good goal.0 sum low high a.0 move.road move.is)) (same_tail same) walk.2 there (cost ∙ sym same_cost) in
      (more.0, prefer v free.0 (Drive a) legs more.0 free.1 more.1, more.2)
  longest v (Drive a ∷ legs) (wait ∷ us) vs p q some at inner same walk there cost = absurd (cc)
  longest v (Wait zero ∷ legs) (u ∷ us) vs p q some at inner same walk there cost = absurd (some.0 refl)
  longest v (Wait (suc k) ∷ legs) (drive b ∷ us) vs p q some at inner same walk there cost = absurd (cc)
  longest v (Wait (suc k) ∷ legs) (wait ∷ us) vs p q some at inner same walk there cost =
      let grows = walk_grows zz until us walk.0 q walk.2 in
      let same_cost : walk.0.cost ≡ p.cost = omega (arith, grows.1, cost, walk.1.cost) in
      let free = free_wait (suc k) v p walk.0 at inner walk.1 same_cost in
      ⊎_elim
      (λ (one : (ws : List Step) × (wait ∷ us ≡ replicate (suc k) wait ++ ws) × (steps_of legs ≡ ws ++ vs)).
      let parts = walk_parts zz until (replicate (suc k) wait) one.0 p q (subst (λ (l : List Step). Walks zz until l p q) one.1 walk) in
      let waits = waits_free (suc k) (suc k) v v p parts.0 free at inner parts.1 in
      let more = longest v legs one.0 vs parts.0 q some.1 (waits.1 ∙ at) (omega (arith, waits.1, inner)) one.2 parts.2 there (cost ∙ sym waits.0) in
      (more.0, prefer v v (Wait (suc k)) legs more.0 free more.1, more.2))
      (λ (two : (ws : List Step) × (replicate (suc k) wait ≡ wait ∷ us ++ ws) × (vs ≡ ws ++ steps_of legs)).
      let node = only_waits (suc k) (wait ∷ us) two.0 p q two.1 walk in
      let rest = at_goal net goal.0 v legs (sym at ∙ sym node ∙ there) in (
        rest.0,
        prefer v v (Wait (suc k)) legs rest.0 free rest.1,
        omega (arith, no_longer v legs rest.0 rest.1, ap (λ (l : List Step). length l) two.2, length-append two.0 (steps_of legs)),
      ))
      (split (replicate (suc k) wait) (steps_of legs) (wait ∷ us) vs same)

-- a part at the end has what the whole has
pub no_empty_part : (taken rest : List Leg) → HasNoEmptyWait (taken ++ rest) → HasNoEmptyWait rest
no_empty_part [] rest none = none
no_empty_part (leg ∷ taken) rest none = no_empty_part taken rest none.1

pub apart_part : (taken rest : List Leg) → HasNoNeighbouringWaits (taken ++ rest) → HasNoNeighbouringWaits rest
apart_part [] rest apart = apart
apart_part (leg ∷ taken) rest apart = apart_part taken rest (apart_tail leg (taken ++ rest) apart)
