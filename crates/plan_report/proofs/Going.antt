-- Positions that are carried along over lawful legs.
use Rattle.std.proofs.Common.{◌≡◌, ◌≢◌, ℕ, zero, suc, ◌+◌, ◌*◌, ◌≤◌, ◌<◌, List, ◌∷◌, ◌++◌}
use Rattle.std.proofs.Common.{flat_map, drop, get_or, length, replicate, Some, refl, sym, ◌∙◌, ap, subst, append_assoc, arith}
use Rattle.std.specs.Prelude.{◌^◌, Option, unwrap_or, IsSome}
use Rattle.std.proofs.lemmas.List.{drop_more}
use Rattle.route_base.specs.Setting.{Setting, Road}
use Rattle.route_base.specs.Itinerary.{Position, Step, wait, Walks}
use Rattle.route_base.specs.Legs.{steps_of, steps_of_leg, start_of, end_of, Achieves}
use Rattle.route_base.specs.Time.{IsInstant, first_instant, last_instant}
use Rattle.route_base.specs.declared.types.Leg.{Leg}
use Rattle.route_base.specs.declared.types.Leg.TheVariants.{Drive, Wait}
use Rattle.route_base.specs.declared.types.Pair.{Pair}
use Rattle.route_base.specs.declared.types.Request.{Request}
use Rattle.route_base.proofs.Waiting.{same_position}
use Rattle.route_base.proofs.Walking.{walk_in_time, walk_grows}
use Rattle.plan_report.specs.Inside.{Lead, IsKnown, IsPassable}
use Rattle.plan_report.specs.Stages.{Stage, no_road, road_at, price_at, position_after, stages_from, numbered_text}

is_some : {A : Type 0} (o : Option A) (x : A) → o ≡ Some x → IsSome o
is_some o x is = subst IsSome (sym is) refl

module _ (s : Setting) (until : ℕ) where
  waited : (k : ℕ) (rest : List Step) (p q : Position) → Walks s until (replicate k wait ++ rest) p q
      → Walks s until rest (position_after s p (Wait k)) q
  waited zero rest p q walk =
      subst (λ (r : Position). Walks s until rest r q) (same_position p (position_after s p (Wait 0)) refl (omega arith) (omega arith)) walk
  waited (suc k) rest p q walk =
      let r : Position = walk.0 in
      let weight : price_at s p.node ≡ walk.1.weight = ap (λ (o : Option ℕ). unwrap_or o 0) walk.1.rated in
      let same : price_at s r.node ≡ walk.1.weight = ap (price_at s) walk.1.node ∙ weight in
      subst (λ (x : Position). Walks s until rest x q)
      (same_position (position_after s r (Wait k)) (position_after s p (Wait (suc k))) walk.1.node
      (omega (arith, walk.1.minute))
      (ap (λ (w : ℕ). r.cost + k * w) same ∙ ap (λ (c : ℕ). c + k * walk.1.weight) walk.1.cost
      ∙ omega arith ∙ ap (λ (w : ℕ). p.cost + suc k * w) (sym weight)))
      (waited k rest r q walk.2)

  -- the walk after its first leg
  pub walk_after : (leg : Leg) (rest : List Step) (p q : Position) → Walks s until (steps_of_leg leg ++ rest) p q
      → Walks s until rest (position_after s p leg) q
  walk_after (Drive a) rest p q walk =
      let is : road_at s a.0 ≡ walk.1.road = ap (λ (o : Option Road). unwrap_or o no_road) walk.1.is in
      subst (λ (x : Position). Walks s until rest x q)
      (same_position walk.0 (position_after s p (Drive a))
      (walk.1.node ∙ ap (λ (r : Road). r.head) (sym is))
      (walk.1.minute ∙ ap (λ (r : Road). p.minute + r.minutes) (sym is))
      (walk.1.cost ∙ ap (λ (r : Road). p.cost + r.cost) (sym is)))
      walk.2
  walk_after (Wait k) rest p q walk = waited k rest p q walk

  known : (leg : Leg) (rest : List Step) (p q : Position) → leg ≢ Wait 0 → Walks s until (steps_of_leg leg ++ rest) p q → IsKnown s p leg
  known (Drive a) rest p q some walk =
      let is : road_at s a.0 ≡ walk.1.road = ap (λ (o : Option Road). unwrap_or o no_road) walk.1.is in
      (is_some (s.road a.0) walk.1.road walk.1.is, ap (λ (r : Road). r.tail) is ∙ walk.1.tail)
  known (Wait zero) rest p q some walk = absurd (some refl)
  known (Wait (suc k)) rest p q some walk = is_some (s.weight p.node) walk.1.weight walk.1.rated

  -- a leg ends no earlier than the first instant
  pub minute_after : (leg : Leg) (p : Position) → first_instant ≤ p.minute → first_instant ≤ (position_after s p leg).minute
  minute_after (Drive a) p le = omega (arith, le)
  minute_after (Wait k) p le = omega (arith, le)

  -- the first of lawful legs can be travelled
  pub good_first : (leg : Leg) (legs : List Leg) (p q : Position) → Lead s until (leg ∷ legs) p q → first_instant ≤ p.minute
      → q.minute ≤ last_instant → q.cost < 2 ^ 64 → IsPassable s p leg
  good_first leg legs p q lead early late cheap =
      let up = walk_grows s until (steps_of legs) (position_after s p leg) q (walk_after leg (steps_of legs) p q lead.walk) in
      let all = walk_grows s until (steps_of (leg ∷ legs)) p q lead.walk in
      record {
        known = known leg (steps_of legs) p q lead.no_empty_wait.0 lead.walk;
        start = (early, omega (arith, all.0, late));
        minute = (minute_after leg p early, omega (arith, up.0, late));
        cost = omega (arith, up.1, cheap);
      }

-- lawful legs arrive at an instant
pub arrives : (s : Setting) (r : Request) (legs : List Leg) (pair : Pair) → Achieves s r legs pair → IsInstant r.depart → IsInstant r.until
    → IsInstant pair.arrival
arrives s r legs pair lawful depart until = (
  omega (arith, (walk_grows s r.until (steps_of legs) (start_of r) (end_of r pair) lawful.walk).0, depart.0),
  omega (arith, walk_in_time s r.until (steps_of legs) (start_of r) (end_of r pair) lawful.in_time lawful.walk, until.1),
)

-- one leg more is written
pub text_more : (f : Stage → List ℕ) (s : Setting) (legs : List Leg) (i : ℕ) (d : Leg) (p q : Position) (out next all : List ℕ) → i < length legs
    → q ≡ position_after s p (get_or legs i d) → next ≡ out ++ f (record { number = i + 1; from = p; leg = get_or legs i d })
    → out ++ flat_map f (stages_from s (i + 1) p (drop i legs)) ≡ all
    → next ++ flat_map f (stages_from s (i + 1 + 1) q (drop (i + 1) legs)) ≡ all
text_more f s legs i d p q out next all low q-is next-is so_far =
    let leg : Leg = get_or legs i d in
    let here : Stage = record { number = i + 1; from = p; leg = leg } in
    let rest = flat_map f (stages_from s (suc (i + 1)) (position_after s p leg) (drop (i + 1) legs)) in
    let up : i + 1 + 1 ≡ suc (i + 1) = omega arith in
    ap (λ (t : List ℕ). t ++ flat_map f (stages_from s (i + 1 + 1) q (drop (i + 1) legs))) next-is
    ∙ ap (λ (x : Position). (out ++ f here) ++ flat_map f (stages_from s (i + 1 + 1) x (drop (i + 1) legs))) q-is
    ∙ ap (λ (n : ℕ). (out ++ f here) ++ flat_map f (stages_from s n (position_after s p leg) (drop (i + 1) legs))) up
    ∙ append_assoc out (f here) rest
    ∙ ap (λ (xs : List Leg). out ++ flat_map f (stages_from s (i + 1) p xs)) (sym (drop_more legs i d low))
    ∙ so_far

-- the legs behind one leg lead on
pub lead_more : (s : Setting) (until : ℕ) (legs : List Leg) (i : ℕ) (d : Leg) (p q end : Position) → i < length legs
    → q ≡ position_after s p (get_or legs i d) → Lead s until (drop i legs) p end → Lead s until (drop (i + 1) legs) q end
lead_more s until legs i d p q end low q-is lead =
    let leg : Leg = get_or legs i d in
    let here : Lead s until (leg ∷ drop (i + 1) legs) p end = subst (λ (xs : List Leg). Lead s until xs p end) (drop_more legs i d low) lead in
    record {
      no_empty_wait = here.no_empty_wait.1;
      walk = subst (λ (x : Position). Walks s until (steps_of (drop (i + 1) legs)) x end) (sym q-is)
          (walk_after s until leg (steps_of (drop (i + 1) legs)) p end here.walk);
    }

-- the next leg can be travelled
pub good_next : (s : Setting) (until : ℕ) (legs : List Leg) (i : ℕ) (d : Leg) (p end : Position) → i < length legs
    → Lead s until (drop i legs) p end → first_instant ≤ p.minute → end.minute ≤ last_instant → end.cost < 2 ^ 64
    → IsPassable s p (get_or legs i d)
good_next s until legs i d p end low lead =
    good_first s until (get_or legs i d) (drop (i + 1) legs) p end (subst (λ (xs : List Leg). Lead s until xs p end) (drop_more legs i d low) lead)

-- the same of the legs of a route
pub passable_next : (s : Setting) (r : Request) (legs : List Leg) (pair : Pair) (i : ℕ) (d : Leg) (p : Position) → Achieves s r legs pair
    → IsInstant r.depart × IsInstant r.until → i < length legs → Lead s r.until (drop i legs) p (end_of r pair) → first_instant ≤ p.minute
    → pair.cost < 2 ^ 64 → IsPassable s p (get_or legs i d)
passable_next s r legs pair i d p lawful timed low lead early cheap =
    good_next s r.until legs i d p (end_of r pair) low lead early (arrives s r legs pair lawful timed.0 timed.1).1 cheap

-- one numbered item more is written
pub numbered_more : {A : Type 0} (f : ℕ → A → List ℕ) (xs : List A) (i : ℕ) (d : A) (out next all : List ℕ) → i < length xs
    → next ≡ out ++ f (i + 1) (get_or xs i d) → out ++ numbered_text f (i + 1) (drop i xs) ≡ all
    → next ++ numbered_text f (i + 1 + 1) (drop (i + 1) xs) ≡ all
numbered_more f xs i d out next all low next-is so_far =
    let x = get_or xs i d in
    let up : i + 1 + 1 ≡ suc (i + 1) = omega arith in
    ap (λ (t : List ℕ). t ++ numbered_text f (i + 1 + 1) (drop (i + 1) xs)) next-is
    ∙ append_assoc out (f (i + 1) x) (numbered_text f (i + 1 + 1) (drop (i + 1) xs))
    ∙ ap (λ (n : ℕ). out ++ (f (i + 1) x ++ numbered_text f n (drop (i + 1) xs))) up
    ∙ ap (λ ys. out ++ numbered_text f (i + 1) ys) (sym (drop_more xs i d low))
    ∙ so_far
