-- Of the walks from the start of a request to a position there is a first one, or there is none.
use Rattle.std.proofs.Common.{◌≡◌, ◌⊎◌, inl, inr, ⊎_elim, ℕ, zero, suc, ◌+◌, ◌-◌, ◌≤◌, ◌<◌, Bool, true, false, Option, Some, None, List, [], ◌∷◌, ◌++◌}
use Rattle.std.proofs.Common.{refl, sym, ◌∙◌, ap, subst, arith}
use Rattle.std.specs.Prelude.{reverse}
use Rattle.std.proofs.lemmas.Bool.{cases_eq, cases_lt, cases_order, both_ways}
use Rattle.std.proofs.lemmas.List.{reverse-append}
use Rattle.std.proofs.lemmas.Option.{none-some, same_Some}
use Rattle.route_base.specs.Setting.{Setting, Road}
use Rattle.route_base.specs.Itinerary.{Position, Step, drive, wait, Moves, Walks}
use Rattle.route_base.specs.FirstItinerary.{IsStepBefore, ComesBefore}
use Rattle.route_base.specs.Legs.{start_of, IsReachable}
use Rattle.route_base.specs.declared.types.Request.{Request}
use Rattle.route_base.proofs.Arcs.{TakesTime}
use Rattle.route_base.proofs.GoingBack.{EndsBy, last_step}
use Rattle.route_base.proofs.Waiting.{same_position}
use Rattle.route_base.proofs.Walking.{moves_later, walk_grows, walk-push}

-- it holds, or it doesn't
abbrev pub Decided : Type 0 → Type 0
Decided A = A ⊎ (A → ⊥)

pub both : {A B : Type 0} → Decided A → Decided B → Decided (A × B)
both (inl a) (inl b) = inl (a, b)
both (inl a) (inr not) = inr (λ two. not two.1)
both (inr not) b = inr (λ two. not two.0)

le_decided : (m n : ℕ) → Decided (m ≤ n)
le_decided m n = ⊎_elim
    (λ (above : n < m). inr (λ le. omega (arith, above, le)))
    (λ (le : m ≤ n). inl le)
    (cases_lt n m)

false_decided : (b : Bool) → Decided (b ≡ false)
false_decided false = inl refl
false_decided true = inr (λ is. both_ways true is refl)

-- the least number below n of which this holds
pub record IsLeast (P : ℕ → Type 0) (n : ℕ) : Type 0 where
  pub k : ℕ
  pub below : k < n
  pub is : P k
  pub least : (j : ℕ) → j < k → P j → ⊥

pub least : (P : ℕ → Type 0) → ((k : ℕ) → Decided (P k)) → (n : ℕ) → IsLeast P n ⊎ ((j : ℕ) → j < n → P j → ⊥)
least P decided zero = inr (λ j below is. omega (arith, below))
least P decided (suc n) = ⊎_elim
    (λ (found : IsLeast P n). inl (record { k = found.k; below = omega (arith, found.below); is = found.is; least = found.least }))
    (λ (none : (j : ℕ) → j < n → P j → ⊥). ⊎_elim
    (λ (here : P n). inl (record { k = n; below = omega arith; is = here; least = none }))
    (λ (not : P n → ⊥). inr (λ j below is. ⊎_elim
    (λ (lower : j < n). none j lower is)
    (λ (upper : n ≤ j). let same : j ≡ n = omega (arith, below, upper) in not (subst P same is))
    (cases_lt j n)))
    (decided n))
    (least P decided n)

-- open at n minutes from lo on
abbrev IsOpen : (ℕ → Bool) → ℕ → ℕ → Type 0
IsOpen shut lo n = (t : ℕ) → lo ≤ t → t < lo + n → shut t ≡ false

open_decided : (shut : ℕ → Bool) (lo n : ℕ) → Decided (IsOpen shut lo n)
open_decided shut lo zero = inl (λ t from upto. absurd (omega (arith, from, upto)))
open_decided shut lo (suc n) = ⊎_elim
    (λ (all : IsOpen shut lo n). ⊎_elim
    (λ (last : shut (lo + n) ≡ false). inl (λ t from upto. ⊎_elim
    (λ (lower : t < lo + n). all t from lower)
    (λ (upper : lo + n ≤ t). let same : lo + n ≡ t = omega (arith, upper, upto) in subst (λ (u : ℕ). shut u ≡ false) same last)
    (cases_lt t (lo + n))))
    (λ (not : shut (lo + n) ≡ false → ⊥). inr (λ every. not (every (lo + n) (omega arith) (omega arith))))
    (false_decided (shut (lo + n))))
    (λ (not : IsOpen shut lo n → ⊥). inr (λ every. not (λ t from upto. every t from (omega (arith, upto)))))
    (open_decided shut lo n)

abbrev tail_of : Option Road → ℕ
tail_of None = 0
tail_of (Some road) = road.tail

abbrev minutes_by : Option Road → ℕ
minutes_by None = 0
minutes_by (Some road) = road.minutes

abbrev cost_by : Option Road → ℕ
cost_by None = 0
cost_by (Some road) = road.cost

abbrev weight_by : Option ℕ → ℕ
weight_by None = 0
weight_by (Some weight) = weight

module _ (s : Setting) (until : ℕ) where
  -- the position from which the step leads to q, if there is one
  source_to : Step → Position → Position
  source_to (drive a) q =
      record { node = tail_of (s.road a); minute = q.minute - minutes_by (s.road a); cost = q.cost - cost_by (s.road a) }
  source_to wait q = record { node = q.node; minute = q.minute - 1; cost = q.cost - weight_by (s.weight q.node) }

  source_is : (x : Step) (p q : Position) → Moves s until x p q → p ≡ source_to x q
  unfolding source_to
  source_is (drive a) p q move = same_position p _
      (sym move.tail ∙ sym (ap tail_of move.is))
      (omega (arith, move.minute, ap minutes_by move.is))
      (omega (arith, move.cost, ap cost_by move.is))
  source_is wait p q move =
      let rated = ap s.weight move.node ∙ move.rated in
      same_position p _ (sym move.node) (omega (arith, move.minute)) (omega (arith, move.cost, ap weight_by rated))

  -- the drive leads from p to q
  abbrev IsDrive : ℕ → Road → Position → Position → Type 0
  IsDrive a road p q = (road.tail ≡ p.node) × (IsOpen (s.shut a) p.minute road.minutes × ((p.minute + road.minutes ≤ until)
      × ((q.node ≡ road.head) × ((q.minute ≡ p.minute + road.minutes) × (q.cost ≡ p.cost + road.cost)))))

  -- a wait of this weight leads from p to q
  abbrev IsWait : ℕ → Position → Position → Type 0
  IsWait weight p q = (s.wait_shut p.node p.minute ≡ false) × ((p.minute + 1 ≤ until)
      × ((q.node ≡ p.node) × ((q.minute ≡ p.minute + 1) × (q.cost ≡ p.cost + weight))))

  drive_parts : (a : ℕ) (road : Road) (p q : Position) → s.road a ≡ Some road → Moves s until (drive a) p q → IsDrive a road p q
  drive_parts a road p q is move =
      let same : move.road ≡ road = same_Some move.road road (sym move.is ∙ is) in
      let minutes = ap (λ (w : Road). w.minutes) same in (
        ap (λ (w : Road). w.tail) (sym same) ∙ move.tail,
        (
          (λ t from upto. move.is_open t from (omega (arith, upto, minutes))),
          (
            omega (arith, move.in_time, minutes),
            (
              move.node ∙ ap (λ (w : Road). w.head) same,
              (omega (arith, move.minute, minutes), omega (arith, move.cost, ap (λ (w : Road). w.cost) same)),
            ),
          ),
        ),
      )

  wait_parts : (weight : ℕ) (p q : Position) → s.weight p.node ≡ Some weight → Moves s until wait p q → IsWait weight p q
  wait_parts weight p q rated move =
      let same : move.weight ≡ weight = same_Some move.weight weight (sym move.rated ∙ rated) in
      (move.is_open, (move.in_time, (move.node, (move.minute, omega (arith, move.cost, same)))))

  moves_decided : (x : Step) (p q : Position) → Decided (Moves s until x p q)
  moves_decided (drive a) p q = by (s.road a) refl
    where
      by : (o : Option Road) → s.road a ≡ o → Decided (Moves s until (drive a) p q)
      by None none = inr (λ move. none-some move.road (sym none ∙ move.is))
      by (Some road) is = ⊎_elim
          (λ (all : IsDrive a road p q). inl (record {
            road = road;
            is = is;
            tail = all.0;
            is_open = all.1.0;
            in_time = all.1.1.0;
            node = all.1.1.1.0;
            minute = all.1.1.1.1.0;
            cost = all.1.1.1.1.1;
          }))
          (λ (not : IsDrive a road p q → ⊥). inr (λ move. not (drive_parts a road p q is move)))
          (both (cases_eq road.tail p.node) (both (open_decided (s.shut a) p.minute road.minutes) (both (le_decided (p.minute + road.minutes) until)
          (both (cases_eq q.node road.head) (both (cases_eq q.minute (p.minute + road.minutes)) (cases_eq q.cost (p.cost + road.cost)))))))
  moves_decided wait p q = by (s.weight p.node) refl
    where
      by : (o : Option ℕ) → s.weight p.node ≡ o → Decided (Moves s until wait p q)
      by None none = inr (λ move. none-some move.weight (sym none ∙ move.rated))
      by (Some weight) rated = ⊎_elim
          (λ (all : IsWait weight p q). inl (record {
            weight = weight;
            rated = rated;
            is_open = all.0;
            in_time = all.1.0;
            node = all.1.1.0;
            minute = all.1.1.1.0;
            cost = all.1.1.1.1;
          }))
          (λ (not : IsWait weight p q → ⊥). inr (λ move. not (wait_parts weight p q rated move)))
          (both (false_decided (s.wait_shut p.node p.minute)) (both (le_decided (p.minute + 1) until)
          (both (cases_eq q.node p.node) (both (cases_eq q.minute (p.minute + 1)) (cases_eq q.cost (p.cost + weight))))))

position_decided : (p q : Position) → Decided (p ≡ q)
position_decided p q = ⊎_elim
    (λ (all : (p.node ≡ q.node) × ((p.minute ≡ q.minute) × (p.cost ≡ q.cost))). inl (same_position p q all.0 all.1.0 all.1.1))
    (λ (not : (p.node ≡ q.node) × ((p.minute ≡ q.minute) × (p.cost ≡ q.cost)) → ⊥).
    inr (λ same. not (ap (λ (w : Position). w.node) same, (ap (λ (w : Position). w.minute) same, ap (λ (w : Position). w.cost) same))))
    (both (cases_eq p.node q.node) (both (cases_eq p.minute q.minute) (cases_eq p.cost q.cost)))

-- steps by their order: the wait, and then the drives
abbrev step_at : ℕ → Step
step_at zero = wait
step_at (suc k) = drive (suc k)

steps_rise : (j k : ℕ) → j < k → IsStepBefore (step_at j) (step_at k)
steps_rise zero zero less = absurd (omega (arith, less))
steps_rise zero (suc k) less = tt
steps_rise (suc j) zero less = absurd (omega (arith, less))
steps_rise (suc j) (suc k) less = less

-- the roads of these numbers
abbrev pub IsNumberedUpTo : Setting → ℕ → Type 0
IsNumberedUpTo s arcs = (a : ℕ) (road : Road) → s.road a ≡ Some road → (1 ≤ a) × (a ≤ arcs)

module _ (s : Setting) (r : Request) (takes : TakesTime s) (arcs : ℕ) (numbered : IsNumberedUpTo s arcs) where
  -- the first walk from the start to a position
  pub record FirstTo (q : Position) : Type 0 where
    pub steps : List Step
    pub walk : Walks s r.until steps (start_of r) q
    pub first : (other : List Step) → Walks s r.until other (start_of r) q → (other ≡ steps) ⊎ ComesBefore (reverse steps) (reverse other)

  abbrev Found : Position → Type 0
  Found q = FirstTo q ⊎ (IsReachable s r q → ⊥)

  -- a first walk that ends by this step
  record FirstBy (q : Position) (k : ℕ) : Type 0 where
    pub source : Position
    pub move : Moves s r.until (step_at k) source q
    pub to : FirstTo source

  -- the number of a step that is lawful
  number_of : (x : Step) (p q : Position) → Moves s r.until x p q → (k : ℕ) × (k < suc arcs) × (x ≡ step_at k)
  number_of wait p q move = (0, omega arith, refl)
  number_of (drive a) p q move = by a (numbered a move.road move.is)
    where
      by : (b : ℕ) → (1 ≤ b) × (b ≤ arcs) → (k : ℕ) × (k < suc arcs) × (drive b ≡ step_at k)
      by zero within = absurd (omega (arith, within.0))
      by (suc b) within = (suc b, omega (arith, within.1), refl)

  module _ (q : Position) (earlier : (p : Position) → p.minute < q.minute → Found p) where
    by_decided : (k : ℕ) → Decided (FirstBy q k)
    by_decided k = ⊎_elim
        (λ (move : Moves s r.until (step_at k) (source_to s r.until (step_at k) q) q). ⊎_elim
        (λ (to : FirstTo (source_to s r.until (step_at k) q)). inl (record { source = source_to s r.until (step_at k) q; move = move; to = to }))
        (λ (none : IsReachable s r (source_to s r.until (step_at k) q) → ⊥). inr (λ by.
        none (subst (IsReachable s r) (source_is s r.until (step_at k) by.source q by.move) (by.to.steps, by.to.walk))))
        (earlier (source_to s r.until (step_at k) q) (moves_later s r.until takes (step_at k) (source_to s r.until (step_at k) q) q move)))
        (λ (not : Moves s r.until (step_at k) (source_to s r.until (step_at k) q) q → ⊥). inr (λ by.
        not (subst (λ (p : Position). Moves s r.until (step_at k) p q) (source_is s r.until (step_at k) by.source q by.move) by.move)))
        (moves_decided s r.until (step_at k) (source_to s r.until (step_at k) q) q)

    -- the number of a last step, by which a first walk ends, too
    record HasNumber (x : Step) : Type 0 where
      pub k : ℕ
      pub below : k < suc arcs
      pub is : x ≡ step_at k
      pub by : FirstBy q k

    -- a walk that ends by a step has a first one that does
    first_by : (other : List Step) → (by : EndsBy s r.until other (start_of r) q) → HasNumber by.step
    first_by other by =
        let number = number_of by.step by.source q by.move in
        let move = subst (λ (x : Step). Moves s r.until x by.source q) number.2 by.move in record {
          k = number.0;
          below = number.1;
          is = number.2;
          by = record {
            source = by.source;
            move = move;
            to = ⊎_elim
                (λ (to : FirstTo by.source). to)
                (λ (none : IsReachable s r by.source → ⊥). absurd (none (by.before, by.walk)))
                (earlier by.source (moves_later s r.until takes by.step by.source q by.move));
          };
        }

    module _ (away : start_of r ≡ q → ⊥) where
      by_last : (k : ℕ) → (by : FirstBy q k) → ((j : ℕ) → j < k → FirstBy q j → ⊥) → FirstTo q
      by_last k by none = record {
        steps = by.to.steps ++ step_at k ∷ [];
        walk = walk-push s r.until by.to.steps (step_at k) (start_of r) by.source q by.to.walk by.move;
        first = λ other walk. ⊎_elim
            (λ (empty : (other ≡ []) × (start_of r ≡ q)). absurd (away empty.1))
            (λ (ends : EndsBy s r.until other (start_of r) q). against other ends)
            (last_step s r.until other (start_of r) q walk);
      }
        where
          turned : (xs : List Step) (x : Step) → reverse (xs ++ x ∷ []) ≡ x ∷ reverse xs
          turned xs x = reverse-append xs (x ∷ [])

          against : (other : List Step) → EndsBy s r.until other (start_of r) q
              → (other ≡ by.to.steps ++ step_at k ∷ []) ⊎ ComesBefore (reverse (by.to.steps ++ step_at k ∷ [])) (reverse other)
          against other ends =
              let number = first_by other ends in
              let is : other ≡ ends.before ++ step_at number.k ∷ [] = ends.is ∙ ap (λ (x : Step). ends.before ++ x ∷ []) number.is in
              let behind : ComesBefore (step_at k ∷ reverse by.to.steps) (step_at number.k ∷ reverse ends.before)
              → ComesBefore (reverse (by.to.steps ++ step_at k ∷ [])) (reverse other) =
              λ before. subst (λ (w : List Step). ComesBefore w (reverse other)) (sym (turned by.to.steps (step_at k)))
              (subst (λ (w : List Step). ComesBefore (step_at k ∷ reverse by.to.steps) w)
              (sym (ap reverse is ∙ turned ends.before (step_at number.k))) before) in
              ⊎_elim
              (λ (same : k ≡ number.k).
              let step : step_at k ≡ ends.step = ap step_at same ∙ sym number.is in
              let source : ends.source ≡ by.source = source_is s r.until ends.step ends.source q ends.move
              ∙ ap (λ (x : Step). source_to s r.until x q) (sym step) ∙ sym (source_is s r.until (step_at k) by.source q by.move) in
              ⊎_elim
              (λ (steps : ends.before ≡ by.to.steps).
              inl (is ∙ ap (λ (w : List Step). w ++ step_at number.k ∷ []) steps ∙ ap (λ (n : ℕ). by.to.steps ++ step_at n ∷ []) (sym same)))
              (λ (before : ComesBefore (reverse by.to.steps) (reverse ends.before)). inr (behind (inr (ap step_at same, before))))
              (by.to.first ends.before (subst (λ (p : Position). Walks s r.until ends.before (start_of r) p) source ends.walk)))
              (λ (apart : (k < number.k) ⊎ (number.k < k)). ⊎_elim
              (λ (less : k < number.k). inr (behind (inl (steps_rise k number.k less))))
              (λ (more : number.k < k). absurd (none number.k more number.by))
              apart)
              (cases_order k number.k)

      away_found : Found q
      away_found = ⊎_elim
          (λ (one : IsLeast (FirstBy q) (suc arcs)). inl (by_last one.k one.is one.least))
          (λ (none : (j : ℕ) → j < suc arcs → FirstBy q j → ⊥). inr (λ reach. ⊎_elim
          (λ (empty : (reach.0 ≡ []) × (start_of r ≡ q)). away empty.1)
          (λ (ends : EndsBy s r.until reach.0 (start_of r) q). let one = first_by reach.0 ends in none one.k one.below one.by)
          (last_step s r.until reach.0 (start_of r) q reach.1)))
          (least (FirstBy q) by_decided (suc arcs))

    -- at the start nothing but to stay leads there
    stay : start_of r ≡ q → FirstTo q
    stay same = record {
      steps = [];
      walk = same;
      first = λ other walk. ⊎_elim
          (λ (empty : (other ≡ []) × (start_of r ≡ q)). inl empty.0)
          (λ (ends : EndsBy s r.until other (start_of r) q).
          let grows = walk_grows s r.until ends.before (start_of r) ends.source ends.walk in
          absurd (omega (
            arith,
            grows.0,
            moves_later s r.until takes ends.step ends.source q ends.move,
            ap (λ (w : Position). w.minute) same,
          )))
          (last_step s r.until other (start_of r) q walk);
    }

    one_found : Found q
    one_found = ⊎_elim (λ (same : start_of r ≡ q). inl (stay same)) (λ (away : start_of r ≡ q → ⊥). away_found away) (position_decided (start_of r) q)

  found_by : (n : ℕ) (q : Position) → q.minute ≤ n → Found q
  found_by zero q early = one_found q (λ p less. absurd (omega (arith, early, less)))
  found_by (suc n) q early = one_found q (λ p less. found_by n p (omega (arith, early, less)))

  pub found : (q : Position) → FirstTo q ⊎ (IsReachable s r q → ⊥)
  found q = found_by q.minute q (omega arith)
