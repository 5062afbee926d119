-- There is one list of right routes.
use Rattle.std.proofs.Common.{◌≡◌, ℕ, zero, suc, ◌<◌, List, [], ◌∷◌, ◌++◌, replicate, refl, sym, ◌∙◌, ap, subst, arith}
use Rattle.std.specs.Prelude.{⊤, All}
use Rattle.route_base.specs.Setting.{Setting}
use Rattle.route_base.specs.Itinerary.{Step, drive, wait}
use Rattle.route_base.specs.Legs.{steps_of, HasNoEmptyWait, HasNoNeighbouringWaits, DrivesFirst, Achieves}
use Rattle.route_base.specs.FirstItinerary.{IsFirst}
use Rattle.route_base.specs.Front.{IsFront, IsRight, pairs_of}
use Rattle.route_base.specs.declared.types.ArcId.{ArcId}
use Rattle.route_base.specs.declared.types.Leg.{Leg}
use Rattle.route_base.specs.declared.types.Leg.TheVariants.{Drive, Wait}
use Rattle.route_base.specs.declared.types.Pair.{Pair}
use Rattle.route_base.specs.declared.types.Request.{Request}
use Rattle.route_base.specs.declared.types.Route.{Route}
use Rattle.route_base.proofs.GoingBack.{first_is_one}
use Rattle.route_base.proofs.Lists.{same_tail}
use Rattle.route_base.proofs.OrderedLists.{one_list}

-- the first step is no wait
abbrev IsNoWait : List Step → Type 0
IsNoWait [] = ⊤
IsNoWait (wait ∷ xs) = ⊥
IsNoWait (drive a ∷ xs) = ⊤

-- waits before other steps are as many
same_waits : (j k : ℕ) (xs ys : List Step) → IsNoWait xs → IsNoWait ys → replicate j wait ++ xs ≡ replicate k wait ++ ys → (j ≡ k) × (xs ≡ ys)
same_waits zero zero xs ys x y same = (refl, same)
same_waits zero (suc k) [] ys x y same = absurd (cc)
same_waits zero (suc k) (wait ∷ xs) ys x y same = absurd x
same_waits zero (suc k) (drive a ∷ xs) ys x y same = absurd (cc)
same_waits (suc j) zero xs [] x y same = absurd (cc)
same_waits (suc j) zero xs (wait ∷ ys) x y same = absurd y
same_waits (suc j) zero xs (drive a ∷ ys) x y same = absurd (cc)
same_waits (suc j) (suc k) xs ys x y same =
    let rest = same_waits j k xs ys x y (same_tail same) in
    (ap suc rest.0, rest.1)

-- legs that begin with no wait are steps that do
no_wait_first : (legs : List Leg) → DrivesFirst legs → IsNoWait (steps_of legs)
no_wait_first [] first = tt
no_wait_first (Drive a ∷ legs) first = tt
no_wait_first (Wait k ∷ legs) first = absurd (first k refl)

-- legs that are no empty waits, without neighbouring waits, are told by their steps
pub same_legs : (xs ys : List Leg) → HasNoEmptyWait xs → HasNoEmptyWait ys → HasNoNeighbouringWaits xs → HasNoNeighbouringWaits ys
    → steps_of xs ≡ steps_of ys → xs ≡ ys
same_legs [] [] some_x some_y apart_x apart_y same = refl
same_legs [] (Drive b ∷ ys) some_x some_y apart_x apart_y same = absurd (cc)
same_legs [] (Wait zero ∷ ys) some_x some_y apart_x apart_y same = absurd (some_y.0 refl)
same_legs [] (Wait (suc k) ∷ ys) some_x some_y apart_x apart_y same = absurd (cc)
same_legs (Drive a ∷ xs) [] some_x some_y apart_x apart_y same = absurd (cc)
same_legs (Wait zero ∷ xs) [] some_x some_y apart_x apart_y same = absurd (some_x.0 refl)
same_legs (Wait (suc j) ∷ xs) [] some_x some_y apart_x apart_y same = absurd (cc)
same_legs (Drive a ∷ xs) (Drive b ∷ ys) some_x some_y apart_x apart_y same =
    let number : a.0 ≡ b.0 = cc in
    let arc : a ≡ b = ap (λ (n : ℕ). record { 0 = n }) number in
    let rest = same_legs xs ys some_x.1 some_y.1 apart_x apart_y (same_tail same) in
    ap (λ (c : ArcId). Drive c ∷ xs) arc ∙ ap (λ (w : List Leg). Drive b ∷ w) rest
same_legs (Drive a ∷ xs) (Wait zero ∷ ys) some_x some_y apart_x apart_y same = absurd (some_y.0 refl)
same_legs (Drive a ∷ xs) (Wait (suc k) ∷ ys) some_x some_y apart_x apart_y same = absurd (cc)
same_legs (Wait zero ∷ xs) (Drive b ∷ ys) some_x some_y apart_x apart_y same = absurd (some_x.0 refl)
same_legs (Wait (suc j) ∷ xs) (Drive b ∷ ys) some_x some_y apart_x apart_y same = absurd (cc)
same_legs (Wait j ∷ xs) (Wait k ∷ ys) some_x some_y apart_x apart_y same =
    let waits = same_waits j k (steps_of xs) (steps_of ys) (no_wait_first xs apart_x.0) (no_wait_first ys apart_y.0) same in
    let rest = same_legs xs ys some_x.1 some_y.1 apart_x.1 apart_y.1 waits.1 in
    ap (λ (n : ℕ). Wait n ∷ xs) waits.0 ∙ ap (λ (w : List Leg). Wait k ∷ w) rest

abbrev Rise : Pair → Pair → Type 0
Rise p q = p.arrival < q.arrival

module _ (s : Setting) (r : Request) where
  -- two fronts are one
  pub one_front : (ps qs : List Pair) → IsFront s r ps → IsFront s r qs → ps ≡ qs
  one_front ps qs front_p front_q =
      one_list Rise (λ p q before after. omega (arith, before, after)) ps qs front_p.rising front_q.rising
      (λ p one. (front_q.each p).1 ((front_p.each p).0 one)) (λ p one. (front_p.each p).1 ((front_q.each p).0 one))

  abbrev IsRightRoute : Route → Type 0
  IsRightRoute x = (Achieves s r x.legs x.pair × HasNoNeighbouringWaits x.legs) × IsFirst s r x.legs x.pair

  same_route : (x y : Route) → IsRightRoute x → IsRightRoute y → x.pair ≡ y.pair → x ≡ y
  same_route x y right_x right_y pair =
      let achieved : Achieves s r y.legs x.pair = subst (λ (p : Pair). Achieves s r y.legs p) (sym pair) right_y.0.0 in
      let first : IsFirst s r y.legs x.pair = subst (λ (p : Pair). IsFirst s r y.legs p) (sym pair) right_y.1 in
      let steps = first_is_one s r x.pair x.legs y.legs right_x.0.0 achieved right_x.1 first in
      let legs = same_legs x.legs y.legs right_x.0.0.no_empty_wait right_y.0.0.no_empty_wait right_x.0.1 right_y.0.1 steps in
      λ i. record { pair = pair i; legs = legs i }

  same_routes : (xs ys : List Route) → All IsRightRoute xs → All IsRightRoute ys → pairs_of xs ≡ pairs_of ys → xs ≡ ys
  same_routes [] [] right_x right_y pairs = refl
  same_routes [] (y ∷ ys) right_x right_y pairs = absurd (cc)
  same_routes (x ∷ xs) [] right_x right_y pairs = absurd (cc)
  same_routes (x ∷ xs) (y ∷ ys) right_x right_y pairs =
      let pair : x.pair ≡ y.pair = cc in
      let first = same_route x y (right_x 0 x (omega arith)) (right_y 0 y (omega arith)) pair in
      let rest = same_routes xs ys (λ k d within. right_x (suc k) d (omega (arith, within))) (λ k d within. right_y (suc k) d (omega (arith, within)))
      (same_tail pairs) in
      λ i. first i ∷ rest i

  -- two lists of right routes are one
  pub one_answer : (xs ys : List Route) → IsRight s r xs → IsRight s r ys → xs ≡ ys
  one_answer xs ys right_x right_y =
      same_routes xs ys (λ k d within. (right_x.legs k d within, right_x.first k d within)) (λ k d within. (right_y.legs k d within, right_y.first k d within))
      (one_front (pairs_of xs) (pairs_of ys) right_x.front right_y.front)
