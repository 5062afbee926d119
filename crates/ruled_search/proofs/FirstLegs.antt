-- A leg before which nothing leads to the spot: it is some waits, or one road that is the first source.
use Rattle.std.proofs.Common.{◌≡◌, ◌⊎◌, inl, inr, ⊎_elim, ℕ, ◌+◌, ◌*◌, ◌/◌, ◌%◌, ◌<◌, ◌≤◌, Option, Some, List, [], ◌∷◌, replicate, refl, sym, ◌∙◌, ap, subst, arith}
use Rattle.std.proofs.lemmas.Bool.{cases_lt}
use Rattle.std.proofs.lemmas.Nat.{div-mul-add, mod-mul-add, mod_below}
use Rattle.route_base.specs.Itinerary.{Position, Step, drive, wait, Moves, Walks}
use Rattle.route_base.specs.declared.types.ArcId.{ArcId}
use Rattle.state_dominance.specs.Inside.Dominance.{Task}
use Rattle.state_dominance.specs.Inside.Product.{road_code}
use Rattle.ruled_states.specs.Inside.Codes.{base}
use Rattle.ruled_states.specs.Inside.Tables.{code_of}
use Rattle.ruled_search.specs.Routes.{IsKindBefore, IsOneRoad, TellsLeg}
use Rattle.ruled_search.specs.Inside.Sources.{ComesOver, HasNoneBefore, HasNoRoad, HasNoRoadBefore, HasNoWait, IsFirstRest, IsFirstSource, IsLeastLeg, IsLeastOver, IsNotAfter, place_of}
use Rattle.ruled_search.specs.declared.routes.RuledLeg.{RuledLeg}
use Rattle.ruled_search.specs.declared.routes.RuledLeg.TheVariants.{Drive, Rest, Wait, Serve}
use Rattle.ruled_search.specs.declared.sources.Spot.{Spot}
use Rattle.ruled_search.proofs.StepOrder.{kinds_ordered}

-- the steps are one road, which is the first source
pub record IsFirstRoad (k : Task) (cost : ℕ → ℕ → Option ℕ) (steps : List Step) (p q : Position) : Type 0 where
  pub road : ℕ
  pub is : steps ≡ drive road ∷ []
  pub first : IsFirstSource k cost (drive road) p q

module _ (k : Task) (cost : ℕ → ℕ → Option ℕ) (spot : Spot) where
  pub rests_are_next : (leg : RuledLeg) → HasNoWait k cost spot → IsFirstRest k cost spot leg → HasNoneBefore k cost spot leg
  rests_are_next (Rest place) waits is = (waits, is)
  rests_are_next (Wait minutes) waits is = absurd is
  rests_are_next (Drive a) waits is = absurd is
  rests_are_next (Serve place) waits is = absurd is

  pub drives_are_next : (leg : RuledLeg) (a : ArcId) → leg ≡ Drive a → HasNoWait k cost spot → ((i : ℕ) → HasNoRoad k cost spot 1 i)
      → HasNoRoadBefore k cost spot 0 a.0 → HasNoneBefore k cost spot leg
  drives_are_next leg a is waits rests before = subst (λ (w : RuledLeg). HasNoneBefore k cost spot w) (sym is) (waits, rests, before)

  pub services_are_last : (leg : RuledLeg) (place : ℕ) → leg ≡ Serve place → HasNoWait k cost spot → ((i : ℕ) → HasNoRoad k cost spot 1 i)
      → ((i : ℕ) → HasNoRoad k cost spot 0 i) → HasNoRoadBefore k cost spot 2 place → HasNoneBefore k cost spot leg
  services_are_last leg place is waits rests drives before =
      subst (λ (w : RuledLeg). HasNoneBefore k cost spot w) (sym is) (waits, rests, drives, before)

  module _ (from : Spot) (small : from.info.node.0 < base) where
    first_road : (x kind a : ℕ) → x % 3 ≡ kind → x / 3 % base ≡ a → kind < 3 → ComesOver k cost (drive x) (place_of from) (place_of spot)
        → HasNoWait k cost spot → ((m i : ℕ) → IsKindBefore m kind → HasNoRoad k cost spot m i) → HasNoRoadBefore k cost spot kind a
        → IsLeastOver k cost spot kind a from → IsFirstSource k cost (drive x) (place_of from) (place_of spot)
    first_road x kind a is number low comes waits roads before least = record { comes = comes; first = first }
      where
        own : (place_of from).node / base ≡ from.info.state
        own = div-mul-add from.info.state base from.info.node.0 small

        first : (y : Step) (other : Position) → ComesOver k cost y other (place_of spot) → IsNotAfter (drive x) (place_of from).node y other.node
        first wait other c = absurd (waits other c)
        first (drive y) other c = ⊎_elim
            (λ (earlier : IsKindBefore (y % 3) kind). absurd (roads (y % 3) (y / 3 % base) earlier y other refl refl c))
            (λ (rest : (y % 3 ≡ kind) ⊎ IsKindBefore kind (y % 3)). ⊎_elim
            (λ (same : y % 3 ≡ kind). ⊎_elim
            (λ (less : y / 3 % base < a). absurd (before (y / 3 % base) less y other same refl c))
            (λ (more : a ≤ y / 3 % base). ⊎_elim
            (λ (past : a < y / 3 % base). inl (inr (is ∙ sym same, omega (arith, past, number))))
            (λ (most : y / 3 % base ≤ a).
            let here : y / 3 % base ≡ a = omega (arith, more, most) in
            let le = least y other same here c in
            inr ((is ∙ sym same, number ∙ sym here), omega (arith, le, own)))
            (cases_lt a (y / 3 % base)))
            (cases_lt (y / 3 % base) a))
            (λ (later : IsKindBefore kind (y % 3)). inl (inl (subst (λ n. IsKindBefore n (y % 3)) (sym is) later)))
            rest)
            (kinds_ordered (y % 3) kind (mod_below y 3 (omega arith)) low)

    one_road : (kind a : ℕ) (steps : List Step) → IsOneRoad base kind a steps → kind < 3 → a < base
        → Walks k.setting k.until steps (place_of from) (place_of spot) → cost (code_of from.info) from.minute ≡ Some from.cost
        → HasNoWait k cost spot → ((m i : ℕ) → IsKindBefore m kind → HasNoRoad k cost spot m i) → HasNoRoadBefore k cost spot kind a
        → IsLeastOver k cost spot kind a from → IsFirstRoad k cost steps (place_of from) (place_of spot)
    one_road kind a steps tells low number walk known waits roads before least =
        let x : ℕ = road_code base kind a tells.node tells.state in
        let half : ℕ = (tells.state * base + tells.node) * base + a in
        let one : Walks k.setting k.until (drive x ∷ []) (place_of from) (place_of spot) =
        subst (λ w. Walks k.setting k.until w (place_of from) (place_of spot)) tells.is walk in
        record {
          road = x;
          is = tells.is;
          first = first_road x kind a (mod-mul-add half 3 kind low)
              (ap (λ n. n % base) (div-mul-add half 3 kind low) ∙ mod-mul-add (tells.state * base + tells.node) base a number) low
              (record { known = known; move = subst (λ (w : Position). Moves k.setting k.until (drive x) (place_of from) w) one.2 one.1 })
              waits roads before least;
        }

    pub leg_first : (leg : RuledLeg) (steps : List Step) → TellsLeg base leg steps → Walks k.setting k.until steps (place_of from) (place_of spot)
        → cost (code_of from.info) from.minute ≡ Some from.cost → IsLeastLeg k cost spot leg from → HasNoneBefore k cost spot leg
        → ((n : ℕ) × (steps ≡ replicate n wait)) ⊎ IsFirstRoad k cost steps (place_of from) (place_of spot)
    leg_first (Wait minutes) steps tells walk known least none = inl (minutes, tells)
    leg_first (Rest place) steps tells walk known least none =
        inr (one_road 1 place steps tells (omega arith) least.0 walk known none.0 (λ m i before. absurd (kind_one m before)) none.1 least.1)
      where
        kind_one : (m : ℕ) → IsKindBefore m 1 → ⊥
        kind_one m before = ⊎_elim
            (λ (h : (m ≡ 1) × ((◌≡◌ {A = ℕ} 1 0) ⊎ (◌≡◌ {A = ℕ} 1 2))). ⊎_elim
            (λ (z : ◌≡◌ {A = ℕ} 1 0). absurd (omega (arith, z)))
            (λ (z : ◌≡◌ {A = ℕ} 1 2). absurd (omega (arith, z)))
            h.1)
            (λ (h : (m ≡ 0) × (◌≡◌ {A = ℕ} 1 2)). absurd (omega (arith, h.1)))
            before
    leg_first (Drive a) steps tells walk known least none =
        inr (one_road 0 a.0 steps tells (omega arith) least.0 walk known none.0
        (λ m i before. subst (λ n. HasNoRoad k cost spot n i) (sym (kind_zero m before)) (none.1 i)) none.2 least.1)
      where
        kind_zero : (m : ℕ) → IsKindBefore m 0 → m ≡ 1
        kind_zero m before = ⊎_elim
            (λ (h : (m ≡ 1) × ((◌≡◌ {A = ℕ} 0 0) ⊎ (◌≡◌ {A = ℕ} 0 2))). h.0)
            (λ (h : (m ≡ 0) × (◌≡◌ {A = ℕ} 0 2)). absurd (omega (arith, h.1)))
            before
    leg_first (Serve place) steps tells walk known least none =
        inr (one_road 2 place steps tells (omega arith) least.0 walk known none.0 (λ m i before. ⊎_elim
        (λ (h : (m ≡ 1) × ((◌≡◌ {A = ℕ} 2 0) ⊎ (◌≡◌ {A = ℕ} 2 2))). subst (λ n. HasNoRoad k cost spot n i) (sym h.0) (none.1 i))
        (λ (h : (m ≡ 0) × (◌≡◌ {A = ℕ} 2 2)). subst (λ n. HasNoRoad k cost spot n i) (sym h.0) (none.2 i))
        before) none.3 least.1)
