-- A front is carried along a correspondence that keeps the order, may miss what is dominated, and adds nothing.
use Rattle.std.proofs.Common.{◌≡◌, ⊎_elim, ℕ, ◌<◌, List, map, length, get_or, sym, ◌∙◌, subst, arith}
use Rattle.std.specs.Prelude.{◌≢◌, Contains, AllPairs}
use Rattle.std.proofs.lemmas.List.{get_or-map, length-map, get_or_default}
use Rattle.front_transport.specs.ParetoFronts.{IsParetoFront}
use Rattle.front_transport.specs.Inside.Carrying.{IsPartialOrder, Carries}
use Rattle.route_base.proofs.Mapped.{mapped, unmapped, some_item}

module _ {A B : Type 0} (NoWorse Before : A → A → Type 0) (CanBe : A → Type 0) (NoWorse' Before' : B → B → Type 0) (CanBe' : B → Type 0) (f : A → B)
    (order : IsPartialOrder NoWorse) (order' : IsPartialOrder NoWorse') (carries : Carries NoWorse Before CanBe NoWorse' Before' CanBe' f) where
  -- f keeps apart what is apart
  apart : (a c : A) → CanBe a → CanBe c → f a ≡ f c → a ≡ c
  apart a c can_a can_c is = order.one a c
      (carries.tells a c can_a can_c (subst (λ (w : B). NoWorse' (f a) w) is (order'.itself (f a))))
      (carries.tells c a can_c can_a (subst (λ (w : B). NoWorse' w (f a)) is (order'.itself (f a))))

  module _ (items : List A) (front : IsParetoFront NoWorse Before CanBe items) where
    can_at : (i : ℕ) (d : A) → i < length items → CanBe (get_or items i d)
    can_at i d within = ((front.each (get_or items i d)).0 (i, within, get_or_default items i (get_or items i d) d within)).0

    in_order : AllPairs Before' (map f items)
    in_order i j d before within =
        let inside : j < length items = omega (arith, within, length-map items f) in
        let e : A = some_item items (omega (arith, inside)) in
        subst (λ (w : B). Before' w (get_or (map f items) j d)) (sym (get_or-map f items i e d (omega (arith, before, inside))))
        (subst (λ (w : B). Before' (f (get_or items i e)) w) (sym (get_or-map f items j e d inside))
        (carries.before (get_or items i e) (get_or items j e) (can_at i e (omega (arith, before, inside))) (can_at j e inside)
        (front.ordered i j e before inside)))

    best_there : (a : A) → Contains items a → (q : B) → CanBe' q → NoWorse' q (f a) × (q ≢ f a) → ⊥
    best_there a one q can worse =
        let here = (front.each a).0 one in
        let found = carries.covers q can in
        here.1 found.0 found.1 (
          carries.tells found.0 a found.1 here.0 (order'.joined (f found.0) q (f a) found.2 worse.0),
          λ same. worse.1 (order'.one q (f a) worse.0 (subst (λ (w : A). NoWorse' (f w) q) same found.2)),
        )

    found_here : (b : B) → CanBe' b → ((q : B) → CanBe' q → NoWorse' q b × (q ≢ b) → ⊥) → Contains (map f items) b
    found_here b can best =
        let found = carries.covers b can in
        ⊎_elim
        (λ (same : f found.0 ≡ b). subst (λ (w : B). Contains (map f items) w) same (mapped f items found.0
        ((front.each found.0).1 (
          found.1,
          λ q can_q worse. best (f q) (carries.sound q can_q) (
            subst (λ (w : B). NoWorse' (f q) w) same (carries.keeps q found.0 can_q found.1 worse.0),
            λ is. worse.1 (apart q found.0 can_q found.1 (is ∙ sym same)),
          ),
        ))))
        (λ (other : f found.0 ≢ b). absurd (best (f found.0) (carries.sound found.0 found.1) (found.2, other)))
        (order'.same (f found.0) b)

    pub carried : IsParetoFront NoWorse' Before' CanBe' (map f items)
    carried = record {
      ordered = in_order;
      each = λ b. (
        (λ one. let a = unmapped f items b one in (
          subst CanBe' a.2 (carries.sound a.0 ((front.each a.0).0 a.1).0),
          λ q can worse. best_there a.0 a.1 q can (subst (λ (w : B). NoWorse' q w × (q ≢ w)) (sym a.2) worse),
        )),
        (λ best. found_here b best.0 best.1),
      );
    }
