-- Single-step legs that are read from their end.
use Rattle.std.proofs.Common.{◌≡◌, ◌≢◌, ℕ, suc, ◌-◌, ◌≤◌, List, [], ◌∷◌, ◌++◌, length, get_or, drop, reverse, refl, sym, ◌∙◌, ap, arith}
use Rattle.std.proofs.lemmas.List.{length-replicate, reverse-append}
use Rattle.std.proofs.Math.Seq.{drop-cons}
use Rattle.route_base.specs.Itinerary.{wait}
use Rattle.route_base.specs.Legs.{steps_of, steps_of_leg}
use Rattle.route_base.specs.declared.types.Leg.{Leg}
use Rattle.route_base.specs.declared.types.Leg.TheVariants.{Drive, Wait}
use Rattle.route_base.proofs.LegLists.{steps_of-push}
use Rattle.plain_search.specs.Inside.Predecessors.{IsSingle}

pub length-single : (leg : Leg) → IsSingle leg → length (steps_of_leg leg) ≡ 1
length-single (Drive a) single = refl
length-single (Wait k) single = length-replicate k wait ∙ single

pub single_some : (leg : Leg) → IsSingle leg → leg ≢ Wait 0
single_some (Drive a) single = λ same. cc
single_some (Wait k) single = λ same. (let e : k ≡ 0 = cc in omega (arith, e, single))

-- the next leg of a list that is read from its end
pub steps-next : (back : List Leg) (left : ℕ) (leg : Leg) → 1 ≤ left → left ≤ length back → leg ≡ get_or back (left - 1) leg
    → steps_of (reverse (drop (left - 1) back)) ≡ steps_of (reverse (drop left back)) ++ steps_of_leg leg
steps-next back left leg some within is =
    let same : suc (left - 1) ≡ left = omega arith in
    let here : drop (left - 1) back ≡ leg ∷ drop left back =
    drop-cons back (left - 1) leg (omega arith) ∙ ap (λ (w : Leg). w ∷ drop (suc (left - 1)) back) (sym is)
    ∙ ap (λ (n : ℕ). leg ∷ drop n back) same in
    ap (λ (w : List Leg). steps_of (reverse w)) here ∙ ap steps_of (reverse-append (leg ∷ []) (drop left back))
    ∙ steps_of-push (reverse (drop left back)) leg
