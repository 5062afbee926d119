-- How the floor rises to the least key.
use Rattle.std.proofs.Common.{◌≡◌, ⊎_elim, ℕ, ◌<◌, Option, Some, None, List, refl, sym, ◌∙◌, ap, subst, arith}
use Rattle.std.proofs.lemmas.Bool.{cases_eq}
use Rattle.label_queue.specs.Keys.{key_at}
use Rattle.label_queue.specs.Inside.Rings.{HasEntry, TakesEntry, PassesFloor, HoldsKeys, LeavesLeast}
use Rattle.label_queue.specs.declared.ring.Ring.{Ring}

module _ (old mid : Ring) (keys : List (Option ℕ)) (holds : HoldsKeys old keys) where
  -- no key is the floor where no entry counts there
  pub above_floor : TakesEntry old mid keys None → (v key : ℕ) → key_at keys v ≡ Some key → old.floor < key
  above_floor takes v key is = ⊎_elim
      (λ (same : key ≡ old.floor). absurd (takes.none refl v (is ∙ ap (λ n. Some n) same)
      (subst (λ n. HasEntry old v n) same (holds.entries v key is))))
      (λ (other : key ≡ old.floor → ⊥). omega (arith, other, (holds.ahead v key is).0))
      (cases_eq key old.floor)

  pub passed : TakesEntry old mid keys None → (new : Ring) → PassesFloor mid new → HoldsKeys new keys
  passed takes new passes = record {
    place = passes.place;
    ahead = λ v key is. (
      omega (arith, above_floor takes v key is, passes.floor, takes.floor),
      omega (arith, (holds.ahead v key is).1, passes.floor, takes.floor, passes.span, takes.span),
    );
    real = holds.real;
    entries = λ v key is. passes.entries v key (omega (arith, above_floor takes v key is, takes.floor))
        (takes.entries v key (holds.ahead v key is) is (λ none. cc) (holds.entries v key is));
  }

  pub left_least : (v : ℕ) → TakesEntry old mid keys (Some v) → LeavesLeast old mid keys v
  left_least v takes = record {
    place = omega (arith, takes.place, takes.span, holds.place);
    span = takes.span;
    was = takes.counts v refl ∙ ap (λ n. Some n) (sym takes.floor);
    ahead = λ w key is. let was = holds.ahead w key is in (omega (arith, was.0, takes.floor), omega (arith, was.1, takes.floor, takes.span));
    entries = λ w key is other. takes.entries w key (holds.ahead w key is) is (λ same. let e : v ≡ w = cc in other (sym e)) (holds.entries w key is);
  }
