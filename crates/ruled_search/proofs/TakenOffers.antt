-- A write to the state of a number is the taking of an offer by its code.
use Rattle.std.proofs.Common.{◌≡◌, inl, inr, ⊎_elim, ℕ, ◌≤◌, ◌<◌, Bool}
use Rattle.std.proofs.Common.{true, false, Option, Some, None, List, refl, sym, ◌∙◌, ap, subst, arith}
use Rattle.std.specs.Prelude.{Contains, ◌||◌, ◌^◌}
use Rattle.std.proofs.lemmas.Bool.{cases_eq, cases_lt, lt-ltb, le-ltb, or_cases, or_left, or_right}
use Rattle.route_base.specs.Front.{RiseAndFall}
use Rattle.route_base.specs.Net.{at_number}
use Rattle.route_base.specs.Relaxing.{HasPair}
use Rattle.function_merge.specs.Least.{least_of, is_better}
use Rattle.propagation.specs.Inside.Invariants.{IsLower, Progress}
use Rattle.propagation.specs.Inside.States.{IsAwaited, IsLowered}
use Rattle.propagation.specs.Inside.Pairs.{TakesPairs}
use Rattle.propagation.proofs.Taking.{merged_of}
use Rattle.state_dominance.specs.Inside.Dominance.{Task}
use Rattle.state_dominance.specs.Inside.Product.{code}
use Rattle.state_dominance.specs.Inside.Taking.{TakesOffer}
use Rattle.ruled_states.specs.Inside.Tables.{IsStateOf, code_of, number_in}
use Rattle.ruled_states.specs.declared.table.Info.{Info}
use Rattle.ruled_states.proofs.Numbers.{code_with, number_of_code}
use Rattle.ruled_search.specs.Inside.Steps.{IsAlike}

lower_true : (a b : Option ℕ) → IsLower b a → is_better a b ≡ true
lower_true a None low = absurd low
lower_true None (Some y) low = refl
lower_true (Some x) (Some y) low = lt-ltb y x low

true_lower : (a b : Option ℕ) → is_better a b ≡ true → IsLower (least_of a b) a
true_lower a None low = cc
true_lower None (Some y) low = tt
true_lower (Some x) (Some y) low = ⊎_elim
    (λ (lt : y < x). omega (arith, lt))
    (λ (le : x ≤ y). let bad : true ≡ false = sym low ∙ le-ltb y x le in cc)
    (cases_lt y x)

-- a state's number is that of its code, and no other code has it
module _ (infos : List Info) (n : ℕ) (i : Info) (at : at_number infos n ≡ Some i) where
  other_number : (c : ℕ) → (c ≡ code_of i → ⊥) → number_in infos c ≡ n → ⊥
  other_number c other same = other (code_with infos c n i at same)

  module _ (is : number_in infos (code_of i) ≡ n) where
    pub lowered_by_code : (offer : ℕ → Option ℕ) (better : ℕ → Bool) (old new : ℕ → ℕ → Option ℕ) → IsLowered n offer better old new
        → IsLowered (code_of i) offer better (λ c t. old (number_in infos c) t) (λ c t. new (number_in infos c) t)
    lowered_by_code offer better old new low = record {
      here = λ t. ap (λ m. new m t) is ∙ low.here t ∙ ap (λ m. least_of (old m t) (offer t)) (sym is);
      others = λ c t other. low.others (number_in infos c) t (other_number c other);
      improved = λ t. low.improved t ∙ ap (λ m. is_better (old m t) (offer t)) (sym is);
    }

    pub awaited_by_code : (more : ℕ → Bool) (old new : ℕ → ℕ → Bool) → IsAwaited n more old new
        → IsAwaited (code_of i) more (λ c t. old (number_in infos c) t) (λ c t. new (number_in infos c) t)
    awaited_by_code more old new awaited = record {
      here = λ t. ap (λ m. new m t) is ∙ awaited.here t ∙ ap (λ m. old m t || more t) (sym is);
      others = λ c t other. awaited.others (number_in infos c) t (other_number c other);
    }

-- what a number takes, its code takes
module _ (infos : List Info) (v k n : ℕ) (is : IsStateOf infos v k n) (small : (m : ℕ) (j : Info) → at_number infos m ≡ Some j → j.node.0 < 2 ^ 64)
    (distinct : (v k n m : ℕ) → IsStateOf infos v k n → IsStateOf infos v k m → n ≡ m) where
  own_code : code_of is.info ≡ code (2 ^ 64) v k
  own_code = ap (λ w. code (2 ^ 64) w is.info.state) is.node ∙ ap (λ w. code (2 ^ 64) v w) is.state

  pub code_number : number_in infos (code (2 ^ 64) v k) ≡ n
  code_number = number_of_code infos small distinct v k n (subst (λ w. w < 2 ^ 64) is.node (small n is.info is.at)) is

  own_number : number_in infos (code_of is.info) ≡ n
  own_number = ap (number_in infos) own_code ∙ code_number

  pub lowered_at : (offer : ℕ → Option ℕ) (better : ℕ → Bool) (old new : ℕ → ℕ → Option ℕ) → IsLowered n offer better old new
      → IsLowered (code (2 ^ 64) v k) offer better (λ c t. old (number_in infos c) t) (λ c t. new (number_in infos c) t)
  lowered_at offer better old new low =
      subst (λ h. IsLowered h offer better (λ c t. old (number_in infos c) t) (λ c t. new (number_in infos c) t)) own_code
      (lowered_by_code infos n is.info is.at own_number offer better old new low)

  pub awaited_at : (more : ℕ → Bool) (old new : ℕ → ℕ → Bool) → IsAwaited n more old new
      → IsAwaited (code (2 ^ 64) v k) more (λ c t. old (number_in infos c) t) (λ c t. new (number_in infos c) t)
  awaited_at more old new awaited =
      subst (λ h. IsAwaited h more (λ c t. old (number_in infos c) t) (λ c t. new (number_in infos c) t)) own_code
      (awaited_by_code infos n is.info is.at own_number more old new awaited)

module _ (k : Task) (h : ℕ) (offer : ℕ → Option ℕ) (better : ℕ → Bool) (old new : Progress) where
  pub takes_goal : k.goal h ≡ true → IsLowered h offer better old.cost new.cost → TakesPairs offer old.pairs new.pairs
      → ((v t : ℕ) → new.pending v t ≡ old.pending v t) → TakesOffer k h offer old new
  takes_goal goal low pairs same = record {
    merged = merged_of h offer better old.cost new.cost low;
    stays = λ v t is. same v t ∙ is;
    awaits = λ other t x is lower. let bad : true ≡ false = sym goal ∙ other in cc;
    cause = λ v t is. inl (sym (same v t) ∙ is);
    pairs = pairs.kept;
    trade = pairs.trade;
    each = λ p one. ⊎_elim (λ (was : Contains old.pairs p). inl was) (λ (n : offer p.arrival ≡ Some p.cost). inr (goal, n)) (pairs.each p one);
    matched = λ t x at is. pairs.here t x is;
  }

  pub takes_other : k.goal h ≡ false → IsLowered h offer better old.cost new.cost → IsAwaited h better old.pending new.pending
      → new.pairs ≡ old.pairs → RiseAndFall old.pairs → TakesOffer k h offer old new
  takes_other other low awaited same trade = record {
    merged = merged_of h offer better old.cost new.cost low;
    stays = λ v t is. ⊎_elim
        (λ (here : v ≡ h). subst (λ w. new.pending w t ≡ true) (sym here)
        (awaited.here t ∙ or_left (old.pending h t) (better t) (subst (λ w. old.pending w t ≡ true) here is)))
        (λ (ne : v ≡ h → ⊥). awaited.others v t ne ∙ is)
        (cases_eq v h);
    awaits = λ no t x is lower. awaited.here t
        ∙ or_right (old.pending h t) (better t) (low.improved t ∙ lower_true (old.cost h t) (offer t) (subst (λ o. IsLower o (old.cost h t)) (sym is) lower));
    cause = λ v t is. ⊎_elim
        (λ (here : v ≡ h). ⊎_elim
        (λ (was : old.pending h t ≡ true). inl (subst (λ w. old.pending w t ≡ true) (sym here) was))
        (λ (b : better t ≡ true). inr (
          here,
          subst (λ o. IsLower o (old.cost h t)) (sym (low.here t))
              (true_lower (old.cost h t) (offer t) (sym (low.improved t) ∙ b)),
        ))
        (or_cases (old.pending h t) (better t) (sym (awaited.here t) ∙ subst (λ w. new.pending w t ≡ true) here is)))
        (λ (ne : v ≡ h → ⊥). inl (sym (awaited.others v t ne) ∙ is))
        (cases_eq v h);
    pairs = λ t x had. subst (λ w. HasPair w t x) (sym same) had;
    trade = subst RiseAndFall (sym same) trade;
    each = λ p one. inl (subst (λ w. Contains w p) same one);
    matched = λ t x goal is. let bad : true ≡ false = sym goal ∙ other in cc;
  }

-- nothing becomes pending where nothing is better
pub nothing_awaited : (h : ℕ) (better : ℕ → Bool) (old : ℕ → ℕ → Bool) → ((t : ℕ) → better t ≡ false) → IsAwaited h better old old
nothing_awaited h better old none = record {
  here = λ t. sym (by (old h t)) ∙ ap (λ b. old h t || b) (sym (none t));
  others = λ v t ne. refl;
}
  where
    by : (b : Bool) → (b || false) ≡ b
    by false = refl
    by true = refl

-- an offer is taken by what is alike
pub takes_alike : (k : Task) (h : ℕ) (offer : ℕ → Option ℕ) (old mid new : Progress) → IsAlike old mid → TakesOffer k h offer mid new
    → TakesOffer k h offer old new
takes_alike k h offer old mid new same takes = record {
  merged = record {
    others = λ v t ne. takes.merged.others v t ne ∙ same.cost v t;
    kept = λ t x is. takes.merged.kept t x (same.cost h t ∙ is);
    offered = takes.merged.offered;
    either = λ t x is. ⊎_elim
        (λ (was : mid.cost h t ≡ Some x). inl (sym (same.cost h t) ∙ was))
        (λ (n : (offer t ≡ Some x) × IsLower (Some x) (mid.cost h t)). inr (n.0, subst (λ o. IsLower (Some x) o) (same.cost h t) n.1))
        (takes.merged.either t x is);
  };
  stays = λ v t is. takes.stays v t (same.pending v t ∙ is);
  awaits = λ goal t x is lower. takes.awaits goal t x is (subst (λ o. IsLower (Some x) o) (sym (same.cost h t)) lower);
  cause = λ v t is. ⊎_elim
      (λ (was : mid.pending v t ≡ true). inl (sym (same.pending v t) ∙ was))
      (λ (n : (v ≡ h) × IsLower (new.cost h t) (mid.cost h t)). inr (n.0, subst (λ o. IsLower (new.cost h t) o) (same.cost h t) n.1))
      (takes.cause v t is);
  pairs = λ t x had. takes.pairs t x (subst (λ w. HasPair w t x) (sym same.pairs) had);
  trade = takes.trade;
  each = λ p one. ⊎_elim
      (λ (was : Contains mid.pairs p). inl (subst (λ w. Contains w p) same.pairs was))
      (λ (n : (k.goal h ≡ true) × (offer p.arrival ≡ Some p.cost)). inr n)
      (takes.each p one);
  matched = takes.matched;
}

-- an offer of nothing changes nothing
pub takes_nothing : (k : Task) (h : ℕ) (offer : ℕ → Option ℕ) (old : Progress) → ((t : ℕ) → offer t ≡ None) → RiseAndFall old.pairs
    → TakesOffer k h offer old old
takes_nothing k h offer old none trade = record {
  merged = record {
    others = λ v t ne. refl;
    kept = λ t x is. record { least = x; is = is; within = omega arith };
    offered = λ t x is. let bad : None ≡ Some x = sym (none t) ∙ is in cc;
    either = λ t x is. inl is;
  };
  stays = λ v t is. is;
  awaits = λ goal t x is lower. let bad : None ≡ Some x = sym (none t) ∙ is in cc;
  cause = λ v t is. inl is;
  pairs = λ t x had. had;
  trade = trade;
  each = λ p one. inl one;
  matched = λ t x goal is. let bad : None ≡ Some x = sym (none t) ∙ is in cc;
}
