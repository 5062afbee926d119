-- What takes an offer improves.
use Rattle.std.proofs.Common.{◌≡◌, inl, inr, ⊎_elim, ℕ, true, Option, sym, ◌∙◌, ap, subst, arith}
use Rattle.std.proofs.lemmas.Bool.{cases_eq}
use Rattle.route_base.specs.Relaxing.{HasWithin}
use Rattle.propagation.specs.Inside.Invariants.{IsLower, Progress}
use Rattle.state_dominance.specs.Inside.Dominance.{Task}
use Rattle.state_dominance.specs.Inside.Taking.{TakesOffer}
use Rattle.ruled_search.specs.Inside.Tasks.{Improves}

pub improves_same : (now : Progress) → Improves now now
improves_same now = record {
  less = λ p is. record { least = p.cost; is = is; within = omega arith };
  cause = λ c t is. inl is;
  pairs = λ t x had. had;
}

pub improves_by : (k : Task) (h : ℕ) (offer : ℕ → Option ℕ) (old new : Progress) → TakesOffer k h offer old new → Improves old new
improves_by k h offer old new takes = record {
  less = λ p is. ⊎_elim
      (λ (here : p.node ≡ h).
      let has = takes.merged.kept p.minute p.cost (ap (λ v. old.cost v p.minute) (sym here) ∙ is) in
      let own : HasWithin new.cost p = record { least = has.least; is = ap (λ v. new.cost v p.minute) here ∙ has.is; within = has.within } in
      own)
      (λ (other : p.node ≡ h → ⊥).
      let own : HasWithin new.cost p = record { least = p.cost; is = takes.merged.others p.node p.minute other ∙ is; within = omega arith } in
      own)
      (cases_eq p.node h);
  cause = λ c t is. ⊎_elim
      (λ (was : old.pending c t ≡ true). inl was)
      (λ (n : (c ≡ h) × IsLower (new.cost h t) (old.cost h t)). inr (subst (λ v. IsLower (new.cost v t) (old.cost v t)) (sym n.0) n.1))
      (takes.cause c t is);
  pairs = takes.pairs;
}
