-- What a state's number takes, its code takes; and a state that is added has no cost.
use Rattle.std.proofs.Common.{◌≡◌, inl, inr, ⊎_elim, ℕ, Option, Some, List, sym, ◌∙◌, ap, subst}
use Rattle.route_base.specs.Net.{at_number}
use Rattle.propagation.specs.Inside.Invariants.{point, HasIn, IsLower, IsMerged}
use Rattle.ruled_states.specs.Inside.Tables.{code_of, number_in}
use Rattle.ruled_states.specs.declared.table.Info.{Info}
use Rattle.ruled_states.proofs.Numbers.{code_with}

module _ (infos : List Info) (n : ℕ) (i : Info) (at : at_number infos n ≡ Some i) (is : number_in infos (code_of i) ≡ n) (offer : ℕ → Option ℕ)
    (old new : ℕ → ℕ → Option ℕ) (merged : IsMerged n offer old new) where
  pub merged_by_code : IsMerged (code_of i) offer (λ c t. old (number_in infos c) t) (λ c t. new (number_in infos c) t)
  merged_by_code = record {
    others = λ c t other. merged.others (number_in infos c) t (λ same. other (code_with infos c n i at same));
    kept = λ t x was. has t x (merged.kept t x (ap (λ m. old m t) (sym is) ∙ was));
    offered = λ t x one. has t x (merged.offered t x one);
    either = λ t x one. ⊎_elim
        (λ (was : old n t ≡ Some x). inl (ap (λ m. old m t) is ∙ was))
        (λ (low : (offer t ≡ Some x) × IsLower (Some x) (old n t)).
        inr (low.0, subst (λ o. IsLower (Some x) o) (ap (λ m. old m t) (sym is)) low.1))
        (merged.either t x (ap (λ m. new m t) (sym is) ∙ one));
  }
    where
      has : (t x : ℕ) → HasIn (new n) (point n t x) → HasIn (λ u. new (number_in infos (code_of i)) u) (point (code_of i) t x)
      has t x h = record { least = h.least; is = ap (λ m. new m t) is ∙ h.is; within = h.within }
