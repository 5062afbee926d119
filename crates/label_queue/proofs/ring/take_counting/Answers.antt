use Rattle.std.proofs.Common.{◌≡◌, inl, inr, ⊎_elim, ℕ, List, Some, ap, subst}
use Rattle.std.specs.List.{Contains}
use Rattle.std.proofs.lemmas.List.Elements.{Contains-push_cases}
use Rattle.label_queue.proofs.ring.take_counting.Goals as goal

pub returns-then-is_key-clause-kept : goal.returns-then-is_key-clause-kept
returns-then-is_key-clause-kept c v key has = ⊎_elim
    (λ (stays : Contains c.pop.new.self.items v). inl stays)
    (λ (last : c.in-Some.v ≡ v). inr (ap (λ n. Some n) last))
    (Contains-push_cases c.pop.new.self.items c.in-Some.v v
    (subst (λ (w : List ℕ). Contains w v) c.in-Some.ensures.items (c.entries.invariant v key has)))
