use Rattle.std.proofs.Common.{◌≡◌, ⊎_elim, inl, inr, ℕ, List, ◌∷◌, [], ◌++◌, sym, ◌∙◌, subst}
use Rattle.std.specs.Prelude.{Contains}
use Rattle.std.proofs.lemmas.Bool.{cases_eq}
use Rattle.std.proofs.lemmas.List.Elements.{Contains-append_left, Contains-push, Contains-push_cases}
use Rattle.drive_states.proofs.node_queue.NodeQueue.push.Goals as goal

pub invariant_of-self-2 : goal.invariant_of-self-2
invariant_of-self-2 c u flagged =
    let was : List ℕ = c.self.inside.nodes.items in
    let v : ℕ = c.args.v in
    let items : c.push_back.new.self.items ≡ was ++ v ∷ [] = c.in_ok-push_back.ensures.items in
    subst (λ (us : List ℕ). Contains us u) (sym items)
    (⊎_elim (λ (same : u ≡ v). subst (λ (w : ℕ). Contains (was ++ v ∷ []) w) (sym same) (Contains-push was v))
    (λ (other : u ≡ v → ⊥). Contains-append_left was (v ∷ []) u (c.self.invariant u (sym (c.set_flag.ensures.others u other) ∙ flagged)))
    (cases_eq u v))

pub returns-clause-kept : goal.returns-clause-kept
returns-clause-kept c u has =
    let was : List ℕ = c.self.inside.nodes.items in
    let v : ℕ = c.args.v in
    let items : c.push_back.new.self.items ≡ was ++ v ∷ [] = c.in_ok-push_back.ensures.items in
    let before : c.args.self.now ≡ was = cc in
    subst (λ (us : List ℕ). Contains us u) (sym items)
    (Contains-append_left was (v ∷ []) u (subst (λ (us : List ℕ). Contains us u) before has))

pub returns-clause-only : goal.returns-clause-only
returns-clause-only c u has =
    let was : List ℕ = c.self.inside.nodes.items in
    let v : ℕ = c.args.v in
    let items : c.push_back.new.self.items ≡ was ++ v ∷ [] = c.in_ok-push_back.ensures.items in
    let before : was ≡ c.args.self.now = cc in
    ⊎_elim (λ (old : Contains was u). inl (subst (λ (us : List ℕ). Contains us u) before old)) (λ (new : v ≡ u). inr (sym new))
    (Contains-push_cases was v u (subst (λ (us : List ℕ). Contains us u) items has))
