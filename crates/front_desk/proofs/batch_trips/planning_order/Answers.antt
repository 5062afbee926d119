use Rattle.std.proofs.Common.{◌≡◌, ℕ, ◌+◌, List, [], ◌∷◌, ◌++◌, map, length, ap, sym, ◌∙◌, subst, arith, Bor}
use Rattle.std.proofs.lemmas.List.{map_push}
use Rattle.std.proofs.lemmas.List.Sorted.{IsPermutation-map}
use Rattle.front_desk.specs.Inside.Sharing.{HasEachJob}
use Rattle.front_desk.proofs.JobOrders.{one_more, permuted}
use Rattle.front_desk.proofs.batch_trips.planning_order.Goals as goal

-- the numbers of keys
abbrev numbers : List (Bor (List ℕ) × ℕ × ℕ) → List ℕ
numbers keys = map (λ key. key.2) keys

pub loop-number-preserved : goal.loop-number-preserved
loop-number-preserved c =
    let keys = c.loop-number.keys.items in
    let number = c.loop-number.number in
    let same : numbers c.push.new.self.items ≡ numbers keys ++ number ∷ [] = ap numbers c.in_ok-push.ensures.items ∙ map_push (λ key. key.2) keys _ in
    subst (HasEachJob (number + 1)) (sym same) (one_more number (numbers keys) c.loop-number.invariant)

pub loop-key-init : goal.loop-key-init
loop-key-init c =
    let count : c.loop-number.number ≡ length c.args.jobs.now = omega (arith, c.loop-number-test.false, c.loop-number.auto.number-end) in
    let before : HasEachJob (length c.args.jobs.now) (numbers c.loop-number.keys.items) =
    subst (λ (n : ℕ). HasEachJob n (numbers c.loop-number.keys.items)) count c.loop-number.invariant in
    record {
      keys = subst (λ (keys : List (Bor (List ℕ) × ℕ × ℕ)). HasEachJob (length c.args.jobs.now) (numbers keys)) (sym c.deref-key-items.ensures.value)
          (permuted _ _ _ (IsPermutation-map (λ key. key.2) _ _ c.sort_unstable.ensures.permutation) before);
      numbers = c.in_ok-order.ensures.items;
    }
