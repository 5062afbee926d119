-- Drives over a way that are seen to be covered.
use Rattle.std.proofs.Common.{◌≡◌, inl, ℕ, ◌+◌, ◌/◌, ◌%◌, ◌<◌, true, Option, Some, List, refl, sym, ◌∙◌, ap, arith}
use Rattle.std.specs.Prelude.{nat_eq, ◌&&◌}
use Rattle.std.proofs.lemmas.Bool.{eq-eqb}
use Rattle.std.proofs.lemmas.Nat.{div-mul-add, mod-mul-add}
use Rattle.std.proofs.lemmas.Option.{same_Some}
use Rattle.route_base.specs.Setting.{Setting, Road}
use Rattle.route_base.specs.declared.types.Bound.{Bound}
use Rattle.cost_functions.specs.Pieces.{value_at}
use Rattle.cost_functions.specs.declared.pieces.Piece.{Piece}
use Rattle.function_merge.specs.Rejection.{IsNoBetter}
use Rattle.propagation.specs.Inside.Invariants.{Progress}
use Rattle.state_dominance.specs.Inside.Dominance.{Task, IsCovered}
use Rattle.state_dominance.specs.Inside.Product.{Ruler, code, task_by_latest}
use Rattle.ruled_search.specs.Inside.Tasks.{IsRoadRelaxed}

-- a state that is no worse makes a code that is no worse
pub worse_by_code : (s : Setting) (r : Ruler) (base origin goal depart until : ℕ) (bound : ℕ → ℕ → Option Bound) (latest : ℕ → ℕ) (v j k : ℕ)
    → v < base → r.no_worse j k ≡ true → (task_by_latest s r base origin goal depart until bound latest).no_worse (code base v j) (code base v k) ≡ true
worse_by_code s r base origin goal depart until bound latest v j k small better =
    let node : (i : ℕ) → code base v i % base ≡ v = λ i. mod-mul-add i base v small in
    let state : (i : ℕ) → code base v i / base ≡ i = λ i. div-mul-add i base v small in
    ap (λ n. nat_eq n (code base v k % base) && r.no_worse (code base v j / base) (code base v k / base)) (node j)
    ∙ ap (λ n. nat_eq v n && r.no_worse (code base v j / base) (code base v k / base)) (node k)
    ∙ ap (λ b. b && r.no_worse (code base v j / base) (code base v k / base)) (eq-eqb v v refl)
    ∙ ap (λ n. r.no_worse n (code base v k / base)) (state j)
    ∙ ap (λ n. r.no_worse j n) (state k)
    ∙ better

pub shown_covered : (k : Task) (now : Progress) (c x : ℕ) (road : Road) (part : List Piece) (node : ℕ) (own : List Piece)
    → k.setting.road x ≡ Some road → k.no_worse node road.head ≡ true → ((t : ℕ) → now.cost node t ≡ value_at own t)
    → ((t y : ℕ) → value_at part t ≡ Some y → IsNoBetter own (t + road.minutes) (y + road.cost)) → IsRoadRelaxed k now c (value_at part) x
shown_covered k now c x road part node own is better known low t y q there step =
    let same : step.road ≡ road = same_Some step.road road (sym step.is ∙ is) in
    let end = low t y there in
    let minute : q.minute ≡ t + road.minutes = step.minute ∙ ap (λ (w : Road). t + w.minutes) same in
    let cost : q.cost ≡ y + road.cost = step.cost ∙ ap (λ (w : Road). y + w.cost) same in
    let covered : IsCovered k now q = record {
      node = node;
      better = ap (k.no_worse node) (step.node ∙ ap (λ (w : Road). w.head) same) ∙ better;
      known = record { least = end.least; is = known q.minute ∙ ap (value_at own) minute ∙ end.is; within = omega (arith, end.within, cost) };
    } in
    inl covered
