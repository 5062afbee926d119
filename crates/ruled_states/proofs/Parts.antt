-- A part that is taken of what is pending at a state's number is taken of its code.
use Rattle.std.proofs.Common.{◌≡◌, ◌⊎◌, inl, inr, ⊎_elim, ℕ, Bool, true, false, Option, Some, None, List, refl, sym, ◌∙◌, ap, subst}
use Rattle.std.specs.Prelude.{if◌then◌else◌}
use Rattle.route_base.specs.Net.{at_number}
use Rattle.route_base.specs.declared.types.NodeId.{NodeId}
use Rattle.route_base.specs.declared.types.Pair.{Pair}
use Rattle.route_base.specs.declared.types.Request.{Request}
use Rattle.route_base.specs.declared.types.Run.{Run}
use Rattle.cost_functions.specs.declared.pieces.Piece.{Piece}
use Rattle.function_merge.specs.Pruning.{IsPruned}
use Rattle.propagation.specs.Found.{cost_at}
use Rattle.propagation.specs.Inside.Invariants.{Progress, Task as PlainTask, IsWorseOrLate, point}
use Rattle.propagation.specs.Inside.Pairs.{AreBorders}
use Rattle.propagation.specs.Inside.States.{IsSplit, is_pending}
use Rattle.propagation.proofs.Splitting.{parts_are}
use Rattle.state_dominance.specs.Inside.Dominance.{Task, IsPrunable}
use Rattle.state_dominance.specs.Inside.Taking.{TakesPart}
use Rattle.ruled_states.specs.Inside.Codes.{found_by}
use Rattle.ruled_states.specs.Inside.Tables.{code_of, number_in}
use Rattle.ruled_states.specs.declared.table.Info.{Info}
use Rattle.ruled_states.proofs.Numbers.{code_with}

module _ (k : Task) (until : ℕ) (infos : List Info) (n : ℕ) (i : Info) (same : until ≡ k.latest (code_of i)) (at : at_number infos n ≡ Some i)
    (own : number_in infos (code_of i) ≡ n) (bound : k.bounds (code_of i) ≡ Some i.bound) (functions : List (List Piece)) (was now : List (List Run))
    (pairs borders : List Pair) (are : AreBorders pairs borders) (taken : ℕ → Bool) (next : Option ℕ) (whole part : ℕ → Option ℕ)
    (split : IsSplit n taken next (is_pending was) (is_pending now))
    (cuts : (t : ℕ) → whole t ≡ (if taken t then cost_at functions n t else None)) (prunes : IsPruned until borders i.bound whole part) where
  by_number : List (List Run) → Progress
  by_number sets = record { cost = cost_at functions; pending = is_pending sets; pairs = pairs }

  excused : (t x : ℕ) → IsWorseOrLate until pairs (Some i.bound) (point n t x) → IsPrunable k pairs (point (code_of i) t x)
  excused t x e = subst (λ o. IsWorseOrLate (k.latest (code_of i)) pairs o (point (code_of i) t x)) (sym bound)
      (subst (λ m. IsWorseOrLate m pairs (Some i.bound) (point (code_of i) t x)) same e)

  pub parts_by_code : TakesPart k (code_of i) part (found_by infos functions was pairs) (found_by infos functions now pairs)
  unfolding by_number
  parts_by_code =
      let here : NodeId = record { 0 = n } in
      let request : Request = record { origin = here; goal = here; depart = until; until = until } in
      let plain : PlainTask = record { setting = k.setting; request = request; bounds = λ m. Some i.bound } in
      let p = parts_are plain n i.bound borders taken next whole part (by_number was) (by_number now) refl (λ u t. refl) refl are split cuts prunes in
      record {
        cost = λ u t. refl;
        pairs = refl;
        within = λ t x is. ap (λ m. cost_at functions m t) own ∙ p.within t x is;
        pending = λ u t is. ⊎_elim
            (λ (stays : is_pending now (number_in infos u) t ≡ true). inl stays)
            (λ (gone : (number_in infos u ≡ n) × ((x : ℕ) → cost_at functions n t ≡ Some x
            → (part t ≡ Some x) ⊎ IsWorseOrLate until pairs (Some i.bound) (point n t x))). inr (
              code_with infos u n i at gone.0,
              λ x there. ⊎_elim
                  (λ (one : part t ≡ Some x). inl one)
                  (λ (e : IsWorseOrLate until pairs (Some i.bound) (point n t x)). inr (excused t x e))
                  (gone.1 x (ap (λ m. cost_at functions m t) (sym own) ∙ there)),
            ))
            (p.pending (number_in infos u) t is);
        less = λ u t is. p.less (number_in infos u) t is;
      }

-- a minute that was pending at the number, and is so no more, was so at the code
pub left_by_code : (infos : List Info) (n : ℕ) (i : Info) (taken : ℕ → Bool) (next : Option ℕ) (was now : List (List Run)) → number_in infos (code_of i) ≡ n
    → IsSplit n taken next (is_pending was) (is_pending now)
    → (t : ℕ) × (is_pending was (number_in infos (code_of i)) t ≡ true) × (is_pending now (number_in infos (code_of i)) t ≡ false)
left_by_code infos n i taken next was now own split =
    let s = split.some in
    (s.0, ap (λ m. is_pending was m s.0) own ∙ s.1, ap (λ m. is_pending now m s.0) own ∙ s.2)
