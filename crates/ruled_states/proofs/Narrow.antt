-- What no better state of the node cuts is what isn't dominated, by codes.
use Rattle.std.proofs.Common.{◌≡◌, inl, inr, ⊎_elim, ℕ, ◌*◌, ◌/◌, ◌%◌, ◌<◌, ◌≤◌, ◌&&◌, eqb, Bool, true, false, Option, Some, List, refl, sym, ◌∙◌, ap, subst, arith}
use Rattle.std.specs.Prelude.{Contains}
use Rattle.std.proofs.lemmas.Bool.{eqb-true, eq-eqb, cases_eq, and_from}
use Rattle.std.proofs.lemmas.Nat.{div-mul-add, mod-mul-add, div-add-mod'}
use Rattle.route_base.specs.Setting.{Setting}
use Rattle.route_base.specs.declared.types.Bound.{Bound}
use Rattle.route_base.specs.declared.types.Pair.{Pair}
use Rattle.route_base.specs.declared.types.Run.{Run}
use Rattle.cost_functions.specs.declared.pieces.Piece.{Piece}
use Rattle.propagation.specs.Found.{cost_at}
use Rattle.propagation.specs.Inside.Invariants.{point}
use Rattle.state_dominance.specs.Inside.Dominance.{IsDominated}
use Rattle.state_dominance.specs.Inside.Product.{Ruler, IsSimulating, code, task_by_latest}
use Rattle.state_dominance.specs.Inside.Taking.{IsNarrowed}
use Rattle.ruled_states.specs.Inside.Codes.{base, found_by, HaveSmallNodes}
use Rattle.ruled_states.specs.Inside.Cuts.{IsCutAt, AreCut}
use Rattle.ruled_states.specs.Inside.Tables.{IsStateOf, ArePlacesOf, number_in}
use Rattle.ruled_states.specs.declared.table.Info.{Info}
use Rattle.ruled_states.specs.declared.table.Place.{Place}
use Rattle.ruled_states.proofs.Numbers.{number_of_code, state_at}

two_parts : (a b : Bool) → (a && b) ≡ true → (a ≡ true) × (b ≡ true)
two_parts true b is = (refl, is)
two_parts false b is = absurd (cc)

module _ (s : Setting) (r : Ruler) (origin goal depart until : ℕ) (bound : ℕ → ℕ → Option Bound) (latest : ℕ → ℕ)
    (sim : IsSimulating r) (infos : List Info) (functions : List (List Piece)) (pending : List (List Run)) (pairs : List Pair) (small : HaveSmallNodes infos)
    (distinct : (v k n m : ℕ) → IsStateOf infos v k n → IsStateOf infos v k m → n ≡ m)
    (v k : ℕ) (row : List Place) (node : v < base) (places : ArePlacesOf infos v row) (wide narrow : ℕ → Option ℕ)
    (cut : AreCut r functions k row wide narrow) where
  clear_of : (t x : ℕ) → narrow t ≡ Some x
      → IsDominated (task_by_latest s r base origin goal depart until bound latest) (found_by infos functions pending pairs) (point (code base v k) t x) → ⊥
  clear_of t x is d =
      let c : ℕ = d.node in
      let own : ℕ = code base v k in
      let parts = two_parts (eqb (c % base) (own % base)) (r.no_worse (c / base) (own / base)) d.better in
      let same : c % base ≡ v = eqb-true (c % base) (own % base) parts.0 ∙ mod-mul-add k base v node in
      let state : own / base ≡ k = div-mul-add k base v node in
      let better : r.no_worse (c / base) k ≡ true = subst (λ n. r.no_worse (c / base) n ≡ true) state parts.1 in
      let there = state_at infos small v functions c t d.known.least (number_in infos c) refl d.known.is same in
      let p = places.full (c / base) (number_in infos c) there in
      cut.clear p.0 p.1 t x is (record {
        other = λ equal. (let q : c / base ≡ k = sym p.2 ∙ equal in
            let whole = div-add-mod' c base in
            let scaled = ap (λ n. n * base) q in
            omega (arith, d.other, whole, scaled, same));
        better = subst (λ n. r.no_worse n k ≡ true) (sym p.2) better;
        cost = d.known.least;
        known = ap (λ n. cost_at functions n t) p.3 ∙ d.known.is;
        within = d.known.within;
      })

  dominated_by : (p : Place) (t x : ℕ) → Contains row p → IsCutAt r functions k p t x
      → IsDominated (task_by_latest s r base origin goal depart until bound latest) (found_by infos functions pending pairs) (point (code base v k) t x)
  dominated_by p t x one at =
      let le = sim.low p.state k at.better in
      let less : p.state < k = by p.state k le at.other in
      record {
        node = code base v p.state;
        better = and_from (eqb (code base v p.state % base) (code base v k % base)) (r.no_worse (code base v p.state / base) (code base v k / base))
            (eq-eqb (code base v p.state % base) (code base v k % base) (mod-mul-add p.state base v node ∙ sym (mod-mul-add k base v node)))
            (subst (λ n. r.no_worse n (code base v k / base) ≡ true) (sym (div-mul-add p.state base v node))
            (subst (λ n. r.no_worse p.state n ≡ true) (sym (div-mul-add k base v node)) at.better));
        other = omega (arith, less);
        known = record {
          least = at.cost;
          is = ap (λ n. cost_at functions n t) (number_of_code infos small distinct v p.state p.number node (places.sound p one)) ∙ at.known;
          within = at.within;
        };
      }
    where
      by : (a b : ℕ) → a ≤ b → (a ≡ b → ⊥) → a < b
      by a b le other = ⊎_elim
          (λ (same : a ≡ b). absurd (other same))
          (λ (apart : a ≡ b → ⊥). omega (arith, le, apart))
          (cases_eq a b)

  pub narrow_by_codes : IsNarrowed (task_by_latest s r base origin goal depart until bound latest) (found_by infos functions pending pairs) (code base v k) wide narrow
  narrow_by_codes = record {
    kept = cut.kept;
    clear = clear_of;
    left = λ t x is. ⊎_elim
        (λ (stays : narrow t ≡ Some x). inl stays)
        (λ (at : (p : Place) × Contains row p × IsCutAt r functions k p t x). inr (dominated_by at.0 t x at.1 at.2))
        (cut.left t x is);
  }
