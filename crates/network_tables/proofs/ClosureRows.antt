-- The closures of one row more.
use Rattle.std.proofs.Common.{◌≡◌, ℕ, true, false, cond, eqb, List, [], ◌∷◌, ◌++◌, length, map, refl, ◌∙◌, ap}
use Rattle.std.specs.List.{filter}
use Rattle.std.proofs.lemmas.List.{map-append}
use Rattle.std.proofs.lemmas.List.Elements.{filter-append}
use Rattle.std.proofs.lemmas.List.FromFn.{length-map-range_with_len}
use Rattle.route_base.specs.declared.types.Run.{Run}
use Rattle.network_tables.specs.declared.closures.Closure.{Closure}
use Rattle.network_tables.specs.Closures.{closed_runs, runs_by_arc}

one : (c : Closure) (a : ℕ) → closed_runs (c ∷ []) a ≡ cond (eqb c.arc.0 a) (c.run ∷ []) []
one c a = elim (eqb c.arc.0 a) as (λ b. map (λ (x : Closure). x.run) (cond b (c ∷ []) []) ≡ cond b (c.run ∷ []) []) [ true ↦ refl | false ↦ refl ]

pub closed_runs-push : (cs : List Closure) (c : Closure) (a : ℕ) → closed_runs (cs ++ c ∷ []) a ≡ closed_runs cs a ++ cond (eqb c.arc.0 a) (c.run ∷ []) []
closed_runs-push cs c a =
    ap (map (λ (x : Closure). x.run)) (filter-append (λ (x : Closure). eqb x.arc.0 a) cs (c ∷ []))
    ∙ map-append (λ (x : Closure). x.run) (filter (λ (x : Closure). eqb x.arc.0 a) cs) (filter (λ (x : Closure). eqb x.arc.0 a) (c ∷ []))
    ∙ ap (λ (ys : List Run). closed_runs cs a ++ ys) (one c a)

pub length-runs_by_arc : (n : ℕ) (cs : List Closure) → length (runs_by_arc n cs) ≡ n
unfolding runs_by_arc
length-runs_by_arc n cs = length-map-range_with_len (closed_runs cs) 1 n
