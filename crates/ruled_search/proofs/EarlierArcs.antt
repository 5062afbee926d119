-- Of the arcs of a node, which stand by rising number, those of smaller numbers have earlier places.
use Rattle.std.proofs.Common.{◌≡◌, ⊎_elim, ℕ, ◌≤◌, ◌<◌, Some, List, length, get_or, sym, ap, subst, arith}
use Rattle.std.specs.Prelude.{AllPairs, slice_get}
use Rattle.std.proofs.lemmas.Bool.{cases_lt}
use Rattle.std.proofs.lemmas.Option.{get_or_from_slice_get}
use Rattle.route_base.specs.Net.{Net}
use Rattle.route_base.specs.declared.types.ArcId.{ArcId}
use Rattle.node_arcs.specs.Stars.{Star, arcs_of, AreArcsAt, EndsAt}
use Rattle.node_arcs.specs.declared.links.End.{End}
use Rattle.node_arcs.proofs.StarPlaces.{ends_place}

pub earlier_place : (net : Net) (end : End) (star : Star) → AreArcsAt net end star → (v : ℕ) (arcs : List ArcId) → arcs ≡ arcs_of star v
    → (i : ℕ) (d : ArcId) → i < length arcs → (b : ℕ) → b < (get_or arcs i d).0 → EndsAt net end v b
    → (j : ℕ) × (j < i) × (slice_get arcs j ≡ Some (record { 0 = b }))
earlier_place net end star all v arcs own i d within b below ends =
    let place = ends_place net end star all v arcs own b ends in
    let there : (get_or arcs place.0 d).0 ≡ b = ap (λ (w : ArcId). w.0) (get_or_from_slice_get arcs place.0 (record { 0 = b }) d place.2) in
    ⊎_elim
    (λ (before : place.0 < i). (place.0, before, place.2))
    (λ (late : i ≤ place.0). absurd (⊎_elim
    (λ (past : i < place.0).
    let rising = subst (λ (w : List ArcId). AllPairs (λ x y. x.0 < y.0) w) (sym own) (all v).rising in
    absurd (omega (arith, below, there, rising i place.0 d past place.1)))
    (λ (here : place.0 ≤ i).
    let same : i ≡ place.0 = omega (arith, late, here) in
    absurd (omega (arith, below, there, ap (λ n. (get_or arcs n d).0) same)))
    (cases_lt i place.0)))
    (cases_lt place.0 i)
