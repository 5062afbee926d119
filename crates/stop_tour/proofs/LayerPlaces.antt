-- Numbers of arcs and nodes in layers.
use Rattle.std.proofs.Common.{◌≡◌, ⊎_elim, ℕ, zero, suc, ◌+◌, ◌-◌, ◌*◌, ◌/◌, ◌%◌, ◌≤◌, ◌<◌, Option, Some, List, [], ◌∷◌, length, map}
use Rattle.std.proofs.Common.{refl, sym, ◌∙◌, ap, arith, length-append}
use Rattle.std.specs.Option.{option_map}
use Rattle.std.proofs.lemmas.Bool.{cases_eq}
use Rattle.std.proofs.lemmas.List.{length-map}
use Rattle.std.proofs.lemmas.Nat.{mod-mul-add, div-mul-add}
use Rattle.route_base.specs.Net.{at_number}
use Rattle.route_base.specs.declared.types.Park.{Park}
use Rattle.route_base.specs.declared.types.TimedArc.{TimedArc}
use Rattle.route_base.proofs.Numbered.{at_number-map}
use Rattle.route_base.proofs.Logic.{map_some}
use Rattle.front_transport.proofs.Places.{at_left, at_right, at_both}
use Rattle.stop_tour.specs.Inside.Layers.{lifted, layered, copies, service, services}
use Rattle.stop_tour.specs.declared.stops.Stop.{Stop}

module _ (nodes lists last : ℕ) (arcs : List TimedArc) where
  pub length_layered : (k : ℕ) → length (layered nodes lists last arcs k) ≡ k * length arcs
  length_layered zero = omega arith
  length_layered (suc k) = omega (
    arith,
    length-append (layered nodes lists last arcs k) (map (lifted (k * nodes) ((last - k) * lists)) arcs),
    length-map arcs (lifted (k * nodes) ((last - k) * lists)),
    length_layered k,
  )

  -- an arc of a layer
  pub record IsInLayer (k x : ℕ) (arc : TimedArc) : Type 0 where
    pub j : ℕ
    pub below : j < k
    pub a : ℕ
    pub number : x ≡ j * length arcs + a
    pub base : TimedArc
    pub is : at_number arcs a ≡ Some base
    pub same : lifted (j * nodes) ((last - j) * lists) base ≡ arc

  pub in_layer : (k x : ℕ) (arc : TimedArc) → at_number (layered nodes lists last arcs k) x ≡ Some arc → IsInLayer k x arc
  in_layer zero zero arc is = absurd (cc)
  in_layer zero (suc x) arc is = absurd (cc)
  in_layer (suc k) x arc is = ⊎_elim
      (λ (early : at_number (layered nodes lists last arcs k) x ≡ Some arc).
      (let one = in_layer k x arc early in
      record { j = one.j; below = omega (arith, one.below); a = one.a; number = one.number; base = one.base; is = one.is; same = one.same }))
      (λ (behind : (i : ℕ) × (x ≡ length (layered nodes lists last arcs k) + i) × (at_number (map (lifted (k * nodes) ((last - k) * lists)) arcs) i
      ≡ Some arc)).
      (let found = map_some (at_number arcs behind.0) (lifted (k * nodes) ((last - k) * lists)) arc (sym (at_number-map (lifted (k * nodes)
      ((last - k) * lists)) arcs behind.0) ∙ behind.2) in
      record { j = k; below = omega arith; a = behind.0; number = omega (arith, behind.1, length_layered k); base = found.0; is = found.1; same = found.2 }))
      (at_both (layered nodes lists last arcs k) (map (lifted (k * nodes) ((last - k) * lists)) arcs) x arc is)

  pub layer_at : (k j a : ℕ) (base : TimedArc) → j < k → at_number arcs a ≡ Some base
      → at_number (layered nodes lists last arcs k) (j * length arcs + a) ≡ Some (lifted (j * nodes) ((last - j) * lists) base)
  layer_at zero j a base below is = absurd (omega (arith, below))
  layer_at (suc k) j a base below is = ⊎_elim
      (λ (same : j ≡ k).
      (let number : j * length arcs + a ≡ length (layered nodes lists last arcs k) + a = omega (
        arith,
        ap (λ
            (w : ℕ). w * length arcs) same,
        length_layered k,
      ) in
      ap (at_number (layered nodes lists last arcs (suc k))) number
      ∙ at_right (layered nodes lists last arcs k) (map (lifted (k * nodes) ((last - k) * lists)) arcs) a (lifted (k * nodes) ((last - k) * lists) base)
      (at_number-map (lifted (k * nodes) ((last - k) * lists)) arcs a ∙ ap (option_map (lifted (k * nodes) ((last - k) * lists))) is)
      ∙ ap (λ (w : ℕ). Some (lifted (w * nodes) ((last - w) * lists) base)) (sym same)))
      (λ (other : j ≡ k → ⊥). at_left (layered nodes lists last arcs k) (map (lifted (k * nodes) ((last - k) * lists)) arcs) (j * length arcs + a) (lifted
      (j * nodes) ((last - j) * lists) base)
      (layer_at k j a base (omega (arith, below, other)) is))
      (cases_eq j k)

pub length_copies : (parks : List (Option Park)) (k : ℕ) → length (copies parks k) ≡ k * length parks
length_copies parks zero = omega arith
length_copies parks (suc k) = omega (arith, length-append (copies parks k) parks, length_copies parks k)

-- a park of a layer
pub copy_at : (parks : List (Option Park)) (k j v : ℕ) (w : Option Park) → j < k → at_number parks v ≡ Some w
    → at_number (copies parks k) (j * length parks + v) ≡ Some w
copy_at parks zero j v w below is = absurd (omega (arith, below))
copy_at parks (suc k) j v w below is = ⊎_elim
    (λ (last : j ≡ k).
    (let number : j * length parks + v ≡ length (copies parks k) + v = omega (arith, ap (λ (n : ℕ). n * length parks) last, length_copies parks k) in
    ap (at_number (copies parks (suc k))) number ∙ at_right (copies parks k) parks v w is))
    (λ (other : j ≡ k → ⊥). at_left (copies parks k) parks (j * length parks + v) w (copy_at parks k j v w (omega (arith, below, other)) is))
    (cases_eq j k)

-- two nodes of layers with one number are one
pub one_place : (nodes i j v w : ℕ) → 1 ≤ v → v ≤ nodes → 1 ≤ w → w ≤ nodes → i * nodes + v ≡ j * nodes + w → (i ≡ j) × (v ≡ w)
one_place nodes i j v w low_v high_v low_w high_w same =
    let less : i * nodes + (v - 1) ≡ j * nodes + (w - 1) = omega (arith, same, low_v, low_w) in
    let layer : i ≡ j = sym (div-mul-add i nodes (v - 1) (omega (arith, low_v, high_v))) ∙ ap (λ (n : ℕ). n / nodes) less
    ∙ div-mul-add j nodes (w - 1) (omega (arith, low_w, high_w)) in
    let rest : v - 1 ≡ w - 1 = sym (mod-mul-add i nodes (v - 1) (omega (arith, low_v, high_v))) ∙ ap (λ (n : ℕ). n % nodes) less
    ∙ mod-mul-add j nodes (w - 1) (omega (arith, low_w, high_w)) in
    (layer, omega (arith, rest, low_v, low_w))

-- a service is that of a stop
pub service_of : (nodes place j : ℕ) (stops : List Stop) (i : ℕ) (arc : TimedArc) → at_number (services nodes place j stops) i ≡ Some arc
    → (stop : Stop) × (at_number stops i ≡ Some stop) × (service nodes place (j + (i - 1)) stop ≡ arc)
service_of nodes place j [] zero arc is = absurd (cc)
service_of nodes place j [] (suc i) arc is = absurd (cc)
service_of nodes place j (stop ∷ stops) zero arc is = absurd (cc)
service_of nodes place j (stop ∷ stops) (suc zero) arc is =
    let number : j + (suc zero - 1) ≡ j = omega arith in
    (stop, refl, ap (λ (n : ℕ). service nodes place n stop) number ∙ some_arc _ _ is)
  where
    some_arc : (x y : TimedArc) → Some x ≡ Some y → x ≡ y
    some_arc x y same = cc
service_of nodes place j (stop ∷ stops) (suc (suc i)) arc is =
    let more = service_of nodes place (j + 1) stops (suc i) arc is in
    let number : j + (suc (suc i) - 1) ≡ j + 1 + (suc i - 1) = omega arith in
    (more.0, more.1, ap (λ (n : ℕ). service nodes place n more.0) number ∙ more.2)

pub service_at : (nodes place j : ℕ) (stops : List Stop) (i : ℕ) (stop : Stop) → at_number stops i ≡ Some stop
    → at_number (services nodes place j stops) i ≡ Some (service nodes place (j + (i - 1)) stop)
service_at nodes place j [] zero stop is = absurd (cc)
service_at nodes place j [] (suc i) stop is = absurd (cc)
service_at nodes place j (other ∷ stops) zero stop is = absurd (cc)
service_at nodes place j (other ∷ stops) (suc zero) stop is =
    let number : j ≡ j + (suc zero - 1) = omega arith in
    ap (λ (n : ℕ). Some (service nodes place n other)) number ∙ ap (λ (w : Stop). Some (service nodes place (j + (suc zero - 1)) w)) (some_stop _ _ is)
  where
    some_stop : (x y : Stop) → Some x ≡ Some y → x ≡ y
    some_stop x y same = cc
service_at nodes place j (other ∷ stops) (suc (suc i)) stop is =
    let number : j + 1 + (suc i - 1) ≡ j + (suc (suc i) - 1) = omega arith in
    service_at nodes place (j + 1) stops (suc i) stop is ∙ ap (λ (n : ℕ). Some (service nodes place n stop)) number
