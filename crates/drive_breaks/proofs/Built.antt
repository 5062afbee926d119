-- Arcs over states that are added one by one.
use Rattle.std.proofs.Common.{◌≡◌, inl, inr, ⊎_elim, ℕ, ◌+◌, Some, List, [], ◌∷◌, ◌++◌, length, refl, sym, ◌∙◌, ap, subst, arith, length-append}
use Rattle.std.specs.Prelude.{Contains}
use Rattle.std.proofs.lemmas.List.Elements.{Contains-append_left, Contains-push, Contains-push_cases}
use Rattle.route_base.specs.Net.{Net, at_number}
use Rattle.route_base.specs.declared.types.Leg.{Leg}
use Rattle.route_base.specs.declared.types.Leg.TheVariants.{Drive, Wait}
use Rattle.route_base.specs.declared.types.TimedArc.{TimedArc}
use Rattle.route_base.proofs.Numbered.{no_number}
use Rattle.front_transport.proofs.Places.{at_left, at_either, at_last}
use Rattle.drive_breaks.specs.Inside.StateNet.{IsArcFor, Arrives, IsBuiltArc, AreBuilt, AddsWay}
use Rattle.drive_states.specs.declared.rule.State.{State}
use Rattle.drive_states.specs.declared.rule.Way.{Way}

-- the arc with another head
abbrev pub headed : TimedArc → ℕ → TimedArc
headed arc to = record { tail = arc.tail; head = record { 0 = to }; minutes = arc.minutes; cost = arc.cost; closed = arc.closed }

pub copy_for : (net : Net) (states : List State) (from to last : ℕ) (leg : Leg) (arc : TimedArc) → IsArcFor net states from to leg arc
    → IsArcFor net states from last leg (headed arc last)
copy_for net states from to last (Drive a) arc is = (is.0, is.1, ap (λ (w : TimedArc). headed w last) is.2)
copy_for net states from to last (Wait k) arc is = (is.0, is.1, is.2, is.3, is.4, ap (λ (w : TimedArc). headed w last) is.5)

module _ (net : Net) (states : List State) (goal : ℕ) where
  pub built_none : AreBuilt net states goal [] [] []
  built_none = record {
    same = refl;
    long = omega arith;
    each = λ x arc is. absurd (no_number x arc is);
    all = λ way one. absurd (omega (arith, one.1));
    copies = λ way one arrives. absurd (omega (arith, one.1));
  }

  IsEach : List Way → List TimedArc → List Leg → Type 0
  IsEach ways arcs sources = (x : ℕ) (arc : TimedArc) → at_number arcs x ≡ Some arc
      → (leg : Leg) × (at_number sources x ≡ Some leg) × IsBuiltArc net states goal ways arc leg

  more_ways : (ways : List Way) (way : Way) (arcs : List TimedArc) (sources : List Leg) → IsEach ways arcs sources → IsEach (ways ++ way ∷ []) arcs sources
  unfolding IsEach
  more_ways ways way arcs sources each x arc is =
      let was = each x arc is in (
        was.0,
        was.1,
        record {
          way = was.2.way;
          is_one = Contains-append_left ways (way ∷ []) was.2.way was.2.is_one;
          by = was.2.by;
          made = was.2.made;
        },
      )

  one_more : (ways : List Way) (arcs : List TimedArc) (sources : List Leg) (arc : TimedArc) (leg : Leg) → length sources ≡ length arcs
      → IsEach ways arcs sources
      → IsBuiltArc net states goal ways arc leg → IsEach ways (arcs ++ arc ∷ []) (sources ++ leg ∷ [])
  unfolding IsEach
  one_more ways arcs sources arc leg same each built x other is = ⊎_elim
      (λ (old : at_number arcs x ≡ Some other). (let was = each x other old in (was.0, at_left sources (leg ∷ []) x was.0 was.1, was.2)))
      (λ (new : (x ≡ length arcs + 1) × (arc ≡ other)).
      (let place : length sources + 1 ≡ x = omega (arith, new.0, same) in (
        leg,
        ap (λ (n : ℕ). at_number (sources ++ leg ∷ []) n) (sym place) ∙ at_last sources leg,
        subst (λ (w : TimedArc). IsBuiltArc net states goal ways w leg) new.1 built,
      )))
      (at_either arcs arc x other is)

  pub built_more : (ways : List Way) (way : Way) (arcs new_arcs : List TimedArc) (sources new_sources : List Leg) → AreBuilt net states goal ways arcs sources
      → AddsWay net states goal way arcs new_arcs sources new_sources → AreBuilt net states goal (ways ++ way ∷ []) new_arcs new_sources
  unfolding IsEach
  built_more ways way arcs new_arcs sources new_sources built adds =
      let arc : TimedArc = adds.0 in
      let here : Contains (ways ++ way ∷ []) way = Contains-push ways way in
      let longer = length-append ways (way ∷ []) in
      let first : IsEach (ways ++ way ∷ []) (arcs ++ arc ∷ []) (sources ++ way.leg ∷ []) =
      one_more (ways ++ way ∷ []) arcs sources arc way.leg built.same (more_ways ways way arcs sources built.each)
      (record { way = way; is_one = here; by = refl; made = inl adds.1 }) in
      let same_one : length (sources ++ way.leg ∷ []) ≡ length (arcs ++ arc ∷ []) =
      omega (arith, built.same, length-append sources (way.leg ∷ []), length-append arcs (arc ∷ [])) in
      ⊎_elim
      (λ (plain : (Arrives states goal way → ⊥) × (new_arcs ≡ arcs ++ arc ∷ []) × (new_sources ≡ sources ++ way.leg ∷ [])).
      subst (λ (w : List TimedArc). AreBuilt net states goal (ways ++ way ∷ []) w new_sources) (sym plain.1)
      (subst (λ (w : List Leg). AreBuilt net states goal (ways ++ way ∷ []) (arcs ++ arc ∷ []) w) (sym plain.2) (record {
        same = same_one;
        long = omega (arith, built.long, length-append arcs (arc ∷ []), longer);
        each = first;
        all = λ w one. ⊎_elim
            (λ (old : Contains ways w). (let was = built.all w old in (was.0, was.1, at_left arcs (arc ∷ []) was.0 was.1 was.2, was.3)))
            (λ (new : way ≡ w). subst (λ (v : Way). (x : ℕ) × (b : TimedArc) × (at_number (arcs ++ arc ∷ []) x ≡ Some b)
            × IsArcFor net states v.from v.to v.leg b)
            new (length arcs + 1, arc, at_last arcs arc, adds.1))
            (Contains-push_cases ways way w one);
        copies = λ w one arrives. ⊎_elim
            (λ (old : Contains ways w). (let was = built.copies w old arrives in (was.0, was.1, at_left arcs (arc ∷ []) was.0 was.1 was.2, was.3)))
            (λ (new : way ≡ w). absurd (plain.0 (subst (Arrives states goal) (sym new) arrives)))
            (Contains-push_cases ways way w one);
      })))
      (λ (twice : Arrives states goal way × (copy : TimedArc) × IsArcFor net states way.from (length states + 1) way.leg copy
      × (new_arcs ≡ (arcs ++ arc ∷ []) ++ copy ∷ []) × (new_sources ≡ (sources ++ way.leg ∷ []) ++ way.leg ∷ [])).
      (let copy : TimedArc = twice.1 in
      subst (λ (w : List TimedArc). AreBuilt net states goal (ways ++ way ∷ []) w new_sources) (sym twice.3)
      (subst (λ (w : List Leg). AreBuilt net states goal (ways ++ way ∷ []) ((arcs ++ arc ∷ []) ++ copy ∷ []) w) (sym twice.4) (record {
        same = omega (arith, same_one, length-append (sources ++ way.leg ∷ []) (way.leg ∷ []), length-append (arcs ++ arc ∷ []) (copy ∷ []));
        long = omega (arith, built.long, length-append arcs (arc ∷ []), length-append (arcs ++ arc ∷ []) (copy ∷ []), longer);
        each = one_more (ways ++ way ∷ []) (arcs ++ arc ∷ []) (sources ++ way.leg ∷ []) copy way.leg same_one first
            (record { way = way; is_one = here; by = refl; made = inr (twice.2, twice.0) });
        all = λ w one. ⊎_elim
            (λ (old : Contains ways w). (let was = built.all w old in
            (was.0, was.1, at_left (arcs ++ arc ∷ []) (copy ∷ []) was.0 was.1 (at_left arcs (arc ∷ []) was.0 was.1 was.2), was.3)))
            (λ (new : way ≡ w). subst (λ (v : Way). (x : ℕ) × (b : TimedArc) × (at_number ((arcs ++ arc ∷ []) ++ copy ∷ []) x ≡ Some b)
            × IsArcFor net states v.from v.to v.leg b)
            new (length arcs + 1, arc, at_left (arcs ++ arc ∷ []) (copy ∷ []) (length arcs + 1) arc (at_last arcs arc), adds.1))
            (Contains-push_cases ways way w one);
        copies = λ w one arrives. ⊎_elim
            (λ (old : Contains ways w). (let was = built.copies w old arrives in
            (was.0, was.1, at_left (arcs ++ arc ∷ []) (copy ∷ []) was.0 was.1 (at_left arcs (arc ∷ []) was.0 was.1 was.2), was.3)))
            (λ (new : way ≡ w). subst (λ (v : Way). (x : ℕ) × (b : TimedArc) × (at_number ((arcs ++ arc ∷ []) ++ copy ∷ []) x ≡ Some b)
            × IsArcFor net states v.from (length states + 1) v.leg b)
            new (length (arcs ++ arc ∷ []) + 1, copy, at_last (arcs ++ arc ∷ []) copy, twice.2))
            (Contains-push_cases ways way w one);
      }))))
      adds.2
