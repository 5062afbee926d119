use Rattle.std.proofs.Common.{◌≡◌, Some, length, refl, sym, ap, rules}
use Rattle.std.specs.Option.{option_map}
use Rattle.route_base.specs.Net.{at_number, road_of}
use Rattle.route_base.specs.Runs.{any_has}
use Rattle.certificate_check.specs.Inside.Steps.{setting_in, bounds_in, values_in}
use Rattle.certificate_check.proofs.RelaxedSteps.{drives_relaxed, drives_pass, no_drives}
use Rattle.certificate_check.proofs.steps.are_drives_over_relaxed.Goals as goal

pub returns : goal.returns
returns c =
    let k = c.args.trial in
    let a = c.args.a.0 in
    let road = road_of c.in-Some.arc in
    let here : at_number k.net.now.arcs a ≡ Some c.in-Some.arc = sym c.in-Some.ensures.value in
    let pieces = c.pieces_in-pieces.result.now in (
      (λ h. drives_relaxed (setting_in k) k.until k.pairs.now (bounds_in k) (values_in k) _ pieces a road (ap (option_map road_of) here) refl refl
          (λ t. ap (λ rs. any_has rs t) c.closed_runs.ensures.value) c.bound_of.ensures.value c.bound_of-2.ensures.value
          c.pieces_in.ensures.values c.pieces_in-pieces.ensures.values (c.pieces_pass.ensures.0 h)),
      (λ all. c.pieces_pass.ensures.1 (drives_pass (setting_in k) k.until k.pairs.now (bounds_in k) (values_in k) _ pieces a road
          (ap (option_map road_of) here) refl refl
          (λ t. ap (λ rs. any_has rs t) c.closed_runs.ensures.value) c.bound_of.ensures.value c.bound_of-2.ensures.value
          c.pieces_in.ensures.values c.pieces_in-pieces.ensures.values all)),
    )

pub returns-then-is_empty : goal.returns-then-is_empty
returns-then-is_empty c =
    let k = c.args.trial in
    let a = c.args.a.0 in
    let here : at_number k.net.now.arcs a ≡ Some c.in-Some.arc = sym c.in-Some.ensures.value in
    let pieces = c.pieces_in-pieces in
    let none : length pieces.result.now ≡ 0 = search rules in
    let relaxed = no_drives (setting_in k) k.until k.pairs.now (bounds_in k) (values_in k) a (road_of c.in-Some.arc) (ap (option_map road_of) here)
    pieces.result.now none pieces.ensures.values in
    ((λ _. relaxed), (λ _. search rules))
