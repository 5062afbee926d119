-- States are the same over settings that agree.
use Rattle.std.proofs.Common.{◌≡◌, ℕ, sym, ◌∙◌}
use Rattle.route_base.specs.Setting.{Setting}
use Rattle.route_base.specs.declared.types.Leg.{Leg}
use Rattle.route_base.specs.declared.types.Leg.TheVariants.{Drive, Wait}
use Rattle.drive_states.specs.StateSize.{first, by_drive, by_break, HasTooManyStates, IsDeparture, IsState}
use Rattle.drive_states.specs.declared.rule.BreakRule.{BreakRule}
use Rattle.drive_states.specs.declared.rule.State.{State}

-- of settings with the same roads and weights
module _ (s z : Setting) (road : (a : ℕ) → s.road a ≡ z.road a) (weight : (v : ℕ) → s.weight v ≡ z.weight v) where
  state_too : (origin limit v driven : ℕ) → IsState s origin limit v driven → IsState z origin limit v driven
  state_too origin limit _ _ first = first
  state_too origin limit _ _ (by_drive a driven over is before within) =
      by_drive a driven over (sym (road a) ∙ is) (state_too origin limit _ _ before) within
  state_too origin limit _ _ (by_break v driven w is before) = by_break v driven w (sym (weight v) ∙ is) (state_too origin limit v driven before)

  departure_too : (rule : BreakRule) (from : State) (leg : Leg) (to : State) → IsDeparture s rule from leg to → IsDeparture z rule from leg to
  departure_too rule from (Drive a) to is = (is.0, sym (road a.0) ∙ is.1, is.2, is.3, is.4, is.5)
  departure_too rule from (Wait k) to is = (is.0, (is.1.0, sym (weight from.node.0) ∙ is.1.1), is.2, is.3, is.4)

  pub too_many : (origin : ℕ) (rule : BreakRule) → HasTooManyStates s origin rule → HasTooManyStates z origin rule
  too_many origin rule many = record {
    states = many.states;
    distinct = many.distinct;
    each = λ k d inside. state_too origin rule.drive _ _ (many.each k d inside);
    departures = many.departures;
    apart = many.apart;
    each_departure = λ k d inside. let one = many.each_departure k d inside in
        (state_too origin rule.drive _ _ one.0, (one.1.0, departure_too rule _ _ one.1.0 one.1.1));
    many = many.many;
  }
