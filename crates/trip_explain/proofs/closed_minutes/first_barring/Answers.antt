use Rattle.std.proofs.Common.{◌≡◌, ⊎_elim, ℕ, true, arith, sym, subst}
use Rattle.std.proofs.lemmas.Bool.{cases_eq}
use Rattle.network_tables.specs.Access.{is_let_in}
use Rattle.trip_explain.proofs.QuietMinutes.{none_amid}
use Rattle.trip_explain.proofs.closed_minutes.first_barring.Goals as goal

pub loop-t-init : goal.loop-t-init
loop-t-init c = record {
  before = λ u late early. absurd (omega (arith, late, early));
  quiet = none_amid c.args.network.now c.args.vehicle.now c.args.a.0;
}

pub loop-t-preserved : goal.loop-t-preserved
loop-t-preserved c = record {
  before = λ u late early.
      ⊎_elim
      (λ (same : u ≡ c.loop-t.t). subst (λ (m : ℕ). is_let_in c.args.network.now c.args.vehicle.now c.args.a.0 m ≡ true)
      (sym same) c.in-Ok.ensures.let_in)
      (λ (other : u ≡ c.loop-t.t → ⊥). c.loop-t.invariant.before u late (omega (arith, early, other)))
      (cases_eq u c.loop-t.t);
  quiet = c.in-Ok.ensures.quiet;
}
