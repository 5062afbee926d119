use Rattle.std.proofs.Common.{◌+◌, ◌≤◌, ◌<◌, ℕ, ap, refl, sym, subst, ◌∙◌}
use Rattle.zone_rules.specs.declared.rows.Wall.{Wall}
use Rattle.trip_explain.proofs.QuietMinutes.{let_in_amid}
use Rattle.trip_explain.proofs.closed_minutes.after_minute.Goals as goal

pub returns-then-is_amid-clause-let_in : goal.returns-then-is_amid-clause-let_in
returns-then-is_amid-clause-let_in c =
    let shown = c.wall_of-wall.ensures.value in
    let here = c.is_amid.ensures in
    c.requires.quiet c.args.t (record {
      day = ap (λ (w : Wall). w.day) (sym shown) ∙ here.day c.if-is_amid.true;
      from_on = subst (λ (m : ℕ). c.args.quiet.from ≤ m) (ap (λ (w : Wall). w.minute) shown) (here.from c.if-is_amid.true);
      before = subst (λ (m : ℕ). m < c.args.quiet.to) (ap (λ (w : Wall). w.minute) shown) (here.to c.if-is_amid.true);
    })

pub returns-clause-quiet : goal.returns-clause-quiet
returns-clause-quiet c =
    let wall = c.wall_of-wall.result in
    let shown = c.wall_of-wall.ensures.value in
    let_in_amid c.args.network.now c.args.vehicle.now c.args.a.0 c.args.t
    (record { day = wall.day; from = wall.minute; to = wall.minute + c.in_ok-count.count }) c.in_ok-count.count
    (ap (λ (w : Wall). w.day) (sym shown)) (ap (λ (w : Wall). w.minute) (sym shown)) refl
    c.in_ok-count.ensures.same c.in_ok-count.ensures.let_in
