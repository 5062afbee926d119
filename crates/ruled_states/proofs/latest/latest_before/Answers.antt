use Rattle.std.proofs.Common.{◌≡◌, inl, inr, ⊎_elim, ◌<◌, ◌≤◌, true, ◌++◌, sym, ◌∙◌, ap, subst, arith}
use Rattle.std.specs.Prelude.{Contains}
use Rattle.std.specs.Option.{option_map}
use Rattle.std.proofs.lemmas.Bool.{cases_lt}
use Rattle.std.proofs.lemmas.List.Elements.{Contains-append_left, Contains-append_cases}
use Rattle.std.proofs.lemmas.Option.{same_Some}
use Rattle.state_dominance.specs.Inside.Product.{Service}
use Rattle.ruled_states.specs.Inside.Labels.{least_fit, far_labels, labels_at, labels_for, lists_of}
use Rattle.ruled_states.specs.Inside.Latest.{HasNeed}
use Rattle.ruled_states.specs.Inside.Services.{service_at}
use Rattle.ruled_states.specs.declared.labels.Label.{Label}
use Rattle.ruled_states.proofs.Fitting.{both_is, fit_least, least_is}
use Rattle.ruled_states.proofs.latest.latest_before.Goals as goal

pub returns-clause-in_time : goal.returns-clause-in_time
returns-clause-in_time g c = λ next d h is stage far.
    let r = g.R.Ruler.ruling c.args.ruler.now in
    let minutes = lists_of c.args.labels.now.minutes.items in
    let costs = lists_of c.args.labels.now.costs.items in
    let own : Service = service_at c.in-Some.service in
    let same : own ≡ d = same_Some own d (ap (option_map service_at) (sym c.in-Some.is) ∙ c.service.ensures ∙ is) in
    let own_labels = labels_at minutes d.node in
    let others = far_labels minutes in
    let parts = both_is (least_fit r (labels_for minutes d.node) next) (least_fit r (labels_for costs d.node) next) h far in
    let l = least_is r (own_labels ++ others) next h.minutes parts.0 in
    let here : own_labels ≡ c.labels_of-behind.result.now = ap (labels_at minutes) (sym (ap (λ (w : Service). w.node) same))
    ∙ ap (λ lists. labels_at (lists_of lists) c.in-Some.service.node.0) (sym c.deref.ensures.value) ∙ sym c.labels_of-behind.ensures in
    let later : c.args.place < r.stage l.0.need = omega (arith, stage, (g.met.R.Ruler.staged c.args.ruler.now).fits next l.0.need l.2) in
    let there : others ≡ c.far_labels_of-far.result.now = ap (λ lists. far_labels (lists_of lists)) (sym c.deref-2.ensures.value)
    ∙ sym c.far_labels_of-far.ensures in
    let near : (o : Label) → Contains own_labels o → c.args.place < r.stage o.need → o.value ≤ c.max-largest.result =
    λ o one is. (let le = c.largest_value-near.ensures o (subst (λ ls. Contains ls o) here one) is in omega (arith, le, c.max-largest.ensures)) in
    let le : h.minutes ≤ c.max-largest.result = ⊎_elim
    (λ (one : Contains own_labels l.0). let le = near l.0 one later in omega (arith, le, l.3))
    (λ (one : Contains others l.0). ⊎_elim
    (λ (le : l.0.value ≤ c.largest_far.result). omega (arith, le, l.3, c.max-largest.ensures))
    (λ (had : HasNeed c.labels_of-behind.result.now l.0.need).
    let is_own = subst (λ ls. Contains ls had.label) (sym here) had.is_one in
    let least = fit_least r (own_labels ++ others) next had.label (Contains-append_left own_labels others had.label is_own)
    (subst (λ n. r.fits next n ≡ true) (sym had.same) l.2) in
    let same = same_Some h.minutes least.0 (sym parts.0 ∙ least.1) in
    let le = near had.label is_own (subst (λ n. c.args.place < r.stage n) (sym had.same) later) in
    omega (arith, same, le, least.2))
    (c.largest_far.ensures l.0 (subst (λ ls. Contains ls l.0) there one) later))
    (Contains-append_cases own_labels others l.0 l.1) in
    let to : c.in-Some.service.to ≡ d.to = ap (λ (w : Service). w.to) same in
    ⊎_elim
    (λ (less : c.saturating_add-to.result < c.args.after). inr (omega (arith, less, le, to, c.saturating_add-to.ensures, c.min.ensures)))
    (λ (from : c.args.after ≤ c.saturating_add-to.result). inl (omega (arith, from, c.min.ensures)))
    (cases_lt c.saturating_add-to.result c.args.after)
