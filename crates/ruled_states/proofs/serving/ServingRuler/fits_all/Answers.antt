use Rattle.std.proofs.Common.{◌≡◌, ℕ, ◌/◌, ◌%◌, eqb, true, sym, ◌∙◌, subst}
use Rattle.std.proofs.lemmas.Bool.{and_from, eq-eqb}
use Rattle.state_dominance.specs.Serving.{served_limit}
use Rattle.ruled_states.proofs.serving.ServingRuler.fits_all.Goals as goal

pub returns : goal.returns
returns g c = λ sure k same.
    let held = c.args.self.now in
    let r = g.R.Ruler.ruling held.rules.now in
    let need = c.args.need in
    let at = c.state_of.ensures.state in
    let one : r.stage (k / served_limit) ≡ r.stage c.state_of.result =
    sym ((g.met.R.Ruler.staged held.rules.now).falls r.first (k / served_limit) (held.first.first (k / served_limit)))
    ∙ (g.met.R.Ruler.staged held.rules.now).falls r.first c.state_of.result (held.first.first c.state_of.result) in
    and_from (eqb (k % served_limit) (need % served_limit)) (r.fits (k / served_limit) (need / served_limit))
    (eq-eqb (k % served_limit) (need % served_limit) same)
    (subst (λ n. r.fits (k / served_limit) n ≡ true) at (c.fits_all.ensures sure (k / served_limit) one))
