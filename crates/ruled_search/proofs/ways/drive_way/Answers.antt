use Rattle.std.proofs.Common.{sym, ◌∙◌, arith}
use Rattle.ruled_search.proofs.Making.{no_arc_leaves, small_arc, small_tail, barred_drive, barred_end, drive_made}
use Rattle.ruled_search.proofs.ways.drive_way.Goals as goal

pub returns-in_err-arc-clause-barred : goal.returns-in_err-arc-clause-barred
returns-in_err-arc-clause-barred g c = λ none. absurd (no_arc_leaves c.args.task.net.now c.args.node.0 c.args.a.0 c.requires.begins
    (sym c.arc.ensures.value ∙ c.in_err-arc.was))

pub returns-in_err-after-clause-barred : goal.returns-in_err-after-clause-barred
returns-in_err-after-clause-barred g c = λ none.
    let net = c.args.task.net.now in
    let arc = c.in_ok-arc.arc in
    let is = sym c.arc.ensures.value ∙ c.in_ok-arc.was in
    let good = c.requires.asked.good in
    barred_drive g.R.Ruler.ruling c.args.task c.args.node c.args.state
    (small_tail net c.args.node.0 c.args.a.0 arc good is c.in_ok-arc.ensures.good c.requires.begins) c.args.a (small_arc net c.args.a.0 arc good is) arc is
    (sym c.drive.ensures ∙ c.in_err-after.was)

pub returns-in_err-bound-clause-barred : goal.returns-in_err-bound-clause-barred
returns-in_err-bound-clause-barred g c = λ none.
    let net = c.args.task.net.now in
    let arc = c.in_ok-arc.arc in
    let is = sym c.arc.ensures.value ∙ c.in_ok-arc.was in
    let good = c.requires.asked.good in
    barred_end g.R.Ruler.ruling c.args.task c.args.node c.args.state
    (small_tail net c.args.node.0 c.args.a.0 arc good is c.in_ok-arc.ensures.good c.requires.begins) c.args.a (small_arc net c.args.a.0 arc good is) arc is
    c.requires.begins c.in_ok-after.after (sym c.drive.ensures ∙ c.in_ok-after.was)
    (omega (arith, c.in_ok-arc.ensures.good.head.1, good.nodes)) (sym c.bound_at.ensures ∙ c.in_err-bound.was)

pub returns-clause-way : goal.returns-clause-way
returns-clause-way g c =
    let net = c.args.task.net.now in
    let arc = c.in_ok-arc.arc in
    let is = sym c.arc.ensures.value ∙ c.in_ok-arc.was in
    let good = c.requires.asked.good in
    drive_made g.R.Ruler.ruling c.args.task c.args.node c.args.state
    (small_tail net c.args.node.0 c.args.a.0 arc good is c.in_ok-arc.ensures.good c.requires.begins) c.args.a (small_arc net c.args.a.0 arc good is) arc is
    c.requires.begins c.in_ok-after.after (sym c.drive.ensures ∙ c.in_ok-after.was) c.in_ok-arc.ensures.good c.in_ok-bound.bound
    (sym c.bound_at.ensures ∙ c.in_ok-bound.was)
