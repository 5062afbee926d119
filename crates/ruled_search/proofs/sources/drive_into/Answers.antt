use Rattle.std.proofs.Common.{◌≡◌, IsTrue, true, false, sym, ◌∙◌, arith, rules}
use Rattle.ruled_search.proofs.Numbering.{solved_numbered}
use Rattle.ruled_search.proofs.Sourcing.{drive_found, drive_missed_at}
use Rattle.ruled_search.proofs.sources.drive_into.Goals as goal
use Rattle.ruled_search.proofs.sources.drive_into.Goals.{then-arc-spot-via-then-arc-spot, then-arc-spot-via-else-arc-spot+then-arc-spot-2}

pub returns-then-arc-spot-clause-none : goal.returns-then-arc-spot-clause-none
returns-then-arc-spot-clause-none g c _ = drive_missed_at c.requires.solved c.args.spot c.requires.spot c.requires.upto c.args.a.0 c.in_ok-arc.arc
    (sym c.arc.ensures.value ∙ c.in_ok-arc.was)
    (λ early cheap opens k allowed known.
    elim c.then-arc-spot.branch [
      | then-arc-spot-via-then-arc-spot w ↦ omega (arith, early, w.if-arc-spot.true)
      | then-arc-spot-via-else-arc-spot+then-arc-spot-2 w ↦ omega (arith, cheap, w.if-arc-spot-2.true)
    ])

pub returns-then-not-is_open-clause-none : goal.returns-then-not-is_open-clause-none
returns-then-not-is_open-clause-none g c _ = drive_missed_at c.requires.solved c.args.spot c.requires.spot c.requires.upto c.args.a.0 c.in_ok-arc.arc
    (sym c.arc.ensures.value ∙ c.in_ok-arc.was)
    (λ early cheap opens k allowed known. let bad : true ≡ false = sym (c.is_open.ensures.1 opens) ∙ c.if-not-is_open.true in cc)

pub least_into-requires-clause-numbered : goal.least_into-requires-clause-numbered
least_into-requires-clause-numbered g c = solved_numbered c.requires.solved

pub returns-clause-some : goal.returns-clause-some
returns-clause-some g c =
    let is = sym c.arc.ensures.value ∙ c.in_ok-arc.was in
    let free : IsTrue c.is_open.result = search rules in
    drive_found c.requires.solved c.args.spot c.requires.spot c.requires.upto c.args.a c.in_ok-arc.arc is
    c.requires.ends (omega (arith, c.if-arc-spot.false)) (omega (arith, c.if-arc-spot-2.false)) (c.is_open.ensures.0 free)
    c.least_into.result c.in_ok-from.from c.in_ok-from.was c.least_into.ensures
