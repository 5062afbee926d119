use Rattle.std.proofs.Common.{Some, refl, sym, ◌∙◌, ap}
use Rattle.ruled_search.proofs.Numbering.{spot_value}
use Rattle.ruled_search.proofs.sources.spot_at.Goals as goal

pub returns-clause-some : goal.returns-clause-some
returns-clause-some c =
    let info = c.in_ok-info.info in
    let at = sym c.info.ensures ∙ c.in_ok-info.was in
    record {
      same = refl;
      at = refl;
      paid = refl;
      info = at;
      known = spot_value c.args.progress.now c.requires.numbered c.args.number c.args.minute info c.index.result.now at
          c.index.ensures ∙ (sym c.at.ensures ∙ c.in_ok-known.was ∙ ap Some c.if-known-cost.false);
    }
