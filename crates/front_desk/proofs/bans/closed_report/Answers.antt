use Rattle.std.proofs.Common.{List, sym, ◌∙◌, ap}
use Rattle.std.proofs.lemmas.Bool.{and_parts}
use Rattle.route_base.specs.Runs.{any_has}
use Rattle.route_base.specs.declared.types.Run.{Run}
use Rattle.front_desk.specs.Bans.{window_of}
use Rattle.front_desk.proofs.ClosedWindows.{all_timed}
use Rattle.front_desk.proofs.bans.closed_report.Goals as goal

pub bans_text-requires : goal.bans_text-requires
bans_text-requires c =
    all_timed (window_of c.args.bans.now) c.requires.depart c.requires.until c.runs.result.now c.runs.ensures.runs.filled
    (λ t is. (and_parts _ _ (sym (c.in_ok-set.ensures.minutes t) ∙ sym (ap (λ (rs : List Run). any_has rs t) c.runs.ensures.items) ∙ is)).0)
