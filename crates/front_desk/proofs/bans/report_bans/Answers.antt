use Rattle.std.proofs.Common.{◌≡◌, Some, refl, sym, subst}
use Rattle.network_tables.specs.NetworkModel.{NetworkModel}
use Rattle.front_desk.specs.Bans.{failed_bans_check}
use Rattle.front_desk.specs.Bans.{bans_meaning}
use Rattle.front_desk.proofs.ReportedBans.{ends_bans}
use Rattle.front_desk.proofs.Ending.{ends_refused, ends_short, ends_unread}
use Rattle.front_desk.proofs.bans.report_bans.Goals as goal

pub returns-in-Err : goal.returns-in-Err
returns-in-Err g c =
    let e = c.in_ok-network.ensures in
    ends_refused (bans_meaning c.args.bans.now) (λ kept _. kept) c.load_network.ensures.kept tt e.faultless _
    (λ held is. subst (λ (n : NetworkModel). failed_bans_check n c.args.bans.now ≡ Some c.in-Err.fault) (e.found held is) (sym c.in-Err.ensures.first))

pub returns : goal.returns
returns g c =
    let e = c.in_ok-network.ensures in
    ends_bans c.args.bans.now _ _ c.in_ok-network.network e.faultless e.found (sym c.in-Ok.ensures.first) _ refl
    c.in_ok-closed_report-in-Ok.ensures c.load_network.ensures.kept

pub returns-in_err-closed_report-in-Ok : goal.returns-in_err-closed_report-in-Ok
returns-in_err-closed_report-in-Ok g c =
    ends_short (bans_meaning c.args.bans.now) (λ kept _. kept) c.load_network.ensures.kept _ c.from_residual-in_err-closed_report-in-Ok.ensures.1

pub returns-in_err-network : goal.returns-in_err-network
returns-in_err-network g c =
    ends_unread (bans_meaning c.args.bans.now) (λ kept _. kept) c.load_network.ensures.kept _ _ c.from_residual.ensures.1 c.in_err-network.ensures.refused
