-- The report of how late one may leave is that of its command.
use Rattle.std.proofs.Common.{◌≡◌, ◌≤◌, ◌+◌, false, Some, None, Result, Ok, subst, arith}
use Rattle.std.specs.Result.{IsErrAnd}
use Rattle.route_base.specs.FolderState.{FolderState, KeepsFiles}
use Rattle.route_base.specs.Net.{Net}
use Rattle.network_tables.specs.NetworkModel.{NetworkModel}
use Rattle.network_folder.specs.Files.{IfTold}
use Rattle.network_folder.specs.ReadingOrder.{network_held}
use Rattle.plan_report.specs.declared.outcomes.Refusal.TheVariants.{Usage, Input, Request}
use Rattle.front_words.specs.declared.latest.Latest.{Latest}
use Rattle.front_desk.specs.Latest.{latest_meaning}
use Rattle.front_desk.specs.Inside.Ending.{Ends}
use Rattle.front_desk.specs.Inside.Late.{IsLateRequest}
use Rattle.front_desk.specs.Inside.Planning.{IsTripNet, StopsAtCheck}
use Rattle.front_desk.specs.Latest.{IsLateText, latest_fault}
use Rattle.front_desk.specs.Plan.{trip_setting}
use Rattle.front_desk.specs.Trips.{Trip, IsGoodTrip, failed_check_within, request_of}
use Rattle.front_desk.specs.declared.latest.TheConstants.{LONGEST_LATE_HORIZON}
use Rattle.front_desk.specs.declared.outcome.Halt.{Halt}
use Rattle.front_desk.specs.declared.outcome.Halt.TheVariants.{Refused, ReadFault, WriteFault, NoMemory}
use Rattle.front_desk.specs.declared.outcome.Report.{Report}
use Rattle.front_desk.proofs.Ending.{ends_at, ends_refused, ends_short, kept_rises, reports}
use Rattle.front_desk.specs.Inside.Sound.{IsSound}
use Rattle.front_desk.specs.Latest.{IsLateReport, latest_check}
use Rattle.front_desk.proofs.OneText.{one_late}
use Rattle.front_desk.proofs.Sound.{reads_sound}

module _ (l : Latest) (old new : FolderState) (network : NetworkModel) (faultless : IfTold old (λ held. latest_fault l held ≡ None))
    (found : IfTold old (λ held. network ≡ network_held held l.dir)) (kept : KeepsFiles old new) where
  stopped : (end : Result Report Halt) (halt : Halt) → IsErrAnd end (λ h. h ≡ halt)
      → StopsAtCheck (failed_check_within LONGEST_LATE_HORIZON network l.trip) halt → Ends (latest_meaning l) old new end
  stopped end (Refused Usage) at why = absurd why
  stopped end (Refused (Input fault)) at why = absurd why
  stopped end (Refused (Request fault)) at why =
      ends_at (latest_meaning l) old new end (Refused (Request fault)) at (ends_refused (latest_meaning l) (λ kept _. kept) kept tt faultless fault
      (λ held told. subst (λ (n : NetworkModel). failed_check_within LONGEST_LATE_HORIZON n l.trip ≡ Some fault) (found held told) why))
  stopped end ReadFault at why = absurd why
  stopped end WriteFault at why = absurd why
  stopped end NoMemory at why = ends_short (latest_meaning l) (λ kept _. kept) kept end at

  -- the command's trip has no net
  pub ends_without_net : (asked : Trip) (end : Result Report Halt) (halt : Halt) → asked ≡ l.trip → IsErrAnd end (λ h. h ≡ halt)
      → StopsAtCheck (failed_check_within LONGEST_LATE_HORIZON network asked) halt → Ends (latest_meaning l) old new end
  ends_without_net asked end halt is at why =
      stopped end halt at (subst (λ (t : Trip). StopsAtCheck (failed_check_within LONGEST_LATE_HORIZON network t) halt) is why)

  -- a report of the latest departures over the folder's network is that of the command
  pub ends_late : (report : Report) → report.rejects ≡ false → failed_check_within LONGEST_LATE_HORIZON network l.trip ≡ None
      → IsLateText (trip_setting network l.trip) (request_of l.trip) report.text.items → Ends (latest_meaning l) old new (Ok report)
  ends_late report accepts passed right = record {
    concludes = reports (latest_meaning l) old new report accepts (λ held is. record {
      faultless = faultless held is;
      good = subst (λ (n : NetworkModel). failed_check_within LONGEST_LATE_HORIZON n l.trip ≡ None) (found held is) passed;
      answer = subst (λ (n : NetworkModel). IsLateText (trip_setting n l.trip) (request_of l.trip) report.text.items) (found held is) right;
    });
    left = kept;
    counts = kept_rises old new kept;
  }

-- the latest departures of a trip that passes the checks can be searched for over its net
pub late_request : (network : NetworkModel) (trip : Trip) (net : Net) → IsTripNet network trip net → IsGoodTrip network.graph.nodes trip
    → trip.until ≤ trip.depart + LONGEST_LATE_HORIZON → IsLateRequest net (request_of trip)
late_request network trip net is good short = record {
  good = is.good;
  in_time = good.in_order;
  horizon = omega (arith, short, good.in_order);
  cheap = is.cheap_arcs;
  nodes = is.nodes;
  arcs = is.arcs;
}

-- the meaning of the command is sound
pub latest_sound : (l : Latest) → IsSound (latest_meaning l)
latest_sound l = reads_sound (latest_fault l) (latest_check l) (IsLateReport l) (λ held x y. one_late _ _ x y)
