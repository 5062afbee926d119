-- The report of a tour under a break rule is that of its command.
use Rattle.std.proofs.Common.{◌≡◌, false, None, List, Ok}
use Rattle.route_base.specs.FolderState.{FolderState, KeepsFiles}
use Rattle.network_tables.specs.NetworkModel.{NetworkModel}
use Rattle.stop_tour.specs.declared.stops.Stop.{Stop}
use Rattle.front_words.specs.declared.tour.RestedTour.{RestedTour}
use Rattle.network_folder.specs.Files.{IfTold}
use Rattle.network_folder.specs.ReadingOrder.{network_held}
use Rattle.front_desk.specs.Inside.Ending.{Ends}
use Rattle.front_desk.specs.Inside.Sound.{IsSound}
use Rattle.front_desk.specs.Plan.{trip_setting}
use Rattle.front_desk.specs.RestedTour.{IsRestedTourReport, IsRestedTourText, rested_tour_meaning, tour_rule_of}
use Rattle.front_desk.specs.Tour.{failed_size, failed_tour_check, stops_held, tour_check, tour_fault}
use Rattle.front_desk.specs.Trips.{failed_check, request_of}
use Rattle.front_desk.specs.declared.outcome.Report.{Report}
use Rattle.front_desk.proofs.Ending.{kept_rises, reports}
use Rattle.front_desk.proofs.OneText.{one_rested_tour}
use Rattle.front_desk.proofs.ReportedTours.{behind, held_there}
use Rattle.front_desk.proofs.Sound.{reads_sound}

-- a report of right tours of the folder's stops over its network is that of the command
pub ends_rested_tour : (t : RestedTour) (old new : FolderState) (network : NetworkModel) (stops : List Stop)
    → IfTold old (λ held. network ≡ network_held held t.tour.dir) → IfTold old (λ held. stops ≡ stops_held t.tour held)
    → failed_check network t.tour.trip ≡ None → IfTold old (λ held. tour_fault t.tour held ≡ None)
    → failed_size (trip_setting network t.tour.trip) stops ≡ None → (report : Report) → report.rejects ≡ false
    → IsRestedTourText (trip_setting network t.tour.trip) (request_of t.tour.trip) stops (tour_rule_of t) report.text.items → KeepsFiles old new
    → Ends (rested_tour_meaning t) old new (Ok report)
ends_rested_tour t old new network stops found stated passed faultless fits report accepts right kept =
    let there = held_there t.tour old new network stops found stated in
    record {
      concludes = reports (rested_tour_meaning t) old new report accepts (λ held is. record {
        faultless = faultless held is;
        good = there (λ n xs. failed_tour_check n t.tour.trip xs ≡ None)
            (behind t.tour old new network stops found stated passed None fits) held is;
        answer = there (λ n xs. IsRestedTourText (trip_setting n t.tour.trip) (request_of t.tour.trip) xs (tour_rule_of t) report.text.items) right held is;
      });
      left = kept;
      counts = kept_rises old new kept;
    }

-- the meaning of the command is sound
pub rested_tour_sound : (t : RestedTour) → IsSound (rested_tour_meaning t)
rested_tour_sound t = reads_sound (tour_fault t.tour) (tour_check t.tour) (IsRestedTourReport t) (λ held x y. one_rested_tour _ _ _ _ x y)
