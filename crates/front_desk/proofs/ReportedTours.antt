-- The report of a tour is that of its command.
use Rattle.std.proofs.Common.{◌≡◌, false, None, Some, Option, List, Ok, ap, subst, ◌∙◌}
use Rattle.std.specs.Option.{option_or}
use Rattle.route_base.specs.FolderState.{FolderState, KeepsFiles}
use Rattle.route_base.specs.declared.faults.RequestFault.{RequestFault}
use Rattle.route_base.specs.declared.faults.RequestFault.TheVariants.{TooManyStates}
use Rattle.network_tables.specs.NetworkModel.{NetworkModel}
use Rattle.stop_tour.specs.declared.stops.Stop.{Stop}
use Rattle.front_words.specs.declared.tour.Tour.{Tour}
use Rattle.front_desk.specs.Tour.{tour_meaning}
use Rattle.network_folder.specs.Files.{IfTold}
use Rattle.network_folder.specs.ReadingOrder.{network_held}
use Rattle.front_desk.specs.Inside.Ending.{Ends}
use Rattle.front_desk.specs.Plan.{trip_setting}
use Rattle.front_desk.specs.Tour.{IsTourText, failed_size, failed_tour_check, stops_held, tour_fault}
use Rattle.front_desk.specs.Trips.{failed_check, request_of}
use Rattle.front_desk.specs.declared.outcome.Report.{Report}
use Rattle.front_desk.proofs.Ending.{kept_rises, reports}
use Rattle.front_desk.specs.Inside.Sound.{IsSound}
use Rattle.front_desk.specs.Tour.{IsTourReport, tour_check}
use Rattle.front_desk.proofs.OneText.{one_tour}
use Rattle.front_desk.proofs.Sound.{reads_sound}

module _ (t : Tour) (old new : FolderState) (network : NetworkModel) (stops : List Stop)
    (found : IfTold old (λ held. network ≡ network_held held t.dir)) (stated : IfTold old (λ held. stops ≡ stops_held t held)) where
  -- what holds of the stops over the network holds of the folder's
  pub held_there : (P : NetworkModel → List Stop → Type 0) → P network stops → IfTold old (λ held. P (network_held held t.dir) (stops_held t held))
  held_there P here held is =
      subst (λ (n : NetworkModel). P n (stops_held t held)) (found held is) (subst (λ (xs : List Stop). P network xs) (stated held is) here)

  -- a check that the trip fails is the first one of the tour
  pub trip_fails : (fault : RequestFault) → failed_check network t.trip ≡ Some fault → IfTold old (λ held. (tour_meaning t).fails held fault)
  trip_fails fault failed = held_there (λ n xs. failed_tour_check n t.trip xs ≡ Some fault)
      (ap (λ (o : Option RequestFault). option_or o (failed_size (trip_setting network t.trip) stops)) failed)

  module _ (passed : failed_check network t.trip ≡ None) where
    pub behind : (size : Option RequestFault) → failed_size (trip_setting network t.trip) stops ≡ size → failed_tour_check network t.trip stops ≡ size
    behind size is = ap (λ (o : Option RequestFault). option_or o (failed_size (trip_setting network t.trip) stops)) passed ∙ is

    -- behind these comes the size
    pub size_fails : failed_size (trip_setting network t.trip) stops ≡ Some TooManyStates → IfTold old (λ held. (tour_meaning t).fails held TooManyStates)
    size_fails exceeds = held_there (λ n xs. failed_tour_check n t.trip xs ≡ Some TooManyStates) (behind (Some TooManyStates) exceeds)

    -- a report of right tours of the folder's stops over its network is that of the command
    pub ends_tour : IfTold old (λ held. tour_fault t held ≡ None) → failed_size (trip_setting network t.trip) stops ≡ None
        → (report : Report) → report.rejects ≡ false → IsTourText (trip_setting network t.trip) (request_of t.trip) stops report.text.items
        → KeepsFiles old new → Ends (tour_meaning t) old new (Ok report)
    ends_tour faultless fits report accepts right kept = record {
      concludes = reports (tour_meaning t) old new report accepts (λ held is. record {
        faultless = faultless held is;
        good = held_there (λ n xs. failed_tour_check n t.trip xs ≡ None) (behind None fits) held is;
        answer = held_there (λ n xs. IsTourText (trip_setting n t.trip) (request_of t.trip) xs report.text.items) right held is;
      });
      left = kept;
      counts = kept_rises old new kept;
    }

-- the meaning of the command is sound
pub tour_sound : (t : Tour) → IsSound (tour_meaning t)
tour_sound t = reads_sound (tour_fault t) (tour_check t) (IsTourReport t) (λ held x y. one_tour _ _ _ x y)
