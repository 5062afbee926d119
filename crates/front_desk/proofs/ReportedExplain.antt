-- The report of an explanation is that of its command.
use Rattle.std.proofs.Common.{◌≡◌, false, None, Some, List, Ok, subst}
use Rattle.route_base.specs.FolderState.{FolderState, KeepsFiles}
use Rattle.route_base.specs.declared.faults.RequestFault.{RequestFault}
use Rattle.route_base.specs.declared.types.Leg.{Leg}
use Rattle.network_tables.specs.NetworkModel.{NetworkModel}
use Rattle.trip_explain.specs.Explanations.{IsRoadRequest}
use Rattle.front_words.specs.Commands.{IsTimed}
use Rattle.front_words.specs.declared.explain.Explain.{Explain}
use Rattle.front_desk.specs.Explain.{explain_meaning}
use Rattle.network_folder.specs.Files.{IfTold}
use Rattle.network_folder.specs.ReadingOrder.{network_held}
use Rattle.front_desk.specs.Explain.{IsExplainText, explain_fault, legs_held}
use Rattle.front_desk.specs.Inside.Ending.{Ends}
use Rattle.front_desk.specs.Trips.{IsGoodTrip, Trip, failed_check, request_of, vehicle_named}
use Rattle.front_desk.specs.declared.outcome.Report.{Report}
use Rattle.front_desk.proofs.Ending.{kept_rises, reports}
use Rattle.front_desk.specs.Inside.Sound.{IsSound}
use Rattle.front_desk.specs.Explain.{IsExplainReport, explain_check}
use Rattle.front_desk.proofs.OneText.{one_explained}
use Rattle.front_desk.proofs.Sound.{reads_sound}

-- the legs of a trip that passes the checks can be explained
pub road_request : (network : NetworkModel) (trip : Trip) → IsGoodTrip network.graph.nodes trip → IsTimed trip → IsRoadRequest network (request_of trip)
road_request network trip good timed = record {
  origin = (good.origin_low, good.origin_high);
  goal = (good.goal_low, good.goal_high);
  depart = timed.depart;
  until = timed.until;
  in_time = good.in_order;
}

module _ (e : Explain) (old new : FolderState) (network : NetworkModel) (legs : List Leg)
    (found : IfTold old (λ held. network ≡ network_held held e.dir)) (stated : IfTold old (λ held. legs ≡ legs_held e held)) where
  -- a check that the trip fails is the first one of the command
  pub trip_fails : (fault : RequestFault) → failed_check network e.trip ≡ Some fault → IfTold old (λ held. (explain_meaning e).fails held fault)
  trip_fails fault failed held is = subst (λ (n : NetworkModel). failed_check n e.trip ≡ Some fault) (found held is) failed

  -- a text that explains the folder's legs over its network is that of the command
  pub ends_explain : IfTold old (λ held. explain_fault e held ≡ None) → failed_check network e.trip ≡ None → (report : Report)
      → report.rejects ≡ false → IsExplainText network (vehicle_named network e.trip.vehicle) (request_of e.trip) legs report.text.items
      → KeepsFiles old new → Ends (explain_meaning e) old new (Ok report)
  ends_explain faultless passed report accepts right kept = record {
    concludes = reports (explain_meaning e) old new report accepts (λ held is. record {
      faultless = faultless held is;
      good = subst (λ (n : NetworkModel). failed_check n e.trip ≡ None) (found held is) passed;
      answer = subst
          (λ (n : NetworkModel). IsExplainText n (vehicle_named n e.trip.vehicle) (request_of e.trip) (legs_held e held) report.text.items)
          (found held is)
          (subst (λ (xs : List Leg). IsExplainText network (vehicle_named network e.trip.vehicle) (request_of e.trip) xs report.text.items)
          (stated held is) right);
    });
    left = kept;
    counts = kept_rises old new kept;
  }

-- the meaning of the command is sound
pub explain_sound : (e : Explain) → IsSound (explain_meaning e)
explain_sound e = reads_sound (explain_fault e) (explain_check e) (IsExplainReport e) (λ held x y. one_explained _ _ _ _ x y)
