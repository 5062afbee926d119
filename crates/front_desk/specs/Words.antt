-- The words of clauses, from this crate and from those below (source: own).
pub use Rattle.route_base.specs.FolderState.{CountsRise, KeepsFiles, FailedToRead}
pub use Rattle.route_base.specs.SinkState.{FaultsRise, StaysSilent}
pub use Rattle.route_base.specs.Time.{IsInstant}
pub use Rattle.network_tables.specs.NetworkModel.{IsGoodNetwork}
pub use Rattle.plan_report.specs.Refusals.{refusal_text_of}
pub use Rattle.front_desk.specs.Bans.{failed_bans_check, IsBansText, bans_meaning}
pub use Rattle.front_desk.specs.Batch.{jobs_held, jobs_fault, batch_fault, IsBatchText, batch_meaning}
pub use Rattle.front_desk.specs.Breaks.{break_rule_of, IsBreaksText, HasManyStates, breaks_meaning}
pub use Rattle.front_words.specs.Commands.{command_of}
pub use Rattle.front_words.specs.Commands.{AsksSupported, HasGoodRule, HasGoodTourRule, IsTimed}
pub use Rattle.front_desk.specs.Check.{check_fault, certificate_held, check_meaning}
pub use Rattle.front_desk.specs.Commands.{LeavesFiles, ReadsNothing, meaning_of}
pub use Rattle.front_desk.specs.Explain.{legs_held, itinerary_fault, explain_fault, IsFirstBetter, IsBetterFor, IsExplainText, explain_meaning}
pub use Rattle.network_folder.specs.Files.{IfTold}
pub use Rattle.network_folder.specs.Writing.{written_in}
pub use Rattle.front_desk.specs.Gen.{drawn_trip, stated_network, files_to_write, files_written, IsSummary, gen_meaning}
pub use Rattle.network_folder.specs.ReadingOrder.{network_held}
pub use Rattle.front_desk.specs.Latest.{IsLateText, latest_meaning}
pub use Rattle.front_desk.specs.Plan.{trip_setting, plan_meaning}
pub use Rattle.front_desk.specs.Run.{IsAnswer, IsDue, IsRefused, Prints, FailsToWrite, status_of}
pub use Rattle.front_desk.specs.Run.{RefusesUsage, RefusesBadInput, RefusesBadRequest, Completes, AcceptsGood, Runs}
pub use Rattle.front_desk.specs.RestedTour.{IsRestedTourText, rested_tour_meaning, tour_rule_of}
pub use Rattle.front_desk.specs.Tour.{stops_held, stops_fault, tour_fault, failed_size, IsTourText, tour_meaning}
pub use Rattle.front_desk.specs.Trips.{is_node, failed_time, failed_check_over, failed_check, request_of, trip_in, IsGoodTrip, is_vehicle, vehicle_named}
pub use Rattle.front_desk.specs.Trips.{failed_time_within, failed_check_over_within, failed_check_within}
pub use Rattle.front_desk.specs.Inside.Ending.{Ends, EndsWords, Writes}
pub use Rattle.network_folder.specs.Faults.{StopsReading, StopsStating}
pub use Rattle.front_desk.specs.Inside.Planning.{IsChecked, StopsAtSize, StopsTrip, trip_window, IsTripNet, IsPlannable, IsReady, HandsOver, IsWritten, IsUnwritten}
pub use Rattle.front_desk.specs.Inside.Planning.{StopsAtCheck}
pub use Rattle.front_desk.specs.Inside.Judging.{Tells, IsJudged}
pub use Rattle.front_desk.specs.Inside.Late.{IsLateRequest}
