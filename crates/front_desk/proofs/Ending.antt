-- How a command ends, before it has a report and with it.
use Rattle.std.proofs.Common.{◌≡◌, ⊎_elim, false, Bool, cond, ℕ, None, Some, List, Result, Ok, Err, refl, sym, subst, arith}
use Rattle.std.specs.Result.{IsErrAnd}
use Rattle.std.proofs.lemmas.Bool.{both_ways}
use Rattle.route_base.specs.Contents.{Contents}
use Rattle.route_base.specs.FolderState.{FolderState, CountsRise, KeepsFiles}
use Rattle.route_base.specs.declared.faults.RequestFault.{RequestFault}
use Rattle.route_base.specs.declared.faults.RequestFault.TheVariants.{TooManyStates}
use Rattle.route_base.specs.declared.status.Status.TheVariants.{Done, Rejected}
use Rattle.network_tables.specs.NetworkModel.{NetworkModel}
use Rattle.plan_report.specs.declared.outcomes.Refusal.TheVariants.{Usage, Input, Request}
use Rattle.network_folder.specs.Faults.{StopsReading}
use Rattle.network_folder.specs.Files.{IfTold}
use Rattle.network_folder.specs.ReadingOrder.{network_held}
use Rattle.network_folder.specs.declared.faults.LoadFault.{LoadFault}
use Rattle.network_folder.specs.declared.faults.LoadFault.TheVariants.{Bad, Failed, OutOfMemory}
use Rattle.front_desk.specs.Meaning.{Meaning}
use Rattle.front_desk.specs.Inside.Ending.{Ends, ReportsOn, halt_of_load, status_of_halt, status_of_report}
use Rattle.front_desk.specs.Inside.Planning.{StopsAtSize, StopsTrip}
use Rattle.front_desk.specs.Outcomes.{IsAnsweredBy}
use Rattle.front_desk.specs.Trips.{Trip, failed_check}
use Rattle.front_desk.specs.declared.outcome.Halt.{Halt}
use Rattle.front_desk.specs.declared.outcome.Halt.TheVariants.{Refused, ReadFault, WriteFault, NoMemory}
use Rattle.front_desk.specs.declared.outcome.Report.{Report}

-- no count falls where all files are as they were
pub kept_rises : (old new : FolderState) → KeepsFiles old new → CountsRise old new
kept_rises old new a = record {
  missing = a.missing;
  read_faults = a.read_faults;
  write_faults = omega (arith, a.write_faults);
}

-- a command that stops at this halt ends by it
pub ends_at : (m : Meaning) (old new : FolderState) (end : Result Report Halt) (halt : Halt) → IsErrAnd end (λ h. h ≡ halt)
    → Ends m old new (Err halt) → Ends m old new end
ends_at m old new (Ok report) halt at ends = absurd at
ends_at m old new (Err h) halt at ends = subst (λ (k : Halt). Ends m old new (Err k)) (sym at) ends

-- of a command whose halts leave the files as they were
module _ (m : Meaning) {old new : FolderState}
    (leaves : KeepsFiles old new → (halt : Halt) → m.leaves old new (status_of_halt halt)) (kept : KeepsFiles old new) where
  left : (halt : Halt) → m.leaves old new (status_of_halt halt)
  left halt = leaves kept halt

  unread : (fault : LoadFault) → StopsReading m.fault old new fault → Ends m old new (Err (halt_of_load fault))
  unread (Bad fault) why = record { concludes = why; left = left (Refused (Input fault)); counts = kept_rises old new kept }
  unread Failed why = record { concludes = why; left = left ReadFault; counts = kept_rises old new kept }
  unread OutOfMemory why = record { concludes = tt; left = left NoMemory; counts = kept_rises old new kept }

  -- there is no network
  pub ends_unread : (end : Result Report Halt) (fault : LoadFault) → IsErrAnd end (λ h. h ≡ halt_of_load fault)
      → StopsReading m.fault old new fault → Ends m old new end
  ends_unread end fault at why = ends_at m old new end (halt_of_load fault) at (unread fault why)

  -- the request fails a check
  pub ends_refused : m.asks → IfTold old (λ held. m.fault held ≡ None) → (fault : RequestFault)
      → IfTold old (λ held. m.fails held fault) → Ends m old new (Err (Refused (Request fault)))
  ends_refused asks faultless fault first = record {
    concludes = record { asks = asks; faultless = faultless; first = first };
    left = left (Refused (Request fault));
    counts = kept_rises old new kept;
  }

  -- memory has run out
  pub ends_short : (end : Result Report Halt) → IsErrAnd end (λ h. h ≡ NoMemory) → Ends m old new end
  ends_short end at =
      ends_at m old new end NoMemory at (record { concludes = tt; left = left NoMemory; counts = kept_rises old new kept })

  -- the trip that the command asks for over a network has no net
  module _ (network : NetworkModel) (trip : Trip) (asks : m.asks) (faultless : IfTold old (λ held. m.fault held ≡ None))
      (fails : (fault : RequestFault) → failed_check network trip ≡ Some fault → IfTold old (λ held. m.fails held fault)) where
    stopped : (end : Result Report Halt) (halt : Halt) → IsErrAnd end (λ h. h ≡ halt) → StopsTrip network trip halt → Ends m old new end
    stopped end (Refused Usage) at why = absurd why
    stopped end (Refused (Input fault)) at why = absurd why
    stopped end (Refused (Request fault)) at why =
        ends_at m old new end (Refused (Request fault)) at (ends_refused asks faultless fault (fails fault why))
    stopped end ReadFault at why = absurd why
    stopped end WriteFault at why = absurd why
    stopped end NoMemory at why = ends_short end at

    pub ends_stopped_by : (asked : Trip) (end : Result Report Halt) (halt : Halt) → asked ≡ trip → IsErrAnd end (λ h. h ≡ halt)
        → StopsTrip network asked halt → Ends m old new end
    ends_stopped_by asked end halt is at why = stopped end halt at (subst (λ (t : Trip). StopsTrip network t halt) is why)

  -- the same where it is the folder's network
  pub ends_stopped : (network : NetworkModel) (trip : Trip) (dir : List ℕ) → m.asks
      → ((held : Contents) (fault : RequestFault) → failed_check (network_held held dir) trip ≡ Some fault → m.fails held fault)
      → IfTold old (λ held. m.fault held ≡ None) → IfTold old (λ held. network ≡ network_held held dir)
      → (asked : Trip) (end : Result Report Halt) (halt : Halt) → asked ≡ trip → IsErrAnd end (λ h. h ≡ halt)
      → StopsTrip network asked halt → Ends m old new end
  ends_stopped network trip dir asks fails faultless found = ends_stopped_by network trip asks faultless
      (λ fault why held is. fails held fault (subst (λ (n : NetworkModel). failed_check n trip ≡ Some fault) (found held is) why))

  -- the states are too many, or memory has run out
  pub ends_at_size : (Many : Type 0) → m.asks → IfTold old (λ held. m.fault held ≡ None)
      → (Many → IfTold old (λ held. m.fails held TooManyStates)) → (end : Result Report Halt) (halt : Halt) → IsErrAnd end (λ h. h ≡ halt)
      → StopsAtSize Many halt → Ends m old new end
  ends_at_size Many asks faultless fails end halt at why = ⊎_elim
      (λ (short : halt ≡ NoMemory). ends_short end (subst (λ (k : Halt). IsErrAnd end (λ h. h ≡ k)) short at))
      (λ (many : (halt ≡ Refused (Request TooManyStates)) × Many).
      ends_at m old new end (Refused (Request TooManyStates)) (subst (λ (k : Halt). IsErrAnd end (λ h. h ≡ k)) many.0 at)
      (ends_refused asks faultless TooManyStates (fails many.1)))
      why

-- the status of a report that rejects nothing
pub status_done : (report : Report) → report.rejects ≡ false → status_of_report report ≡ Done
status_done report accepts = subst (λ (b : Bool). cond b Rejected Done ≡ Done) (sym accepts) refl

-- a report that rejects nothing is on the command whose answer it has
pub reports : (m : Meaning) (old new : FolderState) (report : Report) → report.rejects ≡ false
    → IfTold old (λ held. IsAnsweredBy m held new.contents report.text.items) → ReportsOn m old new report
reports m old new report accepts answered = record {
  answered = λ _. answered;
  judges = λ rejects. absurd (both_ways report.rejects accepts rejects);
  rejected = λ rejects. absurd (both_ways report.rejects accepts rejects);
}
