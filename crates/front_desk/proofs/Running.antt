-- What a run says by its status.
use Rattle.std.proofs.Common.{◌≡◌, ◌≢◌, ◌⊎◌, inl, inr, ⊎_elim, ℕ, Some, None, Option, List, refl, sym, subst, ◌∙◌, arith}
use Rattle.route_base.specs.Contents.{Contents}
use Rattle.route_base.specs.FolderState.{FolderState, CountsRise, FailedToRead}
use Rattle.route_base.specs.Setting.{Setting}
use Rattle.route_base.specs.SinkState.{SinkState}
use Rattle.route_base.specs.declared.faults.BadInput.{BadInput}
use Rattle.route_base.specs.declared.faults.RequestFault.{RequestFault}
use Rattle.route_base.specs.declared.status.Status.{Status}
use Rattle.route_base.specs.declared.status.Status.TheVariants.{Done, Rejected, Usage, BadInput as BadInputStatus, ReadFault, WriteFault}
use Rattle.route_base.specs.declared.status.Status.TheVariants.{NoMemory, BadRequest}
use Rattle.route_base.specs.declared.types.Request.{Request}
use Rattle.certificate.specs.declared.Certificate.{Certificate}
use Rattle.certificate.proofs.Whole.{one_certificate}
use Rattle.certificate_check.specs.Verdicts.{IsGood}
use Rattle.certificate_check.proofs.Failing.{good_never_fails}
use Rattle.plan_report.specs.declared.outcomes.Refusal.{Refusal}
use Rattle.plan_report.specs.declared.outcomes.Refusal.TheVariants as refusal
use Rattle.front_desk.specs.Check.{no_certificate, condition_fails, FailsWith, HasGoodCertificate, IsGoodText, RejectsCertificate}
use Rattle.front_words.specs.declared.check.Check.{Check}
use Rattle.front_words.specs.declared.commands.Invocation.{Invocation as Command}
use Rattle.front_words.specs.declared.commands.Invocation.TheVariants.{Check as to_check}
use Rattle.front_words.specs.Commands.{command_of}
use Rattle.front_desk.specs.Commands.{LeavesFiles, ReadsNothing, meaning_of}
use Rattle.front_desk.specs.Inside.Ending.{Writes}
use Rattle.front_desk.specs.Run.{Completes, FailsToWrite, IsCause, IsDue, IsRefused, Prints, Runs, HasFailed, StopsWriting, status_of}
use Rattle.front_desk.specs.Outcomes.{IsFinished}
use Rattle.front_desk.proofs.Leaving.{still_left}
use Rattle.front_desk.proofs.Meanings.{sound}

-- the text of a good certificate isn't rejected
good_never_rejected : (s : Setting) (r : Request) (bytes : List ℕ) (k : ℕ) → IsGoodText s r bytes → FailsWith s r bytes k → ⊥
good_never_rejected s r bytes _ good (no_certificate none) = none good.certificate good.read
good_never_rejected s r bytes _ good (condition_fails c k read fails) =
    good_never_fails s r c k (subst (λ (d : Certificate). IsGood s r d) (one_certificate bytes good.certificate c good.read read) good.good) fails

module _ (words : List (List ℕ)) (old new : FolderState) where
  no_command : (command : Command) → command_of words ≡ None → command_of words ≡ Some command → ⊥
  no_command command none some = cc

  -- words that are no command are refused as such
  refusal_usage : command_of words ≡ None → (why : Refusal) → IsCause words old new why → status_of why ≡ Usage
  refusal_usage none refusal.Usage cause = refl
  refusal_usage none (refusal.Input fault) cause = absurd (no_command cause.command none cause.is_command)
  refusal_usage none (refusal.Request fault) cause = absurd (no_command cause.command none cause.is_command)

  due_usage : command_of words ≡ None → (status : Status) (text : List ℕ) → IsDue words old new status text → status ≡ Usage
  due_usage none Done text d = absurd (no_command d.command none d.is_command)
  due_usage none Rejected text d = absurd (no_command d.command none d.is_command)
  due_usage none Usage text d = refl
  due_usage none BadInputStatus text d = sym d.has_status ∙ refusal_usage none d.refusal d.cause
  due_usage none BadRequest text d = sym d.has_status ∙ refusal_usage none d.refusal d.cause
  due_usage none ReadFault text d = absurd d
  due_usage none WriteFault text d = absurd d
  due_usage none NoMemory text d = absurd d

  module _ (held : Contents) (told : old.contents ≡ Some held) (command : Command) (is : command_of words ≡ Some command) where
    same_command : (other : Command) → command_of words ≡ Some other → other ≡ command
    same_command other other_is = cc

    fault_of : (other : Command) (o : Option BadInput) → command_of words ≡ Some other → (meaning_of other).fault held ≡ o
        → (meaning_of command).fault held ≡ o
    fault_of other o other_is found = subst (λ (k : Command). (meaning_of k).fault held ≡ o) (same_command other other_is) found

    passes_of : (other : Command) → command_of words ≡ Some other → (meaning_of other).passes held → (meaning_of command).passes held
    passes_of other other_is passed = subst (λ (k : Command). (meaning_of k).passes held) (same_command other other_is) passed

    fails_of : (other : Command) (fault : RequestFault) → command_of words ≡ Some other → (meaning_of other).fails held fault
        → (meaning_of command).fails held fault
    fails_of other fault other_is failed = subst (λ (k : Command). (meaning_of k).fails held fault) (same_command other other_is) failed

    -- the files have a fault
    module _ (fault : BadInput) (bad : (meaning_of command).fault held ≡ Some fault) where
      no_fault : (meaning_of command).fault held ≡ None → ⊥
      no_fault none = cc

      refusal_input : (why : Refusal) → IsCause words old new why → status_of why ≡ BadInputStatus
      refusal_input refusal.Usage cause = absurd (no_command command cause is)
      refusal_input (refusal.Input f) cause = refl
      refusal_input (refusal.Request f) cause =
          absurd (no_fault (fault_of cause.command None cause.is_command (cause.cause.faultless held told)))

      due_input : (status : Status) (text : List ℕ) → IsDue words old new status text → status ≡ BadInputStatus
      due_input Done text d = let a = d.answered held told in absurd (no_fault (fault_of d.command None d.is_command a.faultless))
      due_input Rejected text d = let a = d.rejected held told in absurd (no_fault (fault_of d.command None d.is_command a.faultless))
      due_input Usage text d = sym d.has_status ∙ refusal_input d.refusal d.cause
      due_input BadInputStatus text d = refl
      due_input BadRequest text d = sym d.has_status ∙ refusal_input d.refusal d.cause
      due_input ReadFault text d = absurd d
      due_input WriteFault text d = absurd d
      due_input NoMemory text d = absurd d

    module _ (faultless : (meaning_of command).fault held ≡ None) where
      no_input : (other : Command) (f : BadInput) → command_of words ≡ Some other → (meaning_of other).fault held ≡ Some f → ⊥
      no_input other f other_is bad = let here = fault_of other (Some f) other_is bad in clash here
        where
          clash : (meaning_of command).fault held ≡ Some f → ⊥
          clash here = cc

      -- the request fails a check
      module _ (fault : RequestFault) (bad : (meaning_of command).fails held fault) where
        no_check : (meaning_of command).passes held → ⊥
        no_check passed = (sound command).never_both held fault bad passed

        refusal_request : (why : Refusal) → IsCause words old new why → status_of why ≡ BadRequest
        refusal_request refusal.Usage cause = absurd (no_command command cause is)
        refusal_request (refusal.Input f) cause = absurd (no_input cause.command f cause.is_command (cause.cause.first held told))
        refusal_request (refusal.Request f) cause = refl

        due_request : (status : Status) (text : List ℕ) → IsDue words old new status text → status ≡ BadRequest
        due_request Done text d = let a = d.answered held told in absurd (no_check (passes_of d.command d.is_command a.good))
        due_request Rejected text d = let a = d.rejected held told in absurd (no_check (passes_of d.command d.is_command a.good))
        due_request Usage text d = sym d.has_status ∙ refusal_request d.refusal d.cause
        due_request BadInputStatus text d = sym d.has_status ∙ refusal_request d.refusal d.cause
        due_request BadRequest text d = refl
        due_request ReadFault text d = absurd d
        due_request WriteFault text d = absurd d
        due_request NoMemory text d = absurd d

      -- the request passes all checks
      module _ (passed : (meaning_of command).passes held) where
        no_refusal : (why : Refusal) → IsCause words old new why → ⊥
        no_refusal refusal.Usage cause = no_command command cause is
        no_refusal (refusal.Input f) cause = no_input cause.command f cause.is_command (cause.cause.first held told)
        no_refusal (refusal.Request f) cause =
            (sound command).never_both held f (fails_of cause.command f cause.is_command (cause.cause.first held told)) passed

        due_finished : (status : Status) (text : List ℕ) → IsDue words old new status text → IsFinished (meaning_of command) status
        due_finished Done text d = inl refl
        due_finished Rejected text d =
            inr (subst (λ (k : Command). (meaning_of k).judges) (same_command d.command d.is_command) d.judges, refl)
        due_finished Usage text d = absurd (no_refusal d.refusal d.cause)
        due_finished BadInputStatus text d = absurd (no_refusal d.refusal d.cause)
        due_finished BadRequest text d = absurd (no_refusal d.refusal d.cause)
        due_finished ReadFault text d = absurd d
        due_finished WriteFault text d = absurd d
        due_finished NoMemory text d = absurd d

  module _ (held : Contents) (told : old.contents ≡ Some held) (check : Check) (is : command_of words ≡ Some (to_check check))
      (good : HasGoodCertificate check held) where
    never_rejected : (other : Command) (text : List ℕ) → other ≡ to_check check → (meaning_of other).rejects held text → ⊥
    never_rejected other text same rejects =
        let r : RejectsCertificate check held text = subst (λ (k : Command). (meaning_of k).rejects held text) same rejects in
        good_never_rejected _ _ _ r.number good.good r.fails

    due_accepted : (status : Status) (text : List ℕ) → IsDue words old new status text → status ≡ Done
    due_accepted Done text d = refl
    due_accepted Rejected text d =
        let a = d.rejected held told in
        absurd (never_rejected d.command text (same_command held told (to_check check) is d.command d.is_command) a.rejects)
    due_accepted Usage text d = absurd (no_refusal held told (to_check check) is good.faultless good.passed d.refusal d.cause)
    due_accepted BadInputStatus text d = absurd (no_refusal held told (to_check check) is good.faultless good.passed d.refusal d.cause)
    due_accepted BadRequest text d = absurd (no_refusal held told (to_check check) is good.faultless good.passed d.refusal d.cause)
    due_accepted ReadFault text d = absurd d
    due_accepted WriteFault text d = absurd d
    due_accepted NoMemory text d = absurd d

  -- a text that is due was handed to a sink
  module _ (from to : SinkState) (due : Status) (text : List ℕ) (is_due : IsDue words old new due text) (counts : CountsRise old new)
      (left : LeavesFiles (command_of words) old new due) (status : Status) (w : Writes due from to text status) where
    -- no text is due with the statuses of failures
    no_failure : (k : Status) → IsDue words old new k text → (k ≢ ReadFault) × ((k ≢ WriteFault) × (k ≢ NoMemory))
    no_failure Done d = (λ same. cc, (λ same. cc, λ same. cc))
    no_failure Rejected d = (λ same. cc, (λ same. cc, λ same. cc))
    no_failure Usage d = (λ same. cc, (λ same. cc, λ same. cc))
    no_failure BadInputStatus d = (λ same. cc, (λ same. cc, λ same. cc))
    no_failure BadRequest d = (λ same. cc, (λ same. cc, λ same. cc))
    no_failure ReadFault d = absurd d
    no_failure WriteFault d = absurd d
    no_failure NoMemory d = absurd d

    not_read : due ≢ ReadFault
    not_read = (no_failure due is_due).0

    not_fault : due ≢ WriteFault
    not_fault = (no_failure due is_due).1.0

    not_memory : due ≢ NoMemory
    not_memory = (no_failure due is_due).1.1

    -- the status is the one that is due, or writing or memory failed
    by_others : (P : Type 0) → (status ≡ due → P) → (status ≡ WriteFault → P) → (status ≡ NoMemory → P) → P
    by_others P here fault memory =
        ⊎_elim here (λ (failed : (status ≡ WriteFault) ⊎ (status ≡ NoMemory)). ⊎_elim fault memory failed) w.others

    due_or_failed : (k : Status) → due ≡ k → (status ≡ k) ⊎ HasFailed status
    due_or_failed k same =
        by_others ((status ≡ k) ⊎ HasFailed status) (λ here. inl (here ∙ same)) (λ fault. inr (inr (inl fault))) (λ memory. inr (inr (inr memory)))

    prints : (k : Status) → status ≡ k → k ≢ WriteFault → k ≢ NoMemory → Prints (IsDue words old new k) from to
    prints k same no_fault no_memory = record {
      text = text;
      is_due = by_others (IsDue words old new k text)
          (λ here. subst (λ (s : Status). IsDue words old new s text) (sym here ∙ same) is_due)
          (λ fault. absurd (no_fault (sym same ∙ fault))) (λ memory. absurd (no_memory (sym same ∙ memory)));
      gained = w.written (λ fault. no_fault (sym same ∙ fault)) (λ memory. no_memory (sym same ∙ memory));
    }

    never_read : status ≢ ReadFault
    never_read same =
        by_others ⊥ (λ here. not_read (sym here ∙ same)) (λ fault. cc) (λ memory. cc)

    pub runs_printed : Runs words old new from to status
    runs_printed = record {
      done = λ same. prints Done same (λ clash. cc) (λ clash. cc);
      refused = λ is. prints status refl (λ fault. subst (λ (s : Status). IsRefused s) fault is) (λ memory. subst (λ (s : Status). IsRefused s) memory is);
      write_fault = λ fault. inr (record {
        counted = w.fault fault not_fault;
        status = due;
        text = text;
        is_due = is_due;
        left = left;
        gained = w.part fault not_fault;
      });
      silent = λ failed. ⊎_elim (λ (read : status ≡ ReadFault). absurd (never_read read)) (λ (memory : status ≡ NoMemory). w.silent memory not_memory) failed;
      read_fault = λ read. absurd (never_read read);
      nothing_read = λ _. never_read;
      usage_due = λ none. due_or_failed Usage (due_usage none due text is_due);
      bad_input_due = λ held command fault told is bad. due_or_failed BadInputStatus (due_input held told command is fault bad due text is_due);
      bad_request_due = λ held command fault told is faultless bad.
          due_or_failed BadRequest (due_request held told command is faultless fault bad due text is_due);
      complete = λ held command told is faultless passed undisturbed. by_others (IsFinished (meaning_of command) status ⊎ (status ≡ NoMemory))
          (λ here. inl (subst (λ (s : Status). IsFinished (meaning_of command) s) (sym here)
          (due_finished held told command is faultless passed due text is_due)))
          (λ fault. absurd (undisturbed.appends (w.fault fault not_fault))) (λ memory. inr memory);
      accepted = λ held check told is good. due_or_failed Done (due_accepted held told check is good due text is_due);
      left = still_left old new (command_of words) due status not_fault not_memory w.others left;
      folder_counts = counts;
      sink_count = w.count;
    }

  -- reading, writing a file or memory failed, and nothing was printed
  module _ (sink : SinkState) (counts : CountsRise old new) where
    -- all that doesn't speak of the status that a failure has
    runs_failed : (status : Status) → HasFailed status → (status ≡ Done → ⊥) → (IsRefused status → ⊥)
        → (status ≡ WriteFault → FailsToWrite words old new sink sink) → (status ≡ ReadFault → FailedToRead old new)
        → (ReadsNothing (command_of words) → status ≢ ReadFault) → Completes words old new sink sink status
        → LeavesFiles (command_of words) old new status → Runs words old new sink sink status
    runs_failed status failed not_done not_refused write_fault read_fault nothing_read complete left = record {
      done = λ same. absurd (not_done same);
      refused = λ is. absurd (not_refused is);
      write_fault = write_fault;
      silent = λ _. refl;
      read_fault = read_fault;
      nothing_read = nothing_read;
      usage_due = λ none. inr failed;
      bad_input_due = λ held command fault told is bad. inr failed;
      bad_request_due = λ held command fault told is faultless bad. inr failed;
      complete = complete;
      accepted = λ held check told is good. inr failed;
      left = left;
      folder_counts = counts;
      sink_count = omega arith;
    }

    pub runs_unread : FailedToRead old new → (ReadsNothing (command_of words) → ⊥) → LeavesFiles (command_of words) old new ReadFault
        → Runs words old new sink sink ReadFault
    runs_unread counted reads left =
        runs_failed ReadFault (inl refl) (λ same. cc) (λ is. is) (λ same. cc) (λ _. counted) (λ nothing. absurd (reads nothing))
        (λ held command told is faultless passed undisturbed. absurd (undisturbed.reads counted)) left

    pub runs_unwritten : StopsWriting words old new → LeavesFiles (command_of words) old new WriteFault → Runs words old new sink sink WriteFault
    runs_unwritten stops left =
        runs_failed WriteFault (inr (inl refl)) (λ same. cc) (λ is. is) (λ _. inl (record { stops = stops; silent = refl })) (λ same. cc)
        (λ nothing same. cc)
        (λ held command told is faultless passed undisturbed. absurd (undisturbed.writes
        (subst (λ (k : Command). (meaning_of k).writes) (same_command held told command is stops.command stops.is_command) stops.stops.writes)
        stops.stops.counted)) left

    pub runs_short : LeavesFiles (command_of words) old new NoMemory → Runs words old new sink sink NoMemory
    runs_short left =
        runs_failed NoMemory (inr (inr refl)) (λ same. cc) (λ is. is) (λ same. cc) (λ same. cc) (λ nothing same. cc)
        (λ held command told is faultless passed undisturbed. inr refl) left
