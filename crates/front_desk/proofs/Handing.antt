-- A plan that is ready is handed over.
use Rattle.std.proofs.Common.{◌≡◌, inl, inr, ℕ, Some, None, Option, List, Result, Ok, Err, refl, ap, sym, subst, ◌∙◌, arith}
use Rattle.std.specs.Result.{IsErrAnd}
use Rattle.std.proofs.lemmas.Option.{same_Some}
use Rattle.route_base.specs.Contents.{Contents, Holds, LeavesOpen}
use Rattle.route_base.specs.Counts.{HasRisen}
use Rattle.route_base.specs.FolderState.{FolderState, CountsRise, KeepsFiles, FailedToWrite}
use Rattle.route_base.specs.Front.{IsRight}
use Rattle.route_base.specs.Setting.{Setting}
use Rattle.route_base.proofs.FolderStates.{keeps_more}
use Rattle.route_base.specs.declared.sink.WriteError.{WriteError}
use Rattle.route_base.specs.declared.sink.WriteError.TheVariants.{Failed, OutOfMemory}
use Rattle.route_base.specs.declared.status.Status.{Status}
use Rattle.route_base.specs.declared.status.Status.TheVariants.{Done}
use Rattle.network_tables.specs.NetworkModel.{NetworkModel}
use Rattle.plan_report.specs.declared.outcomes.Refusal.TheVariants.{Usage, Input, Request}
use Rattle.front_words.specs.declared.plan.Plan.{Plan}
use Rattle.network_folder.specs.Files.{IfTold, path_of}
use Rattle.front_desk.proofs.Ending.{kept_rises, reports, status_done}
use Rattle.front_desk.specs.Inside.Ending.{Ends, StopsCommand, halt_of_write, status_of_halt}
use Rattle.front_desk.specs.Inside.Planning.{IsFileFor, IsReady, IsWritten, IsUnwritten, HandsOver}
use Rattle.front_desk.specs.Plan.{Certifies, HoldsCertificate, IsPlanned, LeavesPlan, PlanWrites, plan_fault, plan_check, plan_meaning, trip_setting}
use Rattle.network_folder.specs.ReadingOrder.{network_held}
use Rattle.front_desk.specs.Trips.{failed_check, request_of}
use Rattle.front_desk.specs.declared.outcome.Halt.{Halt}
use Rattle.front_desk.specs.declared.outcome.Halt.TheVariants.{Refused, ReadFault, WriteFault, NoMemory}
use Rattle.front_desk.specs.declared.outcome.Report.{Report}
use Rattle.front_desk.specs.declared.plan.CertificateFile.{CertificateFile}
use Rattle.front_desk.specs.declared.plan.Planned.{Planned}
use Rattle.front_desk.specs.Inside.Sound.{IsSound, StaysLeft}
use Rattle.front_desk.specs.Plan.{LeavesCertificate}
use Rattle.front_desk.proofs.OneText.{one_plan}
use Rattle.front_desk.proofs.Sound.{never_some, same_state}
use Rattle.route_base.specs.declared.status.Status.TheVariants as status

-- what holds under a name leaves all else open
opened : (before after : Option Contents) (path bytes : List ℕ) → Holds before after path bytes → LeavesOpen before after path
opened None None path bytes holds = tt
opened None (Some new) path bytes holds = holds
opened (Some old) None path bytes holds = holds
opened (Some old) (Some new) path bytes holds = holds.1

rise_more : (old mid new : FolderState) → KeepsFiles old mid → CountsRise mid new → CountsRise old new
rise_more old mid new a b = record {
  missing = omega (arith, a.missing, b.missing);
  read_faults = omega (arith, a.read_faults, b.read_faults);
  write_faults = omega (arith, a.write_faults, b.write_faults);
}

-- files that are as they were are left so by every halt
kept_leaves : (p : Plan) (asked : Option (List ℕ)) (old new : FolderState) (halt : Halt) → KeepsFiles old new
    → LeavesPlan p asked old new (status_of_halt halt)
kept_leaves p None old new halt kept = kept
kept_leaves p (Some name) old new (Refused Usage) kept = kept
kept_leaves p (Some name) old new (Refused (Input fault)) kept = kept
kept_leaves p (Some name) old new (Refused (Request fault)) kept = kept
kept_leaves p (Some name) old new ReadFault kept = kept
kept_leaves p (Some name) old new WriteFault kept = inl kept
kept_leaves p (Some name) old new NoMemory kept = inl kept.contents

pub left_unread : (p : Plan) (old new : FolderState) → KeepsFiles old new → (halt : Halt) → (plan_meaning p).leaves old new (status_of_halt halt)
left_unread p old new kept halt = kept_leaves p p.certificate old new halt kept

failed_since : (old mid new : FolderState) → KeepsFiles old mid → FailedToWrite mid new → FailedToWrite old new
failed_since old mid new a b = subst (λ (n : ℕ). HasRisen n new.write_faults) a.write_faults b

module _ (p : Plan) (old mid new : FolderState) (kept : KeepsFiles old mid) (network : NetworkModel)
    (found : IfTold old (λ held. network ≡ network_held held p.dir)) (planned : Planned)
    (ready : IsReady (trip_setting network p.trip) p planned) where
  -- a certificate that was written is held
  holds : (s : Setting) (name : List ℕ) (file : CertificateFile) (held : Contents) → old.contents ≡ Some held
      → IsFileFor s (request_of p.trip) ready.routes (Some name) (Some file)
      → Holds mid.contents new.contents (path_of p.dir file.name.now) file.bytes.items
      → HoldsCertificate s (request_of p.trip) ready.routes (path_of p.dir name) (Some held) new.contents
  holds s name file held is for put = record {
    bytes = file.bytes.items;
    certifies = for.1;
    held = subst (λ (n : List ℕ). Holds (Some held) new.contents (path_of p.dir n) file.bytes.items) for.0
        (subst (λ (o : Option Contents). Holds o new.contents (path_of p.dir file.name.now) file.bytes.items) (kept.contents ∙ is) put);
  }

  certified : (s : Setting) (asked : Option (List ℕ)) (file : Option CertificateFile) (held : Contents) → old.contents ≡ Some held
      → IsFileFor s (request_of p.trip) ready.routes asked file → IsWritten mid new p.dir file
      → Certifies s (request_of p.trip) ready.routes p.dir asked (Some held) new.contents
  certified s None file held is for written = tt
  certified s (Some name) None held is for written = absurd for
  certified s (Some name) (Some file) held is for written = holds s name file held is for written.1

  rises : (file : Option CertificateFile) → IsWritten mid new p.dir file → CountsRise old new
  rises None written = kept_rises old new (keeps_more old mid new kept written)
  rises (Some file) written = rise_more old mid new kept written.0

  unwritten_rises : (file : Option CertificateFile) (error : WriteError) → IsUnwritten mid new p.dir file error → CountsRise old new
  unwritten_rises None error why = absurd why
  unwritten_rises (Some file) error why = rise_more old mid new kept why.0

  unwritten_leaves : (asked : Option (List ℕ)) (file : Option CertificateFile) (error : WriteError)
      → IsFileFor (trip_setting network p.trip) (request_of p.trip) ready.routes asked file → IsUnwritten mid new p.dir file error
      → LeavesPlan p asked old new (status_of_halt (halt_of_write error))
  unwritten_leaves asked None error for why = absurd why
  unwritten_leaves None (Some file) error for why = absurd for
  unwritten_leaves (Some name) (Some file) Failed for why = inr (inr (
    failed_since old mid new kept why.1.0,
    subst (λ (n : List ℕ). LeavesOpen old.contents new.contents (path_of p.dir n)) for.0
        (subst (λ (o : Option Contents). LeavesOpen o new.contents (path_of p.dir file.name.now)) kept.contents why.1.1),
  ))
  unwritten_leaves (Some name) (Some file) OutOfMemory for why = inl (why.1 ∙ kept.contents)

  writes : (asked : Option (List ℕ)) (file : CertificateFile)
      → IsFileFor (trip_setting network p.trip) (request_of p.trip) ready.routes asked (Some file) → PlanWrites asked
  writes None file for = for
  writes (Some name) file for = tt

  module _ (faultless : IfTold old (λ held. plan_fault p held ≡ None)) (passed : failed_check network p.trip ≡ None) where
    passes : IfTold old (λ held. plan_check p held ≡ None)
    passes held is = ap (λ (n : NetworkModel). failed_check n p.trip) (sym (found held is)) ∙ passed

    leaves : (asked : Option (List ℕ)) (file : Option CertificateFile)
        → IsFileFor (trip_setting network p.trip) (request_of p.trip) ready.routes asked file → IsWritten mid new p.dir file
        → LeavesPlan p asked old new Done
    leaves None None for written = keeps_more old mid new kept written
    leaves None (Some file) for written = absurd for
    leaves (Some name) None for written = absurd for
    leaves (Some name) (Some file) for written = record {
      others = subst (λ (n : List ℕ). LeavesOpen old.contents new.contents (path_of p.dir n)) for.0
          (subst (λ (o : Option Contents). LeavesOpen o new.contents (path_of p.dir file.name.now)) kept.contents
          (opened mid.contents new.contents (path_of p.dir file.name.now) file.bytes.items written.1));
      whole = λ held is. record {
        faultless = faultless held is;
        good = passes held is;
        routes = ready.routes;
        right = subst (λ (n : NetworkModel). IsRight (trip_setting n p.trip) (request_of p.trip) ready.routes) (found held is) ready.right;
        certified = subst
            (λ (n : NetworkModel). HoldsCertificate (trip_setting n p.trip) (request_of p.trip) ready.routes (path_of p.dir name) (Some held) new.contents)
            (found held is) (holds (trip_setting network p.trip) name file held is for written.1);
      };
    }

    unwritten_stops : (file : Option CertificateFile) (error : WriteError)
        → IsFileFor (trip_setting network p.trip) (request_of p.trip) ready.routes p.certificate file → IsUnwritten mid new p.dir file error
        → StopsCommand (plan_meaning p) old new (halt_of_write error)
    unwritten_stops None error for why = absurd why
    unwritten_stops (Some file) Failed for why = record {
      writes = writes p.certificate file for;
      faultless = faultless;
      good = passes;
      counted = failed_since old mid new kept why.1.0;
    }
    unwritten_stops (Some file) OutOfMemory for why = tt

    -- the text is handed over
    ends_handed : (report : Report) → HandsOver mid new p.dir planned (Ok report) → Ends (plan_meaning p) old new (Ok report)
    ends_handed report h = record {
      concludes = reports (plan_meaning p) old new report h.0 (λ held is. record {
        faultless = faultless held is;
        good = passes held is;
        answer = subst (λ (n : NetworkModel). IsPlanned (trip_setting n p.trip) p (Some held) new.contents report.text.items) (found held is)
            (record {
              routes = ready.routes;
              right = ready.right;
              is_text = h.1.0 ∙ ready.is_text;
              certified = certified (trip_setting network p.trip) p.certificate planned.certificate held is ready.file h.1.1;
            });
      });
      left = subst (λ (status : Status). LeavesPlan p p.certificate old new status) (sym (status_done report h.0))
          (leaves p.certificate planned.certificate ready.file h.1.1);
      counts = rises planned.certificate h.1.1;
    }

    -- the certificate couldn't be written
    ends_unwritten : (error : WriteError) → IsUnwritten mid new p.dir planned.certificate error → Ends (plan_meaning p) old new (Err (halt_of_write error))
    ends_unwritten error h = record {
      concludes = unwritten_stops planned.certificate error ready.file h;
      left = unwritten_leaves p.certificate planned.certificate error ready.file h;
      counts = unwritten_rises planned.certificate error h;
    }

    -- how the handing over ends is how the plan ends
    pub ends_handing : (end : Result Report Halt) → HandsOver mid new p.dir planned end → Ends (plan_meaning p) old new end
    ends_handing (Ok report) h = ends_handed report h
    ends_handing (Err halt) h = subst (λ (k : Halt). Ends (plan_meaning p) old new (Err k)) (sym h.is_halt) (ends_unwritten h.error h.unwritten)

-- a certificate that couldn't be written stops the handing over
pub stops_handing : (old new : FolderState) (dir : List ℕ) (planned : Planned) (end : Result Report Halt) (error : WriteError)
    → IsErrAnd end (λ h. h ≡ halt_of_write error) → IsUnwritten old new dir planned.certificate error → HandsOver old new dir planned end
stops_handing old new dir planned (Ok report) error at why = absurd at
stops_handing old new dir planned (Err halt) error at why = record { error = error; is_halt = at; unwritten = why }

module _ (old new : FolderState) where
  certificate_left : (p : Plan) (name : List ℕ) (due : Status) → LeavesCertificate p name old new due
      → StaysLeft (LeavesCertificate p name old new) due
  certificate_left p name status.Done left = (λ _. inr (inl left), λ _. inr left)
  certificate_left p name status.Rejected left = (λ _. inl left, λ _. inl left.contents)
  certificate_left p name status.Usage left = (λ _. inl left, λ _. inl left.contents)
  certificate_left p name status.BadInput left = (λ _. inl left, λ _. inl left.contents)
  certificate_left p name status.ReadFault left = (λ _. inl left, λ _. inl left.contents)
  certificate_left p name status.WriteFault left = (λ _. left, λ not. absurd (not refl))
  certificate_left p name status.NoMemory left = (λ not. absurd (not refl), λ _. left)
  certificate_left p name status.BadRequest left = (λ _. inl left, λ _. inl left.contents)

  plan_left : (p : Plan) (asked : Option (List ℕ)) (due : Status) → LeavesPlan p asked old new due → StaysLeft (LeavesPlan p asked old new) due
  plan_left p None due left = (λ _. left, λ _. left)
  plan_left p (Some name) due left = certificate_left p name due left

short_plan : (p : Plan) (asked : Option (List ℕ)) (old : FolderState) → LeavesPlan p asked old old status.NoMemory
short_plan p None old = same_state old
short_plan p (Some name) old = inl refl

-- the meaning of the command is sound
pub plan_sound : (p : Plan) → IsSound (plan_meaning p)
plan_sound p = record {
  never_both = λ held failed some none. never_some (plan_check p held) some none;
  stays = λ old new. plan_left old new p p.certificate;
  short = short_plan p p.certificate;
  unread = λ nothing old new left. nothing;
  one = λ held after other x y. one_plan _ p (Some held) after other x y;
  one_fault = λ held fault other first second. same_Some fault other (sym first ∙ second);
  one_rejection = λ held x y first second. absurd first;
  never_rejects = λ held after x y answers rejects. rejects;
}
