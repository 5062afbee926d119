-- A table of jobs that was read, and the texts of its jobs.
use Rattle.std.proofs.Common.{◌≡◌, ℕ, false, Some, None, Option, List, Ok, length, ap, sym, subst, ◌∙◌}
use Rattle.std.specs.Option.{option_or}
use Rattle.std.specs.Prelude.{IfSome}
use Rattle.route_base.specs.Causes.{IsOfContents}
use Rattle.route_base.specs.Contents.{Contents}
use Rattle.route_base.specs.FolderState.{FolderState, KeepsFiles}
use Rattle.route_base.specs.declared.faults.BadInput.{BadInput}
use Rattle.route_base.specs.declared.faults.RequestFault.{RequestFault}
use Rattle.route_base.specs.declared.types.Form.{Form}
use Rattle.route_base.specs.declared.types.Form.TheVariants.{Plain}
use Rattle.network_tables.specs.NetworkModel.{NetworkModel}
use Rattle.network_tables.specs.declared.jobs.Job.{Job}
use Rattle.plan_report.specs.Batch.{batch_text_of}
use Rattle.plan_report.specs.Refusals.{refusal_text_of}
use Rattle.plan_report.specs.Reports.{report_text}
use Rattle.plan_report.specs.declared.outcomes.Refusal.TheVariants.{Request}
use Rattle.trip_batch.specs.Right.{AreRightByJob}
use Rattle.front_desk.specs.Batch.{batch_fault, jobs_held, trip_of_job, IsTripText, IsJobText, IsTextAt, IsBatchText}
use Rattle.front_words.specs.declared.batch.Batch.{Batch}
use Rattle.front_words.specs.declared.plan.Plan.{Plan}
use Rattle.front_desk.specs.Batch.{batch_meaning}
use Rattle.network_folder.specs.Files.{IfTold}
use Rattle.front_desk.specs.Inside.Ending.{Ends}
use Rattle.front_desk.proofs.Ending.{kept_rises, reports}
use Rattle.network_folder.specs.Faults.{StopsReading, StopsStating}
use Rattle.front_desk.specs.Inside.Planning.{IsReady}
use Rattle.front_desk.specs.Inside.Sharing.{IsTextAtPlace}
use Rattle.front_desk.specs.Plan.{trip_setting}
use Rattle.network_folder.specs.ReadingOrder.{network_held}
use Rattle.front_desk.specs.Trips.{Trip, failed_check, request_of}
use Rattle.network_folder.specs.declared.faults.LoadFault.{LoadFault}
use Rattle.network_folder.specs.declared.faults.LoadFault.TheVariants.{Bad, Failed, OutOfMemory}
use Rattle.front_desk.specs.declared.outcome.Report.{Report}
use Rattle.front_desk.specs.declared.plan.Planned.{Planned}
use Rattle.front_desk.specs.Inside.Sound.{IsSound}
use Rattle.front_desk.specs.Batch.{IsBatchReport}
use Rattle.front_desk.proofs.OneText.{one_batch}
use Rattle.front_desk.proofs.Sound.{reads_sound, without_request_sound}

-- of two faults, of which the first counts
module _ (old new : FolderState) (first second : Contents → Option BadInput) where
  -- the first stops reading
  pub stops_first : (why : LoadFault) → StopsReading first old new why → StopsReading (λ held. option_or (first held) (second held)) old new why
  stops_first (Bad fault) why = record {
    first = λ held is. ap (λ (o : Option BadInput). option_or o (second held)) (why.first held is);
    missed = why.missed;
  }
  stops_first Failed why = why
  stops_first OutOfMemory why = tt

  module _ (fault : Option BadInput) (faultless : IfTold old (λ held. first held ≡ None)) (same : IfTold old (λ held. second held ≡ fault)) where
    -- the first isn't there
    pub second_counts : IfTold old (λ held. option_or (first held) (second held) ≡ fault)
    second_counts held is = ap (λ (o : Option BadInput). option_or o (second held)) (faultless held is) ∙ same held is

    -- the second stops reading
    pub stops_second : (why : LoadFault) → StopsStating fault why → StopsReading (λ held. option_or (first held) (second held)) old new why
    stops_second (Bad bad) why = record {
      first = λ held is. second_counts held is ∙ why.0;
      missed = λ missing. absurd (subst IsOfContents missing why.1);
    }
    stops_second Failed why = absurd why
    stops_second OutOfMemory why = tt

module _ (network : NetworkModel) (job : Job) (trip : Trip) (same : trip ≡ trip_of_job job) (text : List ℕ) where
  of_job : IsTripText network trip (failed_check network trip) text → IsJobText network job text
  of_job right = subst (λ (t : Trip). IsTripText network t (failed_check network t) text) same right

  -- the plan of a job's trip, in plain lines, is a right text of the job
  pub planned_text : (p : Plan) (planned : Planned) → p.trip ≡ trip → p.form ≡ Plain → text ≡ planned.text.items
      → failed_check network trip ≡ None → IsReady (trip_setting network p.trip) p planned → IsJobText network job text
  planned_text p planned here form is passed ready =
      let routes = ready.routes in
      let at : IsTripText network p.trip None text = record {
        routes = routes;
        right = ready.right;
        is_text = is ∙ ready.is_text ∙ ap (λ (f : Form). report_text f (trip_setting network p.trip) (request_of p.trip) routes) form;
      } in
      of_job (subst (λ (o : Option RequestFault). IsTripText network trip o text) (sym passed)
      (subst (λ (t : Trip). IsTripText network t None text) here at))

  -- the refusal of a job's trip is a right text of the job
  pub refused_text : (fault : RequestFault) → failed_check network trip ≡ Some fault → text ≡ refusal_text_of (Request fault)
      → IsJobText network job text
  refused_text fault failed is = of_job (subst (λ (o : Option RequestFault). IsTripText network trip o text) (sym failed) is)

-- right texts by job
pub batch_by : (network : NetworkModel) (jobs : List Job) (order : List ℕ) (texts : List (List ℕ)) (text : List ℕ) → length order ≡ length jobs
    → AreRightByJob (IsTextAtPlace network jobs order) order texts → text ≡ batch_text_of texts → IsBatchText network jobs text
batch_by network jobs order texts text count right is = record {
  texts = texts;
  count = right.count ∙ count;
  each = λ k job_text at.
      let found = right.each k job_text at in
      subst (λ (o : Option ℕ). IfSome o (λ job. IsTextAt network jobs job job_text)) found.1 found.2;
  is_text = is;
}

module _ (b : Batch) (old new : FolderState) (network : NetworkModel) (jobs : List Job)
    (faultless : IfTold old (λ held. batch_fault b held ≡ None)) (found : IfTold old (λ held. network ≡ network_held held b.dir))
    (stated : IfTold old (λ held. jobs ≡ jobs_held b held)) where
  -- a report that has right texts of the folder's jobs is that of the batch
  pub ends_batch : (report : Report) → report.rejects ≡ false → IsBatchText network jobs report.text.items → KeepsFiles old new
      → Ends (batch_meaning b) old new (Ok report)
  ends_batch report accepts right kept = record {
    concludes = reports (batch_meaning b) old new report accepts (λ held is. record {
      faultless = faultless held is;
      good = tt;
      answer = subst (λ (n : NetworkModel). IsBatchText n (jobs_held b held) report.text.items) (found held is)
          (subst (λ (js : List Job). IsBatchText network js report.text.items) (stated held is) right);
    });
    left = kept;
    counts = kept_rises old new kept;
  }

-- the meaning of the command is sound
pub batch_sound : (b : Batch) → IsSound (batch_meaning b)
batch_sound b = without_request_sound _
    (reads_sound (batch_fault b) (λ held. None) (IsBatchReport b) (λ held x y. one_batch _ _ x y))
