-- The report of the command that plans a trip (source: own).
use Rattle.std.specs.Prelude.{◌≡◌, ◌⊎◌, ℕ, ◌≤◌, ⊤, Option, Some, None, List, length}
use Rattle.route_base.specs.Contents.{Contents, Holds}
use Rattle.route_base.specs.FolderState.{FolderState, KeepsFiles, SpoilsFile, FailedToWrite}
use Rattle.route_base.specs.Front.{IsRight}
use Rattle.route_base.specs.Setting.{Setting}
use Rattle.route_base.specs.declared.faults.BadInput.{BadInput}
use Rattle.route_base.specs.declared.faults.RequestFault.{RequestFault}
use Rattle.route_base.specs.declared.limits.TheConstants.{LONGEST_CERTIFICATE}
use Rattle.route_base.specs.declared.status.Status.{Status}
use Rattle.route_base.specs.declared.status.Status.TheVariants.{Done, Rejected, Usage, BadInput as BadInputStatus, ReadFault}
use Rattle.route_base.specs.declared.status.Status.TheVariants.{WriteFault, NoMemory, BadRequest}
use Rattle.route_base.specs.declared.types.Request.{Request}
use Rattle.route_base.specs.declared.types.Route.{Route}
use Rattle.network_tables.specs.NetworkModel.{NetworkModel}
use Rattle.network_tables.specs.RoadSetting.{road_setting}
use Rattle.certificate.specs.Writable.{IsCertificateText}
use Rattle.certificate.specs.declared.Certificate.{Certificate}
use Rattle.certificate_check.specs.Verdicts.{IsGood}
use Rattle.plan_certificate.specs.Tight.{IsTight}
use Rattle.plan_report.specs.Reports.{report_text}
use Rattle.front_words.specs.declared.plan.Plan.{Plan}
use Rattle.network_folder.specs.Files.{IfTold, path_of}
use Rattle.network_folder.specs.ReadingOrder.{first_folder_fault, network_held}
use Rattle.front_desk.specs.Meaning.{Meaning, reads}
use Rattle.front_desk.specs.Trips.{Trip, failed_check, request_of, vehicle_named}

-- the bytes are the text of a good and tight certificate with just these routes, and no more than `check` reads
pub record IsCertificateOf (s : Setting) (request : Request) (routes : List Route) (bytes : List ℕ) : Type 0 where
  pub certificate : Certificate
  pub same : certificate.routes ≡ routes
  pub good : IsGood s request certificate
  pub tight : IsTight s request certificate
  pub is_text : IsCertificateText bytes certificate
  pub short : length bytes ≤ LONGEST_CERTIFICATE

-- the folder holds a good and tight certificate of the routes under this path, and all else is as it was
pub record HoldsCertificate (s : Setting) (request : Request) (routes : List Route) (path : List ℕ) (before after : Option Contents) : Type 0 where
  pub bytes : List ℕ
  pub certifies : IsCertificateOf s request routes bytes
  pub held : Holds before after path bytes

-- where a certificate is asked for by a name, the folder dir holds it
abbrev pub Certifies : Setting → Request → List Route → List ℕ → Option (List ℕ) → Option Contents → Option Contents → Type 0
Certifies s request routes dir None before after = ⊤
Certifies s request routes dir (Some name) before after = HoldsCertificate s request routes (path_of dir name) before after

-- the text reports right routes, the Pareto front with a lawful itinerary for each pair, in the plan's form, and the certificate that
-- was asked for has just these routes
pub record IsPlanned (s : Setting) (p : Plan) (before after : Option Contents) (text : List ℕ) : Type 0 where
  pub routes : List Route
  pub right : IsRight s (request_of p.trip) routes
  pub is_text : text ≡ report_text p.form s (request_of p.trip) routes
  pub certified : Certifies s (request_of p.trip) routes p.dir p.certificate before after

-- the road setting of the trip's vehicle
abbrev pub trip_setting : NetworkModel → Trip → Setting
trip_setting network trip = road_setting network (vehicle_named network trip.vehicle)

-- the text reports the front of the plan's trip over the roads of the folder's network for its vehicle
abbrev pub IsPlanReport : Plan → Contents → Option Contents → List ℕ → Type 0
IsPlanReport p held after text = IsPlanned (trip_setting (network_held held p.dir) p.trip) p (Some held) after text

-- the first fault of the plan's files
abbrev pub plan_fault : Plan → Contents → Option BadInput
plan_fault p held = first_folder_fault held p.dir

-- the first check that the plan's trip fails
abbrev pub plan_check : Plan → Contents → Option RequestFault
plan_check p held = failed_check (network_held held p.dir) p.trip

-- the plan's files have no fault, its trip passes all checks, a good certificate of right routes of the trip stands under this name in the
-- plan's folder, and all else is as it was
pub record IsCertified (p : Plan) (name : List ℕ) (held : Contents) (after : Option Contents) : Type 0 where
  pub faultless : plan_fault p held ≡ None
  pub good : plan_check p held ≡ None
  pub routes : List Route
  pub right : IsRight (trip_setting (network_held held p.dir) p.trip) (request_of p.trip) routes
  pub certified : HoldsCertificate (trip_setting (network_held held p.dir) p.trip) (request_of p.trip) routes (path_of p.dir name)
      (Some held) after

-- the plan writes a file of this name
abbrev pub PlanWrites : Option (List ℕ) → Type 0
PlanWrites None = ⊥
PlanWrites (Some name) = ⊤

-- a certificate of the plan's routes was written under the name, whole, where the folder tells its contents; all else is as it was
pub record PutsCertificate (p : Plan) (name : List ℕ) (old new : FolderState) : Type 0 where
  pub others : SpoilsFile old new (path_of p.dir name)
  pub whole : IfTold old (λ held. IsCertified p name held new.contents)

-- how a plan leaves the file of its certificate, by its status
abbrev pub LeavesCertificate : Plan → List ℕ → FolderState → FolderState → Status → Type 0
LeavesCertificate p name old new Done = PutsCertificate p name old new
LeavesCertificate p name old new Rejected = KeepsFiles old new
LeavesCertificate p name old new Usage = KeepsFiles old new
LeavesCertificate p name old new BadInputStatus = KeepsFiles old new
LeavesCertificate p name old new ReadFault = KeepsFiles old new
LeavesCertificate p name old new WriteFault =
    KeepsFiles old new ⊎ (PutsCertificate p name old new ⊎ (FailedToWrite old new × SpoilsFile old new (path_of p.dir name)))
LeavesCertificate p name old new NoMemory = (new.contents ≡ old.contents) ⊎ PutsCertificate p name old new
LeavesCertificate p name old new BadRequest = KeepsFiles old new

-- how a plan leaves the folder: all files are as they were, but for a certificate that was asked for
abbrev pub LeavesPlan : Plan → Option (List ℕ) → FolderState → FolderState → Status → Type 0
LeavesPlan p None old new status = KeepsFiles old new
LeavesPlan p (Some name) old new status = LeavesCertificate p name old new status

-- the meaning of `plan`
abbrev pub plan_meaning : Plan → Meaning
plan_meaning p = record (reads (plan_fault p) (plan_check p) (λ held text. ⊤)) {
  answers = IsPlanReport p;
  writes = PlanWrites p.certificate;
  leaves = LeavesPlan p p.certificate;
}
