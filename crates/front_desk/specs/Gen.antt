-- The files and the summary of the command that makes a network (source: own).
use Rattle.std.specs.Prelude.{◌≡◌, ◌⊎◌, ⊤, ℕ, ◌*◌, Option, Some, None, List, [], ◌∷◌, length, codes}
use Rattle.route_base.specs.Contents.{Contents}
use Rattle.route_base.specs.FolderState.{FolderState, FailedToWrite}
use Rattle.route_base.specs.Front.{IsRight}
use Rattle.route_base.specs.Labels.{label_of}
use Rattle.route_base.specs.declared.faults.FileKind.TheVariants as kind
use Rattle.route_base.specs.declared.status.Status.{Status}
use Rattle.route_base.specs.declared.status.Status.TheVariants.{Done, Rejected, Usage, BadInput as BadInputStatus, ReadFault}
use Rattle.route_base.specs.declared.status.Status.TheVariants.{WriteFault, NoMemory, BadRequest}
use Rattle.route_base.specs.declared.types.Route.{Route}
use Rattle.network_tables.specs.NetworkFiles.{network_in_files}
use Rattle.network_tables.specs.NetworkModel.{NetworkModel}
use Rattle.net_generator.specs.Generated.{graph_file, closures_file, parking_file, ratings_file}
use Rattle.drawn_network.specs.DrawnFiles.{drawn_files}
use Rattle.plan_report.specs.Summary.{summary_text_of}
use Rattle.front_words.specs.declared.generate.Gen.{Gen}
use Rattle.network_folder.specs.Writing.{FileToWrite, HoldsEach, HoldsFirst, SpoilsNext}
use Rattle.front_desk.specs.Meaning.{Meaning}
use Rattle.front_desk.specs.Plan.{trip_setting}
use Rattle.front_desk.specs.Trips.{Trip, request_of}

-- the trip over a drawn network: from the first node to the last, within the 60 days from 2020-07-04T00:00Z
abbrev pub drawn_trip : Gen → Trip
drawn_trip g =
    record { vehicle = codes "any"; origin = 1; goal = g.rows * g.columns; depart = 26563680; until = 26650080 }

-- the network that the drawn files state
abbrev pub stated_network : Gen → NetworkModel
stated_network g = network_in_files (drawn_files g.number g.rows g.columns)

-- the files of these bytes in the order in which they are written
abbrev pub files_to_write : List ℕ → List ℕ → List ℕ → List ℕ → List FileToWrite
files_to_write graph closures parking ratings =
    record { name = label_of kind.Graph; bytes = graph }
    ∷ record { name = label_of kind.Closures; bytes = closures }
    ∷ record { name = label_of kind.Parking; bytes = parking }
    ∷ record { name = label_of kind.Ratings; bytes = ratings }
    ∷ []

-- the files that are drawn
abbrev pub files_written : Gen → List FileToWrite
files_written g =
    files_to_write (graph_file g.number g.rows g.columns) (closures_file g.number g.rows g.columns)
    (parking_file g.number g.rows g.columns) ratings_file

-- the text sums up right routes of the trip over the network that the drawn files state
pub record IsSummary (g : Gen) (text : List ℕ) : Type 0 where
  pub routes : List Route
  pub right : IsRight (trip_setting (stated_network g) (drawn_trip g)) (request_of (drawn_trip g)) routes
  pub is_text : text ≡ summary_text_of (stated_network g).graph.nodes (length (stated_network g).graph.arcs) routes

-- the folder holds the drawn files, and the text sums up the front of the trip over them
pub record IsGenReport (g : Gen) (held : Contents) (after : Option Contents) (text : List ℕ) : Type 0 where
  pub summary : IsSummary g text
  pub written : HoldsEach g.dir (files_written g) (Some held) after

-- how the making of a network leaves the folder, by its status: the drawn files are written one after another. It ends with no other
-- status than these three
abbrev pub LeavesGen : Gen → FolderState → FolderState → Status → Type 0
LeavesGen g old new Done = HoldsEach g.dir (files_written g) old.contents new.contents
LeavesGen g old new Rejected = ⊥
LeavesGen g old new Usage = ⊥
LeavesGen g old new BadInputStatus = ⊥
LeavesGen g old new ReadFault = ⊥
LeavesGen g old new WriteFault =
    HoldsEach g.dir (files_written g) old.contents new.contents
    ⊎ (FailedToWrite old new × SpoilsNext g.dir (files_written g) old.contents new.contents)
LeavesGen g old new NoMemory = HoldsFirst g.dir (files_written g) old.contents new.contents
LeavesGen g old new BadRequest = ⊥

-- the meaning of `gen`, which has no request
abbrev pub gen_meaning : Gen → Meaning
gen_meaning g = record {
  fault = λ held. None;
  asks = ⊥;
  passes = λ held. ⊤;
  fails = λ held failed. ⊥;
  answers = IsGenReport g;
  judges = ⊥;
  rejects = λ held text. ⊥;
  reads_nothing = ⊤;
  writes = ⊤;
  leaves = LeavesGen g;
}
