-- The files of a network by their kinds (source: own).
use Rattle.std.specs.Prelude.{ℕ, List, []}
use Rattle.route_base.specs.declared.faults.FileKind.{FileKind}
use Rattle.route_base.specs.declared.faults.FileKind.TheVariants as file
use Rattle.network_tables.specs.declared.files.Files.{Files}

-- files that aren't there: each is empty
abbrev pub no_files : Files
no_files = record {
  graph = [];
  zones = [];
  areas = [];
  roads = [];
  vehicles = [];
  rules = [];
  closures = [];
  ratings = [];
  parking = [];
  holidays = [];
  tolls = [];
}

-- the files with these bytes in the place of that kind; the kinds that a network doesn't have change nothing
abbrev pub with_file : Files → FileKind → List ℕ → Files
with_file files file.Graph bytes = record files { graph = bytes }
with_file files file.Zones bytes = record files { zones = bytes }
with_file files file.Areas bytes = record files { areas = bytes }
with_file files file.Roads bytes = record files { roads = bytes }
with_file files file.Vehicles bytes = record files { vehicles = bytes }
with_file files file.Rules bytes = record files { rules = bytes }
with_file files file.Closures bytes = record files { closures = bytes }
with_file files file.Ratings bytes = record files { ratings = bytes }
with_file files file.Parking bytes = record files { parking = bytes }
with_file files file.Holidays bytes = record files { holidays = bytes }
with_file files file.Tolls bytes = record files { tolls = bytes }
with_file files other bytes = files
