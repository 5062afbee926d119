-- The files of a drawn network (source: own).
use Rattle.std.specs.Prelude.{ℕ}
use Rattle.net_generator.specs.Generated.{graph_file, closures_file, parking_file, ratings_file}
use Rattle.network_tables.specs.Files.{no_files}
use Rattle.network_tables.specs.declared.files.Files.{Files}

-- the four files that are drawn from a number; the tables beside them are empty, as missing ones are
abbrev pub drawn_files : ℕ → ℕ → ℕ → Files
drawn_files number rows columns = record no_files {
  graph = graph_file number rows columns;
  closures = closures_file number rows columns;
  parking = parking_file number rows columns;
  ratings = ratings_file;
}
