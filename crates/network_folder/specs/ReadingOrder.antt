-- The files of a network in the order in which they are read, their first fault, and the network that they state; further files of
-- commands (source: own).
use Rattle.std.specs.Prelude.{ℕ, Bool, true, false, Option, List, [], ◌∷◌, ◌++◌, map}
use Rattle.std.specs.Option.{option_or}
use Rattle.route_base.specs.Contents.{Contents}
use Rattle.route_base.specs.Labels.{label_of}
use Rattle.route_base.specs.declared.faults.BadInput.{BadInput}
use Rattle.route_base.specs.declared.faults.Cause.TheVariants.{TooLong}
use Rattle.route_base.specs.declared.faults.FileKind.{FileKind}
use Rattle.route_base.specs.declared.faults.FileKind.TheVariants.{Graph, Zones, Areas, Roads, Vehicles, Rules, Closures, Ratings, Parking, Holidays, Tolls}
use Rattle.route_base.specs.declared.faults.FileKind.TheVariants.{Certificate, Itinerary, Jobs, Stops}
use Rattle.route_base.specs.declared.limits.TheConstants.{LONGEST_CERTIFICATE, LONGEST_FILE}
use Rattle.network_tables.specs.Files.{no_files, with_file}
use Rattle.network_tables.specs.NetworkFiles.{contents_fault, network_in_files}
use Rattle.network_tables.specs.NetworkModel.{NetworkModel}
use Rattle.network_tables.specs.declared.files.Files.{Files}
use Rattle.network_folder.specs.Files.{FileToRead, first_unreadable, bytes_at}
use Rattle.network_folder.specs.declared.file_to_read.TheConstants.{LONGEST_ITINERARY}

-- a file of this name, which is TooLong beyond the limit
abbrev pub named_file : FileKind → List ℕ → Bool → ℕ → FileToRead
named_file kind name required limit = record { kind = kind; name = name; required = required; limit = limit; beyond = TooLong }

-- a file that has to be there
abbrev pub required_file : FileKind → FileToRead
required_file kind = named_file kind (label_of kind) true LONGEST_FILE

-- a table, which may be missing
abbrev pub table_file : FileKind → FileToRead
table_file kind = named_file kind (label_of kind) false LONGEST_FILE

-- a certificate, which has to be there
abbrev pub certificate_file : List ℕ → FileToRead
certificate_file name = named_file Certificate name true LONGEST_CERTIFICATE

-- a table of jobs, which has to be there
abbrev pub jobs_file : List ℕ → FileToRead
jobs_file name = named_file Jobs name true LONGEST_FILE

-- a table of stops, which has to be there
abbrev pub stops_file : List ℕ → FileToRead
stops_file name = named_file Stops name true LONGEST_FILE

-- an itinerary, which has to be there
abbrev pub itinerary_file : List ℕ → FileToRead
itinerary_file name = named_file Itinerary name true LONGEST_ITINERARY

-- the kinds of a network's files in the order in which they are read
abbrev pub network_kinds : List FileKind
network_kinds = Graph ∷ Zones ∷ Areas ∷ Roads ∷ Vehicles ∷ Rules ∷ Closures ∷ Ratings ∷ Parking ∷ Holidays ∷ Tolls ∷ []

-- a file of a network: the graph has to be there, and a table may be missing
abbrev pub network_file : FileKind → FileToRead
network_file Graph = required_file Graph
network_file table = table_file table

-- the files in the order in which they are read
abbrev pub network_files : List FileToRead
network_files = map network_file network_kinds

-- files into which the bytes of these kinds are put, one after another
abbrev pub files_with : Files → List FileKind → List (List ℕ) → Files
files_with files [] read = files
files_with files (kind ∷ kinds) [] = files
files_with files (kind ∷ kinds) (bytes ∷ read) = files_with (with_file files kind bytes) kinds read

-- files by their kinds, from their bytes in the order of `network_kinds`
abbrev pub files_from : List (List ℕ) → Files
files_from read = files_with no_files network_kinds read

-- the bytes of the files of dir
abbrev pub files_of : Contents → List ℕ → Files
files_of held dir = files_from (map (bytes_at held dir) network_files)

-- the first fault of the files of dir: a file that can't be read, else a fault of their contents
abbrev pub first_folder_fault : Contents → List ℕ → Option BadInput
first_folder_fault held dir = option_or (first_unreadable held dir network_files) (contents_fault (files_of held dir))

-- the first fault of the files of dir, where one further file is read behind those of the network: a file that can't be read, else a
-- fault of the contents of the network's files
abbrev pub first_fault_with : FileToRead → Contents → List ℕ → Option BadInput
first_fault_with last held dir = option_or (first_unreadable held dir (network_files ++ last ∷ [])) (contents_fault (files_of held dir))

-- the network that the files of dir state
abbrev pub network_held : Contents → List ℕ → NetworkModel
network_held held dir = network_in_files (files_of held dir)
