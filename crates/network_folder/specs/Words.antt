-- The words of clauses, from this crate and from those below (source: own).
pub use Rattle.route_base.specs.FolderState.{CountsRise, KeepsFiles, PutsFile}
pub use Rattle.network_tables.specs.NetworkFiles.{contents_fault, network_in_files}
pub use Rattle.network_folder.specs.Faults.{StopsReading, StopsStating}
pub use Rattle.network_folder.specs.Files.{IfTold, path_of, whole_fault, fault_of_file, first_unreadable, bytes_at, file_in, IsRead}
pub use Rattle.network_folder.specs.ReadingOrder.{network_kinds, network_file, network_files, files_from, files_of, first_folder_fault, first_fault_with, network_held}
pub use Rattle.network_folder.specs.Writing.{written_in, HoldsEach, FailsToPut, FailsToPutEach}
