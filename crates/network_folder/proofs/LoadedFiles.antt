-- Files that could be read, and the network that they state or don't.
use Rattle.std.proofs.Common.{◌≡◌, ℕ, None, Option, List, ap, sym, subst, ◌∙◌}
use Rattle.std.specs.Option.{option_or}
use Rattle.route_base.specs.Causes.{IsOfContents}
use Rattle.route_base.specs.FolderState.{FolderState}
use Rattle.route_base.specs.declared.faults.BadInput.{BadInput}
use Rattle.network_tables.specs.NetworkFiles.{contents_fault}
use Rattle.network_tables.specs.declared.files.Files.{Files}
use Rattle.network_folder.specs.Files.{FileToRead, IfTold, first_unreadable}
use Rattle.network_folder.specs.Faults.{StopsReading, StopsStating}
use Rattle.network_folder.specs.ReadingOrder.{files_of}
use Rattle.network_folder.specs.declared.faults.LoadFault.{LoadFault}
use Rattle.network_folder.specs.declared.faults.LoadFault.TheVariants.{Bad, Failed, OutOfMemory}

module _ (old : FolderState) (dir : List ℕ) (list : List FileToRead) (files : Files)
    (readable : IfTold old (λ held. first_unreadable held dir list ≡ None)) (same : IfTold old (λ held. files ≡ files_of held dir)) where
  -- the fault of the files is that of their contents
  fault_is : IfTold old (λ held. option_or (first_unreadable held dir list) (contents_fault (files_of held dir)) ≡ contents_fault files)
  fault_is held is =
      ap (λ (o : Option BadInput). option_or o (contents_fault (files_of held dir))) (readable held is) ∙ ap contents_fault (sym (same held is))

  pub loaded : contents_fault files ≡ None
      → IfTold old (λ held. option_or (first_unreadable held dir list) (contents_fault (files_of held dir)) ≡ None)
  loaded none held is = fault_is held is ∙ none

  pub stops_loading : (new : FolderState) (fault : LoadFault) → StopsStating (contents_fault files) fault
      → StopsReading (λ held. option_or (first_unreadable held dir list) (contents_fault (files_of held dir))) old new fault
  stops_loading new (Bad bad) why = record {
    first = λ held is. fault_is held is ∙ why.0;
    missed = λ missing. absurd (subst IsOfContents missing why.1);
  }
  stops_loading new Failed why = absurd why
  stops_loading new OutOfMemory why = tt
