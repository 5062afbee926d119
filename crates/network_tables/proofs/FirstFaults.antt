-- The first fault of the files' contents, by the stages in which they are read.
use Rattle.std.proofs.Common.{◌≡◌, ◌∙◌, Option, Some, None, Err, List, [], ◌∷◌, ◌++◌, refl, sym, subst, ap}
use Rattle.std.specs.Option.{option_or}
use Rattle.route_base.specs.declared.faults.BadInput.{BadInput}
use Rattle.route_base.proofs.Logic.{option_or-none}
use Rattle.network_tables.specs.declared.faults.NetworkFault.{NetworkFault}
use Rattle.network_tables.specs.declared.faults.NetworkFault.TheVariants as network
use Rattle.network_tables.specs.declared.files.Files.{Files}
use Rattle.network_tables.specs.Inside.{places_fault, access_fault, limits_fault}
use Rattle.network_tables.specs.NetworkFiles.{graph_fault, zones_fault, areas_fault, roads_fault}
use Rattle.network_tables.specs.NetworkFiles.{vehicles_fault, rules_fault, closures_fault, ratings_fault, parking_fault}
use Rattle.network_tables.specs.NetworkFiles.{holidays_fault, tolls_fault, contents_fault, first_some}
use Rattle.network_tables.specs.Refusals.{IsInputRefusal, Reads}

-- where the first has no fault, the others tell
pub later : {X : Type 0} {o p : Option X} → o ≡ None → option_or o p ≡ p
later none = rw none refl

some_of_both : {X : Type 0} (os ps : List (Option X)) → first_some (os ++ ps) ≡ option_or (first_some os) (first_some ps)
some_of_both [] ps = refl
some_of_both (None ∷ os) ps = some_of_both os ps
some_of_both (Some x ∷ os) ps = refl

-- the first fault by stages
pub staged : (files : Files) → contents_fault files ≡ option_or (graph_fault files) (option_or (places_fault files)
    (option_or (access_fault files) (option_or (limits_fault files) (option_or (holidays_fault files) (tolls_fault files)))))
unfolding contents_fault
staged files =
    let places = zones_fault files ∷ areas_fault files ∷ roads_fault files ∷ [] in
    let access = vehicles_fault files ∷ rules_fault files ∷ [] in
    let limits = closures_fault files ∷ ratings_fault files ∷ parking_fault files ∷ [] in
    let last = holidays_fault files ∷ tolls_fault files ∷ [] in
    ap (λ (o : Option BadInput). option_or (graph_fault files) o)
    (some_of_both places (access ++ limits ++ last)
    ∙ ap (λ (o : Option BadInput). option_or (places_fault files) o)
    (some_of_both access (limits ++ last)
    ∙ ap (λ (o : Option BadInput). option_or (access_fault files) o)
    (some_of_both limits last
    ∙ ap (λ (o : Option BadInput). option_or (limits_fault files) (option_or (holidays_fault files) o)) (option_or-none (tolls_fault files)))))

-- a refusal of a stage is the refusal of all, where those before it have no fault
pub refused_at : {X Y : Type 0} (e : NetworkFault) (fault rest other : Option BadInput) (P : X → Type 0) (Q : Y → Type 0)
    → other ≡ option_or fault rest → Reads (Err e) fault P → Reads (Err e) other Q
refused_at (network.Bad bad) fault rest other P Q first reads = record {
  faultless = tt;
  stated = tt;
  refused = first ∙ ap (λ (o : Option BadInput). option_or o rest) reads.refused;
  cause = reads.cause;
}
refused_at network.OutOfMemory fault rest other P Q first reads = record { faultless = tt; stated = tt; refused = tt; cause = tt }

-- a refusal of the last stage is a refusal of all
pub refused_so : {X Y : Type 0} (e : NetworkFault) (fault other : Option BadInput) (P : X → Type 0) (Q : Y → Type 0) → other ≡ fault
    → Reads (Err e) fault P → Reads (Err e) other Q
refused_so e fault other P Q same reads = record {
  faultless = tt;
  stated = tt;
  refused = subst (λ (o : Option BadInput). IsInputRefusal o e) (sym same) reads.refused;
  cause = reads.cause;
}
