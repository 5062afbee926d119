-- A certificate that a plan wrote is a good one of the folder that it was written into.
use Rattle.std.proofs.Common.{◌≡◌, ◌≢◌, ℕ, Bool, true, false, Some, None, Option, List, [], ◌∷◌, ◌++◌, ◌≤◌, cond, length, codes, refl, ap, sym, subst, ◌∙◌}
use Rattle.std.specs.Prelude.{⊤, map, unwrap_or}
use Rattle.std.specs.Option.{option_or}
use Rattle.std.proofs.lemmas.Bool.{both_ways, le-ltb}
use Rattle.std.proofs.lemmas.List.{append_cancel_left}
use Rattle.route_base.specs.Contents.{Contents}
use Rattle.route_base.specs.declared.faults.BadInput.{BadInput}
use Rattle.route_base.proofs.Logic.{no_first, no_second}
use Rattle.front_words.specs.Forms.{is_certificate_name}
use Rattle.network_tables.specs.NetworkFiles.{contents_fault, network_in_files}
use Rattle.network_tables.specs.NetworkModel.{NetworkModel}
use Rattle.network_folder.specs.Files.{FileToRead, bytes_at, fault_of_file, file_fault, first_unreadable, path_of, whole_fault}
use Rattle.network_folder.specs.ReadingOrder.{certificate_file, files_from, files_of, network_files}
use Rattle.network_folder.proofs.ReadFiles.{readable_more}
use Rattle.certificate.specs.Writable.{IsCertificateText}
use Rattle.certificate_check.specs.Verdicts.{IsGood}
use Rattle.front_desk.specs.Check.{HasGoodCertificate}
use Rattle.front_words.specs.declared.plan.Plan.{Plan}
use Rattle.front_desk.specs.Plan.{IsCertified, trip_setting}
use Rattle.front_desk.specs.Trips.{failed_check, request_of}

-- bytes within the limit of their file are no fault of it
short_enough : (file : FileToRead) (bytes : List ℕ) → length bytes ≤ file.limit → file_fault file (Some bytes) ≡ None
short_enough file bytes short = ap (λ (b : Bool). cond b (Some (whole_fault file.kind file.beyond)) None) (le-ltb file.limit (length bytes) short)

-- none of these files has the name of a certificate
abbrev AreOthers : List FileToRead → Type 0
AreOthers [] = ⊤
AreOthers (file ∷ files) = (is_certificate_name file.name ≡ false) × AreOthers files

others_named : AreOthers network_files
unfolding is_certificate_name
others_named = (refl, (refl, (refl, (refl, (refl, (refl, (refl, (refl, (refl, (refl, (refl, tt)))))))))))

module _ (dir name : List ℕ) (held after : Contents) (named : is_certificate_name name ≡ true)
    (others : (other : List ℕ) → other ≢ path_of dir name → after other ≡ held other) where
  -- a file of another name is as it was
  unchanged : (file : FileToRead) → is_certificate_name file.name ≡ false → after (path_of dir file.name) ≡ held (path_of dir file.name)
  unchanged file not = others (path_of dir file.name) elsewhere
    where
      elsewhere : path_of dir file.name ≢ path_of dir name
      elsewhere same =
          let names : file.name ≡ name = append_cancel_left (dir ++ codes "/") file.name name same in
          both_ways (is_certificate_name name) (subst (λ (n : List ℕ). is_certificate_name n ≡ false) names not) named

  same_unreadable : (files : List FileToRead) → AreOthers files
      → first_unreadable after dir files ≡ first_unreadable held dir files
  unfolding first_unreadable
  same_unreadable [] all = refl
  same_unreadable (file ∷ files) all =
      ap (λ (o : Option (List ℕ)). option_or (file_fault file o) (first_unreadable after dir files)) (unchanged file all.0)
      ∙ ap (option_or (fault_of_file held dir file)) (same_unreadable files all.1)

  same_bytes : (files : List FileToRead) → AreOthers files
      → map (bytes_at after dir) files ≡ map (bytes_at held dir) files
  same_bytes [] all = refl
  same_bytes (file ∷ files) all =
      ap (λ (o : Option (List ℕ)). unwrap_or o [] ∷ map (bytes_at after dir) files) (unchanged file all.0)
      ∙ ap (λ (rest : List (List ℕ)). bytes_at held dir file ∷ rest) (same_bytes files all.1)

  same_files : files_of after dir ≡ files_of held dir
  same_files = ap files_from (same_bytes network_files others_named)

-- where the certificate of a plan was written, a check of it over the files that are there now has a good certificate
pub good_certificate : (p : Plan) (name : List ℕ) (held after : Contents) → is_certificate_name name ≡ true → IsCertified p name held (Some after)
    → HasGoodCertificate (record { dir = p.dir; trip = p.trip; name = name }) after
good_certificate p name held after named is =
    let bytes = is.certified.bytes in
    let path = path_of p.dir name in
    let there : after path ≡ Some bytes = is.certified.held.0 in
    let same : files_of after p.dir ≡ files_of held p.dir = same_files p.dir name held after named is.certified.held.1 in
    let networks : network_in_files (files_of held p.dir) ≡ network_in_files (files_of after p.dir) = ap network_in_files (sym same) in
    let read : first_unreadable after p.dir network_files ≡ None =
    same_unreadable p.dir name held after named is.certified.held.1 network_files others_named ∙ no_first _ _ is.faultless in
    let faultless : contents_fault (files_of after p.dir) ≡ None = ap contents_fault same ∙ no_second _ _ is.faultless in
    record {
      faultless = ap (λ (o : Option BadInput). option_or o (contents_fault (files_of after p.dir)))
          (readable_more after p.dir network_files (certificate_file name) read
          (ap (file_fault (certificate_file name)) there ∙ short_enough (certificate_file name) bytes is.certified.certifies.short)) ∙ faultless;
      passed = subst (λ (n : NetworkModel). failed_check n p.trip ≡ None) networks is.good;
      good = record {
        certificate = is.certified.certifies.certificate;
        read = subst (λ (o : Option (List ℕ)). IsCertificateText (unwrap_or o []) is.certified.certifies.certificate) (sym there)
            is.certified.certifies.is_text;
        good = subst (λ (n : NetworkModel). IsGood (trip_setting n p.trip) (request_of p.trip) is.certified.certifies.certificate) networks
            is.certified.certifies.good;
      };
    }
