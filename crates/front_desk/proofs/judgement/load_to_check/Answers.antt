use Rattle.std.proofs.Common.{◌≡◌, None, subst}
use Rattle.std.specs.Prelude.{IfOk, OnOk, IfErr}
use Rattle.network_folder.specs.Files.{FileToRead, IfTold, bytes_at}
use Rattle.network_folder.specs.Faults.{StopsReading}
use Rattle.network_folder.specs.ReadingOrder.{first_fault_with}
use Rattle.front_desk.proofs.judgement.load_to_check.Goals as goal

pub returns-clause-faultless : goal.returns-clause-faultless
returns-clause-faultless g c =
    subst (λ (file : FileToRead). OnOk c.load_with.result (IfTold (g.F.Folder.state c.args.folder.now)
    (λ held. first_fault_with file held c.args.check.now.dir ≡ None)))
    c.certificate-file.ensures c.load_with.ensures.faultless

pub returns-clause-certificate : goal.returns-clause-certificate
returns-clause-certificate g c =
    subst (λ (file : FileToRead). IfOk c.load_with.result (λ loaded. IfTold (g.F.Folder.state c.args.folder.now)
    (λ held. loaded.1 ≡ bytes_at held c.args.check.now.dir file)))
    c.certificate-file.ensures c.load_with.ensures.last

pub returns-clause-refused : goal.returns-clause-refused
returns-clause-refused g c =
    subst (λ (file : FileToRead). IfErr c.load_with.result (StopsReading (λ held. first_fault_with file held c.args.check.now.dir)
    (g.F.Folder.state c.args.folder.now) (g.F.Folder.state c.load_with.new.folder)))
    c.certificate-file.ensures c.load_with.ensures.refused
