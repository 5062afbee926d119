use Rattle.std.proofs.Common.{◌≡◌, ◌∙◌, List, ℕ, Some, ap, sym, subst}
use Rattle.route_base.specs.declared.faults.FileKind.TheVariants as file
use Rattle.dimacs_reader.specs.Faults.{fault_of, IsRefusal, HasCauseOfContents}
use Rattle.network_tables.specs.NetworkFiles.{fault_in}
use Rattle.network_tables.proofs.network_files.read_graph_file.Goals as goal

pub returns-in-Err-BadLine : goal.returns-in-Err-BadLine
returns-in-Err-BadLine c =
    let bytes = c.args.files.now.graph in
    let line = c.in-Err-BadLine.line in
    let cause = c.in-Err-BadLine.cause in
    let is : fault_of c.as_slice.result.now ≡ Some (line, cause) =
    subst (IsRefusal (fault_of c.as_slice.result.now)) c.in-Err-BadLine.field-0-is c.in-Err-BadLine.ensures.refused in
    let same : fault_of bytes ≡ Some (line, cause) = ap (λ (bs : List ℕ). fault_of bs) (sym c.as_slice.ensures) ∙ is in
    record {
      faultless = tt;
      stated = tt;
      refused = ap (fault_in file.Graph) same;
      cause = subst HasCauseOfContents c.in-Err-BadLine.field-0-is c.in-Err-BadLine.ensures.cause;
    }
