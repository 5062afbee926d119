-- Folders whose files stay as they are, call after call.
use Rattle.std.proofs.Common.{◌∙◌, arith}
use Rattle.route_base.specs.FolderState.{FolderState, KeepsFiles}

pub keeps_more : (a b c : FolderState) → KeepsFiles a b → KeepsFiles b c → KeepsFiles a c
keeps_more a b c first then = record {
  contents = then.contents ∙ first.contents;
  missing = omega (arith, first.missing, then.missing);
  read_faults = omega (arith, first.read_faults, then.read_faults);
  write_faults = then.write_faults ∙ first.write_faults;
}
