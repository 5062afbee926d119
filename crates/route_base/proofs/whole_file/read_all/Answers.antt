use Rattle.std.proofs.Common.{◌≡◌, rules, subst, ℕ, length, Option}
use Rattle.std.specs.Prelude.{IfSome}
use Rattle.route_base.specs.Contents.{Contents, GivesPart}
use Rattle.route_base.proofs.FolderStates.{keeps_more}
use Rattle.route_base.proofs.SoFar.{reads_on}
use Rattle.route_base.proofs.whole_file.read_all.Goals as goal

pub reading-preserved : goal.reading-preserved
reading-preserved g c =
    let told = subst (λ (o : Option Contents). IfSome o
    (λ held. GivesPart (held c.args.name.now) c.len-in-reading.result c.in-Ok.count c.read_part.new.buf))
    c.reading.invariant.kept.contents c.in-Ok.ensures.part in
    let size : c.len-in-reading.result ≡ length c.reading.all.items = search rules in
    let here = subst (λ (n : ℕ). IfSome (g.F.Folder.state c.args.folder.now).contents
    (λ held. GivesPart (held c.args.name.now) n c.in-Ok.count c.read_part.new.buf)) size told in
    record {
      so_far = rw c.in-Ok-extend_from_slice.ensures.items
          (reads_on (g.F.Folder.state c.args.folder.now).contents c.args.name.now c.reading.all.items c.read_part.new.buf c.in-Ok.count
          c.reading.invariant.so_far here);
      kept = keeps_more _ _ _ c.reading.invariant.kept c.read_part.ensures.kept;
    }
