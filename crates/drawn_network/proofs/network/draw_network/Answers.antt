use Rattle.std.proofs.Common.{ap, ◌∙◌}
use Rattle.network_tables.specs.NetworkFiles.{contents_fault}
use Rattle.drawn_network.proofs.network.draw_network.Goals as goal

pub read_good-requires : goal.read_good-requires
read_good-requires c =
    ap contents_fault c.in_ok-files.ensures ∙ c.drawn_files_are_good.ensures.faultless c.args.number c.args.rows c.args.columns c.requires
