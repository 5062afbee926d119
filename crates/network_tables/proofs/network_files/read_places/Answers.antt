use Rattle.area_tables.proofs.AreaRows.{names_kept}
use Rattle.network_tables.specs.NetworkFiles.{areas_of}
use Rattle.network_tables.proofs.network_files.read_places.Goals as goal

pub read_road_file-requires-clause-areas : goal.read_road_file-requires-clause-areas
read_road_file-requires-clause-areas c =
    names_kept c.in_ok-zones.zones (areas_of c.args.files.now) c.in_ok-areas.areas c.in_ok-areas.ensures.stated
