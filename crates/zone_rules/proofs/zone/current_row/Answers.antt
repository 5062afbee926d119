use Rattle.std.proofs.Common.{Some, leb, get_or, pos, sym, ◌∙◌, ap, arith, rules}
use Rattle.std.proofs.lemmas.List.Sorted.{IsPartitionedBy-leb, IsPartitionPoint-from_clause}
use Rattle.zone_rules.specs.declared.rows.ZoneRow.{ZoneRow}
use Rattle.zone_rules.proofs.LastRows.{row_found}
use Rattle.zone_rules.proofs.SoundZones.{starts_rise, some_there}
use Rattle.zone_rules.proofs.zone.current_row.Goals as goal

abbrev missing_row : ZoneRow
missing_row = record { start = 0; offset = pos 0 }

pub bounds-rows-saturating_sub : goal.bounds-rows-saturating_sub
bounds-rows-saturating_sub c = let some = some_there c.args.rows.now c.requires.some in omega arith

pub returns-clause-value : goal.returns-clause-value
returns-clause-value c =
    let rows = c.args.rows.now in
    let some = some_there rows c.requires.some in
    let parts = IsPartitionPoint-from_clause (λ r.
    leb r.start c.args.t) rows c.partition_point-started.result c.partition_point-started.ensures.partitioned
    (IsPartitionedBy-leb (λ r. r.start) rows c.args.t (starts_rise rows c.requires)) (λ a r f called. search rules) in
    row_found rows c.args.t c.partition_point-started.result missing_row some (omega arith) parts.0 parts.1
    ∙ ap (λ i. Some (get_or rows i missing_row)) (sym c.saturating_sub.ensures)

pub returns-clause-offset : goal.returns-clause-offset
returns-clause-offset c =
    let some = some_there c.args.rows.now c.requires.some in
    c.requires.offsets c.saturating_sub.result missing_row (omega arith)
