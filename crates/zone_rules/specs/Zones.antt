-- Time zones as tables of offsets from UTC (source: own).
use Rattle.std.specs.Prelude.{◌≢◌, ℕ, zero, suc, ◌/◌, ◌%◌, ◌&&◌, Bool, true, nat_le, nat_lt, int_le, Option, Some, None}
use Rattle.std.specs.Prelude.{List, [], length, map, All, filter, slice_get, unwrap_or, if◌then◌else◌, IsTrue, ℤ, pos, neg_ℤ}
use Rattle.std.specs.Prelude.{unsigned_abs, ◌+ℤ◌}
use Rattle.std.specs.List.{last_or, filter_map, range_with_len}
use Rattle.std.specs.List.Sorted.{IsStrictlyIncreasing}
use Rattle.std.specs.Option.{option_map, option_and_then}
use Rattle.zone_rules.specs.declared.rows.ZoneRow.{ZoneRow}
use Rattle.zone_rules.specs.declared.rows.Wall.{Wall}
use Rattle.zone_rules.specs.declared.rows.ZoneFault.{ZoneFault}
use Rattle.zone_rules.specs.declared.rows.ZoneFault.TheVariants.{Empty, OffsetRange, NotRising}

-- at most 18 hours from UTC
abbrev pub is_offset : ℤ → Bool
is_offset z = int_le (neg_ℤ (pos 1080)) z && int_le z (pos 1080)

-- rows, one at least, with rising starts and offsets of at most 18 hours
pub record IsZone (rows : List ZoneRow) : Type 0 where
  pub some : rows ≢ []
  pub rising : IsStrictlyIncreasing (map (λ r. r.start) rows)
  pub offsets : All (λ r. IsTrue (is_offset r.offset)) rows

-- the row starts after the row before it, if there is one
abbrev pub is_later : Option ZoneRow → ZoneRow → Bool
is_later None row = true
is_later (Some before) row = nat_lt before.start row.start

-- the fault of the row at a place that follows this row, if it has one
abbrev pub row_fault : ℕ → Option ZoneRow → ZoneRow → Option ZoneFault
row_fault i before row =
    if is_offset row.offset then (if is_later before row then None else Some (NotRising i)) else Some (OffsetRange i)

abbrev pub row_before : List ZoneRow → ℕ → Option ZoneRow
row_before rows zero = None
row_before rows (suc i) = slice_get rows i

-- the fault of the row at a place, counted from 0
abbrev pub fault_at : List ZoneRow → ℕ → Option ZoneFault
fault_at rows i = option_and_then (row_fault i (row_before rows i)) (slice_get rows i)

-- the reason why rows are no zone: there are none, or it is the first fault of a row
unfoldable pub zone_fault_of : List ZoneRow → Option ZoneFault
zone_fault_of [] = Some Empty
zone_fault_of rows = slice_get (filter_map (fault_at rows) (range_with_len 0 (length rows))) 0

-- the rows that start at a minute or before
abbrev pub started : List ZoneRow → ℕ → List ZoneRow
started rows t = filter (λ r. nat_le r.start t) rows

-- the row in force: the last one that has started, or the first row before all starts
abbrev pub row_at : List ZoneRow → ℕ → Option ZoneRow
row_at rows t = last_or (slice_get rows 0) (started rows t)

-- the minutes that local time is ahead of UTC
abbrev pub offset_at : List ZoneRow → ℕ → ℤ
offset_at rows t = unwrap_or (option_map (λ r. r.offset) (row_at rows t)) (pos 0)

-- the local minute, counted as Unix minutes are
abbrev pub local_minute : List ZoneRow → ℕ → ℕ
local_minute rows t = unsigned_abs (pos t +ℤ offset_at rows t)

-- the day and the minute of the day that a clock on the wall shows
abbrev pub wall_at : List ZoneRow → ℕ → Wall
wall_at rows t = record { day = local_minute rows t / 1440; minute = local_minute rows t % 1440 }
