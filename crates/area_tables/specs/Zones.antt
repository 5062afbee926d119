-- zones.csv: time zones as rows of offsets from UTC (source: own; texts of offsets by ISO 8601).
use Rattle.std.specs.Prelude.{◌≡◌, ℕ, ◌+◌, ◌*◌, ◌&&◌, nat_le, nat_lt, ℤ, pos, neg_ℤ, Option, Some, None, List, [], ◌∷◌, map, filter, codes, if◌then◌else◌}
use Rattle.std.specs.List.{filter_map, last_or}
use Rattle.std.specs.Option.{option_map, option_and_then, option_or}
use Rattle.std.specs.Str.{bytes_eq}
use Rattle.route_base.specs.Digits.{number_of}
use Rattle.route_base.specs.Forms.{is_name}
use Rattle.route_base.specs.Time.{first_instant}
use Rattle.route_base.specs.declared.faults.Cause.{Cause}
use Rattle.route_base.specs.declared.faults.Cause.TheVariants.{BadField, NotRising}
use Rattle.calendar_days.specs.Texts.{instant_of}
use Rattle.zone_rules.specs.Zones.{is_later}
use Rattle.zone_rules.specs.declared.rows.ZoneRow.{ZoneRow}
use Rattle.table_reader.specs.NameIndex.{value_under}
use Rattle.route_base.specs.declared.limits.TheConstants.{MOST_ZONE_ROWS}
use Rattle.table_reader.specs.Schema.{Schema}
use Rattle.table_reader.specs.Records.{Record}

-- hours and minutes, at most 18 hours in all, as minutes
abbrev pub span_of : ℕ → ℕ → Option ℕ
span_of hours minutes = if nat_lt minutes 60 && nat_le (60 * hours + minutes) 1080 then Some (60 * hours + minutes) else None

-- minutes behind a plus or a minus
abbrev pub signed_of : ℕ → ℕ → Option ℤ
signed_of sign minutes =
    if bytes_eq (sign ∷ []) (codes "+") then Some (pos minutes)
    else if bytes_eq (sign ∷ []) (codes "-") then Some (neg_ℤ (pos minutes))
    else None

-- the minutes of `+HH:MM` or `-HH:MM`, from -18:00 to +18:00
unfoldable pub offset_of : List ℕ → Option ℤ
offset_of (sign ∷ h1 ∷ h0 ∷ colon ∷ m1 ∷ m0 ∷ []) =
    if bytes_eq (colon ∷ []) (codes ":")
    then option_and_then (λ h. option_and_then (λ m. option_and_then (signed_of sign) (span_of h m))
    (number_of (m1 ∷ m0 ∷ []))) (number_of (h1 ∷ h0 ∷ []))
    else None
offset_of text = None

-- a zone's name, and a row of it
abbrev pub ZoneEntry : Type 0
ZoneEntry = List ℕ × ZoneRow

-- a row of a zone: the instant from which an offset applies
abbrev pub zone_row : ℕ → ℤ → ZoneRow
zone_row start offset = record { start = start; offset = offset }

-- a name, an instant and an offset
abbrev pub zone_entry_of : Record → Option ZoneEntry
zone_entry_of (name ∷ from ∷ offset ∷ []) =
    if is_name name
    then option_and_then (λ start. option_map (λ z. (name, zone_row start z)) (offset_of offset)) (instant_of from)
    else None
zone_entry_of others = None

-- the rows of a zone in their order
abbrev pub rows_of_zone : List ZoneEntry → List ℕ → List ZoneRow
rows_of_zone entries name = map (λ e. e.1) (filter (λ e. bytes_eq name e.0) entries)

-- it starts after the row of the same zone before it
abbrev pub cause_of_entry : List ZoneEntry → Option ZoneEntry → Option Cause
cause_of_entry before None = Some BadField
cause_of_entry before (Some e) = if is_later (last_or None (rows_of_zone before e.0)) e.1 then None else Some NotRising

-- the rows of zones in their order
abbrev pub zone_entries_in : List Record → List ZoneEntry
zone_entries_in rows = filter_map zone_entry_of rows

-- a name, an instant and an offset
abbrev pub zones_schema : Schema
zones_schema = record {
  headers = (codes "zone" ∷ codes "from" ∷ codes "offset" ∷ []) ∷ [];
  limit = MOST_ZONE_ROWS;
  cause = λ header before row. cause_of_entry (zone_entries_in before) (zone_entry_of row);
}

-- rows, where there are some
abbrev pub some_rows : List ZoneRow → Option (List ZoneRow)
some_rows [] = None
some_rows (row ∷ rows) = Some (row ∷ rows)

-- the zone `UTC` where no row has it: no offset at any instant
abbrev pub given_zone : List ℕ → Option (List ZoneRow)
given_zone name = if bytes_eq name (codes "UTC") then Some (zone_row first_instant (pos 0) ∷ []) else None

-- the rows of the zone of this name
abbrev pub zone_named : List ZoneEntry → List ℕ → Option (List ZoneRow)
zone_named entries name = option_or (some_rows (rows_of_zone entries name)) (given_zone name)

-- zones by name
abbrev pub ZoneList : Type 0
ZoneList = List (List ℕ × List ZoneRow)

-- the zones are the rows of each name that has some
abbrev pub HasRows : ZoneList → List ZoneEntry → Type 0
HasRows zones entries = (name : List ℕ) → value_under zones name ≡ some_rows (rows_of_zone entries name)

-- the zones are those that the rows name, and `UTC`
abbrev pub HasZones : ZoneList → List ZoneEntry → Type 0
HasZones zones entries = (name : List ℕ) → value_under zones name ≡ zone_named entries name
