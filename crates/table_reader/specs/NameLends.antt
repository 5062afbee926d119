-- How an index of names ends once a `&mut` to a value in it has ended (source: own).
use Rattle.std.specs.Prelude.{ℕ, List, Option}
use Rattle.std.specs.Borrow.{Fml, RattleType, MutBor, LendsIf}
use Rattle.std.specs.Map.{set_value}
use Rattle.std.specs.Str.{bytes_eq}
use Rattle.table_reader.specs.contracts.name_index.NameIndex.{the_row}

-- the name has the last value written through r; at `None` the index stays as it is
abbrev pub lends_value : (V : RattleType) → MutBor (List (List ℕ × V.Denot)) → List ℕ → Option (MutBor V.Denot) → Fml
lends_value V m name r = LendsIf (the_row V) V m r (set_value (bytes_eq name) m.now) m.now
