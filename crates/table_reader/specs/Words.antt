-- The names that clauses of this crate cite, passed on from where they are defined (source: own).
pub use Rattle.csv.specs.Records.{fields_of}
pub use Rattle.route_base.specs.Causes.{IsOfContents}
pub use Rattle.std.specs.Borrow.{sem}
pub use Rattle.std.specs.List.{IsDistinct}
pub use Rattle.std.specs.Option.{option_copied_mut}
pub use Rattle.std.specs.Str.{bytes_eq}
pub use Rattle.table_reader.specs.NameIndex.{value_under, names_of, place_among}
pub use Rattle.table_reader.specs.NameLends.{lends_value}
pub use Rattle.table_reader.specs.Records.{Record, records_of, header_in, header_of, rows_in, rows_of, words_of, headers_of}
pub use Rattle.table_reader.specs.Refusals.{IfBadCause, ReadsRows}
pub use Rattle.table_reader.specs.Schema.{Schema, IsHeader, is_header, cause_after, row_fault_from, first_table_fault}
