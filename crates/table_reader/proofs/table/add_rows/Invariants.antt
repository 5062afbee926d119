use Rattle.std.proofs.Common.{◌≡◌, ◌≤◌, ◌^◌, ◌++◌, List, [], length}
use Rattle.table_reader.specs.Inside.RecordReader.{records_left, IsRecordReader}
use Rattle.table_reader.specs.Records.{Record, words_of}
use Rattle.table_reader.specs.Schema.{row_fault_from}
use Rattle.table_reader.proofs.table.add_rows.Given as goal

abbrev pub invariant-rows : goal.invariant-rows
invariant-rows g l = record {
  ready : IsRecordReader l.reader;
  added : List Record;
  count : length added ≡ l.count;
  all : added ++ records_left l.reader ≡ records_left l.fn.reader;
  stated : g.T.Table.becomes l.fn.table l.table (words_of l.header) added;
  same : g.T.Table.schema l.table ≡ g.T.Table.schema l.fn.table;
  left :
      row_fault_from (g.T.Table.schema l.fn.table) (words_of l.header) added (records_left l.reader)
      ≡ row_fault_from (g.T.Table.schema l.fn.table) (words_of l.header) [] (records_left l.fn.reader);
  few : l.count ≤ 2 ^ 32;
}

abbrev pub decreases-rows : goal.decreases-rows
decreases-rows g l = length (records_left l.reader)
