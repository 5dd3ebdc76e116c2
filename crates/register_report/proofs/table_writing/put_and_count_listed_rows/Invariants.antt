use Rattle.std.proofs.Common.{◌≡◌, ◌≤◌}
use Rattle.register_desk.specs.KeyRows.{GoOn}
use Rattle.register_report.proofs.RowsWritten.{SoFar}
use Rattle.register_report.proofs.table_writing.put_and_count_listed_rows.Given as goal

abbrev pub invariant-lines : goal.invariant-lines
invariant-lines g l = record {
  same_reference : l.rows.desk.ghost_name ≡ l.fn.rows.desk.ghost_name;
  so_far :
      SoFar g.W.Write.contents g.S.Store l.fn.table l.fn.writer l.writer l.fn.written l.written
      l.fn.rows l.rows l.count;
  going : GoOn l.fn.rows → GoOn l.rows;
  within : l.count ≤ l.counter;
}
