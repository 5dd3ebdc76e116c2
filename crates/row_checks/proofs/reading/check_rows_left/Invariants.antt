use Rattle.std.proofs.Common.{◌≡◌, false, List, []}
use Rattle.sqlite.specs.{Held.state, Order.Row, State.HasCleanDisk, State.IsUnchanged, State.Survives, Given.HasGiven}
use Rattle.row_checks.proofs.RowByRow.{HasTakenSoFar}
use Rattle.row_checks.proofs.reading.check_rows_left.Given as goal

abbrev pub invariant-rows : goal.invariant-rows
invariant-rows g l = record {
  same_reference : l.rows.conn.ghost_name ≡ l.initial.rows.conn.ghost_name;
  mode : l.fn.rows.conn.now.in_transaction ≡ false → l.rows.conn.now.in_transaction ≡ false;
  survives : Survives (state g.S.Store l.fn.rows.conn.now) (state g.S.Store l.rows.conn.now) (λ _. ⊥);
  same : HasCleanDisk (state g.S.Store l.rows.conn.now) → HasGiven g.S.Store l.sql [] l.fn.rows.conn.now []
      → (given : List Row) × HasGiven g.S.Store l.sql [] l.rows.conn.now given
      × IsUnchanged (state g.S.Store l.fn.rows.conn.now) (state g.S.Store l.rows.conn.now);
  read : HasTakenSoFar g.S.Store l.sql (g.T.RowCheck.has_taken l.fn.check l.fn.check [])
      (g.T.RowCheck.has_taken l.fn.check l.check) l.fn.rows.conn.now l.rows.conn.now;
}
