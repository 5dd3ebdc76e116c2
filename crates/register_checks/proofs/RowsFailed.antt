-- Why a table is refused, by what the reader of its rows answered.
use Rattle.std.proofs.Common.{◌≡◌, List, ◌++◌, arith}
use Rattle.sqlite.specs.{Order.Row, State.State, State.IsUnchanged}
use Rattle.row_checks.specs.declared.error.RowsError.TheVariants.{NoMeaning, Refused, Memory}
use Rattle.row_checks.specs.{declared.error.RowsError.RowsError, ShownRows.HasNoMeaning, ShownRows.ShowsFirst}
use Rattle.register_checks.specs.CheckedTables.{IsOdd, IsReasonAt, check_error, check_text}
use Rattle.register_tables.specs.declared.table.TableName.{TableName}
use Rattle.register_checks.specs.Stored.{Stored}

module _ (name : TableName) (t : Stored) (old new : State) (Refuses : List Row → Type 0) where
  pub reason_of : (e : RowsError) → (e ≡ NoMeaning → HasNoMeaning (check_text name) old new)
      → (e ≡ Refused → ShowsFirst (check_text name) Refuses old new) → (e ≡ Memory → IsUnchanged old new)
      → (e ≡ Refused → (rows : List Row) → Refuses rows → (tail : List Row) → IsOdd name t (rows ++ tail))
      → IsReasonAt name t old new (check_error e)
  reason_of e meaning refused memory odd = search arith
