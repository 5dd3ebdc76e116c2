use Rattle.std.proofs.Common.{[], Err, Bool, true, Result, sym, refl, subst}
use Rattle.sqlite.specs.{Held.state, declared.error.Error.Error}
use Rattle.sql_steps.specs.Steps.{StepsBy}
use Rattle.sql_steps.proofs.Asking.{asks_row, asks_fails, has_meaning}
use Rattle.register_schema.specs.{Creation.IsThere, Within.Creation.Answers}
use Rattle.register_tables.specs.Tables.{count_text}
use Rattle.register_schema.proofs.RowCounts.{answers_no}
use Rattle.register_schema.proofs.schema_change.is_table_there.Goals.{in-Ok, in-Err-SqlInputError, in-Err}
use Rattle.register_schema.proofs.schema_change.is_table_there.Goals as goal

pub returns-clause-answer : goal.returns-clause-answer
returns-clause-answer g c =
    let name = c.args.table in
    let sql = count_text name in
    let old = state g.S.Store c.args.tx.now.conn.now in
    let new = state g.S.Store c.query_row.new.self.conn.now in
    let Told : Result Bool Error → Type 0 = StepsBy (Answers (IsThere name)) old new in
    elim c.match-query_row.branch [
      | in-Ok w ↦ subst Told (sym w.result-is)
          (asks_row old new (Answers (IsThere name)) true sql [] _ (λ asked. has_meaning sql [] _ old new asked)
          (rw c.count_sql.ensures at w.in-Ok.ensures.row) c.query_row.ensures.survives)
      | in-Err-SqlInputError w ↦ subst Told (sym w.result-is)
          (answers_no name old new _ _ w.in-Err-SqlInputError.field-0-is
          (rw c.count_sql.ensures at w.in-Err-SqlInputError.ensures.row) c.query_row.ensures.survives)
      | in-Err w ↦ subst Told (sym w.result-is)
          (asks_fails old new (Answers (IsThere name)) sql [] (Err w.in-Err.error) (Err w.in-Err.error) refl
          (rw c.count_sql.ensures at w.in-Err.ensures.row) c.query_row.ensures.survives)
    ]
