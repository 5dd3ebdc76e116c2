use Rattle.std.proofs.Common.{[], arith}
use Rattle.sqlite.specs.Held.{state}
use Rattle.sql_steps.proofs.Stepping.{runs}
use Rattle.register_schema.specs.Within.Migration.{MakesNext}
use Rattle.register_tables.specs.Tables.{create_statement}
use Rattle.register_schema.proofs.{Beside.table_adds, Creating.makes_table, NewTables.makes_next}
use Rattle.register_schema.proofs.schema_change.make_table.Goals as goal

pub returns-clause-made : goal.returns-clause-made
returns-clause-made g c = grind (arith, runs, makes_table)

pub returns-clause-next : goal.returns-clause-next
returns-clause-next g c new =
    runs (MakesNext c.args.table) (create_statement c.args.table) [] (state g.S.Store c.args.tx.now.conn.now)
    (state g.S.Store c.execute.new.self.conn.now) c.in_ok-execute.field-0 (makes_next c.args.table new _ _)
    (λ clean inside. rw c.create_sql.ensures at (c.in_ok-execute.ensures.runs clean inside))
    c.in_ok-execute.ensures.survives

pub returns-clause-beside : goal.returns-clause-beside
returns-clause-beside g c = search (arith, runs, table_adds)
