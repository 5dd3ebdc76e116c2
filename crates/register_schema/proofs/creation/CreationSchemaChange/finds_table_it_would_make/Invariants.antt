use Rattle.std.proofs.Common.{◌≡◌, Ok}
use Rattle.sqlite.specs.{Held.state, declared.error.Error.Error}
use Rattle.sql_steps.specs.Steps.{StepsBy}
use Rattle.register_schema.specs.Within.Creation.{LacksFirst}
use Rattle.register_schema.proofs.creation.CreationSchemaChange.finds_table_it_would_make.Given as goal

-- none of the tables before this one is there
abbrev pub invariant-loop-table : goal.invariant-loop-table
invariant-loop-table g l = record {
  same : l.tx.conn.ghost_name ≡ l.initial.tx.conn.ghost_name;
  so_far : StepsBy {T = Unit {0}} {E = Error} (λ _. LacksFirst l.table-index) (state g.S.Store l.initial.tx.conn.now)
      (state g.S.Store l.tx.conn.now) (Ok tt);
}
