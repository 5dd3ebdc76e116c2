use Rattle.std.proofs.Common.{◌≡◌, Ok}
use Rattle.sqlite.specs.{Held.state, declared.error.Error.Error}
use Rattle.sql_steps.specs.Steps.{StepsBy}
use Rattle.register_tables.specs.Within.Beside.{AddsUncounted}
use Rattle.register_schema.specs.Within.Creation.{MakesIndexes}
use Rattle.register_schema.proofs.creation.make_indexes.Given as goal

-- the indexes before this one are made
abbrev pub invariant-loop-index : goal.invariant-loop-index
invariant-loop-index g l = record {
  same : l.tx.conn.ghost_name ≡ l.initial.tx.conn.ghost_name;
  so_far : StepsBy {T = Unit {0}} {E = Error} (λ _. MakesIndexes l.index-index)
      (state g.S.Store l.initial.tx.conn.now) (state g.S.Store l.tx.conn.now) (Ok tt);
  beside : StepsBy {T = Unit {0}} {E = Error} (λ _. AddsUncounted) (state g.S.Store l.initial.tx.conn.now)
      (state g.S.Store l.tx.conn.now) (Ok tt);
}
