-- What an INSERT of VALUES does that sets off no action.
use Rattle.std.proofs.Common.{◌≡◌, ℕ, List, [], slice_get, false, Some, Ok}
use Rattle.sqlite.specs.State.{State, mode_of, Executes}
use Rattle.sqlite.specs.{Command.TheVariants.Insert, Edit.Edit, Edit.edited, Listing.understood, Order.Row}
use Rattle.sqlite.specs.{Schema.Schema, Source.TheVariants.Values, Table.Table, Term.Term}
use Rattle.sqlite.proofs.Callers.{IsPlain, command_of, statement_of, runs_as}
use Rattle.sqlite_rules.specs.Action.{works}
use Rattle.sqlite_schema.specs.declared.schema.Keys.TheVariants.{Enforced}
use Rattle.sql_steps.proofs.{Statements.inserts, Statements.inserted, Written.Wrote}

module _ (base : Table) (params : Row) (terms : List Term) (width : ℕ) where
  -- a table with no AUTOINCREMENT
  abbrev table : Table
  table = record base { is_counted = false }

  -- what it puts into the table
  abbrev pub edit : (schema : Schema) (old : State) → old.now.schema ≡ schema → ℕ → Edit
  edit schema old has at = inserted old.step_limit (mode_of old) params old.now schema has at base terms width

  -- the rows are put in, and no other table changes; the new database is sound
  pub puts : (sql : List ℕ) (schema : Schema) (at : ℕ) → slice_get schema.tables at ≡ Some table
      → command_of (understood schema sql) ≡ Insert at (Values terms width) → IsPlain (understood schema sql)
      → ((news : List Row) → works schema Enforced 0 table.tree [] news ≡ [])
      → (old new : State) (count : ℕ) → Executes sql params old new (Ok count) → (has : old.now.schema ≡ schema)
      → Wrote schema table.tree (edited old.now.trees (edit schema old has at)) old.now new.now
  puts sql schema at there is plain idle old new count h has =
      let w = runs_as sql params old new schema has (Insert at (Values terms width)) is plain count h in
      let text = statement_of sql (understood schema sql) in
      let did = inserts old.step_limit (mode_of old) params old.now schema has at base there terms width text w.tally
      new.now (idle (edit schema old has at).news) w.changed in
      record { rows_are = did.1.rows; kept = record { schema_is = did.0; others = did.1.tables; sound = w.sound } }
