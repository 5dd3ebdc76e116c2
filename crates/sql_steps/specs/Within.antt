-- What functions within the crate say of one another: no public contract stands on it.
use Rattle.std.specs.Prelude.{Result, ◌≡◌, []}
use Rattle.sqlite.specs.{Effect.Database, Schema.Schema, Table.Table}
use Rattle.sqlite.specs.Held.{Held, state}
use Rattle.sqlite_trees.specs.declared.store.Store.{Ghosts}
use Rattle.sql_steps.specs.Steps.{DatabaseChange, StepsBy}
use Rattle.sqlite.specs.Change.{created, indexed, next_tree, KeepsRows}
use Rattle.sqlite_schema.specs.declared.schema.Index.{Index}

-- ---- beside `specs/Steps.antt`

-- one change and then another
abbrev pub Then : DatabaseChange → DatabaseChange → DatabaseChange
Then First Next old new = (mid : Database) × First old mid × Next mid new

-- what a call makes of what a connection shows
abbrev pub Steps : {S T E : Type 0} → (g : Ghosts S) → (T → DatabaseChange) → Held S → Held S → Result T E → Type 0
Steps g Changes old new result = StepsBy Changes (state g old) (state g new) result

-- ---- what a CREATE TABLE and a CREATE INDEX make of a database

-- the table is new and empty, and each other table is as it was
pub record Created (before : Schema) (table : Table) (old new : Database) : Type 0 where
  pub schema : new.schema ≡ created before table
  pub empty : new.trees (next_tree before) ≡ []
  pub others : KeepsRows before.tables old.trees new.trees

-- the table is made where the schema is this one
abbrev pub AddsTable : Schema → Table → DatabaseChange
AddsTable before table old new = old.schema ≡ before → Created before table old new

-- the index is new, and each table is as it was
pub record Indexed (before : Schema) (table : Table) (index : Index) (old new : Database) : Type 0 where
  pub schema : new.schema ≡ indexed before table index
  pub tables : KeepsRows before.tables old.trees new.trees

-- the index of the table is made where the schema is this one
abbrev pub Indexes : Schema → Table → Index → DatabaseChange
Indexes before table index old new = old.schema ≡ before → Indexed before table index old new
