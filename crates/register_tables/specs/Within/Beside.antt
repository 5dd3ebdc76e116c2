-- What functions within the crate say of one another, beside `specs/Beside.antt`.
use Rattle.std.specs.Prelude.{◌≡◌, ◌≢◌, ◌⊎◌, ◌≤◌, ℕ, true, false, Result}
use Rattle.std.specs.Borrow.{MutBor}
use Rattle.sqlite.specs.{Change.next_tree, Effect.Database, Held.Held, Table.Table}
use Rattle.sqlite_rules.specs.Lists.{Has}
use Rattle.sqlite_schema.specs.declared.schema.Reference.{Reference}
use Rattle.sqlite_schema.specs.{declared.schema.Index.Index, declared.schema.View.View}
use Rattle.sqlite_trees.specs.declared.store.Store.{Ghosts}
use Rattle.sql_steps.specs.{Steps.DatabaseChange, Within.Steps}
use Rattle.register_tables.specs.declared.table.TableName.TheVariants.{Meta}
use Rattle.register_tables.specs.Beside.{HasMetaApart, is_meta}
use Rattle.register_tables.specs.declared.table.TableName.{TableName}

-- ---- the steps

-- Each table, with its rows, each index and each view stays. A table that is new was written so that P holds of it, and
-- has a tree above those that were there.
pub record Adds (P : Table → Type 0) (old new : Database) : Type 0 where
  pub tables : (t : Table) → Has old.schema.tables t → Has new.schema.tables t
  pub rows : (t : Table) → Has old.schema.tables t → new.trees t.tree ≡ old.trees t.tree
  pub indexes : (i : Index) → Has old.schema.indexes i → Has new.schema.indexes i
  pub views : (v : View) → Has old.schema.views v → Has new.schema.views v
  pub news : (t : Table) → Has new.schema.tables t
      → Has old.schema.tables t
      ⊎ ((x : Table) × P x × (n : ℕ) × (t ≡ record x { tree = n }) × (next_tree old.schema ≤ n))
  pub higher : next_tree old.schema ≤ next_tree new.schema

-- the table has no AUTOINCREMENT
abbrev pub IsUncounted : Table → Type 0
IsUncounted x = x.is_counted ≡ false

-- tables that are new have none
unfoldable pub AddsUncounted : Database → Database → Type 0
AddsUncounted = Adds IsUncounted

-- what is added where the table of this name is made
pub record IsMadeAs (name : TableName) (x : Table) : Type 0 where
  pub uncounted : IsUncounted x
  pub unreferring : (r : Reference) → Has x.references r → is_meta r.parent ≡ false
  pub named : is_meta x.name ≡ true → name ≡ Meta

-- the rows of each table stay whose tree is not that of a table of the name `meta`
pub record WritesMeta (old new : Database) : Type 0 where
  pub schema_is : new.schema ≡ old.schema
  pub rows : (t : Table) → Has old.schema.tables t
      → ((m : Table) → Has old.schema.tables m → is_meta m.name ≡ true → t.tree ≢ m.tree)
      → new.trees t.tree ≡ old.trees t.tree

-- a row is put into that table, which has no AUTOINCREMENT
abbrev pub InsertsMeta : Database → Database → Type 0
InsertsMeta old new =
    ((m : Table) → Has old.schema.tables m → is_meta m.name ≡ true → IsUncounted m) → WritesMeta old new

-- rows of it are changed, to which no table refers
abbrev pub UpdatesMeta : Database → Database → Type 0
UpdatesMeta old new = HasMetaApart old.schema → WritesMeta old new

-- ---- one call in a transaction

-- the transaction stays the same one, and where the call succeeds it makes this of the register and that beside it
pub record Alters {S T E : Type 0} (g : Ghosts S) (Made Beside : DatabaseChange) (old new : MutBor (Held S))
    (result : Result T E) : Type 0 where
  pub same_reference : new.ghost_name ≡ old.ghost_name
  pub made : Steps g (λ _. Made) old.now new.now result
  pub beside : Steps g (λ _. Beside) old.now new.now result
