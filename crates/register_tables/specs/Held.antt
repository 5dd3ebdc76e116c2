-- When a database holds the tables of a register: the statements that make them, and which rows show what they hold.
use Rattle.std.specs.Prelude.{◌≡◌, ◌≢◌, ℕ, [], ◌∷◌, ◌++◌, map}
use Rattle.std.specs.{List.AllPairs, Result.result_unwrap_or}
use Rattle.sqlite.specs.{Compile.table_defined_by, Effect.Database, Effect.IsDatabase, Schema.Schema, Table.Table}
use Rattle.sqlite_catalog.specs.Listing.{automatic}
use Rattle.sqlite_resolve.specs.Define.{empty}
use Rattle.register_requests.specs.declared.version.Version.{Version}
use Rattle.register_tables.specs.declared.table.TableName.{TableName}
use Rattle.register_tables.specs.declared.table.TableName.TheVariants.{Custodian, Approval, Request}
use Rattle.register_tables.specs.Tables.{AreRowsOf, Layout, Tables, create_statement, tables_of}

-- the table that the statement defines, its rows in this tree
abbrev pub table : TableName → ℕ → Table
table name tree = record (result_unwrap_or (table_defined_by (create_statement name)) (empty [] [])) { tree = tree }

-- The schema of a version's tables, which stand so. A primary key of two columns has an index of its own; further
-- indexes are free, since they change no row.
abbrev pub schema_of : Version → Layout → Schema
schema_of version l = record {
  tables = map (λ name. table name (l.tree name)) (tables_of version);
  indexes = map (λ name. automatic (table name (l.tree name)) 0 (1 ∷ 2 ∷ []) (l.key_tree name))
      (Custodian ∷ Approval ∷ Request ∷ []) ++ l.more;
  views = [];
}

-- The database holds the tables in this version: its schema is a register's, no two of whose tables have one tree; its
-- trees list it and obey it; and each table's rows show what it holds.
pub record HasTables (version : Version) (t : Tables) (db : Database) : Type 0 where
  pub layout : Layout
  pub apart : AllPairs (λ (a b : TableName). layout.tree a ≢ layout.tree b) (tables_of version)
  pub schema : db.schema ≡ schema_of version layout
  pub sound : IsDatabase db
  pub rows : (name : TableName) → AreRowsOf name version t (db.trees (layout.tree name))
