-- The schema of a register, and when a database holds its tables.
use Rattle.std.specs.Prelude.{◌≡◌, ℕ, ◌+◌, false, List, [], ◌∷◌, ◌++◌, map, take, codes}
use Rattle.sqlite.specs.{Order.Row as Cells, Schema.Schema, Effect.Database, Effect.IsDatabase}
use Rattle.sqlite_schema.specs.declared.schema.Index.{Index}
use Rattle.sqlite_value.specs.Keys.{plain}
use Rattle.register_tables.specs.declared.key_index.KeyIndex.TheVariants.{Activation, Deactivation, ProtectStop}
use Rattle.register_tables.specs.declared.table.TableName.TheVariants.{Keys}
use Rattle.register_tables.specs.Tables.{Layout, AreApartIn, fresh, Tables, content, IsInRange, ShowsIn, all_tables}
use Rattle.register_tables.specs.Tables.{table_of, table_count, key_indexes, trees_of}
use Rattle.register_tables.specs.{declared.key_index.KeyIndex.KeyIndex, declared.table.TableName.TableName}
use Rattle.register_requests.specs.{declared.version.Version.Version, Version.current}

-- ---- schemas

-- the schema of an empty database
abbrev pub no_schema : Schema
no_schema = record { tables = []; indexes = []; views = [] }

-- The schema with the first n of a register's tables, which stand so. Indexes are free, since they change no row: it
-- may have any beside those of the primary keys.
abbrev pub schema_below : ℕ → Layout → Schema
schema_below n l =
    record { tables = map (table_of l) (take n all_tables); indexes = key_indexes l ++ l.more; views = [] }

-- the schema of a version's tables, which stand so
abbrev pub schema_in : Version → Layout → Schema
schema_in version l = schema_below (table_count version) l

-- the schema of the tables of this program's version, which stand so
abbrev pub schema_with : Layout → Schema
schema_with = schema_in current

-- it has the tables of a register of this version, whatever trees they stand in
pub record IsRegisterIn (version : Version) (schema : Schema) : Type 0 where
  pub layout : Layout
  pub apart : AreApartIn version layout
  pub is : schema ≡ schema_in version layout

-- ---- the indexes of keys that a new register has

-- An index of keys by their states, and then by further columns. Columns are counted from the rowid, which is the
-- number and has 0: the state is 5. Its tree comes after those of the tables.
abbrev pub state_index : List ℕ → ℕ → List ℕ → Index
state_index name place columns = record {
  name = name;
  tree = trees_of all_tables + place;
  table = (fresh []).tree Keys;
  columns = 5 ∷ columns;
  order = plain;
  is_unique = false;
}

-- by the date of activation, by that of deactivation, and by that of the stop of protection with the number
-- after it
abbrev pub index_of : KeyIndex → Index
index_of Activation = state_index (codes "keys_by_activation") 0 (7 ∷ [])
index_of Deactivation = state_index (codes "keys_by_deactivation") 1 (9 ∷ [])
index_of ProtectStop = state_index (codes "keys_by_protect_stop") 2 (8 ∷ 0 ∷ [])

-- the indexes in the order in which they are made
abbrev pub made_indexes : List Index
made_indexes = index_of Activation ∷ index_of Deactivation ∷ index_of ProtectStop ∷ []

-- ---- the rows

-- the rows of a table
abbrev pub table_rows : Layout → TableName → Database → List Cells
table_rows l name db = db.trees (l.tree name)

-- The database holds the tables in this version: its schema is a register's, which its trees list and obey, and each
-- table's rows are those of its content, which is in range.
pub record HoldsIn (version : Version) (t : Tables) (db : Database) : Type 0 where
  pub schema : IsRegisterIn version db.schema
  pub sound : IsDatabase db
  pub in_range : (name : TableName) → IsInRange name (content name t)
  pub shown : (name : TableName) → ShowsIn version name (content name t) (table_rows schema.layout name db)

-- the database holds the tables in this program's version, and each is in its ranges
abbrev pub Holds : Tables → Database → Type 0
Holds = HoldsIn current
