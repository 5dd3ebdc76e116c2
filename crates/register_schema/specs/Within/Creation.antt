-- What functions within the crate say of one another, beside `specs/Creation.antt`.
use Rattle.std.specs.Prelude.{◌≡◌, ◌<◌, ℕ, Bool, true, false, [], length, take, IsTrue}
use Rattle.sqlite.specs.{Effect.Database, Schema.Schema, State.State, State.HasCleanDisk}
use Rattle.sql_steps.specs.{Within.AddsTable, Within.Indexes, Steps.DatabaseChange}
use Rattle.register_tables.specs.Tables.{fresh, all_tables, table_of, place_of}
use Rattle.register_tables.specs.Schema.{no_schema, schema_with, made_indexes, index_of, table_rows}
use Rattle.register_tables.specs.Within.Schema.{schema_after, index_place}
use Rattle.register_tables.specs.{declared.key_index.KeyIndex.KeyIndex, declared.table.TableName.TableName}
use Rattle.register_schema.specs.Creation.{IsNewRegister, IsThere}
use Rattle.register_tables.specs.Within.Tables.{keys}

-- ---- the steps

-- the table is made where those before it are
abbrev pub MakesTable : TableName → Database → Database → Type 0
MakesTable name = AddsTable (schema_after (place_of name)) (table_of (fresh []) name)

-- in an empty database the first n tables are made, each empty
pub record HasFirstTables (n : ℕ) (db : Database) : Type 0 where
  pub schema : db.schema ≡ schema_after n
  pub empty : (name : TableName) → place_of name < n → table_rows (fresh []) name db ≡ []

abbrev pub MakesFirst : ℕ → Database → Database → Type 0
MakesFirst n old new = old.schema ≡ no_schema → HasFirstTables n new

-- all of them
abbrev pub MakesTables : Database → Database → Type 0
MakesTables = MakesFirst (length all_tables)

-- the index of keys is made where the tables and the indexes before it are
abbrev pub MakesIndex : KeyIndex → Database → Database → Type 0
MakesIndex index = Indexes (schema_with (fresh (take (index_place index) made_indexes))) (keys (fresh []))
    (index_of index)

-- all tables are made, each empty, and the first n of the indexes
pub record HasIndexes (n : ℕ) (db : Database) : Type 0 where
  pub schema : db.schema ≡ schema_with (fresh (take n made_indexes))
  pub empty : (name : TableName) → table_rows (fresh []) name db ≡ []

abbrev pub MakesIndexes : ℕ → Database → Database → Type 0
MakesIndexes n old new = HasFirstTables (length all_tables) old → HasIndexes n new

-- all of the indexes
abbrev pub AddsIndexes : Database → Database → Type 0
AddsIndexes = MakesIndexes (length made_indexes)

-- the tables, each empty, come to be those of an empty register, and the indexes stay
abbrev pub AddsMeta : Database → Database → Type 0
AddsMeta old new = HasIndexes (length made_indexes) old → IsNewRegister new

-- ---- what a look for tables tells

-- an answer to whether the schema has something; after a "no" it has not, and the database is the same
abbrev pub Answers : (Schema → Type 0) → Bool → DatabaseChange
Answers Has true old new = Has old.schema
Answers Has false old new = (Has old.schema → ⊥) × (new ≡ old)

-- none of the first n tables is there, and the database is the same
pub record LacksFirst (n : ℕ) (old new : Database) : Type 0 where
  pub none : (name : TableName) → place_of name < n → IsThere name old.schema → ⊥
  pub same : new ≡ old

-- inside a transaction: the schema has what was looked for
abbrev pub FindsInside : (Schema → Type 0) → State → State → Type 0
FindsInside Has old new = HasCleanDisk new → IsTrue old.in_transaction → Has old.now.schema
