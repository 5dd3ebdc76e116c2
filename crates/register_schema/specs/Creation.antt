-- Making the tables of a register and the indexes of its keys, one after the other.
use Rattle.std.specs.Prelude.{◌≡◌, ℕ, List, Ok}
use Rattle.sqlite.specs.State.{State, HasCleanDisk, Survives}
use Rattle.sqlite.specs.{Effect.Database, Held.Held as Connection, Held.state, Listing.understood, Schema.Schema}
use Rattle.sqlite_trees.specs.declared.store.Store.{Ghosts}
use Rattle.sqlite_resolve.specs.declared.compiled.Compiled.{Compiled}
use Rattle.sql_steps.specs.Steps.{DatabaseChange}
use Rattle.register_tables.specs.Tables.{fresh, count_text, no_rows}
use Rattle.register_tables.specs.Schema.{no_schema, schema_with, made_indexes, Holds}
use Rattle.register_tables.specs.Beside.{KeepsOthers, LacksMeta}
use Rattle.register_tables.specs.declared.table.TableName.{TableName}

-- ---- whether tables are there

-- the text has a meaning under the schema
abbrev pub HasMeaning : Schema → List ℕ → Type 0
HasMeaning schema sql = (statement : Compiled) × (understood schema sql ≡ Ok statement)

-- the table is there: the count of its rows has a meaning
abbrev pub IsThere : TableName → Schema → Type 0
IsThere name schema = HasMeaning schema (count_text name)

-- one of the register's tables is there
abbrev pub HasTable : Schema → Type 0
HasTable schema = (name : TableName) × IsThere name schema

-- nothing of what was looked for was there, and the change is made
abbrev pub WhereNone : (Schema → Type 0) → DatabaseChange → DatabaseChange
WhereNone Has Makes old new = (Has old.schema → ⊥) × Makes old new

-- ---- the whole

-- an empty register, whose indexes beside those of the primary keys are those that a new one has
pub record IsNewRegister (db : Database) : Type 0 where
  pub holds : Holds no_rows db
  pub indexed : db.schema ≡ schema_with (fresh made_indexes)

-- an empty database comes to hold one, and one that has other tables keeps them
pub record MakesAll (old new : Database) : Type 0 where
  pub register : old.schema ≡ no_schema → IsNewRegister new
  pub others : LacksMeta old.schema → KeepsOthers old new

-- none of the register's tables was there, and that
abbrev pub MakesRegister : DatabaseChange
MakesRegister = WhereNone HasTable MakesAll

-- ---- what a look for tables tells

-- outside one: the schema has it, and a stop leaves what it left before
pub record FindsBy (Has : Schema → Type 0) (old new : State) : Type 0 where
  pub there : HasCleanDisk new → Has old.now.schema
  pub survives : Survives old new (λ _. ⊥)

-- a look for tables of a connection finds them, and a stop leaves what it left before
abbrev pub FindsIn : {S : Type 0} → (g : Ghosts S) → (Schema → Type 0) → Connection S → Connection S → Type 0
FindsIn g Has old new = FindsBy Has (state g old) (state g new)

-- one of the register's tables is there
abbrev pub Finds : {S : Type 0} → (g : Ghosts S) → Connection S → Connection S → Type 0
Finds g = FindsIn g HasTable
