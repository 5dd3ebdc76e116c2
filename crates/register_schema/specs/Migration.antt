-- Taking a register of the first version to the second.
use Rattle.std.specs.Prelude.{◌⊎◌}
use Rattle.sqlite.specs.{Effect.Database, Held.Held as Connection, Schema.Schema}
use Rattle.sqlite_trees.specs.declared.store.Store.{Ghosts}
use Rattle.sql_steps.specs.Steps.{DatabaseChange}
use Rattle.register_requests.specs.declared.version.Version.TheVariants.{First}
use Rattle.register_tables.specs.declared.table.TableName.TheVariants.{Period, Quorum}
use Rattle.register_schema.specs.Creation.{FindsIn, IsThere, WhereNone}
use Rattle.register_tables.specs.Beside.{HasMetaApart, KeepsOthers}
use Rattle.register_tables.specs.Schema.{Holds, HoldsIn}
use Rattle.register_tables.specs.Tables.{Tables}

-- ---- the whole

-- one of the tables that the second version has beside those of the first is there
abbrev pub HasNewTable : Schema → Type 0
HasNewTable schema = IsThere Period schema ⊎ IsThere Quorum schema

-- a database that holds tables in the first version, whatever history they are of if any, comes to hold the same tables
-- in the second; and one that has others beside them keeps these
pub record TakesToSecond (old new : Database) : Type 0 where
  pub second : (t : Tables) → HoldsIn First t old → Holds t new
  pub others : HasMetaApart old.schema → KeepsOthers old new

-- none of the tables that the second version adds was there, and that
abbrev pub Migrates : DatabaseChange
Migrates = WhereNone HasNewTable TakesToSecond

-- ---- what a look for them tells

-- a look for the tables that the second version adds finds one, and a stop leaves what it left before
abbrev pub FindsNewTable : {S : Type 0} → (g : Ghosts S) → Connection S → Connection S → Type 0
FindsNewTable g = FindsIn g HasNewTable
