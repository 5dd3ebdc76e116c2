-- Opening the tables of a file: the checks of their version, and then this program's version.
use Rattle.std.specs.Prelude.{◌≡◌, IsTrue}
use Rattle.sqlite.specs.{Effect.Database, State.State, Tree.Trees}
use Rattle.register_requests.specs.declared.version.Version.TheVariants.{First}
use Rattle.register_requests.specs.declared.version.Version.{Version}
use Rattle.register_tables.specs.{Schema.HoldsIn, Tables.Tables}
use Rattle.register_schema.specs.Migration.{HasNewTable, Migrates}
use Rattle.register_checks.specs.{CheckedTables.Passes, Stored.Stored}

-- ---- what a file holds

-- the connection is open and sees these tables in this version, which are committed
pub record HasCommittedIn (version : Version) (t : Tables) (s : State) : Type 0 where
  pub is_open : IsTrue s.is_open
  pub holds : HoldsIn version t s.now
  pub committed : s.committed ≡ s.now

-- ---- why it is not opened

-- tables of the first version pass, and a table is there that the second adds
pub record HasBoth (old new : State) : Type 0 where
  pub t : Stored
  pub passes : Passes t old old
  pub first : t.version ≡ First
  pub there : HasNewTable old.now.schema

-- ---- what an opening does

-- what a database is taken to, where what it shows passes the checks of the first version
pub record MigratesTo (old : State) (trees : Trees) : Type 0 where
  pub t : Stored
  pub passes : Passes t old old
  pub first : t.version ≡ First
  pub db : Database
  pub migrates : Migrates old.now db
  pub trees_are : trees ≡ db.trees
