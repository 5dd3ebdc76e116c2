-- What functions within the crate say of one another, beside `specs/Migration.antt`.
use Rattle.std.specs.Prelude.{◌≡◌, ◌<◌, ◌≤◌, ◌+◌, ℕ, []}
use Rattle.sqlite.specs.Effect.{Database, IsDatabase}
use Rattle.register_requests.specs.declared.version.Version.TheVariants.{First, Second}
use Rattle.register_tables.specs.declared.table.TableName.{TableName}
use Rattle.register_tables.specs.Schema.{Holds, table_rows, schema_below}
use Rattle.register_tables.specs.Tables.{AreApartBelow, IsInRange, Layout, ShowsIn, Tables, content, place_of}
use Rattle.register_tables.specs.Tables.{table_count}

-- ---- the steps

-- the first n tables are there: those of the first version with their rows, and the others empty
pub record HasTablesBelow (n : ℕ) (t : Tables) (db : Database) : Type 0 where
  pub layout : Layout
  pub apart : AreApartBelow n layout
  pub schema : db.schema ≡ schema_below n layout
  pub sound : IsDatabase db
  pub in_range : (name : TableName) → IsInRange name (content name t)
  pub shown : (name : TableName) → place_of name < table_count First
      → ShowsIn First name (content name t) (table_rows layout name db)
  pub no_periods : t.periods ≡ []
  pub no_needs : t.needs ≡ []
  pub empty : (name : TableName) → table_count First ≤ place_of name → place_of name < n → table_rows layout name db ≡ []

-- one table more
abbrev pub MakesNext : TableName → Database → Database → Type 0
MakesNext name old new = (t : Tables) → HasTablesBelow (place_of name) t old → HasTablesBelow (place_of name + 1) t new

abbrev pub SetsVersion : Database → Database → Type 0
SetsVersion old new = (t : Tables) → HasTablesBelow (table_count Second) t old → Holds t new
