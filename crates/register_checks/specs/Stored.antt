-- Tables with the version in which they are stored.
use Rattle.sqlite.specs.Effect.{Database}
use Rattle.register_requests.specs.declared.version.Version.{Version}
use Rattle.register_tables.specs.declared.table.TableName.TheVariants.{Meta}
use Rattle.register_tables.specs.Tables.{Content, Counts, Tables, content, with_content}
use Rattle.register_tables.specs.{declared.table.TableName.TableName, Schema.HoldsIn}

-- Tables with the version in which a database has them.
pub record Stored : Type 0 where
  pub version : Version
  pub tables : Tables

-- the database holds these tables in that version
abbrev pub HoldsStored : Stored → Database → Type 0
HoldsStored stored db = HoldsIn stored.version stored.tables db

-- what the row of meta tells: the version, and what it counts
abbrev pub mark : Stored → Version × Counts
mark stored = (stored.version, stored.tables.counts)

-- what the query of a table shows: what that of meta tells, and the content of each other table
abbrev pub Part : TableName → Type 0
Part Meta = Version × Counts
Part name = Content name

-- what the query of a table shows of these tables
abbrev pub part : (name : TableName) → Stored → Part name
part Meta stored = mark stored
part name stored = content name stored.tables

-- the tables, where the query of this one shows another part
abbrev pub with_part : (name : TableName) → Part name → Stored → Stored
with_part Meta told stored = record { version = told.0; tables = with_content Meta told.1 stored.tables }
with_part name c stored = record { version = stored.version; tables = with_content name c stored.tables }
