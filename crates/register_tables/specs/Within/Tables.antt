-- What functions within the crate say of one another, beside `specs/Tables.antt`.
use Rattle.std.specs.Prelude.{List}
use Rattle.sqlite.specs.{Order.Row as Cells, Table.Table}
use Rattle.register_requests.specs.Version.{current}
use Rattle.register_tables.specs.declared.table.TableName.{TableName}
use Rattle.register_tables.specs.declared.table.TableName.TheVariants.{Meta, Keys, Custodian, Approval, Request}
use Rattle.register_tables.specs.Tables.{Content, Counts, Layout, ShowsIn, counts_row_in, table_of}

-- ---- cells. A row begins with its rowid; the cell of an INTEGER PRIMARY KEY shows that, and is kept as NULL.

abbrev pub counts_row : Counts → Cells
counts_row = counts_row_in current

-- ---- one table by its name

abbrev pub Shows : (name : TableName) → Content name → List Cells → Type 0
Shows = ShowsIn current

-- ---- where the tables stand

module _ (l : Layout) where
  abbrev pub meta : Table
  meta = table_of l Meta

  abbrev pub keys : Table
  keys = table_of l Keys

  abbrev pub custodian : Table
  custodian = table_of l Custodian

  abbrev pub approval : Table
  approval = table_of l Approval

  abbrev pub request : Table
  request = table_of l Request
