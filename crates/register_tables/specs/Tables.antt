-- The tables of a register, one by one: what each holds, how it is made, and how its content stands in its rows.
use Rattle.std.specs.Prelude.{◌≡◌, ◌<◌, ℕ, ◌+◌, pos, Bool, cond, not, List, [], ◌∷◌, ◌++◌, length, map, drop, filter}
use Rattle.std.specs.Prelude.{take, Option, None, Some, is_some, IsTrue, IsPermutation, codes}
use Rattle.std.specs.List.{AllByRecursion, enumerate_from}
use Rattle.sqlite.specs.declared.types.Value.TheVariants.{Null, Int, Text as Words}
use Rattle.sqlite.specs.{declared.types.Value.Value, Order.Row as Cells, Table.Table, Tree.IsTable, Tree.rowid}
use Rattle.sqlite_catalog.specs.Listing.{automatic}
use Rattle.sqlite_schema.specs.declared.schema.Action.TheVariants.{NoAction, Cascade}
use Rattle.sqlite_schema.specs.{declared.schema.Index.Index, declared.schema.Reference.Reference}
use Rattle.sqlite_trees.specs.View.{is_int}
use Rattle.moment_core.specs.Moment.{IsMoment, last_second}
use Rattle.lifecycle_core.specs.{declared.state.State.State, State.state_code}
use Rattle.period_core.specs.{KeyType.key_type_code, Period.IsPeriod}
use Rattle.register_core.specs.{declared.kept_reply.KeptReply.KeptReply, declared.key.Key.Key, Dates.AreDates}
use Rattle.register_core.specs.{KeptReply.IsKeptReply, KeyName.KeyName, Settings.KeyNeed, Settings.TypePeriod}
use Rattle.register_requests.specs.declared.version.Version.TheVariants.{First, Second}
use Rattle.register_requests.specs.{Name.IsName, Purpose.IsPurpose, Request.command_text, Quorum.IsQuorum}
use Rattle.register_requests.specs.{declared.version.Version.Version, Version.current, Version.version_number}
use Rattle.register_tables.specs.declared.table.TableName.{TableName}
use Rattle.register_tables.specs.declared.table.TableName.TheVariants.{Meta, Keys, Custodian, Approval, Request, Period}
use Rattle.register_tables.specs.declared.table.TableName.TheVariants.{Quorum}
use Rattle.register_tables.specs.Columns.{meta_columns, key_columns, request_columns, period_columns, need_columns}
use Rattle.register_tables.specs.Columns.{paired}
use Rattle.register_tables.specs.TableForms.{Numbers, Texts, keyed, indexed, reference}

-- ---- what they hold

-- what the one row of meta keeps beside the version
pub record Counts : Type 0 where
  pub latest : ℕ
  pub key_count : ℕ

-- What the tables hold: the keys by number, from 1, the names at keys in no order of meaning, what is kept of each
-- accepted request, in none either, and the periods and needs that are set.
pub record Tables : Type 0 where
  pub counts : Counts
  pub keys : List Key
  pub custodians : List KeyName
  pub approvals : List KeyName
  pub requests : List KeptReply
  pub periods : List TypePeriod
  pub needs : List KeyNeed

-- the tables of an empty register
abbrev pub no_rows : Tables
no_rows = record {
  counts = record { latest = 0; key_count = 0 };
  keys = [];
  custodians = [];
  approvals = [];
  requests = [];
  periods = [];
  needs = [];
}

-- ---- cells. A row begins with its rowid; the cell of an INTEGER PRIMARY KEY shows that, and is kept as NULL.

-- the cell of a date; that of one that is not set is one second past the last moment, so it comes after every date
abbrev pub date_cell : Option ℕ → ℕ
date_cell None = last_second + 1
date_cell (Some date) = date

-- the version of the tables that this program makes
abbrev pub version : ℕ
version = version_number current

-- a cell of a whole number
abbrev pub number : ℕ → Value
number n = Int (pos n)

-- The one row of meta in a version. It begins with its rowid, which is its id too, so that the cell of the id is null, as
-- SQLite has it of an INTEGER PRIMARY KEY.
abbrev pub counts_row_in : Version → Counts → Cells
counts_row_in v counts =
    number 1 ∷ Null ∷ number (version_number v) ∷ number counts.latest ∷ number counts.key_count ∷ []

-- the cells of a key past its number
abbrev pub key_cells : Key → Cells
key_cells k =
    let d = k.row.dates in
    number (key_type_code k.kind) ∷ Words k.owner ∷ Words k.purpose ∷ number (state_code k.row.state)
    ∷ number d.initial ∷ number (date_cell d.activation) ∷ number (date_cell d.protect_stop)
    ∷ number (date_cell d.deactivation) ∷ number (date_cell d.destroy) ∷ number (date_cell d.compromise)
    ∷ number (date_cell d.compromise_occurrence) ∷ []

-- a key with its number, which is the rowid
abbrev pub key_row : ℕ × Key → Cells
key_row numbered = number numbered.0 ∷ Null ∷ key_cells numbered.1

-- the keys with their numbers, from 1
abbrev pub numbered : List Key → List (ℕ × Key)
numbered keys = enumerate_from 1 keys

-- the cells of a name at a key
abbrev pub name_cells : KeyName → Cells
name_cells at_key = number at_key.key ∷ Words at_key.name ∷ []

-- the state in a reply, 0 for none
abbrev pub state_cell : Option State → ℕ
state_cell None = 0
state_cell (Some state) = state_code state

-- what is kept of a request; Advance and Set period, which are about no key, have key 0
abbrev pub request_cells : KeptReply → Cells
request_cells k =
    Words k.caller ∷ number k.number ∷ Words (command_text k.command)
    ∷ number k.reply.key ∷ number (state_cell k.reply.state) ∷ number k.reply.moment ∷ []

-- a type with its period
abbrev pub period_row : TypePeriod → Cells
period_row set =
    number (key_type_code set.kind) ∷ Null ∷ number set.period.originator ∷ number set.period.recipient ∷ []

-- a key with its need
abbrev pub need_row : KeyNeed → Cells
need_row set = number set.key ∷ Null ∷ number set.need ∷ []

-- Past their rowids the rows are those of the entries, in any order. The rowids are whole numbers that rise, as in each
-- table.
pub record ShowsEntries {A : Type 0} (cells_of : A → Cells) (entries : List A) (rows : List Cells) : Type 0 where
  pub cells : IsPermutation (map (drop 1) rows) (map cells_of entries)
  pub ordered : IsTable rows
  pub counted : AllByRecursion (λ row. IsTrue (is_int (rowid row))) rows

-- The rows are those of the entries, each of which has a rowid of its own.
pub record ShowsKeyed {A : Type 0} (row_of : A → Cells) (entries : List A) (rows : List Cells) : Type 0 where
  pub rows_are : IsPermutation rows (map row_of entries)
  pub ordered : IsTable rows

-- The second version has the table, whose rows are those of the entries; the first has none, and nothing is set in it.
abbrev pub ShowsSinceSecond : {A : Type 0} → (A → Cells) → Version → List A → List Cells → Type 0
ShowsSinceSecond row_of First entries rows = entries ≡ []
ShowsSinceSecond row_of Second entries rows = ShowsKeyed row_of entries rows

-- The rows of a table in a version: those of `meta` and `keys` in order, those of the others in any.
abbrev pub AreRowsOf : TableName → Version → Tables → List Cells → Type 0
AreRowsOf Meta v t rows = rows ≡ counts_row_in v t.counts ∷ []
AreRowsOf Keys v t rows = rows ≡ map key_row (enumerate_from 1 t.keys)
AreRowsOf Custodian v t rows = ShowsEntries name_cells t.custodians rows
AreRowsOf Approval v t rows = ShowsEntries name_cells t.approvals rows
AreRowsOf Request v t rows = ShowsEntries request_cells t.requests rows
AreRowsOf Period v t rows = ShowsSinceSecond period_row v t.periods rows
AreRowsOf Quorum v t rows = ShowsSinceSecond need_row v t.needs rows

-- ---- ranges

-- the owner, the purpose and the dates of a key are in their ranges
pub record IsKey (k : Key) : Type 0 where
  pub owner : IsName k.owner
  pub purpose : IsPurpose k.purpose
  pub dates : AreDates k.row.dates

-- the name at a key is a name
abbrev pub IsNamed : KeyName → Type 0
IsNamed at_key = IsName at_key.name

-- the period that is set for a type is in its range
abbrev pub IsSetPeriod : TypePeriod → Type 0
IsSetPeriod set = IsPeriod set.period

-- the need that is set for a key is in its range
abbrev pub IsSetNeed : KeyNeed → Type 0
IsSetNeed set = IsQuorum set.need

-- ---- the statements that make them

-- The SQLite CREATE TABLE statement of each table. In `keys`, the columns from activation to occurrence are dates; one
-- that is not set holds one second past the last moment. Own.
abbrev pub create_statement : TableName → List ℕ
create_statement Meta =
    codes "CREATE TABLE meta (id INTEGER PRIMARY KEY, version INTEGER NOT NULL, latest INTEGER NOT NULL, "
    ++ codes "key_count INTEGER NOT NULL) STRICT"
create_statement Keys =
    codes "CREATE TABLE keys (number INTEGER PRIMARY KEY, kind INTEGER NOT NULL, owner TEXT NOT NULL, "
    ++ codes "purpose TEXT NOT NULL, state INTEGER NOT NULL, initial INTEGER NOT NULL, activation INTEGER NOT NULL, "
    ++ codes "protect_stop INTEGER NOT NULL, deactivation INTEGER NOT NULL, destroyed INTEGER NOT NULL, "
    ++ codes "compromised INTEGER NOT NULL, occurrence INTEGER NOT NULL) STRICT"
create_statement Custodian =
    codes "CREATE TABLE custodian (key_no INTEGER NOT NULL REFERENCES keys(number), name TEXT NOT NULL, "
    ++ codes "PRIMARY KEY (key_no, name)) STRICT"
create_statement Approval =
    codes "CREATE TABLE approval (key_no INTEGER NOT NULL, name TEXT NOT NULL, PRIMARY KEY (key_no, name), "
    ++ codes "FOREIGN KEY (key_no, name) REFERENCES custodian(key_no, name) ON DELETE CASCADE) STRICT"
create_statement Request =
    codes "CREATE TABLE request (caller TEXT NOT NULL, number INTEGER NOT NULL, command TEXT NOT NULL, "
    ++ codes "key_no INTEGER NOT NULL, state INTEGER NOT NULL, moment INTEGER NOT NULL, "
    ++ codes "PRIMARY KEY (caller, number)) STRICT"
create_statement Period =
    codes "CREATE TABLE period (kind INTEGER PRIMARY KEY, originator INTEGER NOT NULL, recipient INTEGER NOT NULL) "
    ++ codes "STRICT"
create_statement Quorum =
    codes "CREATE TABLE quorum (key_no INTEGER PRIMARY KEY REFERENCES keys(number), need INTEGER NOT NULL) STRICT"

-- ---- what they refer to

-- the first column of a table refers to the number of a key
abbrev pub to_keys : Reference
to_keys = reference (1 ∷ []) (codes "keys") (codes "number" ∷ []) NoAction

-- an INTEGER PRIMARY KEY, which is the rowid, refers to the number of a key
abbrev pub rowid_to_keys : Reference
rowid_to_keys = record to_keys { columns = 0 ∷ [] }

-- where a custodian goes, the approval goes too
abbrev pub to_custodian : Reference
to_custodian = reference (1 ∷ 2 ∷ []) (codes "custodian") (codes "key_no" ∷ codes "name" ∷ []) Cascade

-- ---- what each table is

-- What is said of one table.
pub record Form : Type 1 where
  -- its place among the tables
  pub place : ℕ
  -- what it holds: of which type, and that of these tables
  pub Content : Type 0
  pub content : Tables → Content
  -- its columns and what they refer to, where its rows stand in this tree
  pub table : ℕ → Table
  -- which rows are those of a content in a version, and which contents are in range
  pub Shows : Version → Content → List Cells → Type 0
  pub IsInRange : Content → Type 0

-- A table with an INTEGER PRIMARY KEY keeps its rows in order of that, whatever the order in which they came.
abbrev pub form : TableName → Form
form Meta = record {
  place = 0;
  Content = Counts;
  content = λ t. t.counts;
  table = keyed (codes "meta") (codes "id") meta_columns [];
  Shows = λ v counts. AreRowsOf Meta v (record no_rows { counts = counts });
  IsInRange = λ counts. IsMoment counts.latest;
}
form Keys = record {
  place = 1;
  Content = List Key;
  content = λ t. t.keys;
  table = keyed (codes "keys") (codes "number") key_columns [];
  Shows = λ v keys. AreRowsOf Keys v (record no_rows { keys = keys });
  IsInRange = AllByRecursion IsKey;
}
form Custodian = record {
  place = 2;
  Content = List KeyName;
  content = λ t. t.custodians;
  table = paired (codes "custodian") to_keys;
  Shows = λ v custodians. AreRowsOf Custodian v (record no_rows { custodians = custodians });
  IsInRange = AllByRecursion IsNamed;
}
form Approval = record {
  place = 3;
  Content = List KeyName;
  content = λ t. t.approvals;
  table = paired (codes "approval") to_custodian;
  Shows = λ v approvals. AreRowsOf Approval v (record no_rows { approvals = approvals });
  IsInRange = AllByRecursion IsNamed;
}
-- a caller's number stands once, and refers to nothing
form Request = record {
  place = 4;
  Content = List KeptReply;
  content = λ t. t.requests;
  table = indexed (codes "request") (Texts (codes "caller") ∷ Numbers (codes "number") ∷ request_columns) [];
  Shows = λ v requests. AreRowsOf Request v (record no_rows { requests = requests });
  IsInRange = AllByRecursion IsKeptReply;
}
-- a type has one period at most
form Period = record {
  place = 5;
  Content = List TypePeriod;
  content = λ t. t.periods;
  table = keyed (codes "period") (codes "kind") period_columns [];
  Shows = λ v periods. AreRowsOf Period v (record no_rows { periods = periods });
  IsInRange = AllByRecursion IsSetPeriod;
}
-- and a key one need
form Quorum = record {
  place = 6;
  Content = List KeyNeed;
  content = λ t. t.needs;
  table = keyed (codes "quorum") (codes "key_no") need_columns (rowid_to_keys ∷ []);
  Shows = λ v needs. AreRowsOf Quorum v (record no_rows { needs = needs });
  IsInRange = AllByRecursion IsSetNeed;
}

-- the tables of a version, in the order in which they are made
abbrev pub tables_of : Version → List TableName
tables_of First = Meta ∷ Keys ∷ Custodian ∷ Approval ∷ Request ∷ []
tables_of Second = Meta ∷ Keys ∷ Custodian ∷ Approval ∷ Request ∷ Period ∷ Quorum ∷ []

-- the tables of this program's version: those of the first come first
abbrev pub all_tables : List TableName
all_tables = tables_of current

-- how many of them a version has
abbrev pub table_count : Version → ℕ
table_count version = length (tables_of version)

-- ---- one table by its name

-- the place of a table among those that are made
abbrev pub place_of : TableName → ℕ
place_of name = (form name).place

-- what a table holds
abbrev pub Content : TableName → Type 0
Content name = (form name).Content

-- what the tables hold in the one of this name
abbrev pub content : (name : TableName) → Tables → Content name
content name = (form name).content

-- the tables with another content of this one
abbrev pub with_content : (name : TableName) → Content name → Tables → Tables
with_content Meta counts t = record t { counts = counts }
with_content Keys keys t = record t { keys = keys }
with_content Custodian custodians t = record t { custodians = custodians }
with_content Approval approvals t = record t { approvals = approvals }
with_content Request requests t = record t { requests = requests }
with_content Period periods t = record t { periods = periods }
with_content Quorum needs t = record t { needs = needs }

-- a table shows this content in a version by these rows
abbrev pub ShowsIn : Version → (name : TableName) → Content name → List Cells → Type 0
ShowsIn v name = (form name).Shows v

-- the content of a table is in its ranges
abbrev pub IsInRange : (name : TableName) → Content name → Type 0
IsInRange name = (form name).IsInRange

-- the statement that counts the rows of a table
abbrev pub count_text : TableName → List ℕ
count_text name = codes "SELECT count(*) FROM " ++ ((form name).table 0).name

-- The index of a primary key that is no INTEGER PRIMARY KEY is made with its table, and has a tree of its own.
abbrev pub has_key_index : TableName → Bool
has_key_index name = not (is_some ((form name).table 0).key)

-- ---- where the tables stand

-- Where the tables of a file stand, and what it has beside them. A file numbers its trees as its tables and indexes are
-- made, so no number is a table's own: a table has the tree that the file's schema gives to its name.
pub record Layout : Type 0 where
  -- the tree with a table's rows
  pub tree : TableName → ℕ
  -- that with the index of its primary key, where it has one
  pub key_tree : TableName → ℕ
  -- the indexes beside those of the primary keys
  pub more : List Index

-- no two of the first n tables stand in one tree
abbrev pub AreApartBelow : ℕ → Layout → Type 0
AreApartBelow n l =
    (a b : TableName) → place_of a < n → place_of b < n → l.tree a ≡ l.tree b → place_of a ≡ place_of b

-- no two of the tables of a version stand in one tree
abbrev pub AreApartIn : Version → Layout → Type 0
AreApartIn version = AreApartBelow (table_count version)

-- how many trees these tables take: one for the rows of each, and one for the index of its primary key
abbrev pub trees_of : List TableName → ℕ
trees_of [] = 0
trees_of (name ∷ names) = cond (has_key_index name) 2 1 + trees_of names

-- the tree of a table in a file whose tables were made one after the other in an empty database
abbrev pub fresh_tree : TableName → ℕ
fresh_tree name = trees_of (take (place_of name) all_tables)

-- Where the tables of a file stand that were made one after the other in an empty database, with these further indexes.
abbrev pub fresh : List Index → Layout
fresh more = record { tree = fresh_tree; key_tree = λ name. fresh_tree name + 1; more = more }

module _ (l : Layout) where
  -- a table where it stands
  abbrev pub table_of : TableName → Table
  table_of name = (form name).table (l.tree name)

  -- the index of a table's primary key, in a tree of its own
  abbrev pub key_index : TableName → Index
  key_index name = automatic (table_of name) 0 (table_of name).primary (l.key_tree name)

  -- the indexes of the primary keys that are no INTEGER PRIMARY KEY
  abbrev pub key_indexes : List Index
  key_indexes = map key_index (filter has_key_index all_tables)
