-- Putting the tables of a file to the checks of opening, whatever the file's schema is.
use Rattle.std.specs.Prelude.{◌≡◌, ◌≤◌, ◌⊎◌, ◌<◌, ℕ, pos, List, [], ◌∷◌, ◌++◌, length, codes, Result, IfOk, IfErr}
use Rattle.sqlite.specs.declared.types.Value.TheVariants.{Int, Text as Words}
use Rattle.sqlite.specs.State.{State, HasCleanDisk, IsUnchanged, Survives}
use Rattle.sqlite.specs.{Order.Row, Order.column, Held.Held as Connection, Held.state}
use Rattle.sqlite_trees.specs.declared.store.Store.{Ghosts}
use Rattle.moment_core.specs.Moment.{IsMoment}
use Rattle.period_core.specs.KeyType.{key_type_code}
use Rattle.row_checks.specs.ShownRows.{HasNoMeaning, ShowsAll, ShowsFirst}
use Rattle.row_checks.specs.{EachRow.ShowEach, declared.error.RowsError.RowsError}
use Rattle.row_checks.specs.declared.error.RowsError.TheVariants as rows
use Rattle.register_core.specs.{declared.kept_reply.KeptReply.KeptReply, declared.key.Key.Key, KeptReply.IsKeptReply}
use Rattle.register_core.specs.{KeyName.KeyName, Settings.KeyNeed, Settings.TypePeriod, Verdict.max_keys}
use Rattle.register_requests.specs.{Name.IsName, declared.version.Version.Version, Version.version_number}
use Rattle.register_checks.specs.declared.refusal.CheckError.TheVariants.{NotARegister, NewerVersion, Memory}
use Rattle.register_checks.specs.declared.refusal.CheckError.TheVariants.{Database}
use Rattle.register_tables.specs.declared.table.TableName.TheVariants.{Meta, Keys, Custodian, Approval, Request, Period}
use Rattle.register_tables.specs.declared.table.TableName.TheVariants.{Quorum}
use Rattle.register_tables.specs.Columns.{meta_columns, key_columns, name_columns, request_columns, period_columns}
use Rattle.register_tables.specs.Columns.{need_columns, listed, select}
use Rattle.register_checks.specs.Stored.{HoldsStored, Part, Stored, mark, part, with_part}
use Rattle.register_tables.specs.Tables.{Counts, IsKey, IsSetNeed, IsSetPeriod, numbered, place_of, table_count}
use Rattle.register_tables.specs.Tables.{version}
use Rattle.register_checks.specs.OpeningChecks.{MeetsCheck, MeetsChecks, before, checked}
use Rattle.register_checks.specs.{declared.found.Found.Found, declared.refusal.CheckError.CheckError}
use Rattle.register_tables.specs.TableReads.{ShowsKey, ShowsRequest}
use Rattle.register_tables.specs.declared.table.TableName.{TableName}

-- ---- what the rows of each query show

-- the row shows this version and these counts
pub record ShowsCounts (row : Row) (told : Version × Counts) : Type 0 where
  pub id : column row 0 ≡ Int (pos 1)
  pub version_is : column row 1 ≡ Int (pos (version_number told.0))
  pub latest : column row 2 ≡ Int (pos told.1.latest)
  pub key_count : column row 3 ≡ Int (pos told.1.key_count)
  pub moment : IsMoment told.1.latest

-- the row shows this key with its number
pub record ShowsNumbered (row : Row) (it : ℕ × Key) : Type 0 where
  pub cells : ShowsKey row it.1
  pub number : column row (length key_columns) ≡ Int (pos it.0)
  pub in_range : IsKey it.1

-- the row shows this name at its key
pub record ShowsName (row : Row) (entry : KeyName) : Type 0 where
  pub key : column row 0 ≡ Int (pos entry.key)
  pub name : column row 1 ≡ Words entry.name
  pub in_range : IsName entry.name

-- the row shows what is kept of a request
pub record ShowsKept (row : Row) (k : KeptReply) : Type 0 where
  pub cells : ShowsRequest k.caller k.number row k
  pub caller : column row 4 ≡ Words k.caller
  pub number : column row 5 ≡ Int (pos k.number)
  pub in_range : IsKeptReply k

-- the row shows the period that is set for a type
pub record ShowsTypePeriod (row : Row) (set : TypePeriod) : Type 0 where
  pub kind : column row 0 ≡ Int (pos (key_type_code set.kind))
  pub originator : column row 1 ≡ Int (pos set.period.originator)
  pub recipient : column row 2 ≡ Int (pos set.period.recipient)
  pub in_range : IsSetPeriod set

-- the row shows the need that is set for a key
pub record ShowsKeyNeed (row : Row) (set : KeyNeed) : Type 0 where
  pub key : column row 0 ≡ Int (pos set.key)
  pub need : column row 1 ≡ Int (pos set.need)
  pub in_range : IsSetNeed set

-- The query of a table, and what its rows show.
pub record Check (C : Type 0) : Type 1 where
  pub text : List ℕ
  pub Shows : List Row → C → Type 0

-- The query of each table, and what its rows show by their columns.
abbrev pub check_of : (name : TableName) → Check (Part name)
check_of Meta = record {
  text = codes "SELECT id, " ++ listed meta_columns ++ codes " FROM meta ORDER BY id";
  Shows = λ rows told. ShowEach ShowsCounts rows (told ∷ []);
}
check_of Keys = record {
  text = select key_columns (codes ", number FROM keys ORDER BY number");
  Shows = λ rows keys. ShowEach ShowsNumbered rows (numbered keys);
}
check_of Custodian =
    record { text = select name_columns (codes " FROM custodian"); Shows = ShowEach ShowsName }
check_of Approval =
    record { text = select name_columns (codes " FROM approval"); Shows = ShowEach ShowsName }
check_of Request = record {
  text = select request_columns (codes ", caller, number FROM request");
  Shows = ShowEach ShowsKept;
}
check_of Period = record {
  text = codes "SELECT kind, " ++ listed period_columns ++ codes " FROM period";
  Shows = ShowEach ShowsTypePeriod;
}
check_of Quorum = record {
  text = codes "SELECT key_no, " ++ listed need_columns ++ codes " FROM quorum";
  Shows = ShowEach ShowsKeyNeed;
}

-- the query by which a table is checked
abbrev pub check_text : TableName → List ℕ
check_text name = (check_of name).text

-- a table's query shows this content by these rows
abbrev pub ShowsRows : (name : TableName) → List Row → Part name → Type 0
ShowsRows name = (check_of name).Shows

-- ---- checks that pass

-- the query of a table shows what t has of it
abbrev pub QueryShows : TableName → Stored → State → State → Type 0
QueryShows name t old new = ShowsAll (check_text name) (λ rows. ShowsRows name rows (part name t)) old new

-- the queries of these tables show what t has of them, and that meets their checks
abbrev pub ArePassed : List TableName → Stored → State → State → Type 0
ArePassed [] t old new = Unit {0}
ArePassed (name ∷ names) t old new = ArePassed names t old new × QueryShows name t old new × MeetsCheck name t

-- what our own queries show are these tables in their version, whose checks they meet; nothing has changed
pub record Passes (t : Stored) (old new : State) : Type 0 where
  pub passed : ArePassed (checked t.version) t old new
  pub same : IsUnchanged old new

-- ---- a later version

-- the row is the register's own, under a version above this program's
pub record ShowsNewer (row : Row) (found : ℕ) : Type 0 where
  pub id : column row 0 ≡ Int (pos 1)
  pub version_is : column row 1 ≡ Int (pos found)
  pub above : version < found

-- the rows are those of meta, one row, under such a version
abbrev pub AreNewer : TableName → List Row → Type 0
AreNewer Meta rows = (row : Row) × (found : ℕ) × (rows ≡ row ∷ []) × ShowsNewer row found
AreNewer _ rows = ⊥

-- meta has one row, under this version, which is above this program's
pub record HasNewer (found : ℕ) (old new : State) : Type 0 where
  pub row : Row
  pub shown : ShowsAll (check_text Meta) (λ rows. rows ≡ row ∷ []) old new
  pub newer : ShowsNewer row found

-- ---- checks that fail

-- Nothing that the rows of a table show meets the table's check, where the tables before it are those of t; and they
-- are of no later version.
pub record IsOdd (name : TableName) (t : Stored) (rows : List Row) : Type 0 where
  pub fails : (c : Part name) → ShowsRows name rows c → MeetsCheck name (with_part name c t) → ⊥
  pub no_newer : AreNewer name rows → ⊥

-- The table's query has no meaning under the schema, or its first rows are odd however they go on, or all of them are.
abbrev pub FailsCheck : TableName → Stored → State → State → Type 0
FailsCheck name t old new =
    HasNoMeaning (check_text name) old new
    ⊎ ShowsFirst (check_text name) (λ rows. (tail : List Row) → IsOdd name t (rows ++ tail)) old new
    ⊎ ShowsAll (check_text name) (IsOdd name t) old new

-- one of the checks of the version that is found fails, where the tables before it are shown and pass
pub record FailsOne (old new : State) : Type 0 where
  pub t : Stored
  pub name : TableName
  pub within : place_of name < table_count t.version
  pub before : ArePassed (before name) t old new
  pub fails : FailsCheck name t old new
  pub same : IsUnchanged old new

-- ---- what a check answers

-- the counts that are given are these
abbrev pub counts_of : Found → Counts
counts_of found = record { latest = found.latest; key_count = found.keys }

-- the version and the counts that were found
abbrev pub mark_of : Found → Version × Counts
mark_of found = (found.version, counts_of found)

-- a table that was not taken, whether its text has no meaning or its rows do not pass
abbrev pub check_error : RowsError → CheckError
check_error rows.NoMeaning = NotARegister
check_error rows.Refused = NotARegister
check_error rows.Memory = Memory
check_error (rows.Database error) = Database error

-- why the tables are refused; nothing is said of a database that refused
abbrev pub IsReason : State → State → CheckError → Type 0
IsReason old new NotARegister = FailsOne old new
IsReason old new (NewerVersion found) = HasNewer found old new
IsReason old new Memory = IsUnchanged old new
IsReason old new (Database error) = Unit {0}

-- it is no refusal of the tables
abbrev pub BlamesNone : CheckError → Type 0
BlamesNone NotARegister = ⊥
BlamesNone (NewerVersion found) = ⊥
BlamesNone Memory = Unit {0}
BlamesNone (Database error) = Unit {0}

-- What a check does: where it succeeds the tables that are shown pass, and have this version and these counts; a
-- refusal has its reason; tables of a register that meet the checks are not refused, and give their version and
-- counts; a stop leaves what it left before.
pub record ChecksBy (old new : State) (result : Result Found CheckError) : Type 0 where
  pub passed : HasCleanDisk new → IfOk result (λ found. (t : Stored) × Passes t old new × (mark_of found ≡ mark t))
  pub refused : HasCleanDisk new → IfErr result (IsReason old new)
  pub counted : HasCleanDisk new → (t : Stored) → HoldsStored t old.now → MeetsChecks t
      → IfOk result (λ found. mark_of found ≡ mark t)
  pub blames_none : HasCleanDisk new → (t : Stored) → HoldsStored t old.now → MeetsChecks t → IfErr result BlamesNone
  pub clean : HasCleanDisk new → HasCleanDisk old
  pub survives : Survives old new (λ _. ⊥)

-- what the checks of opening say of a connection's tables, and what they leave
abbrev pub ChecksTables : {S : Type 0} → (g : Ghosts S) → Connection S → Connection S → Result Found CheckError → Type 0
ChecksTables g old new result = ChecksBy (state g old) (state g new) result

-- ---- the check of one table

-- why a table is refused, where the tables before it are those of t
abbrev pub IsReasonAt : TableName → Stored → State → State → CheckError → Type 0
IsReasonAt name t old new NotARegister = FailsCheck name t old new × IsUnchanged old new
IsReasonAt name t old new (NewerVersion found) = HasNewer found old new
IsReasonAt name t old new Memory = IsUnchanged old new
IsReasonAt name t old new (Database error) = Unit {0}

-- ---- the version alone

-- What a look at the version does: where it succeeds meta passes its check and the version is one that this program
-- knows, or it is a later one; tables of a register that meet the checks have theirs; a stop leaves what it left
-- before.
pub record TellsVersionBy (old new : State) (result : Result ℕ CheckError) : Type 0 where
  pub told : HasCleanDisk new
      → IfOk result (λ found. ((told : Version × Counts) × (found ≡ version_number told.0)
      × (told.1.key_count ≤ max_keys) × ShowsAll (check_text Meta) (λ rows. ShowsRows Meta rows told) old new)
      ⊎ HasNewer found old new)
  pub refused : HasCleanDisk new → (t : Stored) → IfErr result (IsReasonAt Meta t old new)
  pub own : HasCleanDisk new → (t : Stored) → HoldsStored t old.now → MeetsChecks t
      → IfOk result (λ found. found ≡ version_number t.version)
  pub blames_none : HasCleanDisk new → (t : Stored) → HoldsStored t old.now → MeetsChecks t → IfErr result BlamesNone
  pub survives : Survives old new (λ _. ⊥)

-- what a look at the version says of a connection's tables, and what it leaves
abbrev pub TellsVersion : {S : Type 0} → (g : Ghosts S) → Connection S → Connection S → Result ℕ CheckError → Type 0
TellsVersion g old new result = TellsVersionBy (state g old) (state g new) result
