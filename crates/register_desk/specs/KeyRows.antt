-- Keys that are given one at a time: all of them by number, or those that are due for rotation.
use Rattle.std.specs.Prelude.{◌≡◌, ℕ, List, [], ◌∷◌, ◌++◌, length, map, take, Option, None, Some}
use Rattle.sqlite_trees.specs.declared.store.Store.{Ghosts}
use Rattle.key_rows.specs.{declared.key_row.KeyRow.KeyRow, DueRows.AreDue, DueRows.AreFirstDue, DueRows.stop_of}
use Rattle.register_core.specs.declared.key.Key.{Key}
use Rattle.register_requests.specs.declared.request.Request.{Request}
use Rattle.register_tables.specs.Tables.{Tables, numbered}
use Rattle.register_rows.specs.declared.key_scan.DueCursor.{DueCursor}
use Rattle.register_desk.specs.declared.rows.Progress.TheVariants.{Going, Ended, Broken}
use Rattle.register_desk.specs.declared.rows.Scan.TheVariants.{ByNumber, ByStop}
use Rattle.register_desk.specs.{declared.rows.KeyRows.KeyRows, declared.rows.Scan.Scan, Register.tables}

-- ---- the rows of tables

-- The row that an export or a report gives of a numbered key.
abbrev pub row_of : ℕ × Key → KeyRow
row_of x = record { number = x.0; kind = x.1.kind; owner = x.1.owner; purpose = x.1.purpose; row = x.1.row }

-- The rows of all keys of these tables, by number.
abbrev pub rows_of : Tables → List KeyRow
rows_of t = map row_of (numbered t.keys)

-- The rows of all keys of a history, by number.
abbrev pub all_rows : List Request → List KeyRow
all_rows h = rows_of (tables h)

-- ---- which rows are given: all by number, or the due ones up to a moment

-- Rows that are the first of those to be given: by number, or of the due ones in their order.
abbrev pub AreSoFar : Option ℕ → List KeyRow → List KeyRow → Type 0
AreSoFar None all given = given ≡ take (length given) all
AreSoFar (Some until) all given = AreFirstDue all until given

-- These are all rows to be given: every one by number, or the due ones in their order.
abbrev pub AreAll : Option ℕ → List KeyRow → List KeyRow → Type 0
AreAll None all given = given ≡ all
AreAll (Some until) all given = AreDue all until given

-- ---- how far they are

-- The moment up to which a scan gives due keys; none where it gives all by number.
abbrev pub due_until : Scan → Option ℕ
due_until (ByNumber last) = None
due_until (ByStop until last run) = Some until

-- the most steps that the next row takes: for one that is due there may be two searches
abbrev pub row_steps : Option ℕ → ℕ
row_steps None = 2
row_steps (Some until) = 4

-- before the first row that is due
abbrev pub first_cursor : DueCursor
first_cursor = record { stop = 0; number = 0 }

-- The cursor that stands on the row of a due key.
abbrev pub cursor_of_row : KeyRow → DueCursor
cursor_of_row r = record { stop = stop_of r; number = r.number }

-- the cursor of the last of these rows
abbrev pub last_cursor : DueCursor → List KeyRow → DueCursor
last_cursor cursor [] = cursor
last_cursor cursor (r ∷ rows) = last_cursor (cursor_of_row r) rows

-- the scan is after these rows, and no further
abbrev pub IsAfterRows : Scan → List KeyRow → Type 0
IsAfterRows (ByNumber last) given = last ≡ length given
IsAfterRows (ByStop until last run) given = last ≡ last_cursor first_cursor given

-- the number of the key that the scan is after
abbrev pub last_number : Scan → ℕ
last_number (ByNumber last) = last
last_number (ByStop until last run) = last.number

module _ {S : Type 0} {g : Ghosts S} where
  -- The rows have not ended, and the database has refused none.
  abbrev pub GoOn : KeyRows S g → Type 0
  GoOn rows = rows.progress ≡ Going

  -- The rows came to their end.
  abbrev pub AreEnded : KeyRows S g → Type 0
  AreEnded rows = rows.progress ≡ Ended

  -- The database refused a row.
  abbrev pub AreBroken : KeyRows S g → Type 0
  AreBroken rows = rows.progress ≡ Broken

  -- None for all rows, or the moment up to which rows are due
  abbrev pub until_of : KeyRows S g → Option ℕ
  until_of rows = due_until rows.scan

  -- the number of the last key that was given
  abbrev pub last_of : KeyRows S g → ℕ
  last_of rows = last_number rows.scan

  -- of all these rows, these were given so far; where the end is reached, they are all that are to be given
  pub record HaveGiven (rows : KeyRows S g) (all given : List KeyRow) : Type 0 where
    pub so_far : AreSoFar (until_of rows) all given
    pub after : IsAfterRows rows.scan given
    pub ended : AreEnded rows → AreAll (until_of rows) all given

  -- what the next row gives, or the end of the rows
  abbrev pub GiveNext : KeyRows S g → List KeyRow → List KeyRow → Option KeyRow → Type 0
  GiveNext rows all given None = HaveGiven rows all given × AreEnded rows
  GiveNext rows all given (Some row) = HaveGiven rows all (given ++ row ∷ [])
