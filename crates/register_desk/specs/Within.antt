-- What functions within the crate say of one another: no public contract stands on it.
use Rattle.std.specs.Prelude.{◌≡◌, ◌⊎◌, ◌+◌, ◌≤◌, ◌++◌, ℕ, true, List, length, Option, None, Some, IfSome, Result, Ok}
use Rattle.std.specs.Prelude.{Err, OnOk, IfOk, IfErr}
use Rattle.register_requests.specs.{declared.request.Command.Command, Subject.named, declared.request.Request.Request}
use Rattle.register_requests.specs.declared.version.Version.{Version}
use Rattle.register_desk.specs.Desk.{IsNoKey, ChangesNothing, IsOpen, KeepsToSteps}
use Rattle.sqlite.specs.State.{State, HasCleanDisk, IsUnchanged, Survives}
use Rattle.register_desk.specs.OpenedTables.{HasBoth, HasCommittedIn, MigratesTo}
use Rattle.register_desk.specs.{Register.tables, TablesView.key_needed, declared.rows.Scan.Scan}
use Rattle.register_desk.specs.{declared.desk.Desk.Desk, declared.end.End.End, End.end_of_error}
use Rattle.register_core.specs.{declared.view.View.View, Effect.needed_period_type, Settings.period_at}
use Rattle.register_core.specs.declared.key.Key.{Key}
use Rattle.register_tables.specs.{Tables.Counts, Tables.Tables, TableChanges.key_at}
use Rattle.register_tables.specs.declared.error.StoreError.{StoreError}
use Rattle.register_tables.specs.Schema.{no_schema}
use Rattle.std.specs.Option.{option_map}
use Rattle.key_rows.specs.{declared.key_row.KeyRow.KeyRow, DueRows.stop_of}
use Rattle.register_rows.specs.KeyScan.{HasNextDue, date_run_of_next_key}
use Rattle.register_desk.specs.declared.rows.Scan.TheVariants.{ByNumber, ByStop}
use Rattle.register_desk.specs.KeyRows.{cursor_of_row, row_of}
use Rattle.sqlite_trees.specs.declared.store.Store.{Ghosts}
use Rattle.register_desk.specs.declared.end.End.TheVariants.{Memory, Store}
use Rattle.sqlite.specs.{Held.Held as Connection, Held.state}
use Rattle.register_requests.specs.declared.version.Version.TheVariants.{First}
use Rattle.register_requests.specs.Version.{current}
use Rattle.register_checks.specs.declared.refusal.CheckError.TheVariants as checks
use Rattle.register_checks.specs.{declared.found.Found.Found, declared.refusal.CheckError.CheckError}
use Rattle.register_checks.specs.CheckedTables.{BlamesNone, FailsOne, HasNewer, Passes, mark_of}
use Rattle.register_checks.specs.Stored.{HoldsStored, Stored, mark}
use Rattle.register_checks.specs.OpeningChecks.{MeetsChecks}
use Rattle.register_schema.specs.declared.refusal.CreateError.TheVariants as creates
use Rattle.register_schema.specs.{declared.refusal.CreateError.CreateError, Migration.HasNewTable}

-- ---- opening the tables of a file

-- the refusal of a migration
abbrev pub migration_error : CreateError → CheckError
migration_error creates.HasTables = checks.NotARegister
migration_error (creates.Database error) = checks.Database error

-- why the tables are not opened; nothing is said of a database that refused
abbrev pub IsRefusal : State → State → CheckError → Type 0
IsRefusal old new checks.NotARegister = FailsOne old new ⊎ HasBoth old new
IsRefusal old new (checks.NewerVersion found) = HasNewer found old new
IsRefusal old new checks.Memory = IsUnchanged old new
IsRefusal old new (checks.Database error) = Unit {0}

-- what passed the checks, in the state before, since they change nothing; beside tables of the first version none
-- stands that the second adds, and tables of this program's version stay as they are
pub record Opens (old new : State) (found : Version × Counts) : Type 0 where
  pub t : Stored
  pub passes : Passes t old old
  pub mark_is : found ≡ mark t
  pub none_new : t.version ≡ First → HasNewTable old.now.schema → ⊥
  pub unchanged : t.version ≡ current → IsUnchanged old new

-- the tables stand in this program's version, committed
pub record IsOpened (t : Stored) (new : State) (found : Version × Counts) : Type 0 where
  pub has : HasCommittedIn current t.tables new
  pub mark_is : found ≡ mark t

-- the refusal changes nothing
abbrev pub ChangesNoTable : CheckError → Type 0
ChangesNoTable (checks.Database error) = ⊥
ChangesNoTable error = Unit {0}

-- Where it succeeds, what is shown passed the checks of its version; a refusal has its reason. Tables that are
-- committed in a version and meet its checks are not refused, and stand in this program's version after it. A stop
-- leaves what it left before, or the tables taken to this program's version, where they pass the checks of the first;
-- no such thing where they are of this program's, or after a refusal that changes nothing.
pub record OpensBy (old new : State) (result : Result Found CheckError) : Type 0 where
  pub passed : HasCleanDisk new → IfOk result (λ found. Opens old new (mark_of found))
  pub refused : HasCleanDisk new → IfErr result (IsRefusal old new)
  pub opened : HasCleanDisk new → (t : Stored) → HasCommittedIn t.version t.tables old → MeetsChecks t
      → IfOk result (λ found. IsOpened t new (mark_of found))
  pub blames_none : HasCleanDisk new → (t : Stored) → HoldsStored t old.now → MeetsChecks t → IfErr result BlamesNone
  pub stop : Survives old new (MigratesTo old)
  pub stop_refused : IfErr result (λ error. ChangesNoTable error → Survives old new (λ _. ⊥))
  pub stop_current : (t : Stored) → t.version ≡ current → HoldsStored t old.now → MeetsChecks t
      → Survives old new (λ _. ⊥)
  pub clean : HasCleanDisk new → HasCleanDisk old

-- what opening the tables of a connection comes to, and what it leaves
abbrev pub OpensTables : {S : Type 0} → (g : Ghosts S) → Connection S → Connection S → Result Found CheckError → Type 0
OpensTables g old new result = OpensBy (state g old) (state g new) result

-- ---- what the items of an input have to give, beside `specs/Items.antt`

-- from this place on the input has these items, and so many bytes after them that are none
pub record AreAhead {P : Type 0} (Came : P → P → List (Option Request) → Type 0) (Ends : P → P → ℕ → Type 0)
    (start : P) (items : List (Option Request)) (left : ℕ) : Type 0 where
  pub first : (place : P) (came : List (Option Request)) → Came start place came
      → (more : List (Option Request)) × (items ≡ came ++ more)
  pub whole : (place last : P) (came : List (Option Request)) (rest : ℕ) → Came start place came
      → Ends place last rest → (items ≡ came) × (rest ≡ left)

-- ---- beside `specs/TablesView.antt`

-- the view has what a decision on the request sees over these tables
pub record IsViewOver (t : Tables) (q : Request) (view : View) : Type 0 where
  pub latest_is : view.latest ≡ t.counts.latest
  pub keys_are : view.keys ≡ length t.keys
  pub period_is : IfSome (needed_period_type view.key q.command) (λ kind. view.period ≡ period_at kind t.periods)
  pub key_is : view.key ≡ key_needed t q

-- ---- beside `specs/Register.antt`

-- the connection is open and sees a history's tables in this version, which are committed
abbrev pub HasHistoryIn : Version → List Request → State → Type 0
HasHistoryIn version h s = HasCommittedIn version (tables h) s

-- ---- beside `specs/Desk.antt`

-- ---- ends

-- the command names none of so many keys
abbrev pub NamesNoKey : ℕ → Command → Type 0
NamesNoKey keys command = (number : ℕ) → named command ≡ Some number → IsNoKey keys number

-- ---- what the private calls of a desk say of one another

-- an end that a failed call of the store gives
abbrev pub IsOfStore : End → Type 0
IsOfStore Memory = Unit {0}
IsOfStore Store = Unit {0}
IsOfStore end = ⊥

module _ {S : Type 0} {g : Ghosts S} where
  -- the desk that this end leaves: 31 breaks it
  abbrev pub left_at : End → Desk S g → Desk S g
  left_at Store desk = record desk { is_broken = true }
  left_at end desk = desk

  -- the desk that a call leaves of which this came
  abbrev pub left_by : {T : Type 0} → Result T End → Desk S g → Desk S g
  left_by (Ok value) desk = desk
  left_by (Err end) desk = left_at end desk

-- the result of a call of the store, as a call of the desk gives it
abbrev pub ended : {T : Type 0} → Result T StoreError → Result T End
ended (Ok value) = Ok value
ended (Err error) = Err (end_of_error error)

-- What a look-up does, before its failure breaks the desk: that changes nothing, takes at most so many steps where the
-- desk stands for a history, and where it answers the connection is open.
pub record LooksUp {S T : Type 0} (g : Ghosts S) (most : ℕ) (old new : Desk S g) (result : Result T StoreError)
    : Type 0 where
  pub mark : new.is_broken ≡ old.is_broken
  pub reads : ChangesNothing g old (left_by (ended result) new)
  pub steps : KeepsToSteps g most old new
  pub opened : OnOk result (IsOpen g new)

-- ---- beside `specs/DatabaseFiles.antt`

-- the connection shows an empty database
abbrev pub ShowsNothing : State → Type 0
ShowsNothing s = s.now.schema ≡ no_schema

-- ---- beside `specs/KeyRows.antt`

-- ---- how far they are

-- The next row of a scan of all keys, whatever the tables hold: it has the next number, and none comes only after as
-- many as are counted.
abbrev pub CountsOn : ℕ → Scan → Option KeyRow → Type 0
CountsOn keys (ByNumber last) None = keys ≤ last
CountsOn keys (ByNumber last) (Some row) = row.number ≡ last + 1
CountsOn keys (ByStop until last run) found = Unit {0}

-- the scan that goes on after this row
abbrev pub after_row : Scan → KeyRow → Scan
after_row (ByNumber last) r = ByNumber r.number
after_row (ByStop until last run) r = ByStop until (cursor_of_row r) (date_run_of_next_key last (stop_of r))

-- the row after the scan's last, or none where there is none
abbrev pub HasNextRow : Scan → Tables → Option KeyRow → Type 0
HasNextRow (ByNumber last) t found = found ≡ option_map (λ k. row_of (last + 1, k)) (key_at t.keys (last + 1))
HasNextRow (ByStop until last run) t None = HasNextDue until last t None
HasNextRow (ByStop until last run) t (Some row) = (x : ℕ × Key) × (row ≡ row_of x) × HasNextDue until last t (Some x)
