-- Why a database is not taken as a register, with the name of each cause. They are this register's own.
use Rattle.std.specs.Prelude.{◌≡◌, ◌⊎◌, ℕ, false, List, [], codes, Result, IfOk, IfErr, IsTrue}
use Rattle.sqlite_trees.specs.declared.store.Store.{Ghosts}
use Rattle.sqlite.specs.State.{State, HasCleanDisk, IsUnchanged, Survives}
use Rattle.sqlite.specs.{Effect.Database, Held.Held as Connection, Held.state, Tree.Trees}
use Rattle.sql_steps.specs.Steps.{KeepsCommitted}
use Rattle.register_core.specs.Fold.{IsLawfulIn}
use Rattle.register_requests.specs.declared.version.Version.TheVariants.{First}
use Rattle.register_requests.specs.{declared.request.Request.Request, declared.version.Version.Version, Version.current}
use Rattle.register_desk.specs.OpenedTables.{HasBoth, HasCommittedIn, MigratesTo}
use Rattle.register_schema.specs.Creation.{Finds, HasTable, MakesRegister}
use Rattle.register_checks.specs.CheckedTables.{FailsOne}
use Rattle.register_checks.specs.CheckedTables.{HasNewer, Passes}
use Rattle.register_tables.specs.Schema.{Holds, no_schema}
use Rattle.register_checks.specs.{OpeningChecks.MeetsChecks}
use Rattle.register_schema.specs.{Migration.HasNewTable}
use Rattle.register_checks.specs.Stored.{Stored}
use Rattle.register_tables.specs.TableReads.{seen}
use Rattle.register_checks.specs.declared.refusal.CheckError.{CheckError}
use Rattle.register_checks.specs.declared.refusal.CheckError.TheVariants as checks
use Rattle.register_desk.specs.declared.opening.OpenRefusal.{OpenRefusal}
use Rattle.register_desk.specs.declared.opening.OpenRefusal.TheVariants.{Memory, Store, NotARegister, NewerVersion}
use Rattle.register_desk.specs.Desk.{IsClean, IsWhole}
use Rattle.register_desk.specs.{declared.desk.Desk.Desk, declared.opening.Unopened.Unopened}
use Rattle.register_desk.specs.Register.{StandsFor, tables}
use Rattle.register_desk.specs.End.{end_name}
use Rattle.register_desk.specs.declared.end.End.TheVariants as end

-- a refusal that is the end of a call too has the end's name
abbrev pub open_refusal_name : OpenRefusal → List ℕ
open_refusal_name Memory = end_name end.Memory
open_refusal_name Store = end_name end.Store
open_refusal_name NotARegister = codes "NotARegister"
open_refusal_name (NewerVersion found) = codes "NewerVersion"

-- the refusal that an error in making the tables, or in looking at them, comes to
abbrev pub check_refusal : CheckError → OpenRefusal
check_refusal checks.NotARegister = NotARegister
check_refusal (checks.NewerVersion found) = NewerVersion found
check_refusal checks.Memory = Memory
check_refusal (checks.Database error) = Store

-- Why the connection did not become a desk.
abbrev pub refusal_in : {S : Type 0} → Unopened S → OpenRefusal
refusal_in unopened = unopened.refusal

-- The connection that did not become a desk.
abbrev pub connection_in : {S : Type 0} → Unopened S → Connection S
connection_in unopened = unopened.connection

-- What the connection that did not become a desk shows.
abbrev pub state_in : {S : Type 0} → (g : Ghosts S) → Unopened S → State
state_in g unopened = state g unopened.connection

-- ---- what an opening finds

-- the tables that were shown pass the checks of their version, and the desk has their counts; beside those of the first
-- version stood none that the second adds, and those of this program's version stay as they are
pub record OpensOver {S : Type 0} (g : Ghosts S) (before : State) (desk : Desk S g) : Type 0 where
  pub stored : Stored
  pub passes : Passes stored before before
  pub latest_is : desk.latest ≡ stored.tables.counts.latest
  pub keys_are : desk.keys ≡ stored.tables.counts.key_count
  pub none_new : stored.version ≡ First → HasNewTable before.now.schema → ⊥
  pub unchanged : stored.version ≡ current → IsUnchanged before (seen g desk.connection)

-- why a database was refused; nothing is said of one that refused a call
abbrev pub IsReasonOf : State → State → OpenRefusal → Type 0
IsReasonOf old new NotARegister = FailsOne old new ⊎ HasBoth old new
IsReasonOf old new (NewerVersion found) = HasNewer found old new
IsReasonOf old new Memory = IsUnchanged old new
IsReasonOf old new Store = Unit {0}

-- the tables were not refused
abbrev pub RefusesNoTable : OpenRefusal → Type 0
RefusesNoTable NotARegister = ⊥
RefusesNoTable (NewerVersion found) = ⊥
RefusesNoTable Memory = Unit {0}
RefusesNoTable Store = Unit {0}

-- ---- what is left

-- a stop leaves what was committed in the database that was handed in, and nothing else
abbrev pub LeavesCommitted : State → State → Type 0
LeavesCommitted old new =
    IsTrue old.is_open → HasCleanDisk new → (trees : Trees) → new.may_leave trees → trees ≡ old.committed.trees

-- these trees are those of the database taken to this program's version, where what it shows passes the checks of the
-- first
abbrev pub IsTakenIn : State → Trees → Type 0
IsTakenIn = MigratesTo

-- A stop leaves what was committed, or that migrated to this program's version.
abbrev pub LeavesMigrated : State → State → Type 0
LeavesMigrated old new = IsTrue old.is_open → HasCleanDisk new → (trees : Trees) → new.may_leave trees
    → (trees ≡ old.committed.trees) ⊎ IsTakenIn old trees

-- What a stop leaves after a refused opening: what was committed, and only where the database refused perhaps that
-- migrated.
abbrev pub LeavesBehind : OpenRefusal → State → State → Type 0
LeavesBehind Store old new = LeavesMigrated old new
LeavesBehind refusal old new = LeavesCommitted old new

-- after the refusal of tables that are committed and meet the checks of their version: what was committed, or tables
-- of the first version in this program's
abbrev pub LeavesStored : Stored → State → State → Type 0
LeavesStored t old new = IsTrue old.is_open → HasCleanDisk new → (trees : Trees) → new.may_leave trees
    → (trees ≡ old.committed.trees)
    ⊎ ((db : Database) × (t.version ≡ First) × Holds t.tables db × (trees ≡ db.trees))

-- one of the register's tables is there
abbrev pub ShowsTable : State → Type 0
ShowsTable s = HasTable s.now.schema

-- The database is not taken for an empty one, and a stop leaves what was committed in it.
pub record SparesTables {S : Type 0} (g : Ghosts S) (old : Connection S)
    (result : Result (Desk S g) (Unopened S)) : Type 0 where
  pub refused : IfOk result (λ desk. HasCleanDisk (seen g desk.connection) → ⊥)
  pub leaves : IfErr result (λ unopened. LeavesCommitted (state g old) (state g unopened.connection))

-- these trees are those of the database with an empty register made in it, where none of its tables was there
abbrev pub IsMadeIn : State → Trees → Type 0
IsMadeIn s trees = (db : Database) × MakesRegister s.now db × (trees ≡ db.trees)

-- A stop leaves what was committed, or that with an empty register made in it.
abbrev pub LeavesMade : State → State → Type 0
LeavesMade old new = IsTrue old.is_open → HasCleanDisk new → (trees : Trees) → new.may_leave trees
    → (trees ≡ old.committed.trees) ⊎ IsMadeIn old trees

-- A stop leaves what was committed with an empty register made in it, and nothing else.
abbrev pub LeavesNew : State → State → Type 0
LeavesNew old new = (trees : Trees) → new.may_leave trees → IsMadeIn old trees

-- What a creation that was refused leaves: what was committed stands, and a stop leaves what it left before, or an
-- empty register where none of its tables was there.
pub record CreatesNothingIn (old new : State) : Type 0 where
  pub kept : KeepsCommitted old new
  pub stop : Survives old new (λ trees. (db : Database) × MakesRegister old.now db × (trees ≡ db.trees))

-- What a refused creation leaves of a connection.
abbrev pub CreatesNothing : {S : Type 0} → (g : Ghosts S) → Connection S → Connection S → Type 0
CreatesNothing g old new = CreatesNothingIn (state g old) (state g new)

-- ---- whole calls

-- What a creation makes: in an empty database the register of no request. None of a register's tables was there, and
-- what was beside them is kept; a stop leaves that.
pub record Creates {S : Type 0} (g : Ghosts S) (old : Connection S) (desk : Desk S g) : Type 0 where
  pub whole : IsWhole desk
  pub clean : IsClean g desk → HasCleanDisk (state g old)
  pub stands : (state g old).now.schema ≡ no_schema → StandsFor g desk []
  pub leaves_new : IsClean g desk → LeavesNew (state g old) (seen g desk.connection)

-- Why a creation was refused, and what it leaves: nothing of it, or an empty register where none of a register's tables
-- was there. Where one is there, what was committed is left alone.
pub record RefusesCreation {S : Type 0} (g : Ghosts S) (old : Connection S) (unopened : Unopened S) : Type 0 where
  pub idle : (connection_in unopened).in_transaction ≡ false
  pub reason : (refusal_in unopened ≡ Store) ⊎ (refusal_in unopened ≡ NotARegister)
  pub there : refusal_in unopened ≡ NotARegister → Finds g old (connection_in unopened)
  pub leaves : CreatesNothing g old (connection_in unopened)
  pub leaves_there : refusal_in unopened ≡ NotARegister → LeavesCommitted (state g old) (state_in g unopened)
  pub leaves_made : LeavesMade (state g old) (state_in g unopened)

-- Why an opening was refused, and what it leaves. The register of a history that is lawful in its version is not
-- refused for its tables.
pub record RefusesOpening {S : Type 0} (g : Ghosts S) (old : Connection S) (unopened : Unopened S) : Type 0 where
  pub idle : (connection_in unopened).in_transaction ≡ false
  pub reason : HasCleanDisk (state_in g unopened)
      → IsReasonOf (state g old) (state_in g unopened) (refusal_in unopened)
  pub blames_none : (version : Version) (h : List Request) → IsLawfulIn version h
      → HasCommittedIn version (tables h) (state g old) → HasCleanDisk (state_in g unopened)
      → RefusesNoTable (refusal_in unopened)
  pub leaves : LeavesBehind (refusal_in unopened) (state g old) (state_in g unopened)
  pub leaves_stored : (t : Stored) → HasCommittedIn t.version t.tables (state g old) → MeetsChecks t
      → LeavesStored t (state g old) (state_in g unopened)
