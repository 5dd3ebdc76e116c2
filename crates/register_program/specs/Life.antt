-- A life of a register in files: it is opened, something is done over it, and it may be stopped.
use Rattle.std.specs.Prelude.{◌≡◌, ◌≢◌, ◌⊎◌, ◌+◌, ℕ, List, [], length, take, Option, IsTrue}
use Rattle.sqlite_trees.specs.{declared.store.Store.Ghosts, View.IsClean as IsCleanStore}
use Rattle.sqlite.specs.{Files.AreFoundIn, Files.HoldsDatabase, Held.Held, Held.AreDatabases, Held.state}
use Rattle.sqlite.specs.{Recovery.Image, State.State, State.HasCleanDisk, Tree.Trees}
use Rattle.register_requests.specs.declared.request.Request.{Request}
use Rattle.register_core.specs.Fold.{IsLawful, history}
use Rattle.register_desk.specs.declared.end.End.TheVariants.{BadHeader, WriteFault}
use Rattle.register_desk.specs.declared.opening.OpenRefusal.{OpenRefusal}
use Rattle.register_desk.specs.declared.opening.OpenRefusal.TheVariants.{Memory, NotARegister, Store}
use Rattle.machine_traits.specs.declared.files.ConnectError.{ConnectError}
use Rattle.machine_traits.specs.declared.files.ConnectError.TheVariants as errors
use Rattle.register_desk.specs.DatabaseFiles.{HoldsLife, HoldsOneOf, HoldsRegister}
use Rattle.machine_traits.specs.Found.{HoldsNothing, ShowsFiles}
use Rattle.register_desk.specs.OpenRefusal.{IsMadeIn, IsTakenIn, IsReasonOf, RefusesNoTable, ShowsTable, connection_in}
use Rattle.register_desk.specs.OpenRefusal.{refusal_in}
use Rattle.register_desk.specs.{declared.desk.Desk.Desk, declared.opening.Unopened.Unopened}
use Rattle.register_desk.specs.{declared.outcome.Finish.Finish, declared.outcome.Finish.TheVariants.Ended}
use Rattle.register_desk.specs.{declared.outcome.Outcome.Outcome, Run.RunsOver}
use Rattle.register_http.specs.ServedExchanges.{AreServed, ServedClient, count_known}
use Rattle.register_program.specs.declared.refused.RefusedFiles.TheVariants.{Failed, Shut}
use Rattle.register_program.specs.{declared.refused.Refused.Refused, declared.refused.RefusedFiles.RefusedFiles}
use Rattle.register_report.specs.{Import.EndsWithoutHeader, TextWriter.WritesText}

-- ---- what a stop leaves

-- whatever a stop leaves in the files holds the register of one of these histories
abbrev pub LeavesInFiles : List Request → List Request → (Image → Type 0) → Type 0
LeavesInFiles h other may_leave = (left : Image) → may_leave left → HoldsOneOf h other left

-- whatever a stop leaves in the files holds the register after a life over these items
abbrev pub LeavesLifeInFiles : List Request → List (Option Request) → Finish → ℕ → (Image → Type 0) → Type 0
LeavesLifeInFiles h items end replies may_leave = (left : Image) → may_leave left → HoldsLife h items end replies left

-- whatever a stop leaves in the files holds that database with an empty register made in it
abbrev pub LeavesMadeIn : State → (Image → Type 0) → Type 0
LeavesMadeIn s may_leave =
    (left : Image) → may_leave left → ∥ ((db : Trees) × HoldsDatabase left db × IsMadeIn s db) ∥₁

-- whatever a stop leaves in the files holds nothing
abbrev pub LeavesNothing : (Image → Type 0) → Type 0
LeavesNothing may_leave = (left : Image) → may_leave left → ∥ HoldsNothing left ∥₁

-- Whatever a stop leaves in the files holds nothing, or the register of no request.
abbrev pub LeavesNoRequest : (Image → Type 0) → Type 0
LeavesNoRequest may_leave = (left : Image) → may_leave left → ∥ (HoldsNothing left ⊎ HoldsRegister [] left) ∥₁

-- the database is one that an opening of the files finds: the one that they hold, if they hold one
pub record IsFoundIn (found : Image) (db : Trees) : Type 0 where
  pub reads : AreFoundIn found db
  pub holds : (other : Trees) → HoldsDatabase found other → db ≡ other

-- whatever a stop leaves in the files holds a database that was found in them
abbrev pub LeavesFound : Image → (Image → Type 0) → Type 0
LeavesFound found may_leave =
    (left : Image) → may_leave left → ∥ ((db : Trees) × IsFoundIn found db × HoldsDatabase left db) ∥₁

-- Whatever a stop leaves in the files holds a database that was found in them, or that migrated to this program's
-- version.
abbrev pub LeavesTaken : Image → State → (Image → Type 0) → Type 0
LeavesTaken found s may_leave =
    (left : Image) → may_leave left
    → ∥ ((db : Trees) × (IsFoundIn found db ⊎ IsTakenIn s db) × HoldsDatabase left db) ∥₁

-- What a stop leaves behind a refusal: what was found, and only where the database refused perhaps that migrated.
abbrev pub LeavesBehindIn : OpenRefusal → Image → State → (Image → Type 0) → Type 0
LeavesBehindIn Store found s may_leave = LeavesTaken found s may_leave
LeavesBehindIn refusal found s may_leave = LeavesFound found may_leave

-- A connection was closed: its files are sound, and what a stop leaves of them it left of the connection.
pub record ClosesAs {S : Type 0} (g : Ghosts S) (connection : Held S) (store : S) : Type 0 where
  pub clean : IsCleanStore (g.view store) → HasCleanDisk (state g connection)
  pub numbered : IsCleanStore (g.view store) → IsTrue (g.view store).is_numbered
  pub sound : IsCleanStore (g.view store) → AreDatabases (g.recovers store)
  pub outcomes : (db : Trees) → g.recovers store db → (state g connection).may_leave db

-- ---- refusals

-- why no register was made or opened
abbrev pub refusal_of : {S U : Type 0} → Refused S U → OpenRefusal
refusal_of refused = refused.refusal

-- the refusal that files which could not be opened come to
abbrev pub connect_refusal : ConnectError → OpenRefusal
connect_refusal errors.Memory = Memory
connect_refusal errors.Store = Store

-- it was refused so, of files that could not be opened at all
abbrev pub IsOfFailed : {S U : Type 0} → ConnectError → U → Refused S U → Type 0
IsOfFailed error failed refused = refused ≡ record { refusal = connect_refusal error; files = Failed failed }

-- what is given back of a connection that did not become a desk
pub record GivesBack {S U : Type 0} (g : Ghosts S) (unopened : Unopened S) (refused : Refused S U) : Type 0 where
  pub same : refused.refusal ≡ refusal_in unopened
  pub store : S
  pub back : refused.files ≡ Shut store
  pub closes : ClosesAs g (connection_in unopened) store

-- no table is to blame, and a stop leaves the register as it was
abbrev pub SparesRegister : List Request → OpenRefusal → (Image → Type 0) → Type 0
SparesRegister h refusal may_leave = RefusesNoTable refusal × LeavesInFiles h h may_leave

-- a database as it was committed, or that with an empty register made in it
abbrev pub IsCommittedOrMade : State → Trees → Type 0
IsCommittedOrMade s db = (db ≡ s.committed.trees) ⊎ IsMadeIn s db

module _ {S : Type 0} (g : Ghosts S) (found : Image) where
  -- The files were no register of this program, or the database refused: the refusal has its reason in what an opened
  -- connection to them shows, and a stop leaves what was found; where the database refused perhaps what that was
  -- taken to.
  pub record RefusesFiles (refusal : OpenRefusal) (may_leave : Image → Type 0) : Type 0 where
    pub old : Held S
    pub new : Held S
    pub shows : ShowsFiles found (state g old)
    pub reason : IsReasonOf (state g old) (state g new) refusal
    pub leaves : LeavesBehindIn refusal found (state g old) may_leave

  -- Files in which no register was made. Where a table of one is to blame it is there; where one is there, a stop
  -- leaves what was found; else it leaves what was committed, or that with an empty register made in it.
  pub record RefusesToMake (refusal : OpenRefusal) (may_leave : Image → Type 0) : Type 0 where
    pub old : Held S
    pub shows : ShowsFiles found (state g old)
    pub no_version : (refusal ≡ Store) ⊎ (refusal ≡ NotARegister)
    pub there : refusal ≡ NotARegister → ShowsTable (state g old) × LeavesFound found may_leave
    pub spares : ShowsTable (state g old) → LeavesFound found may_leave
    pub leaves : (left : Image) → may_leave left
        → ∥ ((db : Trees) × HoldsDatabase left db × IsCommittedOrMade (state g old) db) ∥₁

-- What is said of files that were opened and are sound.
abbrev pub OfSound : {S U : Type 0} → Ghosts S → (S → Image → Type 0) → RefusedFiles S U
    → ((Image → Type 0) → Type 0) → Type 0
OfSound g may_leave (Failed it) Says = Unit {0}
OfSound g may_leave (Shut store) Says = IsCleanStore (g.view store) → Says (may_leave store)

module _ {S U : Type 0} (g : Ghosts S) (may_leave : S → Image → Type 0) (may_stay : U → Image → Type 0) where
  -- What is said of files that a call left, whether they were opened or not.
  abbrev pub OfLeft : RefusedFiles S U → ((Image → Type 0) → Type 0) → Type 0
  OfLeft (Failed it) Says = Says (may_stay it)
  OfLeft (Shut store) Says = IsCleanStore (g.view store) → Says (may_leave store)

module _ {S U : Type 0} (g : Ghosts S) (may_leave : S → Image → Type 0) (may_stay : U → Image → Type 0)
    (found : Image) where
  -- A call that did not open a register. Its refusal has its cause in what the files held, and a stop leaves that, so
  -- nothing where they held nothing. The register of a history is not refused for its tables; nor are files that could
  -- not be opened at all.
  pub record Refuses (refused : Refused S U) : Type 0 where
    pub cause : OfSound g may_leave refused.files (RefusesFiles g found refused.refusal)
    pub spares : (h : List Request) → IsLawful h → HoldsRegister h found
        → OfLeft g may_leave may_stay refused.files (SparesRegister h refused.refusal)
    pub nothing : HoldsNothing found → OfLeft g may_leave may_stay refused.files LeavesNothing
    pub unopened : (failed : U) → refused.files ≡ Failed failed → RefusesNoTable refused.refusal

  -- A call that did not make a register. The one that the files hold is left; where they held nothing, nothing is, or
  -- the register of no request.
  pub record RefusesMaking (refused : Refused S U) : Type 0 where
    pub cause : OfSound g may_leave refused.files (RefusesToMake g found refused.refusal)
    pub spares : (h : List Request) → HoldsRegister h found
        → OfLeft g may_leave may_stay refused.files (LeavesInFiles h h)
    pub nothing : HoldsNothing found → OfLeft g may_leave may_stay refused.files LeavesNoRequest
    pub unopened : (failed : U) → refused.files ≡ Failed failed → RefusesNoTable refused.refusal

-- ---- lives

-- A run over these items from the history h wrote what it has to, and whatever a stop leaves in the files holds the
-- register of the history of the items that were answered, or of one item more.
pub record LivesOver {S : Type 0} (g : Ghosts S) (h : List Request) (items : List (Option Request)) (rest : List ℕ)
    (outcome : Outcome) (old new : Option (List ℕ)) (desk : Desk S g) (may_leave : Image → Type 0) : Type 0 where
  pub over : RunsOver g h items rest outcome.end outcome.replies old new desk
  pub leaves :
      LeavesInFiles (history h (take outcome.replies items))
      (history h (take (outcome.replies + 1) items)) may_leave
  -- of one item more alone, where its answer was written in part
  pub in_part : outcome.end ≡ Ended WriteFault
      → LeavesInFiles (history h (take (outcome.replies + 1) items))
      (history h (take (outcome.replies + 1) items)) may_leave

-- Whatever its reader reported, it ran over some items from the history h and wrote what it has to, and whatever a stop
-- leaves in the files holds the register after the life that it was: of the items that were answered, and perhaps of
-- one more. An import without its header row has no items.
pub record LivesSome {S : Type 0} (g : Ghosts S) (h : List Request) (outcome : Outcome) (old new : Option (List ℕ))
    (desk : Desk S g) (may_leave : Image → Type 0) : Type 0 where
  pub items : List (Option Request)
  pub rest : List ℕ
  pub over : outcome.end ≢ Ended BadHeader → RunsOver g h items rest outcome.end outcome.replies old new desk
  pub leaves : LeavesLifeInFiles h items outcome.end outcome.replies may_leave

-- An import without its header row answered no row and wrote nothing, and whatever a stop leaves in the files holds the
-- register as it was.
pub record EndsUnbegun (h : List Request) (outcome : Outcome) (old new : Option (List ℕ))
    (may_leave : Image → Type 0) : Type 0 where
  pub ends : EndsWithoutHeader outcome.end
  pub none : outcome.replies ≡ 0
  pub same : new ≡ old
  pub leaves : LeavesInFiles h h may_leave

-- The text was written, or a prefix of it where the call ended before, and whatever a stop leaves in the files holds
-- the register as it was.
pub record WritesOut (h : List Request) (text : List ℕ) (outcome : Outcome) (old new : Option (List ℕ))
    (may_leave : Image → Type 0) : Type 0 where
  pub writes : WritesText text outcome.end old new
  pub leaves : LeavesInFiles h h may_leave

-- These clients were served, and whatever a stop leaves in the files holds the register after the items that they handed
-- on; where the database refused, perhaps without the last one's.
pub record ServesInFiles (h : List Request) (clients : List ServedClient) (end : Finish) (may_leave : Image → Type 0)
    : Type 0 where
  pub items : List (Option Request)
  pub served : AreServed h clients items
  pub leaves : LeavesLifeInFiles h items end (count_known end (length clients)) may_leave
