-- What is read of a register in a database.
use Rattle.std.specs.Prelude.{◌≡◌, ◌≢◌, ◌+◌, ℕ, pos, true, List, [], length, Option, None, Some, Result, IfOk, IfErr}
use Rattle.std.specs.Prelude.{OnOk, IsTrue}
use Rattle.std.specs.Option.{option_map}
use Rattle.sqlite.specs.declared.types.Value.TheVariants.{Int, Text as Words}
use Rattle.sqlite.specs.State.{State, HasCleanDisk, IsUnchanged, Survives}
use Rattle.sqlite.specs.{Order.Row, Order.column, Held.state}
use Rattle.sqlite_rules.specs.Lists.{Has}
use Rattle.sqlite_trees.specs.declared.store.Store.{Ghosts}
use Rattle.lifecycle_core.specs.{declared.dates.Dates.Dates, State.state_code}
use Rattle.period_core.specs.{declared.key_type.KeyType.KeyType, KeyType.key_type_code, Period.Period}
use Rattle.register_core.specs.KeptReply.{fits_its_command, kept_under}
use Rattle.register_core.specs.{declared.kept_reply.KeptReply.KeptReply, declared.key.Key.Key, declared.view.Held.Held}
use Rattle.register_core.specs.{KeyName.names_at, Names.sorted_names, Settings.need_at, Settings.period_at}
use Rattle.register_requests.specs.Request.{IsCommand, IsDate, command_text}
use Rattle.register_tables.specs.declared.error.StoreError.TheVariants.{Memory, NoRegister}
use Rattle.register_tables.specs.Tables.{Tables, date_cell, state_cell}
use Rattle.register_tables.specs.{declared.counted.Counted.Counted, declared.error.StoreError.StoreError, Schema.Holds}
use Rattle.register_tables.specs.StepCount.{Rises, counted}
use Rattle.register_tables.specs.TableChanges.{key_at}

-- ---- what is found in tables

-- this is the row of the key with the number, or none where there is no such key
abbrev pub HasRow : ℕ → Tables → Option Key → Type 0
HasRow number t found = found ≡ key_at t.keys number

-- the most steps that reading a key with both lists takes: two for its row, and for each list one and one more a name
abbrev pub load_steps : ℕ → Tables → ℕ
load_steps number t = 4 + length (names_at number t.custodians) + length (names_at number t.approvals)

-- the period that is set for a type, or none
abbrev pub HasPeriod : KeyType → Tables → Option Period → Type 0
HasPeriod kind t found = found ≡ period_at kind t.periods

-- the need that is set for a key, or none
abbrev pub HasNeed : ℕ → Tables → Option ℕ → Type 0
HasNeed key t found = found ≡ need_at key t.needs

-- a key with its custody, as a decision sees it where its destruction needs so many approvals, and its purpose
abbrev pub loaded : ℕ → ℕ → Tables → Key → Held × List ℕ
loaded number need t k = (
  record {
    kind = k.kind;
    owner = k.owner;
    row = k.row;
    need = need;
    custodians = sorted_names (names_at number t.custodians);
    approvals = sorted_names (names_at number t.approvals);
  },
  k.purpose,
)

-- this is the key with the number as a decision sees it, and its purpose, or none where there is no such key
abbrev pub HasHeldKey : ℕ → ℕ → Tables → Option (Held × List ℕ) → Type 0
HasHeldKey number need t found = found ≡ option_map (loaded number need t) (key_at t.keys number)

-- one of them, or none where there is none
abbrev pub IsOneOf : {A : Type 0} → List A → Option A → Type 0
IsOneOf xs None = xs ≡ []
IsOneOf xs (Some x) = Has xs x

-- what is kept of the caller's request under this number
abbrev pub HasRequest : List ℕ → ℕ → Tables → Option KeptReply → Type 0
HasRequest caller number t found = IsOneOf (kept_under caller number t.requests) found

-- ---- what a call that reads does

-- where memory gave out nothing is changed, and no row is taken for one that no register holds
pub record ReadFails (old new : State) (error : StoreError) : Type 0 where
  pub unchanged : error ≡ Memory → IsUnchanged old new
  pub registered : error ≢ NoRegister

-- the connection is open, before and after
pub record IsOpenStill (old new : State) : Type 0 where
  pub was_open : IsTrue old.is_open
  pub is_open : IsTrue new.is_open

-- where the connection is open, its database holds the tables: one that a fault has shut shows nothing
abbrev pub HoldsWhereOpen : Tables → State → Type 0
HoldsWhereOpen t s = IsTrue s.is_open → Holds t s.now

-- Outside a transaction, where the database holds tables and the disk is clean: what is given is found in them, and
-- nothing is changed; a failure is as above. Only an open connection gives anything, and a stop leaves what it left
-- before.
pub record ReadsBy {T : Type 0} (Found : Tables → T → Type 0) (old new : State) (result : Result T StoreError) : Type
    0 where
  pub found : HasCleanDisk new → (t : Tables) → HoldsWhereOpen t old
      → IfOk result (λ value. Found t value × IsUnchanged old new)
  pub failed : HasCleanDisk new → (t : Tables) → HoldsWhereOpen t old → IfErr result (ReadFails old new)
  pub opened : HasCleanDisk new → OnOk result (IsOpenStill old new)
  pub clean : HasCleanDisk new → HasCleanDisk old
  pub survives : Survives old new (λ _. ⊥)

-- whatever the call gave, a connection that is open sees what it saw, where that was committed
pub record SeesStill (old new : State) : Type 0 where
  pub was_open : IsTrue old.is_open
  pub now_is : new.now ≡ old.now
  pub committed_is : new.committed ≡ old.committed

-- a connection that saw what was committed sees it still, as long as it is open and the disk is clean
abbrev pub KeepsSight : State → State → Type 0
KeepsSight old new =
    HasCleanDisk new → (IsTrue old.is_open → old.now ≡ old.committed) → IsTrue new.is_open → SeesStill old new

-- what a counted connection shows
abbrev pub seen : {S : Type 0} → (g : Ghosts S) → Counted S g → State
seen g counted = state g counted.connection

-- at most this many steps were taken of it
abbrev pub Calls : {S : Type 0} → {g : Ghosts S} → ℕ → Counted S g → Counted S g → Type 0
Calls most old new = Rises most old.steps new.steps

-- over tables that the connection holds a call takes at most as many steps as their content says, on a clean disk
abbrev pub CallsOver : {S : Type 0} → (g : Ghosts S) → (Tables → ℕ) → Counted S g → Counted S g → Type 0
CallsOver g most old new =
    HasCleanDisk (seen g new) → (t : Tables) → HoldsWhereOpen t (seen g old) → Calls (most t) old new

-- what a call that reads finds in the tables of a counted connection, and what it leaves
abbrev pub Reads : {S T : Type 0} → (g : Ghosts S) → (Tables → T → Type 0) → Counted S g → Counted S g
    → Result T StoreError → Type 0
Reads g Found old new result = ReadsBy Found (seen g old) (seen g new) result

-- ---- what is read of an answer

-- the row shows these dates, and each of them is one
pub record ShowsDates (row : Row) (d : Dates) : Type 0 where
  pub initial : column row 4 ≡ Int (pos d.initial)
  pub activation : (column row 5 ≡ Int (pos (date_cell d.activation))) × IsDate d.activation
  pub protect_stop : (column row 6 ≡ Int (pos (date_cell d.protect_stop))) × IsDate d.protect_stop
  pub deactivation : (column row 7 ≡ Int (pos (date_cell d.deactivation))) × IsDate d.deactivation
  pub destroy : (column row 8 ≡ Int (pos (date_cell d.destroy))) × IsDate d.destroy
  pub compromise : (column row 9 ≡ Int (pos (date_cell d.compromise))) × IsDate d.compromise
  pub compromise_occurrence : (column row 10 ≡ Int (pos (date_cell d.compromise_occurrence)))
      × IsDate d.compromise_occurrence

-- the row shows this key
pub record ShowsKey (row : Row) (k : Key) : Type 0 where
  pub kind : column row 0 ≡ Int (pos (key_type_code k.kind))
  pub owner : column row 1 ≡ Words k.owner
  pub purpose : column row 2 ≡ Words k.purpose
  pub state : column row 3 ≡ Int (pos (state_code k.row.state))
  pub dates : ShowsDates row k.row.dates

-- the row of the search for a caller's number has the cells of this, with a command in its range
pub record HasCellsOf (whose : List ℕ) (which : ℕ) (row : Row) (k : KeptReply) : Type 0 where
  pub caller : k.caller ≡ whose
  pub number : k.number ≡ which
  pub command : (column row 0 ≡ Words (command_text k.command)) × IsCommand k.command
  pub key : column row 1 ≡ Int (pos k.reply.key)
  pub state : column row 2 ≡ Int (pos (state_cell k.reply.state))
  pub moment : column row 3 ≡ Int (pos k.reply.moment)

-- the row shows what is kept of the caller's request under this number, and that fits its command
pub record ShowsRequest (whose : List ℕ) (which : ℕ) (row : Row) (k : KeptReply) : Type 0 where
  pub cells : HasCellsOf whose which row k
  pub whole : fits_its_command k ≡ true
