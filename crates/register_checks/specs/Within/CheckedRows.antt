-- What functions within the crate say of one another, beside `specs/CheckedRows.antt`.
use Rattle.std.specs.Prelude.{◌≡◌, ◌↔◌, ℕ, List, [], slice_get, Bool, true, false, Some, Result, Ok, Err}
use Rattle.std.specs.Global.{Vec}
use Rattle.sqlite.specs.State.{State, HasCleanDisk, IsUnchanged, Survives}
use Rattle.period_core.specs.{declared.key_type.KeyType.KeyType, Period.Period}
use Rattle.register_core.specs.{declared.key.Key.Key, KeyName.KeyName, Settings.KeyNeed, Settings.TypePeriod}
use Rattle.register_checks.specs.declared.refusal.CheckError.TheVariants.{NewerVersion, NotARegister}
use Rattle.register_checks.specs.declared.meta_check.MetaRow.TheVariants.{Newer, Counts as CountsKeys}
use Rattle.register_checks.specs.CheckedTables.{ArePassed, ChecksBy, mark_of}
use Rattle.register_checks.specs.OpeningChecks.{IsCustodian, MeetsChecks, owners_of}
use Rattle.register_checks.specs.{declared.refusal.CheckError.CheckError, declared.found.Found.Found}
use Rattle.register_checks.specs.Stored.{HoldsStored, Stored}
use Rattle.register_checks.specs.declared.meta_check.MetaRow.{MetaRow}
use Rattle.register_tables.specs.Tables.{Counts}
use Rattle.register_checks.specs.{Stored.mark, CheckedRows.IsListed}
use Rattle.register_tables.specs.declared.table.TableName.{TableName}
use Rattle.register_requests.specs.declared.version.Version.{Version}

-- ---- meta

-- what is found is this version with these counts
abbrev pub IsCounts : Version × Counts → Found → Type 0
IsCounts told found = mark_of found ≡ told

-- what it counts, or why it is refused
abbrev pub counts_in : MetaRow → Result Found CheckError
counts_in (CountsKeys found) = Ok found
counts_in (Newer found) = Err (NewerVersion found)

-- ---- keys

-- what is found are the owners of these keys
abbrev pub AreOwners : List Key → Vec (List ℕ) → Type 0
AreOwners keys owners = owners.items ≡ owners_of keys

-- the owners, where there are as many keys as are counted
abbrev pub owners_where : Bool → Vec (List ℕ) → Result (Vec (List ℕ)) CheckError
owners_where true owners = Ok owners
owners_where false owners = Err NotARegister

-- ---- rows that pass each by itself

-- nothing is found of a content
abbrev pub IsAnything : {C : Type 0} → C → Unit {0} → Type 0
IsAnything c found = Unit {0}

-- ---- what is set

abbrev pub type_period : KeyType → Period → TypePeriod
type_period kind period = record { kind = kind; period = period }

abbrev pub key_need : ℕ → ℕ → KeyNeed
key_need key need = record { key = key; need = need }

-- ---- custodians

-- each of the lists is empty
abbrev pub AreEmpty : List (Vec (List ℕ)) → Type 0
AreEmpty lists = (k : ℕ) (names : Vec (List ℕ)) → slice_get lists k ≡ Some names → names.items ≡ []

-- a name is in a key's list exactly where it is a custodian of the key
abbrev pub KnowsCustodians : List KeyName → Vec (Vec (List ℕ)) → Type 0
KnowsCustodians custodians lists = (entry : KeyName) → IsListed lists.items entry ↔ IsCustodian custodians entry

-- ---- tables that passed, one after the other

-- these tables are shown as t says, and pass; nothing has changed
pub record SoFar (names : List TableName) (t : Stored) (a b : State) : Type 0 where
  pub passed : ArePassed names t a b
  pub same : IsUnchanged a b

-- What is known once these tables have passed; `Knows` is what was found of them.
pub record Chain (names : List TableName) (Knows : Stored → Type 0) (a b : State) : Type 0 where
  pub so_far : HasCleanDisk b → (t : Stored) × SoFar names t a b × Knows t
  pub own : HasCleanDisk b → (t : Stored) → HoldsStored t a.now → MeetsChecks t → Knows t
  pub survives : Survives a b (λ _. ⊥)

-- the version and the counts that were found are theirs
abbrev pub KnowsCounts : Found → Stored → Type 0
KnowsCounts found t = mark_of found ≡ mark t

-- What the check of these tables does, the last of them first: where it succeeds they have passed, with these counts;
-- an error is one of the check of all.
abbrev pub ChecksFirst : List TableName → State → State → Result Found CheckError → Type 0
ChecksFirst names old new (Ok found) = Chain names (KnowsCounts found) old new
ChecksFirst names old new (Err error) = ChecksBy old new (Err error)
