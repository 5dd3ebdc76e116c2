-- What the check of each table has taken so far, and what it refuses.
use Rattle.std.specs.Prelude.{◌≡◌, ◌≤◌, ℕ, zero, suc, List, [], ◌∷◌, ◌++◌, length, slice_get, true, Option, None, Some}
use Rattle.std.specs.{List.AllByRecursion, Global.Vec}
use Rattle.sqlite.specs.Order.{Row}
use Rattle.row_checks.specs.EachRow.{ShowEach}
use Rattle.register_core.specs.KeyName.{KeyName, names_at}
use Rattle.register_core.specs.{declared.key.Key.Key, Settings.TypePeriod, Verdict.max_keys}
use Rattle.register_requests.specs.{Name.is_among, declared.version.Version.Version}
use Rattle.register_checks.specs.declared.meta_check.MetaRow.TheVariants.{Newer, Counts as CountsKeys}
use Rattle.register_checks.specs.CheckedTables.{AreNewer, ShowsCounts, ShowsName, ShowsNewer, ShowsNumbered, mark_of}
use Rattle.register_checks.specs.OpeningChecks.{AreCustodians, IsSoundAt, owners_of}
use Rattle.register_checks.specs.{declared.found.Found.Found, declared.meta_check.MetaRow.MetaRow}
use Rattle.register_tables.specs.Tables.{Counts}
use Rattle.register_tables.specs.{Tables.numbered, declared.table.TableName.TheVariants.Meta}

-- ---- meta

-- the row tells this: a version that this program knows and what it counts, or a later version
abbrev pub TellsMeta : Row → MetaRow → Type 0
TellsMeta row (CountsKeys found) = ShowsCounts row (mark_of found) × (found.keys ≤ max_keys)
TellsMeta row (Newer found) = ShowsNewer row found

-- no row yet, or the one
abbrev pub HasMeta : Option MetaRow → List Row → Type 0
HasMeta None rows = rows ≡ []
HasMeta (Some told) rows = (row : Row) × (rows ≡ row ∷ []) × TellsMeta row told

-- however they go on, the rows count no keys that a register may have, and are of no later version
pub record RefusesMeta (rows : List Row) : Type 0 where
  pub uncounted : (tail : List Row) (told : Version × Counts) → ShowEach ShowsCounts (rows ++ tail) (told ∷ [])
      → told.1.key_count ≤ max_keys → ⊥
  pub no_newer : (tail : List Row) → AreNewer Meta (rows ++ tail) → ⊥

-- ---- keys

-- the rows show keys that are sound, no more than are counted
pub record AreCounted (found : Found) (rows : List Row) (keys : List Key) : Type 0 where
  pub shown : ShowEach ShowsNumbered rows (numbered keys)
  pub sound : AllByRecursion (IsSoundAt found.version found.latest) keys
  pub within : length keys ≤ found.keys

-- so many such keys were shown, with these owners
pub record HasCountedKeys (found : Found) (count : ℕ) (owners : List (List ℕ)) (rows : List Row) : Type 0 where
  pub keys : List Key
  pub are : AreCounted found rows keys
  pub counted : count ≡ length keys
  pub owners_are : owners ≡ owners_of keys

-- these rows show no keys that are sound, or more than are counted
abbrev pub RefusesKeys : Found → List Row → Type 0
RefusesKeys found rows = (keys : List Key) → ¬ AreCounted found rows keys

-- ---- rows that pass each by itself

-- the rows show values of which P holds
pub record HasShown {A : Type 0} (Shows : Row → A → Type 0) (P : A → Type 0) (rows : List Row) : Type 0 where
  pub values : List A
  pub shown : ShowEach Shows rows values
  pub each : AllByRecursion P values

-- these rows show no values of which P holds
abbrev pub RefusesEach : {A : Type 0} → (Row → A → Type 0) → (A → Type 0) → List Row → Type 0
RefusesEach Shows P rows = ¬ HasShown Shows P rows

-- ---- what is set

-- of a period nothing is asked but its range, which its row shows
abbrev pub IsAnyPeriod : TypePeriod → Type 0
IsAnyPeriod set = Unit {0}

-- ---- custodians

-- each list has the names at its key
abbrev pub AreKept : List KeyName → List (Vec (List ℕ)) → Type 0
AreKept entries lists =
    (k : ℕ) (names : Vec (List ℕ)) → slice_get lists k ≡ Some names → names.items ≡ names_at (suc k) entries

-- the rows show custodians, and the list at each key's place has those of the key
pub record HasCustodians (most : ℕ) (owners : List (List ℕ)) (lists : List (Vec (List ℕ))) (rows : List Row) : Type 0
  where
    pub entries : List KeyName
    pub shown : ShowEach ShowsName rows entries
    pub are : AreCustodians most owners entries
    pub counted : length lists ≡ length owners
    pub kept : AreKept entries lists

-- these rows show no custodians of keys that are there, or more at a key than this
abbrev pub RefusesCustodians : ℕ → List (List ℕ) → List Row → Type 0
RefusesCustodians most owners rows =
    (entries : List KeyName) → ShowEach ShowsName rows entries → ¬ AreCustodians most owners entries

-- the list of the key with this number
abbrev pub list_at : List (Vec (List ℕ)) → ℕ → Option (Vec (List ℕ))
list_at lists zero = None
list_at lists (suc before) = slice_get lists before

-- the name is in its key's list
pub record IsListed (lists : List (Vec (List ℕ))) (entry : KeyName) : Type 0 where
  pub names : Vec (List ℕ)
  pub there : list_at lists entry.key ≡ Some names
  pub among : is_among entry.name names.items ≡ true
