-- What the checks of opening ask of tables, beside the ranges of their cells.
use Rattle.std.specs.Prelude.{◌≡◌, ◌≢◌, ◌≤◌, ◌<◌, ℕ, zero, suc, true, List, length, map, reverse, take, slice_get}
use Rattle.std.specs.Prelude.{Option, None, Some, is_some, IsSome, IsTrue}
use Rattle.std.specs.List.{AllByRecursion}
use Rattle.lifecycle_core.specs.{declared.dates.Dates.Dates, Row.IsRightAt}
use Rattle.period_core.specs.Fitting.{Fits, are_dates_in_order, is_not_after}
use Rattle.period_core.specs.{declared.key_type.KeyType.KeyType, Period.periods}
use Rattle.register_core.specs.{declared.kept_reply.KeptReply.KeptReply, declared.key.Key.Key, KeyName.KeyName}
use Rattle.register_core.specs.{KeyName.names_at, Settings.KeyNeed, Verdict.max_keys}
use Rattle.register_requests.specs.declared.version.Version.TheVariants.{First, Second}
use Rattle.register_requests.specs.Version.{custodians_of, knows}
use Rattle.register_requests.specs.{declared.version.Version.Version, Name.is_among}
use Rattle.register_tables.specs.declared.table.TableName.TheVariants.{Meta, Keys, Custodian, Approval, Request, Period}
use Rattle.register_tables.specs.declared.table.TableName.TheVariants.{Quorum}
use Rattle.register_tables.specs.Tables.{Counts, all_tables, place_of, table_count}
use Rattle.register_checks.specs.Stored.{Stored, mark}
use Rattle.register_tables.specs.declared.table.TableName.{TableName}

-- The dates of a key: in the first version they fit the period of its type; from the second on, where the office may
-- set another, they are in order.
abbrev pub DatesFit : Version → KeyType → Dates → Type 0
DatesFit First kind d = Fits (periods kind) d
DatesFit Second kind d = IsTrue (are_dates_in_order d)

-- the dates are those of a key whose latest request was at this moment or before
pub record ArePast (latest : ℕ) (d : Dates) : Type 0 where
  pub initial : d.initial ≤ latest
  pub destroy : IsTrue (is_not_after d.destroy (Some latest))
  pub compromise : IsTrue (is_not_after d.compromise (Some latest))
  pub with_compromise : is_some d.compromise_occurrence ≡ is_some d.compromise
  pub occurrence : IsTrue (is_not_after d.compromise_occurrence d.compromise)

-- what holds of each key at the latest moment
pub record IsSoundAt (version : Version) (latest : ℕ) (k : Key) : Type 0 where
  pub fits : DatesFit version k.kind k.row.dates
  pub protect_stop : IsSome k.row.dates.activation → IsSome k.row.dates.protect_stop
  pub deactivation : IsSome k.row.dates.activation → IsSome k.row.dates.deactivation
  pub past : ArePast latest k.row.dates
  pub state : IsRightAt k.row latest

-- as many keys as meta counts, each of them sound
pub record AreKeys (version : Version) (counts : Counts) (keys : List Key) : Type 0 where
  pub counted : length keys ≡ counts.key_count
  pub sound : AllByRecursion (IsSoundAt version counts.latest) keys

-- the owners of the keys, by the keys' numbers
abbrev pub owners_of : List Key → List (List ℕ)
owners_of keys = map (λ (k : Key). k.owner) keys

-- the owner of the key with this number
abbrev pub owner_at : List (List ℕ) → ℕ → Option (List ℕ)
owner_at owners zero = None
owner_at owners (suc before) = slice_get owners before

-- the key is there, and the name is none but its owner's
pub record MayBeCustodian (owners : List (List ℕ)) (entry : KeyName) : Type 0 where
  pub owner : List ℕ
  pub there : owner_at owners entry.key ≡ Some owner
  pub other : entry.name ≢ owner

-- custodians of these keys, no more at a key than this
pub record AreCustodians (most : ℕ) (owners : List (List ℕ)) (entries : List KeyName) : Type 0 where
  pub each : AllByRecursion (MayBeCustodian owners) entries
  pub few : (key : ℕ) → length (names_at key entries) ≤ most

-- the name is a custodian of the key
abbrev pub IsCustodian : List KeyName → KeyName → Type 0
IsCustodian custodians entry = is_among entry.name (names_at entry.key custodians) ≡ true

-- the reply is no later than the latest moment, and of a key that is there or of none, and the version knows its
-- command
pub record IsReplyOf (told : Version × Counts) (k : KeptReply) : Type 0 where
  pub moment : k.reply.moment ≤ told.1.latest
  pub key : k.reply.key ≤ told.1.key_count
  pub known : knows told.0 k.command ≡ true

-- the key is there
pub record IsNeedOf (counts : Counts) (set : KeyNeed) : Type 0 where
  pub some : 0 < set.key
  pub there : set.key ≤ counts.key_count

-- the check of each table, which looks at it and at those before it
abbrev pub MeetsCheck : TableName → Stored → Type 0
MeetsCheck Meta t = t.tables.counts.key_count ≤ max_keys
MeetsCheck Keys t = AreKeys t.version t.tables.counts t.tables.keys
MeetsCheck Custodian t = AreCustodians (custodians_of t.version) (owners_of t.tables.keys) t.tables.custodians
MeetsCheck Approval t = AllByRecursion (IsCustodian t.tables.custodians) t.tables.approvals
MeetsCheck Request t = AllByRecursion (IsReplyOf (mark t)) t.tables.requests
MeetsCheck Period t = Unit {0}
MeetsCheck Quorum t = AllByRecursion (IsNeedOf t.tables.counts) t.tables.needs

-- the tables that are checked before this one, the last of them first
abbrev pub before : TableName → List TableName
before name = reverse (take (place_of name) all_tables)

-- all that a version has
abbrev pub checked : Version → List TableName
checked version = reverse (take (table_count version) all_tables)

-- each table meets its check
abbrev pub MeetsChecks : Stored → Type 0
MeetsChecks t = (name : TableName) → MeetsCheck name t
