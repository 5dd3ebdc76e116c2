-- What functions within the crate say of one another, beside `specs/TableChanges.antt`.
use Rattle.std.specs.Prelude.{◌≢◌, ◌==◌, ℕ, not, List, [], ◌∷◌, ◌++◌, filter}
use Rattle.sqlite_rules.specs.Lists.{Has}
use Rattle.lifecycle_core.specs.declared.state.State.{State}
use Rattle.register_core.specs.KeyName.{KeyName, is_key_name, is_at}
use Rattle.register_core.specs.Settings.{KeyNeed, TypePeriod, with_need}
use Rattle.register_core.specs.{declared.kept_reply.KeptReply.KeptReply, declared.key.Key.Key}
use Rattle.period_core.specs.KeyType.{key_type_code}
use Rattle.register_rows.specs.declared.setting.Setting.TheVariants.{Need, Period}
use Rattle.register_rows.specs.declared.setting.Setting.{Setting}
use Rattle.register_tables.specs.{TableChanges.with_period_set, Tables.Tables}

-- whatever the tables hold
abbrev pub Always : Tables → Type 0
Always t = Unit {0}

abbrev pub with_counts : ℕ → ℕ → Tables → Tables
with_counts latest key_count t = record t { counts = record { latest = latest; key_count = key_count } }

-- one more request
abbrev pub with_kept : KeptReply → Tables → Tables
with_kept kept t = record t { requests = t.requests ++ kept ∷ [] }

abbrev pub in_state : State → Key → Key
in_state state k = record k { row = record { dates = k.row.dates; state = state } }

-- ---- what is set

-- without what is set for the same type or key
abbrev pub without_set : Setting → Tables → Tables
without_set (Period kind period) t =
    record t { periods = filter (λ (set : TypePeriod). not (key_type_code set.kind == key_type_code kind)) t.periods }
without_set (Need key need) t = record t { needs = filter (λ (set : KeyNeed). not (set.key == key)) t.needs }

-- nothing is set for it
abbrev pub HasNoneSet : Setting → Tables → Type 0
HasNoneSet (Period kind period) t =
    (set : TypePeriod) → Has t.periods set → key_type_code set.kind ≢ key_type_code kind
HasNoneSet (Need key need) t = (set : KeyNeed) → Has t.needs set → set.key ≢ key

abbrev pub more_set : Setting → Tables → Tables
more_set (Period kind period) t = record t { periods = t.periods ++ record { kind = kind; period = period } ∷ [] }
more_set (Need key need) t = record t { needs = t.needs ++ record { key = key; need = need } ∷ [] }

-- it is set, in the place of what was set before, if something was
abbrev pub with_setting : Setting → Tables → Tables
with_setting (Period kind period) t = with_period_set kind period t
with_setting (Need key need) t = record t { needs = with_need key need t.needs }

-- ---- names at keys

abbrev pub with_custodian : KeyName → Tables → Tables
with_custodian at_key t = record t { custodians = t.custodians ++ at_key ∷ [] }

abbrev pub with_approval : KeyName → Tables → Tables
with_approval at_key t = record t { approvals = t.approvals ++ at_key ∷ [] }

-- all but this name at this key
abbrev pub without_name : ℕ → List ℕ → List KeyName → List KeyName
without_name key name names = filter (λ at_key. not (is_key_name key name at_key)) names

-- the approval of one who is custodian no more goes too
abbrev pub without_custodian : ℕ → List ℕ → Tables → Tables
without_custodian key name t =
    record t { custodians = without_name key name t.custodians; approvals = without_name key name t.approvals }

abbrev pub without_approval : ℕ → List ℕ → Tables → Tables
without_approval key name t = record t { approvals = without_name key name t.approvals }

-- no approval of this key's
abbrev pub without_approvals : ℕ → Tables → Tables
without_approvals key t = record t { approvals = filter (λ at_key. not (is_at key at_key)) t.approvals }
