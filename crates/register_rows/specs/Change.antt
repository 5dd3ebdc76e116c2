-- What the change of an accepted request makes of the tables.
use Rattle.std.specs.Prelude.{ℕ}
use Rattle.register_core.specs.declared.change.Change.TheVariants.{Made, Held, PeriodSet, Nothing}
use Rattle.register_core.specs.Decision.{custodians_by, approvals_by, needs_by}
use Rattle.register_core.specs.{declared.change.CustodyChange.CustodyChange, declared.change.Change.Change}
use Rattle.register_tables.specs.Tables.{Tables}
use Rattle.register_tables.specs.TableChanges.{with_key, with_key_at, with_period_set, with_owner_and_row}

-- the tables with a key's custody as a change leaves it
abbrev pub with_custody : ℕ → CustodyChange → Tables → Tables
with_custody number custody t = record t {
  custodians = custodians_by number custody t.custodians;
  approvals = approvals_by number custody t.approvals;
  needs = needs_by number custody t.needs;
}

-- the tables with the change that an accepted request makes
abbrev pub with_change : Change → Tables → Tables
with_change (Made key) t = with_key key t
with_change (Held number owner row custody) t =
    with_custody number custody (with_key_at number (with_owner_and_row owner row) t)
with_change (PeriodSet kind period) t = with_period_set kind period t
with_change Nothing t = t

-- how many keys a change makes
abbrev pub made_count : Change → ℕ
made_count (Made key) = 1
made_count (Held number owner row custody) = 0
made_count (PeriodSet kind period) = 0
made_count Nothing = 0
