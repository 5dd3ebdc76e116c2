-- Moving the keys on whose dates are reached: the Pre-Active ones to Active, and then the Active ones to Deactivated.
use Rattle.std.specs.Prelude.{◌==◌, ◌&&◌, if◌then◌else◌, ℕ, List, codes, Bool, Option, map}
use Rattle.lifecycle_core.specs.declared.state.State.TheVariants.{PreActive, Active, Deactivated}
use Rattle.lifecycle_core.specs.State.{is_reached_at, state_code}
use Rattle.lifecycle_core.specs.{declared.dates.Dates.Dates, declared.state.State.State}
use Rattle.register_core.specs.declared.key.Key.{Key}
use Rattle.register_rows.specs.declared.accepted_request.DueDate.TheVariants.{Activation, Deactivation}
use Rattle.register_rows.specs.{declared.accepted_request.DueDate.DueDate, Within.TableChanges.in_state}
use Rattle.register_tables.specs.Tables.{Tables}

-- the state that a key leaves as the date is reached, and the one that it comes to
abbrev pub state_before : DueDate → State
state_before Activation = PreActive
state_before Deactivation = Active

abbrev pub state_after : DueDate → State
state_after Activation = Active
state_after Deactivation = Deactivated

abbrev pub date_of : DueDate → Dates → Option ℕ
date_of Activation d = d.activation
date_of Deactivation d = d.deactivation

-- the key is in that state, and its date is reached at a moment
abbrev pub is_date_due : DueDate → ℕ → Key → Bool
is_date_due date at k =
    (state_code k.row.state == state_code (state_before date)) && is_reached_at (date_of date k.row.dates) at

abbrev pub moved_on : DueDate → ℕ → Key → Key
moved_on date at k = if is_date_due date at k then in_state (state_after date) k else k

abbrev pub with_each : (Key → Key) → Tables → Tables
with_each f t = record t { keys = map f t.keys }

abbrev pub update_text : DueDate → List ℕ
update_text Activation = codes "UPDATE keys SET state = 2 WHERE state = 1 AND activation <= ?1"
update_text Deactivation = codes "UPDATE keys SET state = 3 WHERE state = 2 AND deactivation <= ?1"
