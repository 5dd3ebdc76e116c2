-- What a key may be used for in its states: KMIP 1.2, State.
use Rattle.std.specs.Prelude.{ℕ, Bool, true, false, ◌&&◌, nat_lt, List, codes, Option, None, Some}
use Rattle.lifecycle_core.specs.declared.state.State.TheVariants.{Active, Deactivated, Compromised}
use Rattle.lifecycle_core.specs.declared.usage_types.Process.TheVariants.{Yes, Special, No}
use Rattle.lifecycle_core.specs.{declared.state.State.State, declared.dates.Dates.Dates}
use Rattle.lifecycle_core.specs.{declared.usage_types.Process.Process, declared.usage_types.Usage.Usage, State.state_at}

-- the word for it
abbrev pub process_text : Process → List ℕ
process_text Yes = codes "yes"
process_text Special = codes "special"
process_text No = codes "no"

-- whether a key processes protected data: a deactivated or compromised one does so only under
-- extraordinary circumstances, with special permission
abbrev pub process_in : State → Process
process_in Active = Yes
process_in Deactivated = Special
process_in Compromised = Special
process_in _ = No

-- only an active key applies protection
abbrev pub is_active : State → Bool
is_active Active = true
is_active _ = false

-- a date is still to come at t where it is set and above t
abbrev pub is_ahead_at : Option ℕ → ℕ → Bool
is_ahead_at None t = false
is_ahead_at (Some date) t = nat_lt t date

-- the usage at t; the Protect Stop Date ends the protecting of a key of any type (this register's
-- own)
abbrev pub usage_at : Dates → ℕ → Usage
usage_at d t = record {
  protect = is_active (state_at d t) && is_ahead_at d.protect_stop t;
  process = process_in (state_at d t);
}
