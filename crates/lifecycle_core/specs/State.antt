-- The states of a key, and the one that its dates give: KMIP 1.2, State, with the order of
-- the lines of this register's own.
use Rattle.std.specs.Prelude.{ℕ, Bool, false, not, ◌&&◌, nat_le, List, codes, Option, None, Some, is_some}
use Rattle.std.specs.Prelude.{if◌then◌else◌}
use Rattle.lifecycle_core.specs.declared.state.State.TheVariants.{PreActive, Active, Deactivated, Compromised}
use Rattle.lifecycle_core.specs.declared.state.State.TheVariants.{Destroyed, DestroyedCompromised}
use Rattle.lifecycle_core.specs.{declared.state.State.State, declared.dates.Dates.Dates}

-- the value of a state in KMIP 1.2 (its State Enumeration), and its name
abbrev pub state_row : State → ℕ × List ℕ
state_row PreActive = (1, codes "Pre-Active")
state_row Active = (2, codes "Active")
state_row Deactivated = (3, codes "Deactivated")
state_row Compromised = (4, codes "Compromised")
state_row Destroyed = (5, codes "Destroyed")
state_row DestroyedCompromised = (6, codes "Destroyed-Compromised")

-- the value of a state in KMIP 1.2, its State Enumeration
abbrev pub state_code : State → ℕ
state_code state = (state_row state).0

-- the name of a state in KMIP 1.2
abbrev pub state_text : State → List ℕ
state_text state = (state_row state).1

-- a date is reached at t where it is set and at most t
abbrev pub is_reached_at : Option ℕ → ℕ → Bool
is_reached_at None t = false
is_reached_at (Some date) t = nat_le date t

-- the state at t: that of the first of these lines whose condition holds
abbrev pub state_at : Dates → ℕ → State
state_at d t =
    if is_some d.destroy && is_some d.compromise then DestroyedCompromised else
    (if is_some d.destroy then Destroyed else
    (if is_some d.compromise then Compromised else
    (if not (is_reached_at d.activation t) then PreActive else
    (if is_reached_at d.deactivation t then Deactivated else
    Active))))
