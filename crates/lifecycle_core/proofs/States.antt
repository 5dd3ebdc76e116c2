-- The six states.
use Rattle.lifecycle_core.specs.declared.state.State.{State}
use Rattle.lifecycle_core.specs.declared.state.State.TheVariants.{PreActive, Active, Deactivated, Compromised}
use Rattle.lifecycle_core.specs.declared.state.State.TheVariants.{Destroyed, DestroyedCompromised}

-- what holds of the six holds of each state
pub of_each_state : (P : State → Type 0) → P PreActive → P Active → P Deactivated → P Compromised → P Destroyed
    → P DestroyedCompromised → (state : State) → P state
of_each_state P a b c d e f PreActive = a
of_each_state P a b c d e f Active = b
of_each_state P a b c d e f Deactivated = c
of_each_state P a b c d e f Compromised = d
of_each_state P a b c d e f Destroyed = e
of_each_state P a b c d e f DestroyedCompromised = f
