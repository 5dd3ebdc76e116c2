-- A stored state beside its dates.
use Rattle.std.specs.Prelude.{◌≡◌, ℕ}
use Rattle.lifecycle_core.specs.{declared.row.Row.Row, State.state_at}

-- the stored state is the one that the dates give at t
abbrev pub IsRightAt : Row → ℕ → Type 0
IsRightAt row t = row.state ≡ state_at row.dates t
